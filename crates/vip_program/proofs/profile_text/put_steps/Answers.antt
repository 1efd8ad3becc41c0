use Rattle.std.proofs.Common.{◌≡◌, ◌-◌, refl, ap, sym, ◌∙◌}
use Rattle.std.specs.List.{sum}
use Rattle.vip_program.specs.Profile.{cycles_of, last_cycle, steps_of}
use Rattle.vip_program.proofs.profile_text.put_steps.Goals as goal

pub returns-clause-items : goal.returns-clause-items
returns-clause-items c points counted =
    let last = c.last_cycle-last.ensures points counted in
    let cycles : c.last_cycle-last.result - c.args.counts.now.first ≡ sum (cycles_of (steps_of points)) =
    ap (λ n. n - c.args.counts.now.first) last ∙ ap (λ n. last_cycle points - n) counted.first ∙ sym counted.cycles in
    rw (
      c.put-5.ensures.items,
      c.put_number-4.ensures.items,
      c.put-4.ensures.items,
      c.put_number-3.ensures.items,
      c.put-3.ensures.items,
      c.put_number-2.ensures.items,
      c.put-2.ensures.items,
      c.put_number.ensures.items,
      c.put.ensures.items,
      c.requires.empty,
      cycles,
      last,
      counted.first,
      counted.count,
    ) refl
