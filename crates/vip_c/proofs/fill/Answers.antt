use Rattle.std.proofs.Common.{◌≡◌, ◌∙◌, ◌++◌, ap, ap₂, arith, drop, length, min, refl, take}
use Rattle.std.proofs.lemmas.List.{drop_min, take_min}
use Rattle.vip_c.proofs.fill.Goals as goal

pub returns : goal.returns
returns c =
    let room = c.args.room.now in
    let text = c.args.text.now in
    let swap : min (length room) (length text) ≡ min (length text) (length room) = omega arith in
    record {
      room_is =
          rw (c.copy_from_slice.ensures.after, c.min-count.ensures)
          (ap₂ (λ front rest. front ++ rest) (take_min (length room) text) (ap (λ n. drop n room) swap ∙ drop_min (length text) room));
      count_is = refl;
    }
