use Rattle.std.proofs.Common.{◌≡◌, ◌⊎◌, inl, inr, ℕ, ◌+◌, ◌-◌, ◌<◌, ◌≤◌, ◌∙◌, ◌∷◌, [], Bool, true, false, refl, sym, ap, ap₂, subst, arith, not, bytes_eq, option_map}
use Rattle.std.proofs.lemmas.Bool.{cases_lt}
use Rattle.vip_byte.specs.declared.number.TheConstants.{MOST_CYCLE}
use Rattle.vip_board.specs.Seen.{Seen, contents_of, held_by}
use Rattle.vip_board.specs.Moves.{moved_by, StartsInstruction}
use Rattle.machine.specs.Board.{case_of, length_of}
use Rattle.machine.proofs.Runs.{cycle-move, later-move}
use Rattle.vip_debug.specs.TargetRun.{run_from, state_of}
use Rattle.vip_debug.specs.BoardShown.{stretch, has_changed}
use Rattle.vip_debug.specs.Commands.{bytes_at}
use Rattle.vip_debug.specs.Watching.{may_change}
use Rattle.vip_debug.specs.declared.watched.Watched.{Watched}
use Rattle.vip_program.specs.Lines.{place_in}
use Rattle.vip_debug.specs.Answered.{move_line}
use Rattle.vip_debug.proofs.TargetMoving.{place-here, gone-first, gone-smaller, one-move, some-moves, seeking-first, seeking-next, gone-on, same-between, same-now, finds, finds-moved, finds-at, finds-none, none-moved, stretch-here, line-here}
use Rattle.vip_debug.proofs.moves.move_to_change.Goals as goal

not_both : {x : Bool} → x ≡ true → x ≡ false → ⊥
not_both t f = let e = sym t ∙ f in cc

-- none of some moves can change a byte, if the first can't and those behind which no stop came can't
apart-from : {X : Type 0} (seen : X → Seen) (x : X) (w : Watched) (n : ℕ)
    → ((k : ℕ) → 0 ≡ k → let u = moved_by k (seen x) in may_change w u.machine.regs (contents_of u) ≡ true → ⊥)
    → ((k : ℕ) → 0 < k → k < n → let u = moved_by k (seen x) in StartsInstruction u.machine → may_change w u.machine.regs (contents_of u) ≡ true → ⊥)
    → (k : ℕ) → k < n → let u = moved_by k (seen x) in StartsInstruction u.machine → may_change w u.machine.regs (contents_of u) ≡ true → ⊥
apart-from seen x w n first behind k below starts = by_place (cases_lt 0 k)
  where
    by_place : (0 < k) ⊎ (k ≤ 0) → let u = moved_by k (seen x) in may_change w u.machine.regs (contents_of u) ≡ true → ⊥
    by_place (inl some) = behind k some below starts
    by_place (inr none) = first k (omega (arith, none))

-- where the limit is reached no move is made
at-limit : (limit : ℕ) (s : Seen) → limit ≤ s.machine.cycle → limit < s.machine.cycle + length_of s.rom s.machine
at-limit limit s there = omega (arith, there, cycle-move s.rom (held_by s) s.machine, later-move s.rom (held_by s) s.machine)

pub loop-limit-init : goal.loop-limit-init
loop-limit-init g c =
    let r = run_from (g.T.Target.ends c.args.target.now) (g.T.Target.seen c.args.target.now) in
    let gone = gone-first g.T.Target.seen g.T.Target.ends g.T.Target.leads c.args.limit c.args.target.now c.requires.boundary in
    record {
      seeking = seeking-first g.T.Target.seen g.T.Target.ends g.T.Target.leads c.args.limit _ c.args.target.now c.requires.boundary c.requires.within;
      before = c.read_stretch.ensures ∙ stretch-here r _ gone.going.stands refl _ c.board.ensures c.args.address c.args.count _ c.memory.ensures;
    }

pub move_on-requires : goal.move_on-requires
move_on-requires g c = record { boundary = c.loop-limit.invariant.seeking.gone.going.stands.phase }

pub returns-then-move_on-eq0-clause-comes : goal.returns-then-move_on-eq0-clause-comes
returns-then-move_on-eq0-clause-comes g c =
    finds-none g.T.Target.seen g.T.Target.ends g.T.Target.leads g.met.T.Target.leads_on c.args.limit _ c.args.target.now c.loop-limit.target
    c.move_on.new.self c.loop-limit.invariant.seeking (c.move_on.ensures.kept c.if-move_on-eq0.true) (c.move_on.ensures.end.0 c.if-move_on-eq0.true)

pub returns-then-move_on-eq0-clause-moved : goal.returns-then-move_on-eq0-clause-moved
returns-then-move_on-eq0-clause-moved g c =
    none-moved g.T.Target.seen g.T.Target.ends g.T.Target.leads g.met.T.Target.leads_on c.args.limit _ c.args.target.now c.loop-limit.target
    c.move_on.new.self c.loop-limit.invariant.seeking (c.move_on.ensures.kept c.if-move_on-eq0.true) (c.move_on.ensures.end.0 c.if-move_on-eq0.true)

pub loop-limit-smaller-then-not-may_change_next : goal.loop-limit-smaller-then-not-may_change_next
loop-limit-smaller-then-not-may_change_next g c =
    gone-smaller g.T.Target.seen g.T.Target.ends g.T.Target.leads g.met.T.Target.leads_on c.args.limit c.args.target.now c.loop-limit.target
    c.move_on.new.self _ c.loop-limit.invariant.seeking.gone c.move_on.result
    (some-moves g.T.Target.seen g.T.Target.ends g.T.Target.leads _ c.args.limit c.loop-limit.target c.move_on.new.self c.move_on.result c.if-move_on-eq0.false c.move_on.ensures.end.1
    c.move_on.ensures.moved)

pub loop-limit-preserved-then-not-may_change_next : goal.loop-limit-preserved-then-not-may_change_next
loop-limit-preserved-then-not-may_change_next g c =
    let r = run_from (g.T.Target.ends c.args.target.now) (g.T.Target.seen c.args.target.now) in
    let inv = c.loop-limit.invariant.seeking in
    let m =
    some-moves g.T.Target.seen g.T.Target.ends g.T.Target.leads _ c.args.limit c.loop-limit.target c.move_on.new.self c.move_on.result c.if-move_on-eq0.false c.move_on.ensures.end.1
    c.move_on.ensures.moved in
    let watched : Watched = record { address = c.args.address; count = c.args.count } in
    let first : (k : ℕ) → 0 ≡ k → let u = moved_by k (g.T.Target.seen c.loop-limit.target) in
    may_change watched u.machine.regs (contents_of u) ≡ true → ⊥ =
    λ k is may.
    not_both (subst (λ j. let u = moved_by j (g.T.Target.seen c.loop-limit.target) in may_change watched u.machine.regs (contents_of u) ≡ true) (sym is) may)
    (ap (λ (s : Seen). may_change watched s.machine.regs (contents_of s)) (sym c.board-in-loop-limit-2.ensures) ∙ sym c.may_change_next.ensures
    ∙ c.if-not-may_change_next.true) in
    let apart = apart-from g.T.Target.seen c.loop-limit.target watched c.move_on.result first (c.move_on.ensures.moved m.some).0.apart in
    let now = same-now g.T.Target.seen g.T.Target.ends g.T.Target.leads c.args.limit c.args.address c.args.count c.args.target.now c.loop-limit.target inv in
    let same = same-between g.T.Target.seen g.T.Target.ends g.T.Target.leads g.met.T.Target.leads_on c.args.limit _ c.args.target.now c.loop-limit.target c.move_on.new.self inv c.move_on.result m
    c.args.address c.args.count apart in
    record {
      seeking =
          seeking-next g.T.Target.seen g.T.Target.ends g.T.Target.leads g.met.T.Target.leads_on c.args.limit
          (λ k. has_changed c.args.address c.args.count (bytes_at r 0) (bytes_at r k)) c.args.target.now c.loop-limit.target c.move_on.new.self inv c.move_on.result m
          (λ k some below. same k (omega (arith, below)) now) (same c.move_on.result (omega arith) now);
      before = c.loop-limit.invariant.before;
    }

pub one_move-requires : goal.one_move-requires
one_move-requires g c = record { boundary = c.loop-limit.invariant.seeking.gone.going.stands.phase }

pub write_move-requires : goal.write_move-requires
write_move-requires g c =
    let here = c.loop-limit.invariant.seeking.here in
    record {
      boundary = ap (λ (s : Seen). s.phase) c.board-in-loop-limit-4.ensures ∙ c.loop-limit.invariant.seeking.gone.going.stands.phase;
      cycle = subst (λ (s : Seen). s.machine.cycle ≤ MOST_CYCLE) (sym c.board-in-loop-limit-4.ensures) (omega (arith, here, c.cycles.ensures.value, c.cycles.ensures.bound));
      empty = c.clear.ensures;
    }

pub returns-in-End-clause-comes : goal.returns-in-End-clause-comes
returns-in-End-clause-comes g c =
    finds-none g.T.Target.seen g.T.Target.ends g.T.Target.leads g.met.T.Target.leads_on c.args.limit _ c.args.target.now c.loop-limit.target
    c.one_move.new.self c.loop-limit.invariant.seeking (c.in-End.ensures.kept refl) (c.in-End.ensures.end.0 refl)

pub returns-in-End-clause-moved : goal.returns-in-End-clause-moved
returns-in-End-clause-moved g c =
    none-moved g.T.Target.seen g.T.Target.ends g.T.Target.leads g.met.T.Target.leads_on c.args.limit _ c.args.target.now c.loop-limit.target
    c.one_move.new.self c.loop-limit.invariant.seeking (c.in-End.ensures.kept refl) (c.in-End.ensures.end.0 refl)

pub returns-then-ne-clause-comes : goal.returns-then-ne-clause-comes
returns-then-ne-clause-comes g c =
    let r = run_from (g.T.Target.ends c.args.target.now) (g.T.Target.seen c.args.target.now) in
    let inv = c.loop-limit.invariant.seeking in
    let m =
    one-move g.T.Target.seen g.T.Target.ends g.T.Target.leads c.args.limit c.loop-limit.target c.one_move.new.self (λ rests. let e = c.in_default.ensures.end.1 rests in cc)
    c.in_default.ensures.moved in
    let on = gone-on g.T.Target.seen g.T.Target.ends g.T.Target.leads g.met.T.Target.leads_on c.args.limit _ c.args.target.now c.loop-limit.target
    c.one_move.new.self inv 1 m in
    let after = stretch-here r _ on.going.stands refl _ c.board-in-loop-limit-5.ensures c.args.address c.args.count _ c.memory-in-loop-limit.ensures in
    let here =
    ap₂ (λ before after. not (bytes_eq before after)) (c.as_slice.ensures.value ∙ c.loop-limit.invariant.before)
    (c.as_slice-in-loop-limit.ensures.value ∙ c.read_stretch-in-loop-limit.ensures ∙ after) in
    finds g.T.Target.seen g.T.Target.ends g.T.Target.leads g.met.T.Target.leads_on c.args.limit
    (λ k. has_changed c.args.address c.args.count (bytes_at r 0) (bytes_at r k)) c.args.target.now c.loop-limit.target c.one_move.new.self inv 1 m
    (λ k some below. absurd (omega (arith, some, below)))
    (sym here ∙ sym c.ne.ensures ∙ c.if-ne.true)

pub returns-then-ne-clause-moved : goal.returns-then-ne-clause-moved
returns-then-ne-clause-moved g c =
    let r = run_from (g.T.Target.ends c.args.target.now) (g.T.Target.seen c.args.target.now) in
    let inv = c.loop-limit.invariant.seeking in
    let m =
    one-move g.T.Target.seen g.T.Target.ends g.T.Target.leads c.args.limit c.loop-limit.target c.one_move.new.self (λ rests. let e = c.in_default.ensures.end.1 rests in cc)
    c.in_default.ensures.moved in
    let on = gone-on g.T.Target.seen g.T.Target.ends g.T.Target.leads g.met.T.Target.leads_on c.args.limit _ c.args.target.now c.loop-limit.target
    c.one_move.new.self inv 1 m in
    let after = stretch-here r _ on.going.stands refl _ c.board-in-loop-limit-5.ensures c.args.address c.args.count _ c.memory-in-loop-limit.ensures in
    let here =
    ap₂ (λ before after. not (bytes_eq before after)) (c.as_slice.ensures.value ∙ c.loop-limit.invariant.before)
    (c.as_slice-in-loop-limit.ensures.value ∙ c.read_stretch-in-loop-limit.ensures ∙ after) in
    finds-moved g.T.Target.seen g.T.Target.ends g.T.Target.leads g.met.T.Target.leads_on c.args.limit
    (λ k. has_changed c.args.address c.args.count (bytes_at r 0) (bytes_at r k)) c.args.target.now c.loop-limit.target c.one_move.new.self inv 1 m
    (λ k some below. absurd (omega (arith, some, below)))
    (sym here ∙ sym c.ne.ensures ∙ c.if-ne.true)

pub returns-then-ne-clause-shown : goal.returns-then-ne-clause-shown
returns-then-ne-clause-shown g c =
    let r = run_from (g.T.Target.ends c.args.target.now) (g.T.Target.seen c.args.target.now) in
    let inv = c.loop-limit.invariant.seeking in
    let m =
    one-move g.T.Target.seen g.T.Target.ends g.T.Target.leads c.args.limit c.loop-limit.target c.one_move.new.self (λ rests. let e = c.in_default.ensures.end.1 rests in cc)
    c.in_default.ensures.moved in
    let on = gone-on g.T.Target.seen g.T.Target.ends g.T.Target.leads g.met.T.Target.leads_on c.args.limit _ c.args.target.now c.loop-limit.target
    c.one_move.new.self inv 1 m in
    let after = stretch-here r _ on.going.stands refl _ c.board-in-loop-limit-5.ensures c.args.address c.args.count _ c.memory-in-loop-limit.ensures in
    let here =
    ap₂ (λ before after. not (bytes_eq before after)) (c.as_slice.ensures.value ∙ c.loop-limit.invariant.before)
    (c.as_slice-in-loop-limit.ensures.value ∙ c.read_stretch-in-loop-limit.ensures ∙ after) in
    let at = finds-at g.T.Target.seen g.T.Target.ends g.T.Target.leads g.met.T.Target.leads_on c.args.limit
    (λ k. has_changed c.args.address c.args.count (bytes_at r 0) (bytes_at r k)) c.args.target.now c.loop-limit.target c.one_move.new.self inv 1 m
    (λ k some below. absurd (omega (arith, some, below)))
    (sym here ∙ sym c.ne.ensures ∙ c.if-ne.true) in
    let told = option_map (λ origins. origins.now) c.args.told in
    let line = line-here r _ inv.gone.going.stands refl _ c.board-in-loop-limit-4.ensures told in
    let one : inv.moves ≡ inv.moves + 1 - 1 = omega arith in
    let last = one ∙ ap (λ k. k - 1) (sym at) in
    λ done. record {
      line = c.write_move.ensures ∙ line ∙ ap (λ k. move_line told r (state_of r k)) last;
      before = c.loop-limit.invariant.before;
      after = c.read_stretch-in-loop-limit.ensures ∙ after ∙ ap (λ k. stretch (bytes_at r k) c.args.address c.args.count) (sym at);
      place =
          c.next_place-change.ensures
          ∙ place-here r _ inv.gone.going.stands refl _ c.board-in-loop-limit-3.ensures
          ∙ ap (λ k. place_in (case_of (state_of r k)) (state_of r k)) last;
    }

pub loop-limit-smaller : goal.loop-limit-smaller
loop-limit-smaller g c =
    gone-smaller g.T.Target.seen g.T.Target.ends g.T.Target.leads g.met.T.Target.leads_on c.args.limit c.args.target.now c.loop-limit.target
    c.one_move.new.self _ c.loop-limit.invariant.seeking.gone 1
    (one-move g.T.Target.seen g.T.Target.ends g.T.Target.leads c.args.limit c.loop-limit.target c.one_move.new.self (λ rests. let e = c.in_default.ensures.end.1 rests in cc)
    c.in_default.ensures.moved)

pub loop-limit-preserved : goal.loop-limit-preserved
loop-limit-preserved g c =
    let r = run_from (g.T.Target.ends c.args.target.now) (g.T.Target.seen c.args.target.now) in
    let inv = c.loop-limit.invariant.seeking in
    let m =
    one-move g.T.Target.seen g.T.Target.ends g.T.Target.leads c.args.limit c.loop-limit.target c.one_move.new.self (λ rests. let e = c.in_default.ensures.end.1 rests in cc)
    c.in_default.ensures.moved in
    let on = gone-on g.T.Target.seen g.T.Target.ends g.T.Target.leads g.met.T.Target.leads_on c.args.limit _ c.args.target.now c.loop-limit.target
    c.one_move.new.self inv 1 m in
    let after = stretch-here r _ on.going.stands refl _ c.board-in-loop-limit-5.ensures c.args.address c.args.count _ c.memory-in-loop-limit.ensures in
    let here =
    ap₂ (λ before after. not (bytes_eq before after)) (c.as_slice.ensures.value ∙ c.loop-limit.invariant.before)
    (c.as_slice-in-loop-limit.ensures.value ∙ c.read_stretch-in-loop-limit.ensures ∙ after) in
    let misses = sym here ∙ sym c.ne.ensures ∙ c.if-ne.false in
    record {
      seeking =
          seeking-next g.T.Target.seen g.T.Target.ends g.T.Target.leads g.met.T.Target.leads_on c.args.limit
          (λ k. has_changed c.args.address c.args.count (bytes_at r 0) (bytes_at r k)) c.args.target.now c.loop-limit.target c.one_move.new.self inv 1 m
          (λ k some below. absurd (omega (arith, some, below)))
          misses;
      before = c.loop-limit.invariant.before;
    }

pub returns-clause-comes : goal.returns-clause-comes
returns-clause-comes g c =
    finds-none g.T.Target.seen g.T.Target.ends g.T.Target.leads g.met.T.Target.leads_on c.args.limit _ c.args.target.now c.loop-limit.target
    c.loop-limit.target c.loop-limit.invariant.seeking refl (inr (at-limit c.args.limit (g.T.Target.seen c.loop-limit.target)
    (omega (arith, c.loop-limit-test.false, c.cycles.ensures.value, c.now.ensures, ap (λ (s : Seen). s.machine.cycle) c.board-in-loop-limit.ensures))))

pub returns-clause-moved : goal.returns-clause-moved
returns-clause-moved g c =
    none-moved g.T.Target.seen g.T.Target.ends g.T.Target.leads g.met.T.Target.leads_on c.args.limit _ c.args.target.now c.loop-limit.target
    c.loop-limit.target c.loop-limit.invariant.seeking refl (inr (at-limit c.args.limit (g.T.Target.seen c.loop-limit.target)
    (omega (arith, c.loop-limit-test.false, c.cycles.ensures.value, c.now.ensures, ap (λ (s : Seen). s.machine.cycle) c.board-in-loop-limit.ensures))))
