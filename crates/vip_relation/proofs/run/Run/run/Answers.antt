use Rattle.std.proofs.Common.{◌≡◌, ◌⊎◌, inl, inr, ◌<◌, ◌+◌, ◌∙◌, ℕ, [], false, refl, ap, sym, subst, subst₂, arith}
use Rattle.machine.specs.Board.{length_of}
use Rattle.machine.specs.Instruction.{Regs, at}
use Rattle.vip_memory.specs.Contents.{Contents}
use Rattle.chip8_lang.specs.Events.{is_stop}
use Rattle.chip8_lang.specs.Places.{Interpreter}
use Rattle.vip_board.specs.Moves.{moved_by, Passes}
use Rattle.vip_board.specs.Seen.{Seen, contents_of}
use Rattle.vip_board.proofs.Through.{phase-by}
use Rattle.vip_video.specs.Chip.{Chip}
use Rattle.chip8_image.specs.Interpreters.{interpreter_of}
use Rattle.vip_relation.specs.State.{VipState, interpreter, events_waiting}
use Rattle.vip_relation.specs.Parts.{Makes, Runs}
use Rattle.vip_relation.specs.Waiting.{waits_by}
use Rattle.vip_relation.specs.Follows.{Follows}
use Rattle.vip_relation.specs.Kept.{state_of, IsKept}
use Rattle.vip_relation.specs.declared.run.Waits.{Waits}
use Rattle.vip_relation.proofs.Passing.{ran, stops, no-stop-here}
use Rattle.vip_relation.proofs.Steps.{few-moves}
use Rattle.vip_relation.proofs.run.Run.run.Goals as goal

-- the places of the edition are among the stops
by_places : (Stands : Regs → Contents → Type 0) (s : Seen) (made fetch halt : ℕ) (i : Interpreter) → fetch ≡ i.fetch → halt ≡ i.halt
    → ((k : ℕ) → 0 < k → k < made → Passes (λ r m. ((at r r.p ≡ fetch) ⊎ (at r r.p ≡ halt)) ⊎ Stands r m) s (moved_by k s))
    → (k : ℕ) → 0 < k → k < made → Passes (stops i) s (moved_by k s)
by_places Stands s made fetch halt i is_fetch is_halt passes k some below =
    let p = passes k some below in
    let next : ℕ = at (moved_by k s).machine.regs (moved_by k s).machine.regs.p in
    record {
      count = p.count;
      asleep = p.asleep;
      apart = λ starts stands. p.apart starts (inl (subst₂ (λ x y. (next ≡ x) ⊎ (next ≡ y)) (sym is_fetch) (sym is_halt) stands));
    }

waits_are : (waits : Waits) (before after : ℕ) (s t : Seen) → waits ≡ waits_by before after → before ≡ s.pictures.count → after ≡ t.pictures.count
    → waits ≡ waits_by s.pictures.count t.pictures.count
waits_are waits before after s t is is_before is_after = is ∙ ap (λ n. waits_by n after) is_before ∙ ap (waits_by s.pictures.count) is_after

pub overflow_add-self : goal.overflow_add-self
overflow_add-self g c =
    let few = few-moves (state_of c.self.inside) c.self.invariant.follows in
    omega (arith, few, c.run-made.ensures.few, c.cycles.ensures.bound)

pub point_at-self-inside-requires : goal.point_at-self-inside-requires
point_at-self-inside-requires g c =
    ap (λ (x : Seen). x.phase) c.run-made.ensures.made.moves ∙ phase-by c.run-made.result c.self.inside.board ∙ c.self.invariant.follows.phase

pub invariant_of-self-2 : goal.invariant_of-self-2
invariant_of-self-2 g c =
    (ran c.self.inside c.args.limit c.run-made.result c.run-made.new.self c.point_at-self-inside.result c.waits_by-self-inside.result c.self.invariant
    (subst (λ v. events_waiting v ≡ []) (sym c.self.view_is) c.requires.met)
    (subst (λ (v : VipState). is_stop (interpreter v) v.board.machine ≡ false) (sym c.self.view_is) c.requires.runs)
    (rw c.cycles.ensures.value at c.cycles.ensures.bound) c.run-made.ensures.made.moves c.if-made-eq0.false
    (by_places (g.S.Stops.stands c.args.stops) c.self.inside.board c.run-made.result c.of-places.result.fetch c.of-places.result.halt (interpreter_of c.self.inside.edition)
    c.of-places.ensures.fetch c.of-places.ensures.halt c.run-made.ensures.made.passes)
    (rw c.cycles.ensures.value at c.run-made.ensures.made.within) c.point_at-self-inside.ensures
    (waits_are c.waits_by-self-inside.result c.count-pictures.result c.count.result c.self.inside.board c.run-made.new.self c.waits_by-self-inside.ensures
    (c.count-pictures.ensures ∙ ap (λ (chip : Chip). chip.pictures.count) c.video.ensures)
    (c.count.ensures ∙ ap (λ (chip : Chip). chip.pictures.count) c.video-2.ensures))).kept

pub returns-clause-follows : goal.returns-clause-follows
returns-clause-follows g c =
    (ran c.self.inside c.args.limit c.run-made.result c.run-made.new.self c.point_at-self-inside.result c.waits_by-self-inside.result c.self.invariant
    (subst (λ v. events_waiting v ≡ []) (sym c.self.view_is) c.requires.met)
    (subst (λ (v : VipState). is_stop (interpreter v) v.board.machine ≡ false) (sym c.self.view_is) c.requires.runs)
    (rw c.cycles.ensures.value at c.cycles.ensures.bound) c.run-made.ensures.made.moves c.if-made-eq0.false
    (by_places (g.S.Stops.stands c.args.stops) c.self.inside.board c.run-made.result c.of-places.result.fetch c.of-places.result.halt (interpreter_of c.self.inside.edition)
    c.of-places.ensures.fetch c.of-places.ensures.halt c.run-made.ensures.made.passes)
    (rw c.cycles.ensures.value at c.run-made.ensures.made.within) c.point_at-self-inside.ensures
    (waits_are c.waits_by-self-inside.result c.count-pictures.result c.count.result c.self.inside.board c.run-made.new.self c.waits_by-self-inside.ensures
    (c.count-pictures.ensures ∙ ap (λ (chip : Chip). chip.pictures.count) c.video.ensures)
    (c.count.ensures ∙ ap (λ (chip : Chip). chip.pictures.count) c.video-2.ensures))).kept.follows

pub returns-clause-moved : goal.returns-clause-moved
returns-clause-moved g c made =
    subst (λ old. Runs c.args.limit old (state_of (record c.self.inside {
      board = c.run-made.new.self;
      moves = c.self.inside.moves + c.run-made.result;
      point = c.point_at-self-inside.result;
      waits = c.waits_by-self-inside.result;
    }))) c.self.view_is
    (ran c.self.inside c.args.limit c.run-made.result c.run-made.new.self c.point_at-self-inside.result c.waits_by-self-inside.result c.self.invariant
    (subst (λ v. events_waiting v ≡ []) (sym c.self.view_is) c.requires.met)
    (subst (λ (v : VipState). is_stop (interpreter v) v.board.machine ≡ false) (sym c.self.view_is) c.requires.runs)
    (rw c.cycles.ensures.value at c.cycles.ensures.bound) c.run-made.ensures.made.moves c.if-made-eq0.false
    (by_places (g.S.Stops.stands c.args.stops) c.self.inside.board c.run-made.result c.of-places.result.fetch c.of-places.result.halt (interpreter_of c.self.inside.edition)
    c.of-places.ensures.fetch c.of-places.ensures.halt c.run-made.ensures.made.passes)
    (rw c.cycles.ensures.value at c.run-made.ensures.made.within) c.point_at-self-inside.ensures
    (waits_are c.waits_by-self-inside.result c.count-pictures.result c.count.result c.self.inside.board c.run-made.new.self c.waits_by-self-inside.ensures
    (c.count-pictures.ensures ∙ ap (λ (chip : Chip). chip.pictures.count) c.video.ensures)
    (c.count.ensures ∙ ap (λ (chip : Chip). chip.pictures.count) c.video-2.ensures))).runs

pub returns-clause-made : goal.returns-clause-made
returns-clause-made g c made =
    let s = c.self.inside.board in
    let i = interpreter_of c.self.inside.edition in
    let stands = g.S.Stops.stands c.args.stops in
    let passes = by_places stands s c.run-made.result c.of-places.result.fetch c.of-places.result.halt i c.of-places.ensures.fetch c.of-places.ensures.halt
    c.run-made.ensures.made.passes in
    subst (λ old. Makes stands old (state_of (record c.self.inside {
      board = c.run-made.new.self;
      moves = c.self.inside.moves + c.run-made.result;
      point = c.point_at-self-inside.result;
      waits = c.waits_by-self-inside.result;
    })) c.run-made.result) c.self.view_is
    (record {
      moves = refl;
      board = c.run-made.ensures.made.moves;
      goes_on = λ k some below. no-stop-here i (moved_by k s).machine (contents_of (moved_by k s)) (passes k some below).apart;
      apart = λ k some below starts here. (c.run-made.ensures.made.passes k some below).apart starts (inr here);
    })

pub returns-then-made-eq0-clause-end : goal.returns-then-made-eq0-clause-end
returns-then-made-eq0-clause-end g c none =
    subst (λ (v : VipState). c.args.limit < v.board.machine.cycle + length_of v.board.rom v.board.machine) c.self.view_is
    ((rw c.cycles.ensures.value at c.run-made.ensures.none) c.if-made-eq0.true)

pub returns-clause-end : goal.returns-clause-end
returns-clause-end g c none = absurd (c.if-made-eq0.false none)

pub returns-clause-kept : goal.returns-clause-kept
returns-clause-kept g c none = absurd (c.if-made-eq0.false none)

-- ---- where no move was made

nothing : 0 < 0 → ⊥
nothing some = omega arith

stays : (made : ℕ) (s t : Seen) → t ≡ moved_by made s → made ≡ 0 → t ≡ s
stays made s t is none = is ∙ ap (λ n. moved_by n s) none

pub invariant_of-self : goal.invariant_of-self
invariant_of-self g c =
    let same = stays c.run-made.result c.self.inside.board c.run-made.new.self c.run-made.ensures.made.moves c.if-made-eq0.true in
    subst (λ s. IsKept (record c.self.inside { board = s })) (sym same) c.self.invariant

pub returns-then-made-eq0-clause-follows : goal.returns-then-made-eq0-clause-follows
returns-then-made-eq0-clause-follows g c =
    let same = stays c.run-made.result c.self.inside.board c.run-made.new.self c.run-made.ensures.made.moves c.if-made-eq0.true in
    subst (λ s. Follows (state_of (record c.self.inside { board = s }))) (sym same) c.self.invariant.follows

pub returns-then-made-eq0-clause-kept : goal.returns-then-made-eq0-clause-kept
returns-then-made-eq0-clause-kept g c none =
    let same = stays c.run-made.result c.self.inside.board c.run-made.new.self c.run-made.ensures.made.moves c.if-made-eq0.true in
    ap (λ s. state_of (record c.self.inside { board = s })) same ∙ c.self.view_is

pub returns-then-made-eq0-clause-moved : goal.returns-then-made-eq0-clause-moved
returns-then-made-eq0-clause-moved g c some = absurd (nothing some)

pub returns-then-made-eq0-clause-made : goal.returns-then-made-eq0-clause-made
returns-then-made-eq0-clause-made g c some = absurd (nothing some)
