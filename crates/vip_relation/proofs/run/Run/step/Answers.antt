use Rattle.std.proofs.Common.{◌≡◌, ◌+◌, ◌≤◌, ◌<◌, ℕ, [], false, refl, ap, sym, ◌∙◌, subst, arith}
use Rattle.std.specs.Prelude.{◌↔◌}
use Rattle.machine.specs.Board.{length_of}
use Rattle.chip8_lang.specs.Events.{is_stop}
use Rattle.vip_board.specs.Moves.{moved, name_of}
use Rattle.vip_board.specs.Seen.{Seen}
use Rattle.vip_board.specs.Shown.{CarriesOn}
use Rattle.vip_board.specs.declared.board.Move.{Move}
use Rattle.vip_board.specs.declared.board.Moved.TheVariants.{End, Done}
use Rattle.vip_video.specs.Chip.{Chip}
use Rattle.chip8_image.specs.Interpreters.{interpreter_of}
use Rattle.vip_relation.specs.State.{VipState, interpreter, events_waiting, most_cycles}
use Rattle.vip_relation.specs.Follows.{Follows}
use Rattle.vip_relation.specs.Parts.{Steps}
use Rattle.vip_relation.specs.Points.{point_of}
use Rattle.vip_relation.specs.Waiting.{waits_by}
use Rattle.vip_relation.specs.Kept.{state_of, IsKept}
use Rattle.vip_relation.specs.declared.point.Point.{Point}
use Rattle.vip_relation.specs.declared.run.Waits.{Waits}
use Rattle.vip_relation.specs.declared.run.Run.TheInside.{Inside}
use Rattle.vip_relation.proofs.Closing.{kept-step, steps-to, in-time}
use Rattle.vip_relation.proofs.Steps.{few-moves}
use Rattle.vip_relation.proofs.run.Run.step.Goals as goal

-- the machine behind a move of its board
abbrev then : Inside → Seen → Point → Waits → Inside
then a s point waits = record a { board = s; moves = a.moves + 1; point = point; waits = waits }

-- what is kept, and what is said of the move, by what was known before it and what the board did
record Made (a : Inside) (now : VipState) (s : Seen) (point : Point) (waits : Waits) (name : Move) : Type 0 where
  kept : IsKept (then a s point waits)
  steps : Steps now (state_of (then a s point waits)) name

module _ (a : Inside) (now : VipState) (s : Seen) (limit : ℕ) (name : Move) (keeps : IsKept a) (view_is : state_of a ≡ now) where
  made : (point : Point) (waits : Waits) (before after : ℕ)
      → events_waiting now ≡ [] → is_stop (interpreter now) now.board.machine ≡ false
      → (s ≡ moved a.board) × (name ≡ name_of a.board.machine) → CarriesOn a.board s
      → limit ≤ most_cycles → ((limit < a.board.machine.cycle + length_of a.board.rom a.board.machine) → Done name ≡ End)
      → point ≡ point_of (interpreter_of a.edition) s.machine → waits ≡ waits_by before after
      → before ≡ a.board.pictures.count → after ≡ s.pictures.count
      → Made a now s point waits name
  made point waits before after met runs is carries small late is_point is_waits is_before is_after =
      let met_all : events_waiting (state_of a) ≡ [] = subst (λ v. events_waiting v ≡ []) (sym view_is) met in
      let goes_on : is_stop (interpreter (state_of a)) a.board.machine ≡ false =
      subst (λ (v : VipState). is_stop (interpreter v) v.board.machine ≡ false) (sym view_is) runs in
      let ended : s.machine.cycle ≤ limit = in-time a.board s limit is.0 (λ over. never (late over)) in
      record {
        kept =
            kept-step a keeps met_all goes_on s point waits is.0 carries (omega (arith, ended, small)) is_point
            (is_waits ∙ ap (λ n. waits_by n after) is_before ∙ ap (λ n. waits_by a.board.pictures.count n) is_after);
        steps =
            subst (λ old. Steps old (state_of (then a s point waits)) name) view_is
            (steps-to a keeps met_all goes_on s name is.0 is.1 carries (omega (arith, ended, small)));
      }
    where
      never : Done name ≡ End → ⊥
      never e = cc

pub overflow_add-self : goal.overflow_add-self
overflow_add-self c =
    let few : c.self.inside.moves ≤ most_cycles = few-moves (state_of c.self.inside) c.self.invariant.follows in
    omega (arith, few)

pub invariant_of-self-in-Done : goal.invariant_of-self-in-Done
invariant_of-self-in-Done c =
    (made c.self.inside c.args.self.now c.to_boundary.new.self c.args.limit c.in-Done.name c.self.invariant c.self.view_is
    c.point_at-self-inside.result c.waits_by-self-inside.result c.count-pictures.result c.count.result
    c.requires.met c.requires.runs c.in-Done.ensures.moved c.in-Done.ensures.pictures (rw c.cycles.ensures.value at c.cycles.ensures.bound) (rw c.cycles.ensures.value at c.in-Done.ensures.end).1
    c.point_at-self-inside.ensures c.waits_by-self-inside.ensures
    (c.count-pictures.ensures ∙ ap (λ (chip : Chip). chip.pictures.count) c.video.ensures)
    (c.count.ensures ∙ ap (λ (chip : Chip). chip.pictures.count) c.video-in-Done.ensures)).kept

pub returns-in-Done-clause-follows : goal.returns-in-Done-clause-follows
returns-in-Done-clause-follows c =
    (made c.self.inside c.args.self.now c.to_boundary.new.self c.args.limit c.in-Done.name c.self.invariant c.self.view_is
    c.point_at-self-inside.result c.waits_by-self-inside.result c.count-pictures.result c.count.result
    c.requires.met c.requires.runs c.in-Done.ensures.moved c.in-Done.ensures.pictures (rw c.cycles.ensures.value at c.cycles.ensures.bound) (rw c.cycles.ensures.value at c.in-Done.ensures.end).1
    c.point_at-self-inside.ensures c.waits_by-self-inside.ensures
    (c.count-pictures.ensures ∙ ap (λ (chip : Chip). chip.pictures.count) c.video.ensures)
    (c.count.ensures ∙ ap (λ (chip : Chip). chip.pictures.count) c.video-in-Done.ensures)).kept.follows

pub returns-in-Done-clause-moved : goal.returns-in-Done-clause-moved
returns-in-Done-clause-moved c =
    (made c.self.inside c.args.self.now c.to_boundary.new.self c.args.limit c.in-Done.name c.self.invariant c.self.view_is
    c.point_at-self-inside.result c.waits_by-self-inside.result c.count-pictures.result c.count.result
    c.requires.met c.requires.runs c.in-Done.ensures.moved c.in-Done.ensures.pictures (rw c.cycles.ensures.value at c.cycles.ensures.bound) (rw c.cycles.ensures.value at c.in-Done.ensures.end).1
    c.point_at-self-inside.ensures c.waits_by-self-inside.ensures
    (c.count-pictures.ensures ∙ ap (λ (chip : Chip). chip.pictures.count) c.video.ensures)
    (c.count.ensures ∙ ap (λ (chip : Chip). chip.pictures.count) c.video-in-Done.ensures)).steps

pub returns-in-End-clause-end : goal.returns-in-End-clause-end
returns-in-End-clause-end c =
    subst (λ (v : VipState). (End ≡ End) ↔ (c.args.limit < v.board.machine.cycle + length_of v.board.rom v.board.machine)) c.self.view_is
    (rw c.cycles.ensures.value at c.in-End.ensures.end)

pub returns-in-Done-clause-end : goal.returns-in-Done-clause-end
returns-in-Done-clause-end c =
    subst (λ (v : VipState). (Done c.in-Done.name ≡ End) ↔ (c.args.limit < v.board.machine.cycle + length_of v.board.rom v.board.machine)) c.self.view_is
    (rw c.cycles.ensures.value at c.in-Done.ensures.end)

pub to_boundary-requires : goal.to_boundary-requires
to_boundary-requires c = c.self.invariant.follows.phase

pub point_at-self-inside-requires : goal.point_at-self-inside-requires
point_at-self-inside-requires c = c.in-Done.ensures.rests

pub returns-in-End-clause-follows : goal.returns-in-End-clause-follows
returns-in-End-clause-follows c =
    subst (λ s. Follows (state_of (record c.self.inside { board = s }))) (sym (c.in-End.ensures.kept refl)) c.self.invariant.follows

pub returns-in-End-clause-kept : goal.returns-in-End-clause-kept
returns-in-End-clause-kept c _ = ap (λ s. state_of (record c.self.inside { board = s })) (c.in-End.ensures.kept refl) ∙ c.self.view_is
