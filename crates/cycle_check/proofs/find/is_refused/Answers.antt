use Rattle.std.proofs.Common.{◌≡◌, ◌∙◌, Bool, true, false, refl, sym}
use Rattle.std.specs.Prelude.{not}
use Rattle.cycle_check.specs.declared.closed.Instruction.{Instruction}
use Rattle.cycle_check.specs.declared.grammar.Bound.{Bound}
use Rattle.cycle_check.specs.declared.grammar.Line.{Line}
use Rattle.cycle_check.specs.Closed.{is_allowed}
use Rattle.cycle_check.proofs.find.is_refused.Goals as goal

same_allowed : (bound : Bound) (one other : Line) (i : Instruction) → one.address ≡ other.address → one.x ≡ other.x
    → is_allowed bound other i ≡ false → is_allowed bound one i ≡ false
unfolding is_allowed
same_allowed bound one other i address x none = rw (address, x) none

is_false : (b : Bool) → not b ≡ true → b ≡ false
is_false true h = cc
is_false false h = refl

pub returns : goal.returns
returns c fine line address x =
    same_allowed c.args.start.now line _ _ address x (sym (rw c.instruction_at.ensures at c.is_allowed.ensures) ∙ is_false _ fine)
