use Rattle.std.proofs.Common.{refl}
use Rattle.asm_core.proofs.passes.first_told.Goals as goal

pub returns-in-Some : goal.returns-in-Some
returns-in-Some c = (
  c.loop-index.index,
  c.in-Some.finding,
  (record { inside = c.loop-index-test.true; here = c.in-Some.is; earlier = c.loop-index.invariant }, refl),
)
