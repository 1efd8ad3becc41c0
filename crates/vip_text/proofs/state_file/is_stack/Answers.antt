use Rattle.std.proofs.Common.{arith}
use Rattle.std.proofs.lemmas.Bool.Decides.{nat_tests}
use Rattle.vip_text.proofs.StateFiles.{stack-there, stack-few}
use Rattle.vip_text.proofs.state_file.is_stack.Goals as goal

pub returns-then-above-eq0 : goal.returns-then-above-eq0
returns-then-above-eq0 c = (
  λ few. stack-there c.args.edition c.of-top.result.stack_top c.args.r2 c.of-top.ensures.stack_top (omega (arith, c.if-r2-top.false))
      (omega (arith, c.if-above-eq0.true)) (grind (arith, nat_tests, few)),
  λ s. let few = stack-few c.args.edition c.of-top.result.stack_top c.args.r2 c.of-top.ensures.stack_top s in grind (arith, nat_tests),
)
