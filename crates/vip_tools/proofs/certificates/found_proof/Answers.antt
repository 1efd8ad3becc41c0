use Rattle.std.proofs.Common.{refl, subst}
use Rattle.game_check.specs.Least.{IsWhy}
use Rattle.game_check.specs.declared.fault.FindFault.TheVariants.{NotFound}
use Rattle.vip_tools.proofs.certificates.found_proof.Goals as goal

pub returns-in-Ok : goal.returns-in-Ok
returns-in-Ok c = c.in-Ok.ensures.found

pub returns-in-Err-NotFound : goal.returns-in-Err-NotFound
returns-in-Err-NotFound c = record {
  fault = NotFound c.in-Err-NotFound.obstacle;
  is = subst (IsWhy c.args.edition c.args.game.now) c.in-Err-NotFound.field-0-is c.in-Err-NotFound.ensures.why;
  tells = refl;
}
