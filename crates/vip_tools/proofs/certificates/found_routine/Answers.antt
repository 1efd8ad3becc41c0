use Rattle.std.proofs.Common.{refl, subst}
use Rattle.cycle_check.specs.Found.{IsTimingFault}
use Rattle.cycle_check.specs.declared.fault.TimingFault.TheVariants.{NotFound}
use Rattle.vip_tools.proofs.certificates.found_routine.Goals as goal

pub returns-in-Ok : goal.returns-in-Ok
returns-in-Ok c = (c.in-Ok.ensures.found, c.in-Ok.ensures.fits)

pub returns-in-Err-NotFound : goal.returns-in-Err-NotFound
returns-in-Err-NotFound c = record {
  fault = NotFound c.in-Err-NotFound.obstacle;
  is =
      subst (IsTimingFault c.args.rom.now (record { entry = c.args.address; p = c.args.p; k = c.args.k; limit = 0 })) c.in-Err-NotFound.field-0-is
      c.in-Err-NotFound.ensures.fault;
  tells = refl;
}
