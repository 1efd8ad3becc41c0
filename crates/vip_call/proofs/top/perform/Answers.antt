use Rattle.vip_call.proofs.TopLemmas.{end_reported, fault_reported, report_failed}
use Rattle.vip_call.proofs.top.perform.Goals as goal

pub returns-in_err-put_end-in-Ok : goal.returns-in_err-put_end-in-Ok
returns-in_err-put_end-in-Ok g c = report_failed _ _ _ _ _ _ _ c.in-Ok.ensures c.in_err-put_end-in-Ok.ensures c.from_residual.ensures.1

pub returns-in_ok-put_end-in-Ok : goal.returns-in_ok-put_end-in-Ok
returns-in_ok-put_end-in-Ok g c = end_reported _ _ _ _ _ _ c.in-Ok.ensures c.in_ok-put_end-in-Ok.ensures

pub returns-in-Err : goal.returns-in-Err
returns-in-Err g c = fault_reported _ _ _ _ _ _ _ c.in-Err.ensures c.put_fault.ensures
