use Rattle.vip_tools.proofs.report.put_fault.Goals as goal

pub returns-in-NoDispatch : goal.returns-in-NoDispatch
returns-in-NoDispatch g c = rw c.in-NoDispatch.is c.put.ensures.answer

pub returns-in-WriteFault : goal.returns-in-WriteFault
returns-in-WriteFault g c = rw c.in-WriteFault.is c.put-in-WriteFault.ensures.answer
