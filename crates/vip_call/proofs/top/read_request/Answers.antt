use Rattle.std.proofs.Common.{ap, Err}
use Rattle.vip_call.proofs.top.read_request.Goals as goal

pub returns-in-Err-Refused : goal.returns-in-Err-Refused
returns-in-Err-Refused c = c.in-Err-Refused.ensures.refused (ap (λ fail. Err fail) c.in-Err-Refused.field-0-is)
