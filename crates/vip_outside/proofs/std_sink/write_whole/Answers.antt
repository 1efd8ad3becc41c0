use Rattle.std.proofs.Common.{◌≡◌, ◌<◌, length, arith}
use Rattle.std.proofs.lemmas.Grind.{common_steps}
use Rattle.vip_outside.proofs.StreamLemmas.{IsSending-write, IsSending-fault, IsSending-flushed, IsSending-unflushed}
use Rattle.vip_outside.proofs.std_sink.write_whole.Goals as goal

pub loop-rest-preserved : goal.loop-rest-preserved
loop-rest-preserved g c = IsSending-write c.in_ok-count.count _ _ _ _ _ _ _ _ c.loop-rest.invariant c.in_ok-count.ensures.call c.in_ok-count.ensures.bytes

pub returns-in_err-count : goal.returns-in_err-count
returns-in_err-count g c =
    let some : 0 < length c.loop-rest.rest.now = grind (arith, common_steps, c.loop-rest-test.ensures) in
    IsSending-fault _ _ _ _ _ _ _ _ _ _ c.from_residual.ensures.0 some c.loop-rest.invariant c.in_err-count.ensures.call c.in_err-count.ensures.bytes

pub returns-in-Ok : goal.returns-in-Ok
returns-in-Ok g c =
    let none : length c.loop-rest.rest.now ≡ 0 = grind (arith, common_steps, c.loop-rest-test.ensures) in
    IsSending-flushed _ _ _ _ _ _ _ _ _ none c.loop-rest.invariant c.in-Ok.ensures.log c.in-Ok.ensures.bytes

pub returns-in-Err : goal.returns-in-Err
returns-in-Err g c =
    let none : length c.loop-rest.rest.now ≡ 0 = grind (arith, common_steps, c.loop-rest-test.ensures) in
    IsSending-unflushed _ _ _ _ _ _ _ _ _ none c.loop-rest.invariant c.in-Err.ensures.log c.in-Err.ensures.bytes
