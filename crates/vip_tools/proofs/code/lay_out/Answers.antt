use Rattle.std.proofs.Common.{◌≡◌, arith, refl}
use Rattle.std.proofs.lemmas.List.Edits.{fill_by_more}
use Rattle.asm_core.specs.Made.{made_byte}
use Rattle.vip_tools.proofs.CertificateLemmas.{byte_by, whole}
use Rattle.vip_tools.proofs.code.lay_out.Goals as goal

pub loop-offset-preserved : goal.loop-offset-preserved
loop-offset-preserved c =
    let byte = byte_by (made_byte c.args.made.now) c.args.start in
    let value : c.unwrap_or.result ≡ byte c.loop-offset.offset = rw (c.unwrap_or.ensures, c.byte.ensures, c.from.ensures) refl in
    rw value
    (fill_by_more byte c.loop-offset.into c.loop-offset.offset 0 (omega (arith, c.loop-offset.auto.into, c.loop-offset-test.true)) c.loop-offset.invariant)

pub returns : goal.returns
returns c =
    whole (made_byte c.args.made.now) c.args.start _ c.loop-offset.into c.loop-offset.auto.into
    (λ k low. c.loop-offset.invariant k (omega (arith, low, c.loop-offset-test.false)))
