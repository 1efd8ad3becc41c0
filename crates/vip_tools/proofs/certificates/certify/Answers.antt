use Rattle.std.proofs.Common.{refl}
use Rattle.vip_tools.specs.Certificates.{CertifyComes, ProofFound}
use Rattle.vip_tools.specs.Judged.{only}
use Rattle.vip_words.specs.declared.request.Code.TheVariants.{Bytes}
use Rattle.vip_tools.proofs.WorkLemmas.{text-behind, written-of}
use Rattle.vip_tools.proofs.certificates.certify.Goals as goal

pub returns-in-Bytes : goal.returns-in-Bytes
returns-in-Bytes c =
    let game = c.in-Bytes.game.items in
    rw c.in-Bytes.is
    (text-behind (only game) (CertifyComes c.args.edition (Bytes game)) game refl _
    (written-of (ProofFound c.args.edition game) _ (rw c.as_slice.ensures.value at c.found_proof.ensures)))

pub found_proof-requires : goal.found_proof-requires
found_proof-requires c = let fit = rw c.in-Bytes.is at c.requires in rw c.as_slice.ensures.value fit.fits

pub certify_source-requires : goal.certify_source-requires
certify_source-requires c = rw c.in-Source.is at c.requires

pub returns-in-Source : goal.returns-in-Source
returns-in-Source c = rw c.in-Source.is c.certify_source.ensures
