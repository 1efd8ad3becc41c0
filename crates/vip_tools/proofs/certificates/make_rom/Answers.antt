use Rattle.std.proofs.Common.{◌∙◌, arith}
use Rattle.asm_core.specs.Made.{IsAssembly, IsFirstOf}
use Rattle.asm_core.specs.Sources.{source_lines}
use Rattle.asm_lex.specs.declared.shape.Isa.TheVariants.{Cdp1802}
use Rattle.vip_tools.specs.Certificates.{Assembled}
use Rattle.vip_tools.specs.Checks.{RomAnswers}
use Rattle.vip_tools.specs.Files.{rom_size}
use Rattle.vip_tools.specs.Opening.{source_refusal}
use Rattle.vip_tools.proofs.CertificateLemmas.{assembled, same_bytes}
use Rattle.vip_tools.proofs.JudgedLemmas.{refused-alike}
use Rattle.vip_tools.proofs.WorkLemmas.{passed}
use Rattle.vip_tools.proofs.certificates.make_rom.Goals as goal

pub returns-in_err-made : goal.returns-in_err-made
returns-in_err-made c =
    let lines = source_lines c.args.source.now in
    passed (RomAnswers c.args.source.now) _ _ c.from_residual.ensures.1
    (refused-alike (IsAssembly Cdp1802 lines) (λ (made : Assembled c.args.source.now). Unit {0}) (IsFirstOf Cdp1802 lines) source_refusal _ c.in_err-made.ensures)

pub returns : goal.returns
returns c = (
  assembled c.args.source.now c.in_ok-made.made c.in_ok-made.ensures _ c.rom_of-rom.ensures c.are_bytes.ensures,
  c.rom_of-rom.ensures ∙ same_bytes c.args.source.now c.in_ok-made.made 0x8000 rom_size (omega arith) c.in_ok-made.ensures,
)
