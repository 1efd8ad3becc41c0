use Rattle.std.proofs.Common.{◌∙◌, arith}
use Rattle.asm_core.specs.Made.{IsAssembly, IsFirstOf}
use Rattle.asm_core.specs.Sources.{source_lines}
use Rattle.asm_lex.specs.declared.shape.Isa.TheVariants.{Cdp1802}
use Rattle.vip_tools.specs.Certificates.{Assembled, EntryComes, SourceRom}
use Rattle.vip_tools.specs.Checks.{EnteredAnswers}
use Rattle.vip_tools.specs.Files.{rom_size}
use Rattle.vip_tools.specs.Opening.{source_refusal}
use Rattle.vip_tools.proofs.CertificateLemmas.{assembled, same_bytes}
use Rattle.vip_tools.proofs.JudgedLemmas.{refused-alike, refused-behind, refused-first}
use Rattle.vip_tools.proofs.WorkLemmas.{passed}
use Rattle.vip_tools.proofs.certificates.entered.Goals as goal

pub returns-in_err-made : goal.returns-in_err-made
returns-in_err-made c =
    let source = c.args.source.now in
    passed (EnteredAnswers source c.args.entry) _ _ c.from_residual.ensures.1
    (refused-first (SourceRom source) (λ made. EntryComes made.made c.args.entry) _
    (refused-alike (IsAssembly Cdp1802 (source_lines source)) (λ (made : Assembled source). Unit {0}) (IsFirstOf Cdp1802 (source_lines source)) source_refusal _
    c.in_err-made.ensures))

pub returns-in_err-address : goal.returns-in_err-address
returns-in_err-address c =
    let source = c.args.source.now in
    let made = assembled source c.in_ok-made.made c.in_ok-made.ensures _ c.rom_of-rom.ensures c.are_bytes.ensures in
    passed (EnteredAnswers source c.args.entry) _ _ c.from_residual-in_err-address.ensures.1
    (refused-behind (SourceRom source) (λ made. EntryComes made.made c.args.entry) made tt _ c.in_err-address.ensures)

pub returns : goal.returns
returns c = (
  record {
    value = assembled c.args.source.now c.in_ok-made.made c.in_ok-made.ensures _ c.rom_of-rom.ensures c.are_bytes.ensures;
    gives = tt;
    here = c.in_ok-address.ensures;
  },
  c.rom_of-rom.ensures ∙ same_bytes c.args.source.now c.in_ok-made.made 0x8000 rom_size (omega arith) c.in_ok-made.ensures,
  c.in_ok-_names.ensures.origins Cdp1802 c.in_ok-made.ensures,
)
