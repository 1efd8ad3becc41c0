use Rattle.std.proofs.Common.{Err, Ok}
use Rattle.asm_lex.specs.declared.shape.Isa.TheVariants.{Cdp1802}
use Rattle.vip_tools.specs.Code.{LaidComes, MarkedImageAnswers}
use Rattle.vip_words.specs.declared.request.Code.TheVariants.{Source}
use Rattle.vip_tools.specs.Opening.{SourceComes}
use Rattle.vip_tools.proofs.CodeLemmas.{known-moved, made-image}
use Rattle.vip_tools.proofs.JudgedLemmas.{refused-first}
use Rattle.vip_tools.proofs.WorkLemmas.{passed}
use Rattle.vip_tools.proofs.code.marked_program.Goals as goal

pub make_assembly-requires : goal.make_assembly-requires
make_assembly-requires c = let fit = rw c.in-Source.is at c.requires in rw c.as_slice.ensures.value fit.fits

pub returns-in_err-made-in-Source : goal.returns-in_err-made-in-Source
returns-in_err-made-in-Source c =
    let text = c.in-Source.text.items in
    rw c.in-Source.is
    (passed (MarkedImageAnswers c.args.memory (Source text c.in-Source.told)) _ _ c.from_residual.ensures.1
    (refused-first (SourceComes Cdp1802 text) (λ made. LaidComes text) _ (rw c.as_slice.ensures.value at c.in_err-made-in-Source.ensures)))

pub returns-in_err-image-in-Source : goal.returns-in_err-image-in-Source
returns-in_err-image-in-Source c =
    rw c.in-Source.is
    (passed (MarkedImageAnswers c.args.memory (Source c.in-Source.text.items c.in-Source.told)) _ _ c.from_residual-in_err-image-in-Source.ensures.1
    (made-image c.args.memory c.in-Source.text.items c.in-Source.told c.in_ok-made-in-Source.made (rw c.as_slice.ensures.value at c.in_ok-made-in-Source.ensures)
    (Err c.in_err-image-in-Source.field-0.0) c.in_err-image-in-Source.ensures))

pub returns-in_ok-marks-in-Source : goal.returns-in_ok-marks-in-Source
returns-in_ok-marks-in-Source c =
    rw c.in-Source.is (
      made-image c.args.memory c.in-Source.text.items c.in-Source.told c.in_ok-made-in-Source.made (rw c.as_slice.ensures.value at c.in_ok-made-in-Source.ensures)
          (Ok c.in_ok-image-in-Source.image) c.in_ok-image-in-Source.ensures,
      known-moved Cdp1802 _ _ _ _ c.as_slice-in-Source.ensures.value c.in_ok-marks-in-Source.ensures,
    )
