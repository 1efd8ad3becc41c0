use Rattle.std.proofs.Common.{false, refl}
use Rattle.asm_lex.specs.declared.shape.Isa.TheVariants.{Chip8}
use Rattle.vip_tools.specs.Code.{FitComes, GameAnswers}
use Rattle.vip_words.specs.declared.request.Code.TheVariants.{Source}
use Rattle.vip_tools.specs.Opening.{SourceComes}
use Rattle.vip_tools.proofs.CodeLemmas.{made-game}
use Rattle.vip_tools.proofs.JudgedLemmas.{refused-first}
use Rattle.vip_tools.proofs.WorkLemmas.{passed}
use Rattle.vip_tools.proofs.code.game.Goals as goal

pub returns-in-Bytes : goal.returns-in-Bytes
returns-in-Bytes c = let fit = rw c.in-Bytes.is at c.requires in rw c.in-Bytes.is (refl, fit.fits)

pub make_assembly-requires : goal.make_assembly-requires
make_assembly-requires c = let fit = rw c.in-Source.is at c.requires in rw c.as_slice.ensures.value fit.fits

pub returns-in_err-made-in-Source : goal.returns-in_err-made-in-Source
returns-in_err-made-in-Source c =
    let text = c.in-Source.text.items in
    rw c.in-Source.is
    (passed (GameAnswers c.args.edition (Source text false)) _ _ c.from_residual.ensures.1
    (refused-first (SourceComes Chip8 text) (FitComes c.args.edition) _ (rw c.as_slice.ensures.value at c.in_err-made-in-Source.ensures)))

pub returns-in_ok-made-in-Source : goal.returns-in_ok-made-in-Source
returns-in_ok-made-in-Source c =
    rw c.in-Source.is
    (made-game c.args.edition c.in-Source.text.items false c.in_ok-made-in-Source.made (rw c.as_slice.ensures.value at c.in_ok-made-in-Source.ensures) _ c.raw_game.ensures)
