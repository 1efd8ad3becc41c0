use Rattle.std.proofs.Common.{refl}
use Rattle.vip_tools.specs.Judged.{bind, each}
use Rattle.vip_tools.specs.Opening.{SourceComes}
use Rattle.vip_tools.specs.Outcome.{Writes}
use Rattle.vip_tools.specs.Sources.{AsmComes, IsBytes}
use Rattle.vip_tools.specs.Work.{TextAnswers}
use Rattle.vip_tools.proofs.JudgedLemmas.{refused-first}
use Rattle.vip_tools.proofs.WorkLemmas.{passed}
use Rattle.vip_tools.proofs.tools.asm.Goals as goal

pub returns-in_err-made : goal.returns-in_err-made
returns-in_err-made c =
    passed (TextAnswers (AsmComes c.args.isa c.args.raw c.args.source.now)) _ _ c.from_residual.ensures.1
    (refused-first (SourceComes c.args.isa c.args.source.now) (λ made. bind (each (IsBytes c.args.isa c.args.raw made)) Writes) _ c.in_err-made.ensures)

pub returns : goal.returns
returns c = record {
  value = c.in_ok-made.made;
  gives = c.in_ok-made.ensures;
  here = record { value = c.in_ok-text.text.items; gives = c.in_ok-text.ensures; here = refl };
}
