use Rattle.std.proofs.Common.{◌≡◌, ◌≤◌, ◌++◌, ◌∙◌, ap, arith, length, map, subst, suc}
use Rattle.asm_lex.specs.Parts.{trimmed}
use Rattle.asm_core.specs.Origins.{shown_texts}
use Rattle.asm_core.specs.Sources.{line_at, source_lines}
use Rattle.asm_core.proofs.Placing.{all-short, one-told}
use Rattle.asm_core.proofs.origins.texts_of.Goals as goal

pub loop-line-init : goal.loop-line-init
loop-line-init c = record {
  texts = ap (λ items. shown_texts items ++ map trimmed (source_lines c.args.text.now)) c.new-texts.ensures.items;
  short = all-short c.requires.0 (source_lines c.args.text.now) c.requires.1 c.requires.2;
}

pub invariant_of-push : goal.invariant_of-push
invariant_of-push c =
    let short : length c.in-Some.line.now ≤ 255 = subst (λ lines. length (line_at lines 0) ≤ 255) c.in-Some.ensures.lines (c.loop-line.invariant.short 0) in
    record { short = omega (arith, c.in_ok-bytes.ensures.len, c.trimmed.ensures.shorter, short) }

pub loop-line-preserved : goal.loop-line-preserved
loop-line-preserved c = record {
  texts = ap (λ items. shown_texts items ++ map trimmed (source_lines c.in-Some.more.now)) c.in_ok-push.ensures.items
      ∙ one-told c.loop-line.texts.items _ c.in-Some.line.now (source_lines c.in-Some.more.now) (map trimmed (source_lines c.args.text.now))
      (c.in_ok-bytes.ensures.items ∙ c.trimmed.ensures.text)
      (subst (λ lines. shown_texts c.loop-line.texts.items ++ map trimmed lines ≡ map trimmed (source_lines c.args.text.now)) c.in-Some.ensures.lines
      c.loop-line.invariant.texts);
  short = λ i. subst (λ lines. length (line_at lines (suc i)) ≤ 255) c.in-Some.ensures.lines (c.loop-line.invariant.short (suc i));
}
