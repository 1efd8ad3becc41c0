use Rattle.std.proofs.Common.{◌≡◌, ◌+◌, ◌++◌, ℕ, List, None, length, refl, sym, ap, ◌∙◌, arith}
use Rattle.std.specs.Prelude.{flat_map, slice_index_or}
use Rattle.std.specs.List.{range_with_len}
use Rattle.asm_core.specs.Sources.{source_lines, line_at}
use Rattle.asm_lex.specs.Names.{Names, value_in}
use Rattle.asm_core.specs.Fixed.{fixed_names}
use Rattle.asm_core.specs.Told.{given_names, told, note_at}
use Rattle.asm_core.proofs.PassOne.{line_here, no_line}
use Rattle.asm_listing.specs.Told.{told_text, told_lines}
use Rattle.asm_listing.proofs.Listings.{texts-more}
use Rattle.asm_listing.proofs.report_text.text_of.Goals as goal

pub loop-line-init : goal.loop-line-init
loop-line-init c = record {
  rest = refl;
  inside = omega arith;
  text = c.new-report.ensures.items;
  few = omega arith;
}

pub loop-line-preserved : goal.loop-line-preserved
loop-line-preserved c =
    let source = source_lines c.args.text.now in
    let isa = c.args.isa in
    let name = c.args.name.now in
    let part = c.args.part in
    let given = given_names isa source in
    let fixed = fixed_names isa source in
    let number = c.loop-line.number in
    let here = line_here source number c.in-Some.line.now (source_lines c.in-Some.more.now) (sym c.loop-line.invariant.rest ∙ c.in-Some.ensures.lines) in
    let finding : c.told_at-finding.result ≡ told isa source number =
    c.told_at-finding.ensures ∙ (ap (λ xs. slice_index_or xs number None) c.as_slice-findings.ensures.value ∙ c.requires.told.each number here.0) in
    let note : c.told_at-note.result ≡ note_at isa source number =
    c.told_at-note.ensures ∙ (ap (λ xs. slice_index_or xs number None) c.as_slice-notes.ensures.value ∙ c.requires.noted.each number here.0) in
    let f : ℕ → List ℕ = λ i. told_text isa given fixed part name (i + 1) (line_at source i) (told isa source i) (note_at isa source i) in
    let so_far = flat_map f (range_with_len 0 number) in
    record {
      rest = sym here.2;
      inside = omega (arith, here.0);
      text = c.in_ok-append_told.ensures
          ∙ ap
          (λ (names : Names). c.loop-line.report.items
          ++ told_text isa names (value_in c.args.fixed.now) part name (number + 1) c.in-Some.line.now c.told_at-finding.result c.told_at-note.result)
          c.requires.given
          ∙ ap
          (λ (names : Names). c.loop-line.report.items
          ++ told_text isa given names part name (number + 1) c.in-Some.line.now c.told_at-finding.result c.told_at-note.result)
          c.requires.fixed
          ∙ ap (λ t. t ++ told_text isa given fixed part name (number + 1) c.in-Some.line.now c.told_at-finding.result c.told_at-note.result) c.loop-line.invariant.text
          ∙ ap (λ o. so_far ++ told_text isa given fixed part name (number + 1) c.in-Some.line.now o c.told_at-note.result) finding
          ∙ ap (λ o. so_far ++ told_text isa given fixed part name (number + 1) c.in-Some.line.now (told isa source number) o) note
          ∙ ap (λ l. so_far ++ told_text isa given fixed part name (number + 1) l (told isa source number) (note_at isa source number)) (sym here.1)
          ∙ sym (texts-more f number);
      few = omega (arith, c.in-Some.ensures.shorter, c.loop-line.invariant.few);
    }

pub returns : goal.returns
unfolding told_lines
returns c =
    let source = source_lines c.args.text.now in
    let all = no_line source c.loop-line.number (sym c.loop-line.invariant.rest ∙ c.in_default.ensures.lines) c.loop-line.invariant.inside in
    c.loop-line.invariant.text
    ∙ ap (λ n. flat_map (λ i. told_text c.args.isa (given_names c.args.isa source) (fixed_names c.args.isa source) c.args.part c.args.name.now (i + 1) (line_at source i) (told c.args.isa source i) (note_at c.args.isa source i))
    (range_with_len 0 n)) all

pub told_at-finding-requires : goal.told_at-finding-requires
told_at-finding-requires c =
    let source = source_lines c.args.text.now in
    let here = line_here source c.loop-line.number c.in-Some.line.now (source_lines c.in-Some.more.now)
    (sym c.loop-line.invariant.rest ∙ c.in-Some.ensures.lines) in
    omega (arith, ap length c.as_slice-findings.ensures.value, c.requires.told.count, here.0)

pub told_at-note-requires : goal.told_at-note-requires
told_at-note-requires c =
    let source = source_lines c.args.text.now in
    let here = line_here source c.loop-line.number c.in-Some.line.now (source_lines c.in-Some.more.now)
    (sym c.loop-line.invariant.rest ∙ c.in-Some.ensures.lines) in
    omega (arith, ap length c.as_slice-notes.ensures.value, c.requires.noted.count, here.0)
