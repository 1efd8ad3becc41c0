use Rattle.std.proofs.Common.{◌≡◌, ◌++◌, ◌∙◌, ℕ, List, Option, ap, sym, []}
use Rattle.std.specs.Prelude.{flat_map}
use Rattle.std.specs.List.{range_with_len}
use Rattle.std.specs.Option.{option_map_or}
use Rattle.std.proofs.lemmas.List.{append_assoc}
use Rattle.asm_lex.specs.declared.shape.Span.{Span}
use Rattle.asm_lex.specs.Names.{value_in}
use Rattle.asm_core.specs.declared.findings.Finding.{Finding}
use Rattle.asm_core.specs.Operands.{further_finding}
use Rattle.asm_listing.specs.Told.{finding_text, operand_found, operand_text}
use Rattle.asm_listing.proofs.Listings.{texts-more}
use Rattle.asm_listing.proofs.report_text.append_entry.Goals as goal

pub loop-k-preserved : goal.loop-k-preserved
loop-k-preserved c =
    let isa = c.args.isa in
    let given = value_in c.args.given.now in
    let fixed = value_in c.args.fixed.now in
    let line = c.args.line.now in
    let entry = c.args.entry in
    let told = c.args.told in
    let k = c.loop-k.k in
    let shown : Option Finding → List ℕ = λ found. option_map_or (finding_text isa given c.args.name.now c.args.number line) found [] in
    let f : ℕ → List ℕ = operand_text isa given fixed c.args.name.now c.args.number line told c.args.spans.now entry in
    let before = flat_map f (range_with_len 0 k) in
    let found : c.further_finding-found.result ≡ operand_found isa given fixed line told c.args.spans.now entry k =
    c.further_finding-found.ensures ∙ ap (λ (span : Span). further_finding isa fixed given line entry k span told) c.span_at-span.ensures.span in
    c.in_ok-append_finding_of.ensures
    ∙ ap (λ found. c.loop-k.text.items ++ shown found) found
    ∙ ap (λ t. t ++ f k) c.loop-k.invariant
    ∙ append_assoc c.args.text.now.items before (f k)
    ∙ ap (λ t. c.args.text.now.items ++ t) (sym (texts-more f k))
