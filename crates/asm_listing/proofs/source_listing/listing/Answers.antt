use Rattle.std.proofs.Common.{◌≤◌, ◌+◌, ◌++◌, refl, sym, ap, subst, ◌∙◌, arith}
use Rattle.asm_core.specs.Sources.{source_lines}
use Rattle.asm_core.specs.declared.assembly.LinePlace.{LinePlace}
use Rattle.asm_core.proofs.PassOne.{line_here, no_line}
use Rattle.asm_listing.specs.Listing.{line_listing, listed, lines_text, symbols_text}
use Rattle.asm_listing.specs.Raw.{bytes_from}
use Rattle.asm_listing.specs.Shown.{byte_count}
use Rattle.asm_listing.proofs.Listings.{lines-start, lines-more, line-listed, place_fits}
use Rattle.asm_listing.proofs.source_listing.listing.Goals as goal

pub loop-line-init : goal.loop-line-init
loop-line-init c = record {
  rest = refl;
  inside = omega arith;
  text = c.new-list.ensures.items ∙ sym (lines-start c.args.isa (source_lines c.args.text.now));
  few = omega arith;
}

pub append_line-requires : goal.append_line-requires
append_line-requires c =
    let source = source_lines c.args.text.now in
    let index = c.loop-line.index in
    let here = line_here source index c.in-Some.line.now (source_lines c.in-Some.more.now) (sym c.loop-line.invariant.rest ∙ c.in-Some.ensures.lines) in
    subst (λ (place : LinePlace). place.at + byte_count place ≤ 65536) (sym c.line_place-place.ensures)
    (place_fits c.args.isa source c.args.made.now c.requires index here.0)

pub loop-line-preserved : goal.loop-line-preserved
loop-line-preserved c =
    let source = source_lines c.args.text.now in
    let made = c.args.made.now in
    let index = c.loop-line.index in
    let here = line_here source index c.in-Some.line.now (source_lines c.in-Some.more.now) (sym c.loop-line.invariant.rest ∙ c.in-Some.ensures.lines) in
    record {
      rest = sym here.2;
      inside = omega (arith, here.0);
      text = c.in_ok-append_line.ensures
          ∙ ap (λ (place : LinePlace). c.loop-line.list.items
          ++ line_listing (index + 1) place.value place.at (bytes_from made place.at (byte_count place)) c.in-Some.line.now)
          c.line_place-place.ensures
          ∙ ap (λ t. c.loop-line.list.items ++ t) (line-listed c.args.isa source made c.requires index here.0 c.in-Some.line.now here.1)
          ∙ ap (λ t. t ++ listed c.args.isa source index) c.loop-line.invariant.text
          ∙ sym (lines-more c.args.isa source index);
      few = omega (arith, c.in-Some.ensures.shorter, c.loop-line.invariant.few);
    }

pub returns : goal.returns
returns c =
    let source = source_lines c.args.text.now in
    let made = c.args.made.now in
    let all = no_line source c.loop-line.index (sym c.loop-line.invariant.rest ∙ c.in_default.ensures.lines) c.loop-line.invariant.inside in
    record {
      names = made.names;
      in_order = c.in_ok-append_symbols.ensures.in_order;
      defined = c.requires.names;
      is = c.in_ok-append_symbols.ensures.text
          ∙ ap (λ t. t ++ symbols_text made.names) (c.loop-line.invariant.text ∙ ap (lines_text c.args.isa source) all);
    }
