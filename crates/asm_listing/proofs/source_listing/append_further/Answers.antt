use Rattle.std.proofs.Common.{◌≡◌, ◌+◌, ◌-◌, ◌/◌, ◌++◌, length, sym, ap, ◌∙◌, arith}
use Rattle.asm_listing.specs.Listing.{further_line}
use Rattle.asm_listing.specs.Raw.{bytes_from}
use Rattle.asm_listing.proofs.Listings.{length-bytes, further-none, further-more, further-all}
use Rattle.asm_listing.proofs.source_listing.append_further.Goals as goal

pub loop-row-init : goal.loop-row-init
loop-row-init c = record {
  text = further-none c.args.at (bytes_from c.args.made.now c.args.at c.args.count) c.args.list.now.items;
  few = omega arith;
}

pub loop-row-preserved : goal.loop-row-preserved
loop-row-preserved c =
    let bytes = bytes_from c.args.made.now c.args.at c.args.count in
    let rows : c.div_ceil-row-end.result ≡ (c.args.count + 2) / 3 = omega (arith, c.div_ceil-row-end.ensures) in
    record {
      text = c.in_ok-append_further_line.ensures ∙ ap (λ t. t ++ further_line c.args.at bytes c.loop-row.row) c.loop-row.invariant.text
          ∙ further-more c.args.at bytes c.args.list.now.items c.loop-row.row c.loop-row.auto.row;
      few = omega (arith, rows, c.loop-row-test.true);
    }

pub returns : goal.returns
returns c =
    let bytes = bytes_from c.args.made.now c.args.at c.args.count in
    let count : length bytes ≡ c.args.count = length-bytes c.args.made.now c.args.at c.args.count in
    let rows : c.div_ceil-row-end.result ≡ (c.args.count + 2) / 3 = omega (arith, c.div_ceil-row-end.ensures) in
    let last : c.loop-row.row - 1 ≡ (c.args.count + 2) / 3 - 1 = omega (arith, rows, c.loop-row-test.false, c.loop-row.invariant.few) in
    c.loop-row.invariant.text ∙ further-all c.args.at bytes c.args.list.now.items c.loop-row.row (last ∙ ap (λ n. (n + 2) / 3 - 1) (sym count))
