use Rattle.std.proofs.Common.{◌≡◌, ◌-◌, ◌*◌, ◌++◌, min, ap, ◌∙◌, arith}
use Rattle.std.proofs.lemmas.List.{append_assoc}
use Rattle.asm_listing.specs.Listing.{blanks, digits_of}
use Rattle.asm_listing.specs.Raw.{bytes_from}
use Rattle.asm_listing.proofs.Texts.{on_ok}
use Rattle.asm_listing.proofs.Listings.{first-bytes}
use Rattle.asm_listing.proofs.source_listing.append_first.Goals as goal

pub returns : goal.returns
returns c = on_ok c.append_blanks.result (λ e.
    let made = c.args.made.now in
    let list = c.args.list.now.items in
    let shown : c.min-shown.result ≡ min 3 c.args.count = omega (arith, c.min-shown.ensures) in
    e ∙ ap (λ t. t ++ blanks (6 - 2 * c.min-shown.result)) c.in_ok-append_digits.ensures
    ∙ ap (λ n. (list ++ digits_of (bytes_from made c.args.at n)) ++ blanks (6 - 2 * n)) shown
    ∙ append_assoc list (digits_of (bytes_from made c.args.at (min 3 c.args.count))) (blanks (6 - 2 * min 3 c.args.count))
    ∙ ap (λ t. list ++ t) (first-bytes made c.args.at c.args.count)) c.append_blanks.ensures
