use Rattle.std.proofs.Common.{◌≡◌, ◌+◌, ◌-◌, ◌*◌, ◌++◌, [], ◌∷◌, ℕ, min, sym, ap, ◌∙◌, arith}
use Rattle.vip_byte.specs.HexText.{hex4}
use Rattle.vip_byte.specs.Text.{newline}
use Rattle.asm_listing.specs.Listing.{blanks, digits_of, three_at}
use Rattle.asm_listing.specs.Raw.{bytes_from}
use Rattle.asm_listing.proofs.Texts.{on_ok, all_appended}
use Rattle.asm_listing.proofs.Listings.{three-bytes}
use Rattle.asm_listing.proofs.source_listing.append_further_line.Goals as goal

pub returns : goal.returns
returns c = on_ok c.append-3.result (λ e.
    let made = c.args.made.now in
    let list = c.args.list.now.items in
    let from : ℕ = c.args.at + 3 * c.args.row in
    let few : c.min.result ≡ min 3 (c.args.count - 3 * c.args.row) = omega (arith, c.min.ensures) in
    let one : c.append.new.text.items ≡ (list ++ blanks 6) ++ hex4 from =
    c.in_ok-append.ensures ∙ ap (λ t. t ++ c.hex4.result) c.in_ok-append_blanks.ensures ∙ ap (λ t. (list ++ blanks 6) ++ t) c.hex4.ensures in
    let two : c.append-2.new.text.items ≡ ((list ++ blanks 6) ++ hex4 from) ++ (32 ∷ []) = c.in_ok-append-2.ensures ∙ ap (λ t. t ++ (32 ∷ [])) one in
    let digits : digits_of (bytes_from made from c.min.result) ≡ digits_of (three_at (bytes_from made c.args.at c.args.count) c.args.row) =
    ap (λ n. digits_of (bytes_from made from n)) few ∙ ap digits_of (sym (three-bytes made c.args.at c.args.count c.args.row)) in
    e ∙ ap (λ t. t ++ newline) (c.in_ok-append_digits.ensures ∙ ap (λ t. t ++ digits_of (bytes_from made from c.min.result)) two
    ∙ ap (λ t. (((list ++ blanks 6) ++ hex4 from) ++ (32 ∷ [])) ++ t) digits)
    ∙ all_appended (blanks 6 ∷ hex4 from ∷ (32 ∷ []) ∷ digits_of (three_at (bytes_from made c.args.at c.args.count) c.args.row) ∷ []) list newline)
    c.append-3.ensures
