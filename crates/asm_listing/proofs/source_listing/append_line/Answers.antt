use Rattle.std.proofs.Common.{◌≡◌, ◌++◌, [], ◌∷◌, ℕ, List, ap, ◌∙◌}
use Rattle.vip_byte.specs.Text.{newline}
use Rattle.asm_listing.specs.Listing.{label_text, number_text, first_digits, further_lines, line_listing}
use Rattle.asm_listing.specs.Raw.{bytes_from}
use Rattle.asm_listing.specs.Shown.{byte_count}
use Rattle.asm_listing.proofs.Texts.{on_ok, all_appended}
use Rattle.asm_listing.proofs.Listings.{line-parts}
use Rattle.asm_listing.proofs.source_listing.append_line.Goals as goal

pub returns : goal.returns
returns c = on_ok c.append_further.result (λ e.
    let made = c.args.made.now in
    let list = c.args.list.now.items in
    let place = c.args.place.now in
    let blank : List ℕ = 32 ∷ [] in
    let bytes : ℕ → List ℕ = bytes_from made place.at in
    let count : c.byte_count-count.result ≡ byte_count place = c.byte_count-count.ensures in
    let shown : List ℕ = label_text place.value in
    let t1 : c.append.new.text.items ≡ (list ++ number_text c.args.number) ++ blank =
    c.in_ok-append.ensures ∙ ap (λ t. t ++ blank) c.in_ok-append_number.ensures in
    let t2 : c.append_label.new.list.items ≡ ((list ++ number_text c.args.number) ++ blank) ++ shown =
    c.in_ok-append_label.ensures ∙ ap (λ t. t ++ shown) t1 in
    let t3 : c.append-2.new.text.items ≡ (((list ++ number_text c.args.number) ++ blank) ++ shown) ++ blank =
    c.in_ok-append-2.ensures ∙ ap (λ t. t ++ blank) t2 in
    let t4 : c.append_first.new.list.items ≡ ((((list ++ number_text c.args.number) ++ blank) ++ shown) ++ blank)
    ++ first_digits (bytes c.byte_count-count.result) =
    c.in_ok-append_first.ensures ∙ ap (λ t. t ++ first_digits (bytes c.byte_count-count.result)) t3 in
    let t5 : c.append-3.new.text.items
    ≡ (((((list ++ number_text c.args.number) ++ blank) ++ shown) ++ blank) ++ first_digits (bytes c.byte_count-count.result)) ++ blank =
    c.in_ok-append-3.ensures ∙ ap (λ t. t ++ blank) t4 in
    let t6 : c.append-4.new.text.items
    ≡ ((((((list ++ number_text c.args.number) ++ blank) ++ shown) ++ blank) ++ first_digits (bytes c.byte_count-count.result)) ++ blank)
    ++ c.args.line.now =
    c.in_ok-append-4.ensures ∙ ap (λ t. t ++ c.args.line.now) t5 in
    let t7 : c.append-5.new.text.items
    ≡ (((((((list ++ number_text c.args.number) ++ blank) ++ shown) ++ blank) ++ first_digits (bytes c.byte_count-count.result))
    ++ blank) ++ c.args.line.now) ++ newline =
    c.in_ok-append-5.ensures ∙ ap (λ t. t ++ newline) t6 in
    e ∙ ap (λ t. t ++ further_lines place.at (bytes c.byte_count-count.result)) t7
    ∙ all_appended (number_text c.args.number ∷ blank ∷ shown ∷ blank ∷ first_digits (bytes c.byte_count-count.result) ∷ blank ∷ c.args.line.now
    ∷ newline ∷ []) list (further_lines place.at (bytes c.byte_count-count.result))
    ∙ ap (λ t. list ++ t) (line-parts c.args.number place.value place.at (bytes c.byte_count-count.result) c.args.line.now)
    ∙ ap (λ n. list ++ line_listing c.args.number place.value place.at (bytes n) c.args.line.now) count) c.append_further.ensures
