use Rattle.std.proofs.Common.{◌≡◌, ◌++◌, [], ◌∷◌, ap, sym, ◌∙◌, List, ℕ, arith, length, ◌-◌}
use Rattle.std.proofs.lemmas.Bool.{eqb-false}
use Rattle.vip_byte.specs.HexText.{hex4}
use Rattle.vip_byte.specs.Text.{newline}
use Rattle.asm_listing.specs.Row.{bytes_text}
use Rattle.asm_listing.proofs.Texts.{on_ok, all_appended}
use Rattle.asm_listing.proofs.Dumps.{row_text-some}
use Rattle.asm_listing.proofs.hex_dump.append_row.Goals as goal

pub returns : goal.returns
returns c = on_ok c.append-2.result (λ e.
    let text : List ℕ = c.args.text.now.items in
    let row : List ℕ = c.args.row.now in
    let first : c.append.new.text.items ≡ text ++ hex4 (c.args.behind - length row) = c.in_ok-append.ensures ∙ ap (λ digits. text ++ digits) c.hex4.ensures in
    e ∙ ap (λ t. t ++ newline) (c.in_ok-append_bytes.ensures ∙ ap (λ t. t ++ bytes_text row) first)
    ∙ all_appended (hex4 (c.args.behind - length row) ∷ bytes_text row ∷ []) text newline
    ∙ ap (λ t. text ++ t) (sym (row_text-some c.args.behind row
    (omega (arith, eqb-false (length row) 0 (sym c.is_empty.ensures ∙ c.if-is_empty.false)))))) c.append-2.ensures
