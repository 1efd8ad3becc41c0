use Rattle.std.proofs.Common.{◌++◌, [], ap, sym, ◌∙◌, ℕ, length}
use Rattle.std.proofs.lemmas.Bool.{eqb-true}
use Rattle.asm_listing.specs.Dump.{dump_of}
use Rattle.asm_listing.specs.Row.{row_before, row_text}
use Rattle.asm_listing.proofs.Dumps.{room-full}
use Rattle.asm_listing.proofs.hex_dump.make_room.Goals as goal

pub returns-in_ok-append_row-clause-text : goal.returns-in_ok-append_row-clause-text
returns-in_ok-append_row-clause-text c = λ rest.
    let behind : ℕ = c.args.behind in
    ap (λ items. c.append_row.new.text.items ++ dump_of (row_before behind items ++ rest)) c.clear.ensures
    ∙ ap (λ t. t ++ dump_of (row_before behind [] ++ rest))
    (c.in_ok-append_row.ensures ∙ ap (λ row. c.args.text.now.items ++ row_text behind row) c.as_slice.ensures.value)
    ∙ room-full behind c.args.text.now.items c.args.row.now.items rest
    (eqb-true (length c.args.row.now.items) 16 (sym c.is_full.ensures.value ∙ c.if-is_full.true))
