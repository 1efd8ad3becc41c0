use Rattle.std.proofs.Common.{◌++◌, ◌∙◌, ℕ, List, ap, sym}
use Rattle.std.specs.Prelude.{flat_map}
use Rattle.std.specs.List.{range_with_len}
use Rattle.std.proofs.lemmas.List.{append_assoc}
use Rattle.asm_listing.specs.Told.{note_at_byte}
use Rattle.asm_listing.proofs.Listings.{texts-more}
use Rattle.asm_listing.proofs.comments.append_notes.Goals as goal

pub loop-place-preserved : goal.loop-place-preserved
loop-place-preserved c =
    let f : ℕ → List ℕ = note_at_byte c.args.isa c.args.name.now c.args.number c.args.line.now in
    let place = c.loop-place.place in
    let before = flat_map f (range_with_len 0 place) in
    c.in_ok-append_note_at.ensures
    ∙ ap (λ t. t ++ f place) c.loop-place.invariant
    ∙ append_assoc c.args.text.now.items before (f place)
    ∙ ap (λ t. c.args.text.now.items ++ t) (sym (texts-more f place))
