use Rattle.std.proofs.Common.{◌≡◌, ◌∙◌, ℕ, Bool, None, sym, ap}
use Rattle.std.specs.Prelude.{is_some, ◌||◌}
use Rattle.asm_lex.specs.Names.{value_in}
use Rattle.asm_listing.specs.Told.{operand_found}
use Rattle.asm_listing.proofs.Counted.{any-more}
use Rattle.asm_listing.proofs.waiting.some_are_told.Goals.{then-some, else-some}
use Rattle.asm_listing.proofs.waiting.some_are_told.Goals as goal

pub loop-k-preserved : goal.loop-k-preserved
loop-k-preserved c =
    let k = c.loop-k.k in
    let f : ℕ → Bool = λ k.
    is_some (operand_found c.args.isa (value_in c.args.given.now) (value_in c.args.fixed.now) c.args.line.now None c.args.spans.now c.args.entry k) in
    let some : c.if-some.some ≡ (c.loop-k.some || f k) = elim c.if-some.branch [
      | then-some w ↦ w.some-is ∙ w.if-some.true ∙ sym (ap (λ b. b || f k) w.if-some.true)
      | else-some w ↦ w.some-is ∙ w.is_told-some.ensures ∙ sym (ap (λ b. b || f k) w.if-some.false)
    ] in
    some ∙ ap (λ b. b || f k) c.loop-k.invariant ∙ sym (any-more f k)
