use Rattle.std.proofs.Common.{[], ◌∷◌, ◌++◌, ap, ◌∙◌}
use Rattle.std.specs.Prelude.{codes, decimal}
use Rattle.vip_byte.specs.HexText.{hex4}
use Rattle.cycle_check.specs.Found.{fact_text, line_text, x_text}
use Rattle.cycle_check.proofs.Appends.{five_more, two_more}
use Rattle.cycle_check.proofs.write.put_line.Goals as goal

pub returns : goal.returns
unfolding line_text
returns c =
    let old = c.args.into.now.items in
    let line = c.args.line.now in
    five_more old (hex4 line.address ++ codes " ") (x_text line.x ++ codes " ") (decimal line.base ++ codes " ") (decimal line.step ++ codes " ")
    (fact_text line.fact ++ 10 ∷ [])
    c.put-2.new.into.items c.put-3.new.into.items c.put-4.new.into.items c.put-5.new.into.items c.put-6.new.into.items
    (two_more old (hex4 line.address) (codes " ") c.put.new.into.items c.put-2.new.into.items (c.put.ensures.items ∙ ap (λ text. old ++ text) c.hex4.ensures)
    c.put-2.ensures.items)
    (two_more c.put-2.new.into.items (x_text line.x) (codes " ") c.put_x.new.into.items c.put-3.new.into.items c.put_x.ensures.items c.put-3.ensures.items)
    (two_more c.put-3.new.into.items (decimal line.base) (codes " ") c.put_number.new.into.items c.put-4.new.into.items
    (c.put_number.ensures.items ∙ ap (λ number. c.put-3.new.into.items ++ decimal number) c.from.ensures) c.put-4.ensures.items)
    (two_more c.put-4.new.into.items (decimal line.step) (codes " ") c.put_number-2.new.into.items c.put-5.new.into.items
    (c.put_number-2.ensures.items ∙ ap (λ number. c.put-4.new.into.items ++ decimal number) c.from-2.ensures) c.put-5.ensures.items)
    (two_more c.put-5.new.into.items (fact_text line.fact) (10 ∷ []) c.put_fact.new.into.items c.put-6.new.into.items c.put_fact.ensures.items
    c.put-6.ensures.items)
