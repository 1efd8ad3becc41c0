use Rattle.std.proofs.Common.{◌≡◌, ◌∙◌, ◌-◌, arith, ap, drop, length, take, take_all}
use Rattle.std.proofs.lemmas.List.{length-drop}
use Rattle.vip_text.proofs.program_file.ram.Goals as goal

pub returns-clause-bytes : goal.returns-clause-bytes
returns-clause-bytes c =
    let part = c.part.result.now in
    let behind = length-drop 51 part in
    take_all _ (drop 51 part) (omega (arith, behind)) ∙ ap (drop 51) c.part.ensures.bytes

pub returns-clause-size : goal.returns-clause-size
returns-clause-size c =
    let part = c.part.result.now in
    let behind = length-drop 51 part in
    let whole : take (length part - 51) (drop 51 part) ≡ drop 51 part = take_all _ (drop 51 part) (omega (arith, behind)) in
    ap length whole ∙ omega (arith, behind, c.part.ensures.size)
