use Rattle.std.proofs.Common.{◌≡◌, ◌∙◌, ◌-◌, arith, ap, drop, length, take, take_all}
use Rattle.std.proofs.lemmas.List.{length-drop}
use Rattle.vip_text.proofs.program_file.rom.Goals as goal

pub returns-clause-bytes : goal.returns-clause-bytes
returns-clause-bytes c = let behind = length-drop 4147 c.args.bytes.now in take_all _ (drop 4147 c.args.bytes.now) (omega (arith, behind))

pub returns-clause-size : goal.returns-clause-size
returns-clause-size c =
    let behind = length-drop 4147 c.args.bytes.now in
    let whole : take (length c.args.bytes.now - 4147) (drop 4147 c.args.bytes.now) ≡ drop 4147 c.args.bytes.now =
    take_all _ (drop 4147 c.args.bytes.now) (omega (arith, behind)) in
    ap length whole ∙ omega (arith, behind, c.requires)
