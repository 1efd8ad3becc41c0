use Rattle.std.proofs.Common.{◌++◌, ◌∙◌, ap, length}
use Rattle.std.proofs.lemmas.List.{drop-replicate}
use Rattle.vip_program.proofs.start.rom_of.Goals as goal

pub returns : goal.returns
returns c = c.put_first.ensures ∙ ap (λ rest. c.args.bytes.now ++ rest) (drop-replicate (length c.args.bytes.now) 0x800 0)
