use Rattle.std.proofs.Common.{ap, refl}
use Rattle.vip_memory.specs.Contents.{Contents}
use Rattle.vip_show.proofs.RamSizes.{written}
use Rattle.vip_show.proofs.writing.put_file.Goals as goal

pub returns : goal.returns
returns c =
    written c.args.edition c.args.edition c.args.board.now.machine c.args.board.now.machine c.memory.result.now.ram c.put_head.new.into.items
    c.put_ram.new.into.items c.requires.ram c.put_ram.ensures c.put_head.ensures.items refl refl (ap (λ (s : Contents). s.ram) c.memory.ensures)
