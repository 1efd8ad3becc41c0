use Rattle.std.proofs.Common.{◌++◌, ◌∙◌, ap, slice_range}
use Rattle.vip_memory.specs.Contents.{Contents}
use Rattle.vip_show.specs.Written.{program_head_of, program_part_of}
use Rattle.vip_show.proofs.RamSizes.{whole}
use Rattle.vip_show.proofs.writing.put_program_part.Goals as goal

pub returns : goal.returns
unfolding program_part_of
returns c =
    let ram = c.memory-memory.result.now.ram in
    c.put_ram.ensures ∙ ap (λ l. l ++ slice_range ram 0 0x1000) c.put_program_head.ensures.items
    ∙ ap (λ r. program_head_of c.args.board.now.machine ++ r) (whole ram c.sizes.ensures.ram ∙ ap (λ (s : Contents). s.ram) c.memory-memory.ensures)
