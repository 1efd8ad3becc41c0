use Rattle.std.proofs.Common.{ap, ◌∙◌, ◌%◌, slice_index}
use Rattle.vip_relation.proofs.Reading.{page_of-byte}
use Rattle.vip_relation.proofs.view.ram_byte.Goals as goal

pub returns-in-Some : goal.returns-in-Some
returns-in-Some c =
    ap (λ page. slice_index page (c.args.address % 256)) c.in-Some.ensures.bytes ∙ page_of-byte c.args.memory.now c.args.address c.requires
