use Rattle.std.proofs.Common.{ap, ◌∙◌, slice_range}
use Rattle.vip_relation.proofs.Reading.{variables_of-page}
use Rattle.vip_relation.proofs.view.variables.Goals as goal

pub returns-in-Some : goal.returns-in-Some
returns-in-Some c =
    c.copy_from_slice.ensures.after ∙ ap (λ page. slice_range page 0xf0 0x100) c.in-Some.ensures.bytes
    ∙ variables_of-page c.args.edition c.args.memory.now c.of.result.variables c.of.ensures.variables
