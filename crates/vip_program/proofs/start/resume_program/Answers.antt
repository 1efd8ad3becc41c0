use Rattle.std.proofs.Common.{◌∙◌, ap, slice_index}
use Rattle.vip_text.specs.StateFile.{cycle_in, regs_in}
use Rattle.vip_program.proofs.Starts.{resumes}
use Rattle.vip_program.proofs.start.resume_program.Goals as goal

pub returns : goal.returns
returns c =
    let part = c.part-part.ensures.bytes in
    resumes c.args.file.now c.args.script.now _ _ _ _ _ _ _ _ _ _ c.in_ok-board.ensures.board (c.parts.ensures.regs ∙ ap regs_in part) c.ram.ensures.bytes
    c.rom.ensures.bytes c.is_on.ensures c.is_on-2.ensures c.is_on-3.ensures c.is_on-4.ensures (ap (λ f. slice_index f 50) part)
    (c.cycle.ensures ∙ ap cycle_in part)
