use Rattle.rom_board.proofs.Frames.{every_frame, every_frame_behind}
use Rattle.rom_board.proofs.language.every_frame.Goals as goal

pub returns : goal.returns
returns c = record {
  from_reset =
      every_frame c.every_state.ensures c.undisturbed.ensures c.waits_soon.ensures c.writes_soon.ensures c.changes_soon.ensures
      c.every_interrupt.ensures.there c.every_interrupt.ensures.none_missing;
  from_any_start =
      every_frame_behind c.every_state.ensures c.undisturbed.ensures c.waits_soon.ensures c.writes_soon.ensures c.changes_soon.ensures
      c.every_interrupt.ensures.there c.every_interrupt.ensures.none_missing;
}
