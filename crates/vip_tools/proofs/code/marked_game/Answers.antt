use Rattle.std.proofs.Common.{Ok}
use Rattle.asm_lex.specs.declared.shape.Isa.TheVariants.{Chip8}
use Rattle.vip_tools.proofs.CodeLemmas.{known-moved, made-game}
use Rattle.vip_tools.proofs.code.marked_game.Goals as goal

pub returns-in_ok-marks-in-Source : goal.returns-in_ok-marks-in-Source
returns-in_ok-marks-in-Source c =
    rw c.in-Source.is (
      made-game c.args.edition c.in-Source.text.items c.in-Source.told c.in_ok-made-in-Source.made (rw c.as_slice.ensures.value at c.in_ok-made-in-Source.ensures)
          (Ok c.in_ok-game-in-Source.game) c.in_ok-game-in-Source.ensures,
      known-moved Chip8 _ _ _ _ c.as_slice-in-Source.ensures.value c.in_ok-marks-in-Source.ensures,
    )
