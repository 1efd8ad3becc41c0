use Rattle.std.proofs.Common.{◌≡◌, ◌+◌, ◌-◌, ◌*◌, ◌≤◌, ◌++◌, map, length}
use Rattle.machine.specs.Board.{case_of, dma_byte}
use Rattle.machine.specs.Run.{states}
use Rattle.vip_board.specs.Seen.{held_by}
use Rattle.vip_byte.specs.HexText.{bytes_text}
use Rattle.vip_cpu.specs.declared.cpu.Phase.TheVariants.{Boundary}
use Rattle.vip_program.specs.Moves.{is_scan}
use Rattle.vip_program.proofs.Makes.{Making}
use Rattle.vip_program.proofs.moves.scan.Given as goal

-- the bytes of the cycles made are appended, which are those of one line, so 14 at most
abbrev pub invariant-loop-made : goal.invariant-loop-made
invariant-loop-made l = record {
  boundary : l.board.phase ≡ Boundary;
  few : l.made ≤ l.count;
  making : Making (λ b. is_scan l.line (case_of b) b) l.limit l.fn.board l.board l.made;
  items : l.into.items ≡ l.initial.into.items ++ bytes_text
      (map (dma_byte l.fn.board.rom) (states l.fn.board.rom (held_by l.fn.board) l.fn.board.machine l.made));
  len : length l.into.items ≡ length l.initial.into.items + 3 * l.made;
  line : l.made ≤ 14;
}

abbrev pub decreases-loop-made : goal.decreases-loop-made
decreases-loop-made l = l.count - l.made
