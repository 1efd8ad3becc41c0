use Rattle.std.proofs.Common.{◌≡◌, ◌≤◌, ◌+◌, ◌++◌, length}
use Rattle.asm_lex.specs.Ranges.{last_of}
use Rattle.asm_listing.specs.Disassembly.{starts, disassembly, lines_from}
use Rattle.asm_listing.proofs.instruction.disassemble.Given as goal

-- the lines of the bytes that are left give what is left of the disassembly
abbrev pub invariant-loop-rest : goal.invariant-loop-rest
invariant-loop-rest l = record {
  text : l.text.items ++ lines_from l.fn.isa (starts l.fn.isa 0 l.at l.rest) ≡ disassembly l.fn.isa l.fn.address l.fn.bytes;
  fits : l.at + length l.rest ≤ last_of l.fn.isa + 1;
}

abbrev pub decreases-loop-rest : goal.decreases-loop-rest
decreases-loop-rest l = length l.rest
