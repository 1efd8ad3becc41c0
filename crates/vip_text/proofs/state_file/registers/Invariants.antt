use Rattle.std.proofs.Common.{◌≡◌, ◌+◌, ◌<◌, ℕ, length, slice_index}
use Rattle.machine.specs.Bank.{value}
use Rattle.vip_text.specs.StateFile.{word_at}
use Rattle.vip_text.proofs.state_file.registers.Given as goal

-- the registers up to this one are there
abbrev pub invariant-loop-k : goal.invariant-loop-k
invariant-loop-k l = (length l.r ≡ 16) × ((j : ℕ) → j < l.k → slice_index l.r j ≡ value (word_at l.bytes (14 + (j + j))))
