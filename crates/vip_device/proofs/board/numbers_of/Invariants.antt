use Rattle.std.proofs.Common.{◌≡◌, ◌<◌, ℕ, length, slice_index}
use Rattle.machine.specs.Bank.{get, word_of}
use Rattle.vip_device.proofs.board.numbers_of.Given as goal

-- so many numbers are those of the registers
abbrev pub invariant-loop-n : goal.invariant-loop-n
invariant-loop-n l =
    record { size : length l.numbers ≡ 16; done : (j : ℕ) → j < l.n → word_of (slice_index l.numbers j) ≡ get l.cpu.regs.r j }
