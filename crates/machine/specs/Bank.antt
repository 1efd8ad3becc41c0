-- The sixteen scratch-pad registers R(0) to R(F) of the CDP1802 (data sheet, "Architecture"), each of 16 bits: the high byte R.1
-- and the low byte R.0. A register is kept as its two bytes, since the instructions move bytes.
use Rattle.std.specs.Prelude.{ℕ, zero, ◌+◌, ◌*◌, ◌/◌, ◌%◌, List, slice_index}
use Rattle.machine.specs.Numerals.{1+, 2+, 3+, 4+, 5+, 6+, 7+, 8+, 9+, 10+, 11+, 12+, 13+, 14+}

-- 16 bits: R.1 and R.0
pub record Word : Type 0 where
  pub hi : ℕ
  pub lo : ℕ

abbrev pub word : ℕ → ℕ → Word
word h l = record { hi = h; lo = l }

-- the number of a word
abbrev pub value : Word → ℕ
value w = w.hi * 256 + w.lo

-- the word of a number
abbrev pub word_of : ℕ → Word
word_of a = record { hi = a / 256; lo = a % 256 }

-- one more, and one less, modulo 65536
abbrev pub up : Word → Word
up w = record { hi = (w.hi + (w.lo + 1) / 256) % 256; lo = (w.lo + 1) % 256 }

abbrev pub down : Word → Word
down w = record { hi = (w.hi + 255 + (w.lo + 255) / 256) % 256; lo = (w.lo + 255) % 256 }

-- R(0) to R(F)
pub record Bank : Type 0 where
  pub r0 : Word
  pub r1 : Word
  pub r2 : Word
  pub r3 : Word
  pub r4 : Word
  pub r5 : Word
  pub r6 : Word
  pub r7 : Word
  pub r8 : Word
  pub r9 : Word
  pub ra : Word
  pub rb : Word
  pub rc : Word
  pub rd : Word
  pub re : Word
  pub rf : Word

-- R(n). From 15 on it is R(F).
abbrev pub get : Bank → ℕ → Word
get r zero = r.r0
get r (1+ zero) = r.r1
get r (2+ zero) = r.r2
get r (3+ zero) = r.r3
get r (4+ zero) = r.r4
get r (5+ zero) = r.r5
get r (6+ zero) = r.r6
get r (7+ zero) = r.r7
get r (8+ zero) = r.r8
get r (9+ zero) = r.r9
get r (10+ zero) = r.ra
get r (11+ zero) = r.rb
get r (12+ zero) = r.rc
get r (13+ zero) = r.rd
get r (14+ zero) = r.re
get r _ = r.rf

-- the registers with w in R(n)
abbrev pub put : Bank → ℕ → Word → Bank
put r zero w = record r { r0 = w }
put r (1+ zero) w = record r { r1 = w }
put r (2+ zero) w = record r { r2 = w }
put r (3+ zero) w = record r { r3 = w }
put r (4+ zero) w = record r { r4 = w }
put r (5+ zero) w = record r { r5 = w }
put r (6+ zero) w = record r { r6 = w }
put r (7+ zero) w = record r { r7 = w }
put r (8+ zero) w = record r { r8 = w }
put r (9+ zero) w = record r { r9 = w }
put r (10+ zero) w = record r { ra = w }
put r (11+ zero) w = record r { rb = w }
put r (12+ zero) w = record r { rc = w }
put r (13+ zero) w = record r { rd = w }
put r (14+ zero) w = record r { re = w }
put r _ w = record r { rf = w }

-- all registers 0
abbrev pub zeros : Bank
zeros =
    record {
      r0 = word 0 0;
      r1 = word 0 0;
      r2 = word 0 0;
      r3 = word 0 0;
      r4 = word 0 0;
      r5 = word 0 0;
      r6 = word 0 0;
      r7 = word 0 0;
      r8 = word 0 0;
      r9 = word 0 0;
      ra = word 0 0;
      rb = word 0 0;
      rc = word 0 0;
      rd = word 0 0;
      re = word 0 0;
      rf = word 0 0;
    }

-- the registers that hold the sixteen numbers of a list, R(0) first
unfoldable pub bank_of : List ℕ → Bank
bank_of l =
    record {
      r0 = word_of (slice_index l 0);
      r1 = word_of (slice_index l 1);
      r2 = word_of (slice_index l 2);
      r3 = word_of (slice_index l 3);
      r4 = word_of (slice_index l 4);
      r5 = word_of (slice_index l 5);
      r6 = word_of (slice_index l 6);
      r7 = word_of (slice_index l 7);
      r8 = word_of (slice_index l 8);
      r9 = word_of (slice_index l 9);
      ra = word_of (slice_index l 10);
      rb = word_of (slice_index l 11);
      rc = word_of (slice_index l 12);
      rd = word_of (slice_index l 13);
      re = word_of (slice_index l 14);
      rf = word_of (slice_index l 15);
    }
