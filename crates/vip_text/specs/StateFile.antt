-- The file of a machine state at a dispatch point: 4,147 bytes. Numbers have their high byte first.
--
--     bytes 0 to 4       56 49 50 53 01, which are "VIPS" and the number of the format
--     byte 5             the edition: 00 is the usual one, and 01 the tall one
--     bytes 6 to 13      the cycle
--     bytes 14 to 45     R(0) to R(F), two bytes each
--     byte 46            D
--     byte 47            T
--     byte 48            16 * X + P
--     byte 49            DF + 2 * Q
--     byte 50            the latched key
--     bytes 51 to 4146   RAM
--
-- This is this project's profile.
use Rattle.std.specs.Prelude.{◌≡◌, ℕ, zero, suc, ◌+◌, ◌*◌, ◌/◌, ◌%◌, ◌==◌, ◌<◌, ◌≤◌, ◌⊎◌, true, false, List, [], ◌∷◌, length, take, drop, slice_index, Result, Ok, Err}
use Rattle.std.specs.Int.{w64, from_be_bytes}
use Rattle.vip_byte.specs.Number.{most_cycles}
use Rattle.machine.specs.Bank.{Word, word, value, Bank}
use Rattle.machine.specs.Instruction.{Regs}
use Rattle.machine.specs.Board.{Machine}
use Rattle.chip8_lang.specs.declared.view.Edition.{Edition}
use Rattle.chip8_lang.specs.declared.view.Edition.TheVariants.{Usual, Tall}
use Rattle.chip8_lang.specs.Editions.{screen_start, stack_top}
use Rattle.chip8_lang.specs.Places.{most_addresses}
use Rattle.machine.specs.Pictures.{place, interrupt_place, window_place}
use Rattle.chip8_image.specs.Interpreters.{interpreter_of}
use Rattle.vip_text.specs.declared.fault.StateFault.{StateFault}
use Rattle.vip_text.specs.declared.fault.StateFault.TheVariants.{BadLength, BadHead, BadEdition, BadCycle, BadMachine}

-- ---- the machine state of a file

abbrev pub file_size : ℕ
file_size = 4147

abbrev pub head : List ℕ
head = 0x56 ∷ 0x49 ∷ 0x50 ∷ 0x53 ∷ 0x01 ∷ []

abbrev pub edition_byte : Edition → ℕ
edition_byte Usual = 0
edition_byte Tall = 1

-- n bytes from one on
abbrev pub bytes_at : List ℕ → ℕ → ℕ → List ℕ
bytes_at f k zero = []
bytes_at f k (suc n) = slice_index f k ∷ bytes_at f (k + 1) n

abbrev pub cycle_in : List ℕ → ℕ
cycle_in f = from_be_bytes w64 (bytes_at f 6 8)

abbrev pub word_at : List ℕ → ℕ → Word
word_at f k = word (slice_index f k) (slice_index f (k + 1))

unfoldable pub bank_in : List ℕ → Bank
bank_in f =
    record {
      r0 = word_at f 14;
      r1 = word_at f 16;
      r2 = word_at f 18;
      r3 = word_at f 20;
      r4 = word_at f 22;
      r5 = word_at f 24;
      r6 = word_at f 26;
      r7 = word_at f 28;
      r8 = word_at f 30;
      r9 = word_at f 32;
      ra = word_at f 34;
      rb = word_at f 36;
      rc = word_at f 38;
      rd = word_at f 40;
      re = word_at f 42;
      rf = word_at f 44;
    }

-- interrupts are enabled, and the processor doesn't idle
abbrev pub regs_in : List ℕ → Regs
regs_in f =
    record {
      r = bank_in f;
      d = slice_index f 46;
      df = slice_index f 49 % 2;
      p = slice_index f 48 % 16;
      x = slice_index f 48 / 16;
      t = slice_index f 47;
      q = slice_index f 49 / 2 == 1;
      ie = true;
      idle = false;
    }

-- the boot latch is clear, and the display is on
abbrev pub shown : List ℕ → Machine
shown f =
    record {
      regs = regs_in f;
      ram = drop 51 f;
      latch = false;
      on = true;
      key = slice_index f 50;
      cycle = cycle_in f;
    }

-- ---- which files are accepted

-- An even cycle up to the most of a run, which lies in its frame before the interrupt, or behind the window: there main code runs.
pub record IsCycle (t : ℕ) : Type 0 where
  pub even : t % 2 ≡ 0
  pub most : t ≤ most_cycles
  pub outside : (place t < interrupt_place) ⊎ (window_place ≤ place t)

-- R2 lies two bytes below the top of the stack for each address on it
pub record IsStack (e : Edition) (r2 : ℕ) : Type 0 where
  pub depth : ℕ
  pub few : depth ≤ most_addresses
  pub below : r2 + 2 * depth ≡ stack_top e

-- The processor stands at the fetch loop, as the interpreter's boot and its steps leave it: P is 4, R4 is Fetch, R1 is Entry, RB.1 is the page of
-- the screen, and R2 points into the stack. The byte of DF and Q, and the latched key, are such.
pub record IsMachine (e : Edition) (f : List ℕ) : Type 0 where
  pub p : slice_index f 48 % 16 ≡ 4
  pub r4 : value (word_at f 22) ≡ (interpreter_of e).fetch
  pub r1 : value (word_at f 16) ≡ (interpreter_of e).entry
  pub page : slice_index f 36 ≡ screen_start e / 256
  pub stack : IsStack e (value (word_at f 18))
  pub flags : slice_index f 49 ≤ 3
  pub key : slice_index f 50 < 16

pub record IsAccepted (e : Edition) (f : List ℕ) : Type 0 where
  pub size : length f ≡ file_size
  pub begins : take 5 f ≡ head
  pub edition : slice_index f 5 ≡ edition_byte e
  pub cycle : IsCycle (cycle_in f)
  pub machine : IsMachine e f

-- the first fault that a file has, or none
abbrev pub Judges : List ℕ → Result Edition StateFault → Type 0
Judges f (Ok e) = IsAccepted e f
Judges f (Err BadLength) = length f ≡ file_size → ⊥
Judges f (Err BadHead) = (length f ≡ file_size) × (take 5 f ≡ head → ⊥)
Judges f (Err BadEdition) = (length f ≡ file_size) × (take 5 f ≡ head) × (1 < slice_index f 5)
Judges f (Err BadCycle) = (length f ≡ file_size) × (take 5 f ≡ head) × (slice_index f 5 ≤ 1) × (IsCycle (cycle_in f) → ⊥)
Judges f (Err BadMachine) =
    (length f ≡ file_size) × (take 5 f ≡ head) × IsCycle (cycle_in f) × (e : Edition) × (slice_index f 5 ≡ edition_byte e) × (IsMachine e f → ⊥)
