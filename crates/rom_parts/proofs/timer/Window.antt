-- The scan: in each line of the window the routine makes an instruction, eight DMA cycles, and two instructions.
use Rattle.std.proofs.Common.{sym, nat_lt, ◌≡◌, ℕ, zero, suc, ◌+◌, ◌*◌, ◌/◌, ◌%◌, ◌<◌, ◌≤◌, refl, ◌∙◌, ap, ap₂, subst₂, arith, Bool, true, false, cond, ◌⊎◌, inl, inr, lit<}
use Rattle.std.specs.Prelude.{◌==◌, bit_or}
use Rattle.std.proofs.lemmas.Bool.{lt-ltb, le-ltb, le-leb, lt-leb, and_left, and_right, eqb-true, agree_below_at, cases_lt}
use Rattle.machine.specs.Bank.{word, word_of, down}
use Rattle.machine.specs.Signals.{line_of, dma_at, efx_at}
use Rattle.machine.specs.Board.{Machine, flags_of}
use Rattle.machine.specs.Keys.{Keys}
use Rattle.machine.specs.Ranges.{FitsWord}
use Rattle.chip8_lang.specs.declared.view.Edition.{Edition}
use Rattle.chip8_lang.specs.declared.view.Edition.TheVariants.{Usual, Tall}
use Rattle.chip8_lang.specs.Editions.{screen_start, lines_of}
use Rattle.chip8_image.specs.declared.image.labels.TheConstants.{AT_SCAN, AT_SCAN1, AT_SCAN2, AT_SCAN3, AT_DELAY}
use Rattle.rom_law.specs.Code.{Code}
use Rattle.rom_law.proofs.Moves.{quicks, quick_by}
use Rattle.rom_law.specs.Program.{code}
use Rattle.rom_rows.specs.Heads.{by_edition}
use Rattle.rom_parts.specs.timer.Code.{timer_code}
use Rattle.rom_parts.proofs.Rom.{quick}
use Rattle.rom_parts.proofs.timer.Board.{timed, at_byte, Serves, serves_join, serves_to, serves_none, are_served, cycles_in, instructions, dmas, move_by, served, one}

-- ---- the signals in a line

-- DMA is wanted in the cycles 2 to 9 of a line of the window alone
pub early : (u : ℕ) → u % 14 < 2 → dma_at u true ≡ false
early u h = and_left _ _ (and_right _ _ (lt-leb 2 (u % 14) h))

pub late : (u : ℕ) → 10 ≤ u % 14 → dma_at u true ≡ false
late u h = and_right _ _ (le-ltb (u % 14) 10 h)

pub wanted : (u : ℕ) → 80 ≤ line_of u → line_of u < 208 → 2 ≤ u % 14 → u % 14 < 10 → dma_at u true ≡ true
wanted u l k h i = rw (le-leb 80 (line_of u) l, lt-ltb (line_of u) 208 k, le-leb 2 (u % 14) h, lt-ltb (u % 14) 10 i) refl

-- EFX is active in the last four lines of the window, and in none of its others
last_four : (u : ℕ) → 204 ≤ line_of u → line_of u < 208 → efx_at u true ≡ true
last_four u l k =
    rw (le-ltb (line_of u) 80 (omega (arith, l)), le-leb 204 (line_of u) l, lt-ltb (line_of u) 208 k, le-leb 76 (line_of u) (omega (arith, l))) refl

not_yet : (u : ℕ) → 80 ≤ line_of u → line_of u < 204 → efx_at u true ≡ false
not_yet u l k = rw (le-ltb (line_of u) 80 l, lt-leb 204 (line_of u) k, le-leb 76 (line_of u) (omega (arith, l))) refl

-- ---- the rows of the screen

-- the bytes of RAM that four lines show, and how far the third of them is past the first
abbrev pub step : Edition → ℕ
step e = by_edition e 8 16

abbrev pub next : Edition → ℕ
next e = by_edition e 0 8

step_is : (e : Edition) → step e ≡ next e + 8
step_is Usual = refl
step_is Tall = refl

-- the address that is shown in the first of four lines
abbrev pub shown : Edition → ℕ → ℕ
shown e zero = screen_start e
shown e (suc g) = shown e g + step e

shown_usual : (g : ℕ) → shown Usual g ≡ 0xf00 + 8 * g
shown_usual zero = refl
shown_usual (suc g) = omega (arith, shown_usual g)

shown_tall : (g : ℕ) → shown Tall g ≡ 0xe00 + 16 * g
shown_tall zero = refl
shown_tall (suc g) = omega (arith, shown_tall g)

-- what the lines ask of that address
pub record IsRow (e : Edition) (a : ℕ) : Type 0 where
  pub fits : a + step e ≤ 0x1000
  pub high : (a + 7) / 256 ≡ (a + next e) / 256
  pub first : (a + 7) / 256 ≡ a / 256
  pub third : (a + next e + 7) / 256 ≡ (a + next e) / 256
  pub or : bit_or (a % 256) (next e) ≡ (a + next e) % 256

or_none : (d : ℕ) → d < 256 → bit_or d 0 ≡ d
or_none d h = eqb-true _ _ (agree_below_at (λ k. bit_or k 0 == k) (λ k. true) 256 d refl h)

or_8 : (k : ℕ) → k < 16 → bit_or (16 * k) 8 ≡ 16 * k + 8
or_8 k h = eqb-true _ _ (agree_below_at (λ k. bit_or (16 * k) 8 == 16 * k + 8) (λ k. true) 16 k refl h)

row_usual : (a : ℕ) → a % 8 ≡ 0 → a + 8 ≤ 0x1000 → IsRow Usual a
row_usual a h l = record { fits = l; high = omega arith; first = omega arith; third = omega arith; or = or_none (a % 256) (omega arith) ∙ omega arith }

row_tall : (a : ℕ) → a % 16 ≡ 0 → a + 16 ≤ 0x1000 → IsRow Tall a
row_tall a h l =
    record {
      fits = l;
      high = omega arith;
      first = omega arith;
      third = omega arith;
      or = ap (λ z. bit_or z 8) sixteen
          ∙ or_8 (a % 256 / 16) (omega arith) ∙ omega arith;
    }
  where
    sixteen : a % 256 ≡ 16 * (a % 256 / 16)
    sixteen = omega arith

pub shown_row : (e : Edition) (g : ℕ) → g < 32 → IsRow e (shown e g)
shown_row Usual g h = row_usual (shown Usual g) (omega (arith, shown_usual g)) (omega (arith, shown_usual g))
shown_row Tall g h = row_tall (shown Tall g) (omega (arith, shown_tall g)) (omega (arith, shown_tall g))

-- line k shows the row of its lines
pub row_of : (e : Edition) (k : ℕ) → cond (nat_lt (k % 4) 2) (shown e (k / 4)) (shown e (k / 4) + next e) ≡ screen_start e + 8 * (k / lines_of e)
row_of Usual k = go (nat_lt (k % 4) 2)
  where
    go : (t : Bool) → cond t (shown Usual (k / 4)) (shown Usual (k / 4) + 0) ≡ 0xf00 + 8 * (k / 4)
    go true = shown_usual (k / 4)
    go false = omega (arith, shown_usual (k / 4))
row_of Tall k = go (cases_lt (k % 4) 2)
  where
    go : (k % 4 < 2) ⊎ (2 ≤ k % 4) → cond (nat_lt (k % 4) 2) (shown Tall (k / 4)) (shown Tall (k / 4) + 8) ≡ 0xe00 + 8 * (k / 2)
    go (inl h) = rw (lt-ltb (k % 4) 2 h) (omega (arith, shown_tall (k / 4)))
    go (inr h) = rw (le-ltb (k % 4) 2 h) (omega (arith, shown_tall (k / 4)))

pub shown_fits : (e : Edition) → FitsWord (word_of (shown e 32))
shown_fits Usual = record { hi = lit< tt; lo = lit< tt }
shown_fits Tall = record { hi = lit< tt; lo = lit< tt }

-- R0 after the DMA cycles, DEC R0 and PLO R0
back : (a n : ℕ) → a + 8 < 0x10000 → (a + 7) / 256 ≡ (a + n) / 256 → word (down (word_of (a + 8))).hi ((a + n) % 256) ≡ word_of (a + n)
back a n l e = ap (λ z. word z ((a + n) % 256)) high
  where
    high : (down (word_of (a + 8))).hi ≡ (a + n) / 256
    high = omega (arith, e)

back_0 : (a : ℕ) → a + 8 < 0x10000 → (a + 7) / 256 ≡ a / 256 → word (down (word_of (a + 8))).hi (a % 256) ≡ word_of a
back_0 a l e = ap (λ z. word z (a % 256)) high
  where
    high : (down (word_of (a + 8))).hi ≡ a / 256
    high = omega (arith, e)

-- ---- the lines

-- the routine at an address, with the address a in R0 and d in D
abbrev pub scanning : Machine → ℕ → ℕ → ℕ → Machine
scanning b address a d =
    record b {
      regs = record b.regs {
        r = record b.regs.r { r0 = word_of a; r1 = word_of address };
        d = d;
        p = 1;
        x = 2;
        ie = false;
        idle = false;
      };
      on = true;
    }

module _ (e : Edition) (held : ℕ → Keys) where
  x : Code
  x = code (quick timer_code e)

  -- an instruction and eight DMA cycles
  opening : (k l a : ℕ) (b c : Machine) → k ≤ 8 → 80 ≤ l % 262 → l % 262 < 208 → a + 8 < 0x10000 → are_served (code (quick timer_code e)) 1 b ≡ true
      → cycles_in (code (quick timer_code e)) 1 b ≡ 2 → quicks (code (quick timer_code e)) 1 b ≡ at_byte (word_of a) c
      → Serves (code (quick timer_code e)) held (1 + k) (timed (14 * l) b) (timed (14 * l + 2 + k) (at_byte (word_of (a + k)) c))
  opening k l a b c small low high room h two is =
      serves_join (code (quick timer_code e)) held
      (serves_to (code (quick timer_code e)) held (ap₂ timed (ap (λ z. 14 * l + z) two) is)
      (instructions (code (quick timer_code e)) held 1 (14 * l) b h (λ u m n. early u (omega (arith, n, two)))))
      (dmas (code (quick timer_code e)) held k (14 * l + 2) a c (omega arith) (λ u m n. wanted u (omega arith) (omega arith) (omega arith) (omega arith)))

  line : (l a : ℕ) (b c d : Machine) → 80 ≤ l % 262 → l % 262 < 208 → a + 8 < 0x10000 → are_served (code (quick timer_code e)) 1 b ≡ true
      → cycles_in (code (quick timer_code e)) 1 b ≡ 2 → quicks (code (quick timer_code e)) 1 b ≡ at_byte (word_of a) c
      → are_served (code (quick timer_code e)) 2 (at_byte (word_of (a + 8)) c) ≡ true
      → cycles_in (code (quick timer_code e)) 2 (at_byte (word_of (a + 8)) c) ≡ 4
      → quicks (code (quick timer_code e)) 2 (at_byte (word_of (a + 8)) c) ≡ d
      → Serves (code (quick timer_code e)) held 11 (timed (14 * l) b) (timed (14 * (l + 1)) d)
  line l a b c d low high room h two is h' four is' =
      serves_join (code (quick timer_code e)) held
      (opening 8 l a b c (omega arith) low high room h two is)
      (serves_to (code (quick timer_code e)) held (ap₂ timed time is')
      (instructions (code (quick timer_code e)) held 2 (14 * l + 2 + 8) (at_byte (word_of (a + 8)) c) h' (λ u m n. late u (omega (arith, n, four)))))
    where
      time : 14 * l + 2 + 8 + cycles_in (code (quick timer_code e)) 2 (at_byte (word_of (a + 8)) c) ≡ 14 * (l + 1)
      time = omega (arith, four)

  module _ (b : Machine) (l a : ℕ) (low : 80 ≤ l % 262) (high : l % 262 < 208) (row : IsRow e a) where
    room : a + 8 < 0x10000
    room = omega (arith, row.fits, step_is e)

    room' : a + next e + 8 < 0x10000
    room' = omega (arith, row.fits, step_is e)

    line_0 : (d : ℕ) → Serves (code (quick timer_code e)) held 11 (timed (14 * l) (scanning b AT_SCAN a d))
        (timed (14 * (l + 1)) (scanning b AT_SCAN1 a (a % 256)))
    line_0 d =
        line l a (scanning b AT_SCAN a d) (scanning b (AT_SCAN + 1) a (a % 256))
        (scanning b AT_SCAN1 a (a % 256)) low high room refl refl refl refl refl
        (ap (λ w. at_byte w (scanning b AT_SCAN1 a (a % 256))) (back_0 a room row.first))

    line_1 : Serves (code (quick timer_code e)) held 11 (timed (14 * l) (scanning b AT_SCAN1 a (a % 256)))
        (timed (14 * (l + 1)) (scanning b AT_SCAN2 (a + next e) ((a + next e) % 256)))
    line_1 =
        line l a (scanning b AT_SCAN1 a (a % 256)) (scanning b (AT_SCAN1 + 2) a ((a + next e) % 256))
        (scanning b AT_SCAN2 (a + next e) ((a + next e) % 256)) low high room refl refl (ap (scanning b (AT_SCAN1 + 2) a) row.or) refl refl
        (ap (λ w. at_byte w (scanning b AT_SCAN2 a ((a + next e) % 256))) (back a (next e) room row.high))

    line_2 : Serves (code (quick timer_code e)) held 11 (timed (14 * l) (scanning b AT_SCAN2 (a + next e) ((a + next e) % 256)))
        (timed (14 * (l + 1)) (scanning b AT_SCAN3 (a + next e) ((a + next e) % 256)))
    line_2 =
        line l (a + next e) (scanning b AT_SCAN2 (a + next e) ((a + next e) % 256)) (scanning b (AT_SCAN2 + 1) (a + next e) ((a + next e) % 256))
        (scanning b AT_SCAN3 (a + next e) ((a + next e) % 256)) low high room' refl refl refl refl refl
        (ap (λ w. at_byte w (scanning b AT_SCAN3 a ((a + next e) % 256))) (back_0 (a + next e) room' row.third))

    -- the last of four lines goes back to the first, or leaves the window where EFX is active
    line_3 : (efx : Bool) → efx_at (14 * l + 13) true ≡ efx
        → Serves (code (quick timer_code e)) held 11 (timed (14 * l) (scanning b AT_SCAN3 (a + next e) ((a + next e) % 256)))
        (timed (14 * (l + 1)) (scanning b (cond efx AT_DELAY AT_SCAN) (a + step e) ((a + next e) % 256)))
    line_3 efx f =
        serves_join (code (quick timer_code e)) held
        (serves_join (code (quick timer_code e)) held
        (opening 8 l (a + next e) (scanning b AT_SCAN3 (a + next e) ((a + next e) % 256))
        (scanning b (AT_SCAN3 + 1) (a + next e) ((a + next e) % 256)) (omega arith) low high room' refl refl refl)
        (serves_to (code (quick timer_code e)) held (ap (λ t. timed t (scanning b (AT_SCAN3 + 2) (a + next e + 8) ((a + next e) % 256))) time)
        (instructions (code (quick timer_code e)) held 1 (14 * l + 2 + 8) (scanning b (AT_SCAN3 + 1) (a + next e + 8) ((a + next e) % 256)) refl
        (λ u m n. late u (omega arith)))))
        (one (code (quick timer_code e)) held at _ (record { by_r1 = refl; disabled = refl; awake = refl; on = refl })
        (move_by (code (quick timer_code e)) held efx at (served (code (quick timer_code e)) at refl) (late (14 * l + 12) (omega arith))
        (ap (λ t. efx_at t true) time' ∙ f) ∙ ends efx))
      where
        at : Machine
        at = timed (14 * l + 12) (scanning b (AT_SCAN3 + 2) (a + next e + 8) ((a + next e) % 256))

        time : 14 * l + 2 + 8 + 2 ≡ 14 * l + 12
        time = omega arith

        time' : 14 * l + 12 + 1 ≡ 14 * l + 13
        time' = omega arith

        end : 14 * l + 12 + 2 ≡ 14 * (l + 1)
        end = omega arith

        bytes : a + next e + 8 ≡ a + step e
        bytes = omega (arith, step_is e)

        ends : (efx : Bool) → record (quick_by (code (quick timer_code e)) (flags_of efx (held (14 * l + 12 + 1) b.key)) at) { cycle = 14 * l + 12 + 2 }
            ≡ timed (14 * (l + 1)) (scanning b (cond efx AT_DELAY AT_SCAN) (a + step e) ((a + next e) % 256))
        ends true = λ i. timed (end i) (scanning b AT_DELAY (bytes i) ((a + next e) % 256))
        ends false = λ i. timed (end i) (scanning b AT_SCAN (bytes i) ((a + next e) % 256))

  -- ---- four lines, and the whole window

  turn : (b : Machine) (l a d : ℕ) (efx : Bool) → 80 ≤ l % 262 → l % 262 + 3 < 208 → IsRow e a → efx_at (14 * (l + 1 + 1 + 1) + 13) true ≡ efx
      → Serves (code (quick timer_code e)) held 44 (timed (14 * l) (scanning b AT_SCAN a d))
      (timed (14 * (l + 4)) (scanning b (cond efx AT_DELAY AT_SCAN) (a + step e) ((a + next e) % 256)))
  turn b l a d efx low high row f =
      serves_join (code (quick timer_code e)) held
      (serves_join (code (quick timer_code e)) held
      (serves_join (code (quick timer_code e)) held (line_0 b l a low (omega arith) row d) (line_1 b (l + 1) a (omega arith) (omega arith) row))
      (line_2 b (l + 1 + 1) a (omega arith) (omega arith) row))
      (serves_to (code (quick timer_code e)) held (ap (λ t. timed t (scanning b (cond efx AT_DELAY AT_SCAN) (a + step e) ((a + next e) % 256))) time)
      (line_3 b (l + 1 + 1 + 1) a (omega arith) (omega arith) row efx f))
    where
      time : 14 * (l + 1 + 1 + 1 + 1) ≡ 14 * (l + 4)
      time = omega arith

  -- D after so many turns
  abbrev pub left : ℕ → ℕ → ℕ
  left d zero = d
  left d (suc g) = (shown e g + next e) % 256

  turns : (b : Machine) (l d g : ℕ) → l % 262 ≡ 80 → g < 32
      → Serves (code (quick timer_code e)) held (44 * g) (timed (14 * l) (scanning b AT_SCAN (screen_start e) d))
      (timed (14 * (l + 4 * g)) (scanning b AT_SCAN (shown e g) (left d g)))
  turns b l d zero h k =
      serves_to (code (quick timer_code e)) held (ap (λ t. timed t (scanning b AT_SCAN (screen_start e) d)) time)
      (serves_none (code (quick timer_code e)) held (timed (14 * l) (scanning b AT_SCAN (screen_start e) d)))
    where
      time : 14 * l ≡ 14 * (l + 4 * 0)
      time = omega arith
  turns b l d (suc g) h k =
      subst₂ (λ n t. Serves (code (quick timer_code e)) held n (timed (14 * l) (scanning b AT_SCAN (screen_start e) d))
      (timed (14 * t) (scanning b AT_SCAN (shown e (suc g)) (left d (suc g))))) count lines
      (serves_join (code (quick timer_code e)) held (turns b l d g h (omega arith))
      (turn b (l + 4 * g) (shown e g) (left d g) false (omega (arith, h)) (omega (arith, h)) (shown_row e g (omega arith))
      (not_yet (14 * (l + 4 * g + 1 + 1 + 1) + 13) (omega (arith, h)) (omega (arith, h)))))
    where
      count : 44 * g + 44 ≡ 44 * suc g
      count = omega arith

      lines : l + 4 * g + 4 ≡ l + 4 * suc g
      lines = omega arith

  -- from the first line of a window to the end of its last one
  pub window : (b : Machine) (l d : ℕ) → l % 262 ≡ 80
      → Serves (code (quick timer_code e)) held 1408 (timed (14 * l) (scanning b AT_SCAN (screen_start e) d))
      (timed (14 * (l + 128)) (scanning b AT_DELAY (shown e 32) (left d 32)))
  window b l d h =
      serves_to (code (quick timer_code e)) held (ap (λ t. timed (14 * t) (scanning b AT_DELAY (shown e 32) (left d 32))) lines)
      (serves_join (code (quick timer_code e)) held (turns b l d 31 h (omega arith))
      (turn b (l + 4 * 31) (shown e 31) (left d 31) true (omega (arith, h)) (omega (arith, h)) (shown_row e 31 (omega arith))
      (last_four (14 * (l + 4 * 31 + 1 + 1 + 1) + 13) (omega (arith, h)) (omega (arith, h)))))
    where
      lines : l + 4 * 31 + 4 ≡ l + 128
      lines = omega arith

  -- ---- the DMA cycles of each line

  -- the first DMA cycle of line l comes after so many moves from s, with the address in R0
  pub record Begins (b s : Machine) (l address : ℕ) : Type 0 where
    pub moves : ℕ
    pub few : moves + 8 ≤ 1408
    pub at : Machine
    pub ram : at.ram ≡ b.ram
    pub latch : at.latch ≡ b.latch
    pub serves : Serves (code (quick timer_code e)) held moves s (timed (14 * l + 2) (at_byte (word_of address) at))

  begin : (b s : Machine) (n l address : ℕ) (c d : Machine) → n ≤ 1399 → are_served (code (quick timer_code e)) 1 c ≡ true
      → cycles_in (code (quick timer_code e)) 1 c ≡ 2
      → quicks (code (quick timer_code e)) 1 c ≡ at_byte (word_of address) d → d.ram ≡ b.ram → d.latch ≡ b.latch
      → Serves (code (quick timer_code e)) held n s (timed (14 * l) c) → Begins b s l address
  begin b s n l address c d few h two is ram latch f =
      record {
        moves = n + 1;
        few = omega arith;
        at = d;
        ram = ram;
        latch = latch;
        serves =
            serves_join (code (quick timer_code e)) held f
            (serves_to (code (quick timer_code e)) held (ap₂ timed (ap (λ z. 14 * l + z) two) is)
            (instructions (code (quick timer_code e)) held 1 (14 * l) c h (λ u m n. early u (omega (arith, n, two)))));
      }

  module _ (b : Machine) (l d g : ℕ) (top : l % 262 ≡ 80) (some : g < 32) where
    abbrev a : ℕ
    a = shown e g

    abbrev s : Machine
    s = timed (14 * l) (scanning b AT_SCAN (screen_start e) d)

    row : IsRow e (shown e g)
    row = shown_row e g some

    first_line : Serves (code (quick timer_code e)) held (44 * g) s (timed (14 * (l + 4 * g)) (scanning b AT_SCAN a (left d g)))
    first_line = turns b l d g top some

    second_line : Serves (code (quick timer_code e)) held (44 * g + 11) s (timed (14 * (l + 4 * g + 1)) (scanning b AT_SCAN1 a (a % 256)))
    second_line = serves_join (code (quick timer_code e)) held first_line
        (line_0 b (l + 4 * g) a (omega (arith, top, some)) (omega (arith, top, some)) row (left d g))

    third_line : Serves (code (quick timer_code e)) held (44 * g + 11 + 11) s
        (timed (14 * (l + 4 * g + 1 + 1)) (scanning b AT_SCAN2 (a + next e) ((a + next e) % 256)))
    third_line = serves_join (code (quick timer_code e)) held second_line (line_1 b (l + 4 * g + 1) a (omega (arith, top, some)) (omega (arith, top, some)) row)

    fourth_line : Serves (code (quick timer_code e)) held (44 * g + 11 + 11 + 11) s
        (timed (14 * (l + 4 * g + 1 + 1 + 1)) (scanning b AT_SCAN3 (a + next e) ((a + next e) % 256)))
    fourth_line = serves_join (code (quick timer_code e)) held third_line
        (line_2 b (l + 4 * g + 1 + 1) a (omega (arith, top, some)) (omega (arith, top, some)) row)

    pub begins_0 : Begins b s (l + 4 * g) a
    begins_0 =
        begin b s (44 * g) (l + 4 * g) a (scanning b AT_SCAN a (left d g)) (scanning b (AT_SCAN + 1) a (a % 256))
        (omega (arith, some)) refl refl refl refl refl first_line

    pub begins_1 : Begins b s (l + 4 * g + 1) a
    begins_1 =
        begin b s (44 * g + 11) (l + 4 * g + 1) a (scanning b AT_SCAN1 a (a % 256)) (scanning b (AT_SCAN1 + 2) a ((a + next e) % 256))
        (omega (arith, some)) refl refl (ap (scanning b (AT_SCAN1 + 2) a) row.or) refl refl second_line

    pub begins_2 : Begins b s (l + 4 * g + 1 + 1) (a + next e)
    begins_2 =
        begin b s (44 * g + 11 + 11) (l + 4 * g + 1 + 1) (a + next e) (scanning b AT_SCAN2 (a + next e) ((a + next e) % 256))
        (scanning b (AT_SCAN2 + 1) (a + next e) ((a + next e) % 256)) (omega (arith, some)) refl refl refl refl refl third_line

    pub begins_3 : Begins b s (l + 4 * g + 1 + 1 + 1) (a + next e)
    begins_3 =
        begin b s (44 * g + 11 + 11 + 11) (l + 4 * g + 1 + 1 + 1) (a + next e) (scanning b AT_SCAN3 (a + next e) ((a + next e) % 256))
        (scanning b (AT_SCAN3 + 1) (a + next e) ((a + next e) % 256)) (omega (arith, some)) refl refl refl refl refl fourth_line

  -- each line of the window, with the address of its row
  pub begins : (b : Machine) (l d k address : ℕ) → l % 262 ≡ 80 → k < 128
      → cond (nat_lt (k % 4) 2) (shown e (k / 4)) (shown e (k / 4) + next e) ≡ address
      → Begins b (timed (14 * l) (scanning b AT_SCAN (screen_start e) d)) (l + k) address
  begins b l d k address top some is = go (k % 4) refl (omega arith)
    where
      go : (q : ℕ) → k % 4 ≡ q → q < 4 → Begins b (timed (14 * l) (scanning b AT_SCAN (screen_start e) d)) (l + k) address
      go zero h r =
          subst₂ (Begins b (timed (14 * l) (scanning b AT_SCAN (screen_start e) d))) same
          (ap (λ z. cond (nat_lt z 2) (shown e (k / 4)) (shown e (k / 4) + next e)) (sym h) ∙ is) (begins_0 b l d (k / 4) top (omega arith))
        where
          same : l + 4 * (k / 4) ≡ l + k
          same = omega (arith, h)
      go (suc zero) h r =
          subst₂ (Begins b (timed (14 * l) (scanning b AT_SCAN (screen_start e) d))) same
          (ap (λ z. cond (nat_lt z 2) (shown e (k / 4)) (shown e (k / 4) + next e)) (sym h) ∙ is) (begins_1 b l d (k / 4) top (omega arith))
        where
          same : l + 4 * (k / 4) + 1 ≡ l + k
          same = omega (arith, h)
      go (suc (suc zero)) h r =
          subst₂ (Begins b (timed (14 * l) (scanning b AT_SCAN (screen_start e) d))) same
          (ap (λ z. cond (nat_lt z 2) (shown e (k / 4)) (shown e (k / 4) + next e)) (sym h) ∙ is) (begins_2 b l d (k / 4) top (omega arith))
        where
          same : l + 4 * (k / 4) + 1 + 1 ≡ l + k
          same = omega (arith, h)
      go (suc (suc (suc zero))) h r =
          subst₂ (Begins b (timed (14 * l) (scanning b AT_SCAN (screen_start e) d))) same
          (ap (λ z. cond (nat_lt z 2) (shown e (k / 4)) (shown e (k / 4) + next e)) (sym h) ∙ is) (begins_3 b l d (k / 4) top (omega arith))
        where
          same : l + 4 * (k / 4) + 1 + 1 + 1 ≡ l + k
          same = omega (arith, h)
      go (suc (suc (suc (suc q)))) h r = absurd (omega arith)
