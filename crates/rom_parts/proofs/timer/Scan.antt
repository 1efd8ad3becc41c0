-- Each line of the window gets the eight bytes of its row of the screen.
use Rattle.std.proofs.Common.{◌≡◌, ℕ, ◌+◌, ◌-◌, ◌*◌, ◌/◌, ◌%◌, ◌<◌, ◌≤◌, ◌⊎◌, inl, inr, ◌∙◌, ap, ap₂, subst, arith, [], ◌++◌, length, slice_index, slice_range}
use Rattle.std.proofs.lemmas.Bool.{cases_eq, ne_eqb}
use Rattle.std.proofs.lemmas.List.{append-nil}
use Rattle.machine.specs.Bank.{word_of}
use Rattle.machine.specs.Board.{Machine}
use Rattle.machine.specs.Schedule.{IsFree}
use Rattle.machine.specs.Keys.{Keys}
use Rattle.machine.specs.Run.{states, after_moves}
use Rattle.chip8_lang.specs.declared.view.Edition.{Edition}
use Rattle.chip8_lang.specs.Editions.{memory_end, screen_start, lines_of}
use Rattle.chip8_image.specs.declared.image.labels.TheConstants.{AT_SCAN}
use Rattle.rom_law.specs.Program.{code}
use Rattle.rom_law.proofs.Places.{variables_below, range_length, screen_ends, row_inside}
use Rattle.rom_parts.specs.timer.Routine.{IsInterrupted, routine_moves}
use Rattle.rom_parts.specs.timer.Scan.{fetched, row_start, RunScan}
use Rattle.rom_parts.specs.timer.Code.{timer_code}
use Rattle.rom_parts.specs.Parts.{rom_of}
use Rattle.rom_parts.proofs.Rom.{both, both_is, quick}
use Rattle.rom_parts.proofs.timer.Board.{timed, at_byte, serves_join, moves_more, dmas}
use Rattle.rom_parts.proofs.timer.Window.{scanning, Begins, begins, early, late, wanted, row_of}
use Rattle.rom_parts.proofs.timer.Serving.{taken, entered, opens}
use Rattle.rom_parts.proofs.timer.Fetched.{states_join, fetched_append, none_fetched, IsPast, bytes_fetched}
use Rattle.rom_parts.proofs.timer.Counted.{counted}
use Rattle.rom_parts.proofs.timer.Tick.{first, kept, run_tick}

-- ---- the row of a line

pub row_fits : (e : Edition) (k : ℕ) → k < 128 → screen_start e + 8 * (k / lines_of e) + 8 ≤ 0x1000
row_fits e k h = omega (arith, screen_ends e, row_inside e k h)

module _ (e : Edition) (m : ℕ) (b : Machine) (held : ℕ → Keys) (o : IsInterrupted e m b) (k : ℕ) (some : k < 128) where
  abbrev address : ℕ
  address = screen_start e + 8 * (k / lines_of e)

  abbrev line : ℕ
  line = 262 * m + 80 + k

  top : (262 * m + 80) % 262 ≡ 80
  top = omega arith

  begun : Begins e held (entered b) (timed (14 * (262 * m + 80)) (scanning (entered b) AT_SCAN (screen_start e) 0)) line address
  begun = begins e held (entered b) (262 * m + 80) 0 k address top some (row_of e k)

  -- the moves before the DMA cycles of the line, and the machine there
  abbrev before : ℕ
  before = 1 + (13 + begun.moves)

  c : Machine
  c = timed (14 * line + 2) (at_byte (word_of address) begun.at)

  comes : after_moves (both timer_code e) held b before ≡ c
  unfolding c
  comes =
      moves_more (code (quick timer_code e)) held (13 + begun.moves) 1 b (timed (3668 * m + 1093) (taken b)) (first e m b held o)
      ∙ (serves_join (code (quick timer_code e)) held (opens e held m b) begun.serves).ends

  after : after_moves (both timer_code e) held c 8 ≡ timed (14 * line + 2 + 8) (at_byte (word_of (address + 8)) begun.at)
  unfolding c
  after =
      (dmas (code (quick timer_code e)) held 8 (14 * line + 2) address begun.at (omega (arith, row_fits e k some))
      (λ u l h. wanted u (omega arith) (omega arith) (omega arith) (omega arith))).ends

  d : Machine
  d = timed (14 * line + 2 + 8) (at_byte (word_of (address + 8)) begun.at)

  abbrev rest : ℕ
  rest = routine_moves - (before + 8)

  pieces : states (both timer_code e) held b routine_moves ≡ states (both timer_code e) held b
      before ++ (states (both timer_code e) held c 8 ++ states (both timer_code e) held d rest)
  unfolding d
  pieces =
      ap (states (both timer_code e) held b) count
      ∙ states_join (both timer_code e) held before (8 + rest) b
      ∙ ap (λ z. states (both timer_code e) held b before ++ states (both timer_code e) held z (8 + rest)) comes
      ∙ ap (λ l. states (both timer_code e) held b before ++ l)
      (states_join (both timer_code e) held 8 rest c ∙ ap (λ z. states (both timer_code e) held c 8 ++ states (both timer_code e) held z rest) after)
    where
      count : routine_moves ≡ before + (8 + rest)
      count = omega (arith, begun.few)

  -- in other cycles than these eight no byte of the line is fetched
  elsewhere : (u : ℕ) → (u < 14 * line + 2) ⊎ (14 * line + 10 ≤ u) → IsPast (both timer_code e) held line u
  elsewhere u h = go (cases_eq (u / 14) line) h
    where
      go : (u / 14 ≡ line) ⊎ (u / 14 ≡ line → ⊥) → (u < 14 * line + 2) ⊎ (14 * line + 10 ≤ u) → IsPast (both timer_code e) held line u
      go (inl f) (inl l) = inr (early u (omega arith))
      go (inl f) (inr l) = inr (late u (omega arith))
      go (inr f) l = inl (ne_eqb (u / 14) line f)

  none_before : fetched (both timer_code e) line (states (both timer_code e) held b before) ≡ []
  unfolding c
  none_before = none_fetched (both timer_code e) held line before b (λ u l h. elsewhere u (inl (subst (λ (z : Machine). u < z.cycle) comes h)))

  none_after : fetched (both timer_code e) line (states (both timer_code e) held d rest) ≡ []
  unfolding d
  none_after = none_fetched (both timer_code e) held line rest d (λ u l h. elsewhere u (inr (omega arith)))

  same : (j : ℕ) → screen_start e ≤ j → slice_index begun.at.ram j ≡ slice_index b.ram j
  same j l = ap (λ r. slice_index r j) begun.ram ∙ kept e m b held o j free
    where
      free : IsFree (memory_end e) b j → ⊥
      free f = omega (arith, f.1, o.top, variables_below e)

  bytes : fetched (both timer_code e) line (states (both timer_code e) held c 8) ≡ slice_range b.ram address (address + 8)
  unfolding c
  bytes =
      bytes_fetched (both timer_code e) held line begun.at begun.latch b.ram o.fits.size (screen_start e) same 8 (14 * line + 2) address (omega arith)
      (row_fits e k some) (λ u l h. (omega arith, wanted u (omega arith) (omega arith) (omega arith) (omega arith)))

  scanned : fetched (both timer_code e) line (states (both timer_code e) held b routine_moves) ≡ slice_range b.ram address (address + 8)
  scanned =
      ap (fetched (both timer_code e) line) pieces
      ∙ fetched_append (both timer_code e) held line (states (both timer_code e) held b before)
      (states (both timer_code e) held c 8 ++ states (both timer_code e) held d rest)
      ∙ ap₂ (λ x y. x ++ y) none_before
      (fetched_append (both timer_code e) held line (states (both timer_code e) held c 8) (states (both timer_code e) held d rest)
      ∙ ap₂ (λ x y. x ++ y) bytes none_after)
      ∙ append-nil (slice_range b.ram address (address + 8))

-- ---- the window

pub run_scan : RunScan (rom_of timer_code)
run_scan e m b held o =
    record {
      count = counted (rom_of timer_code e) held m routine_moves b o.cycle (run_tick e m b held o).cycle (λ k some. ap length (line k some) ∙ eight k some);
      lines = line;
    }
  where
    line : (k : ℕ) → k < 128 → fetched (rom_of timer_code e) (262 * m + 80 + k) (states (rom_of timer_code e) held b routine_moves)
        ≡ slice_range b.ram (row_start e k) (row_start e k + 8)
    line k some =
        subst (λ rom. fetched rom (262 * m + 80 + k) (states rom held b routine_moves) ≡ slice_range b.ram (row_start e k) (row_start e k + 8))
        (both_is timer_code e) (scanned e m b held o k some)

    eight : (k : ℕ) → k < 128 → length (slice_range b.ram (row_start e k) (row_start e k + 8)) ≡ 8
    eight k some = range_length (row_start e k) (row_start e k + 8) b.ram (omega (arith, o.fits.size, row_fits e k some)) ∙ bytes_of (row_start e k)
      where
        bytes_of : (a : ℕ) → a + 8 - a ≡ 8
        bytes_of a = omega arith
