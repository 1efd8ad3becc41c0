-- The picture of a frame shows the screen that lies in RAM when its interrupt comes.
use Rattle.std.proofs.Common.{◌≡◌, ℕ, zero, suc, ◌+◌, ◌-◌, ◌*◌, ◌/◌, ◌%◌, ◌<◌, ◌≤◌, ◌⊎◌, inl, inr, refl, sym, ◌∙◌, ap, ap₂, subst, arith, Bool, true, false, not, ◌&&◌, ◌||◌, cond, nat_le, List, [], ◌∷◌, ◌++◌, filter, map, replicate, Some, slice_get, slice_index, slice_range, length}
use Rattle.std.proofs.lemmas.Bool.{cases_lt, lt-ltb, le-ltb, lt-leb, le-leb, ne_eqb, and_right}
use Rattle.std.proofs.lemmas.List.{append-nil}
use Rattle.std.proofs.lemmas.Option.{slice_get_within, same_Some}
use Rattle.machine.specs.Board.{Machine, case_of, dma_byte, length_of}
use Rattle.machine.specs.Keys.{Keys}
use Rattle.machine.specs.Run.{states, after_moves, run_to}
use Rattle.machine.specs.Pictures.{interrupt_at, window_end, is_dma, is_dma_in, filled, line_bytes, lines_from, picture_of, is_within, is_shown}
use Rattle.machine.proofs.Runs.{cycle-move, later-move}
use Rattle.chip8_lang.specs.declared.view.Edition.{Edition}
use Rattle.chip8_lang.specs.Editions.{screen_start, rows_of, lines_of}
use Rattle.chip8_lang.specs.Screen.{is_set}
use Rattle.chip8_lang.specs.Places.{state_of, pixels}
use Rattle.rom_law.specs.Pictures.{dot, IsLine, ShowsScreen}
use Rattle.rom_law.proofs.Ahead.{behind_moves, later_cycle, all_in_run}
use Rattle.rom_law.proofs.Places.{range_get, range_length, row_inside}
use Rattle.rom_parts.specs.timer.Routine.{IsInterrupted, IsTick, routine_moves}
use Rattle.rom_parts.specs.timer.Scan.{fetched, row_start, RunPicture}
use Rattle.rom_parts.specs.timer.Code.{timer_code}
use Rattle.rom_parts.specs.Parts.{rom_of}
use Rattle.rom_parts.proofs.timer.Fetched.{states_join, fetched_append, none_fetched}
use Rattle.rom_parts.proofs.timer.Tick.{run_tick}
use Rattle.rom_parts.proofs.timer.Scan.{row_fits, run_scan}

-- ---- the lines of a picture

module _ (rom : List ℕ) (run : List Machine) where
  lines_length : (n line : ℕ) → length (lines_from rom run line n) ≡ n
  lines_length zero line = refl
  lines_length (suc n) line = ap suc (lines_length n (line + 1))

  lines_get : (n line k : ℕ) → k < n → slice_get (lines_from rom run line n) k ≡ Some (line_bytes rom run (line + k))
  lines_get zero line k h = absurd (omega arith)
  lines_get (suc n) line zero h = ap (λ z. Some (line_bytes rom run z)) same
    where
      same : line ≡ line + 0
      same = omega arith
  lines_get (suc n) line (suc k) h = lines_get n (line + 1) k (omega arith) ∙ ap (λ z. Some (line_bytes rom run z)) same
    where
      same : line + 1 + k ≡ line + suc k
      same = omega arith

filled_up : (l : List ℕ) → length l ≡ 8 → filled l ≡ l
filled_up l h = ap (λ n. l ++ replicate (8 - n) 0) h ∙ append-nil l

range_fits : (a : ℕ) (ram : List ℕ) → ((j : ℕ) → slice_index ram j < 256) → (i : ℕ) → i < 8 → slice_index (slice_range ram a (a + 8)) i < 256
range_fits a ram fit i l = subst (λ z. z < 256) (sym (range_get a (a + 8) ram i (omega (arith, l)))) (fit (a + i))

-- ---- the dots of eight bytes of the screen

module _ (e : Edition) (ram : List ℕ) (k : ℕ) (some : k < 128) where
  dots : (x : ℕ) → x < 64 → dot (slice_range ram (row_start e k) (row_start e k + 8)) x
      ≡ pixels (rows_of e) (slice_range ram (screen_start e) 0x1000) x (k / lines_of e)
  dots x h =
      ap (λ y. is_set y (7 - x % 8))
      (range_get (row_start e k) (row_start e k + 8) ram (x / 8) (omega arith) ∙ ap (slice_index ram) same
      ∙ sym (range_get (screen_start e) 0x1000 ram (8 * (k / lines_of e) + x / 8) (omega (arith, row_fits e k some))))
      ∙ sym inside
    where
      same : row_start e k + x / 8 ≡ screen_start e + (8 * (k / lines_of e) + x / 8)
      same = omega arith

      inside : pixels (rows_of e) (slice_range ram (screen_start e) 0x1000) x (k / lines_of e)
          ≡ is_set (slice_index (slice_range ram (screen_start e) 0x1000) (8 * (k / lines_of e) + x / 8)) (7 - x % 8)
      inside = rw (lt-ltb x 64 h, lt-ltb (k / lines_of e) (rows_of e) (row_inside e k some)) refl

-- ---- the bytes of a line in a run

module _ (rom : List ℕ) (held : ℕ → Keys) where
  -- a line that ends by the limit loses nothing at the limit
  line_kept : (line limit : ℕ) → 14 * line + 13 ≤ limit → (l : List Machine)
      → filter (is_dma_in line) (filter (λ s. nat_le s.cycle limit) l) ≡ filter (is_dma_in line) l
  line_kept line limit ended [] = refl
  line_kept line limit ended (s ∷ l) = go (line_kept line limit ended l) (cases_lt limit s.cycle)
    where
      go : filter (is_dma_in line) (filter (λ s. nat_le s.cycle limit) l) ≡ filter (is_dma_in line) l → (limit < s.cycle) ⊎ (s.cycle ≤ limit)
          → filter (is_dma_in line) (filter (λ s. nat_le s.cycle limit) (s ∷ l)) ≡ filter (is_dma_in line) (s ∷ l)
      go same (inl h) = rw (lt-leb s.cycle limit h, and_right (is_dma (case_of s)) _ (ne_eqb (s.cycle / 14) line (λ f. omega arith))) same
      go same (inr h) = rw (le-leb s.cycle limit h) (ap (λ z. cond (is_dma_in line s) (s ∷ z) z) same)

  cycles_pass : (n : ℕ) (b : Machine) → b.cycle + n ≤ (after_moves rom held b n).cycle
  cycles_pass zero b = omega arith
  cycles_pass (suc n) b = omega (arith, cycles_pass n b, later-move rom held (after_moves rom held b n))

  -- The run comes in i moves to the interrupt of frame m, in some more behind the window, and has its limit there or later.
  module _ (first : Machine) (m i moves limit : ℕ) (at : (after_moves rom held first i).cycle ≡ interrupt_at m) (few : moves ≤ 1820) (end : window_end m ≤ (after_moves rom held (after_moves rom held first i) moves).cycle) (ended : window_end m ≤ limit) where
    b : Machine
    b = after_moves rom held first i

    d : Machine
    unfolding b
    d = after_moves rom held b moves

    abbrev rest : ℕ
    rest = limit + 1 - (i + moves)

    pieces : states rom held first (limit + 1) ≡ states rom held first i ++ (states rom held b moves ++ states rom held d rest)
    unfolding b d
    pieces =
        ap (states rom held first) count ∙ states_join rom held i (moves + rest) first
        ∙ ap (λ l. states rom held first i ++ l) (states_join rom held moves rest b)
      where
        count : limit + 1 ≡ i + (moves + rest)
        count = omega (arith, at, few, ended, cycles_pass i first)

    pub in_run : (k : ℕ) → k < 128
        → fetched rom (262 * m + 80 + k) (run_to rom held first limit)
        ≡ fetched rom (262 * m + 80 + k) (states rom held (after_moves rom held first i) moves)
    unfolding run_to b d
    in_run k some =
        ap (map (dma_byte rom)) (line_kept line limit (omega (arith, ended)) (states rom held first (limit + 1)))
        ∙ ap (fetched rom line) pieces
        ∙ fetched_append rom held line (states rom held first i) (states rom held b moves ++ states rom held d rest)
        ∙ ap₂ (λ x y. x ++ y) before (fetched_append rom held line (states rom held b moves) (states rom held d rest)
        ∙ ap (λ y. fetched rom line (states rom held b moves) ++ y) after)
        ∙ append-nil (fetched rom line (states rom held b moves))
      where
        line : ℕ
        line = 262 * m + 80 + k

        before : fetched rom line (states rom held first i) ≡ []
        before = none_fetched rom held line i first (λ u l h. inl (ne_eqb (u / 14) line (λ f. omega (arith, at))))

        after : fetched rom line (states rom held d rest) ≡ []
        after = none_fetched rom held line rest d (λ u l h. inl (ne_eqb (u / 14) line (λ f. omega (arith, end))))

-- ---- the picture

shows : (e : Edition) (rom : List ℕ) (run : List Machine) (m : ℕ) (b : Machine) → length b.ram ≡ 0x1000 → ((j : ℕ) → slice_index b.ram j < 256)
    → ((k : ℕ) → k < 128 → fetched rom (262 * m + 80 + k) run ≡ slice_range b.ram (row_start e k) (row_start e k + 8))
    → ShowsScreen e (picture_of rom run m) (state_of e b).screen
unfolding picture_of state_of
shows e rom run m b size fit scan =
    record {
      lines = lines_length rom run 128 (262 * m + 80);
      bytes = λ k line get. line_of k line (within k line get) get;
      dots = λ k x line get h. dots_of k x line (within k line get) get h;
    }
  where
    within : (k : ℕ) (line : List ℕ) → slice_get (lines_from rom run (262 * m + 80) 128) k ≡ Some line → k < 128
    within k line get = subst (λ n. k < n) (lines_length rom run 128 (262 * m + 80)) (slice_get_within (lines_from rom run (262 * m + 80) 128) k line get)

    bytes : (k : ℕ) → k < 128 → line_bytes rom run (262 * m + 80 + k) ≡ slice_range b.ram (row_start e k) (row_start e k + 8)
    bytes k some =
        ap filled (scan k some) ∙ filled_up _
        (range_length (row_start e k) (row_start e k + 8) b.ram (omega (arith, size, row_fits e k some)) ∙ eight (row_start e k))
      where
        eight : (a : ℕ) → a + 8 - a ≡ 8
        eight a = omega arith

    line_is : (k : ℕ) (line : List ℕ) → k < 128 → slice_get (lines_from rom run (262 * m + 80) 128) k ≡ Some line
        → line ≡ slice_range b.ram (row_start e k) (row_start e k + 8)
    line_is k line some get = same_Some line (line_bytes rom run (262 * m + 80 + k)) (sym get ∙ lines_get rom run 128 (262 * m + 80) k some) ∙ bytes k some

    line_of : (k : ℕ) (line : List ℕ) → k < 128 → slice_get (lines_from rom run (262 * m + 80) 128) k ≡ Some line → IsLine line
    line_of k line some get =
        subst IsLine (sym (line_is k line some get))
        (record {
          count = range_length (row_start e k) (row_start e k + 8) b.ram (omega (arith, size, row_fits e k some)) ∙ omega arith;
          fit = range_fits (row_start e k) b.ram fit;
        })

    dots_of : (k x : ℕ) (line : List ℕ) → k < 128 → slice_get (lines_from rom run (262 * m + 80) 128) k ≡ Some line → x < 64
        → dot line x ≡ pixels (rows_of e) (slice_range b.ram (screen_start e) 0x1000) x (k / lines_of e)
    dots_of k x line some get h =
        ap (λ l. dot l x) (line_is k line some get)
        ∙ dots e b.ram k some x h

-- ---- the display is on in all cycles of the frame

-- a state is outside of them, or has the display on
lit : (on t : Bool) → on ≡ true → (on || not t) ≡ true
lit on t e = rw e refl

behind_them : (on t u : Bool) → t ≡ false → (on || not (t && u)) ≡ true
behind_them true t u e = refl
behind_them false t u e = rw e refl

before_them : (on t u : Bool) → u ≡ false → (on || not (t && u)) ≡ true
before_them true t u e = refl
before_them false true u e = rw e refl
before_them false false u e = refl

module _ (e : Edition) (m i : ℕ) (held : ℕ → Keys) (first : Machine) (o : IsInterrupted e m (after_moves (rom_of timer_code e) held first i))
    (run : List Machine) where
  abbrev after : ℕ → Machine
  after j = after_moves (rom_of timer_code e) held first j

  tick : IsTick e (rom_of timer_code e) m (after i) held
  tick = run_tick e m (after i) held o

  -- k moves behind the interrupt
  on_there : (k : ℕ) → k < routine_moves → (after_moves (rom_of timer_code e) held (after i) k).on ≡ true
  on_there zero l = o.on
  on_there (suc k) l = (tick.inside (suc k) (omega arith) l).on

  is_on : (j : ℕ) → ((after j).on || not (is_within (rom_of timer_code e) run m (after j))) ≡ true
  is_on j = go (cases_lt j i) (cases_lt j (i + routine_moves))
    where
      behind : i ≤ j → after j ≡ after_moves (rom_of timer_code e) held (after i) (j - i)
      behind l = ap after split ∙ behind_moves (rom_of timer_code e) held (j - i) i first
        where
          split : j ≡ i + (j - i)
          split = omega (arith, l)

      go : (j < i) ⊎ (i ≤ j) → (j < i + routine_moves) ⊎ (i + routine_moves ≤ j)
          → ((after j).on || not (is_within (rom_of timer_code e) run m (after j))) ≡ true
      go (inl l) k =
          before_them (after j).on _ _ (le-ltb (interrupt_at m) ((after j).cycle + length_of (rom_of timer_code e) (after j))
          (omega (arith, cycle-move (rom_of timer_code e) held (after j), later_cycle (rom_of timer_code e) held first (suc j) i (omega (arith, l)), o.cycle)))
      go (inr l) (inl k) = lit (after j).on _ (ap (λ (z : Machine). z.on) (behind l) ∙ on_there (j - i) (omega (arith, l, k)))
      go (inr l) (inr k) =
          behind_them (after j).on _ _ (le-ltb (after j).cycle (window_end m)
          (omega (
            arith,
            ap (λ (z : Machine). z.cycle) (behind l),
            later_cycle (rom_of timer_code e) held (after i) routine_moves (j
                - i) (omega (arith, l, k)),
            tick.cycle,
          )))

pub run_picture : RunPicture (rom_of timer_code)
unfolding is_shown
run_picture e m i limit held first o ended =
    record {
      shown = all_in_run (rom_of timer_code e) held _ limit first (is_on e m i held first o (run_to (rom_of timer_code e) held first limit));
      shows =
          shows e (rom_of timer_code e) (run_to (rom_of timer_code e) held first limit) m (after_moves (rom_of timer_code e) held first i) o.fits.size
          o.fits.ram
          (λ k some. in_run (rom_of timer_code e) held first m i routine_moves limit o.cycle (omega arith)
          (omega (arith, (run_tick e m (after_moves (rom_of timer_code e) held first i) held o).cycle)) ended k some
          ∙ (run_scan e m (after_moves (rom_of timer_code e) held first i) held o).lines k some);
    }
