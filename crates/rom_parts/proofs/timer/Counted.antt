-- The DMA cycles of the interrupt routine, counted line by line.
use Rattle.std.proofs.Common.{◌≡◌, ℕ, zero, suc, ◌+◌, ◌*◌, ◌/◌, ◌<◌, ◌≤◌, ◌⊎◌, inl, inr, refl, ◌∙◌, ap, ap₂, subst, arith, Bool, true, false, ◌&&◌, cond, nat_lt, List, [], ◌∷◌, filter, length}
use Rattle.std.proofs.lemmas.Bool.{cases_eq, cases_lt, lt-ltb, le-ltb, eq-eqb, ne_eqb, and_left, and_right}
use Rattle.std.proofs.lemmas.List.{length-map}
use Rattle.machine.specs.Board.{Machine, case_of, dma_byte, move}
use Rattle.machine.specs.Keys.{Keys}
use Rattle.machine.specs.Run.{states, after_moves}
use Rattle.machine.specs.Pictures.{interrupt_at, is_dma, is_dma_in}
use Rattle.machine.proofs.Runs.{later-move}
use Rattle.chip8_lang.specs.Timed.{routine_cycles}
use Rattle.rom_parts.specs.timer.Scan.{fetched, is_dma_cycle}
use Rattle.rom_parts.proofs.timer.Fetched.{move_first, no_case, no_earlier}
use Rattle.rom_parts.proofs.timer.Frame.{no_dma_in}

-- ---- any states

-- the state makes a DMA cycle in a line before this one, counted since reset
abbrev is_dma_before : ℕ → Machine → Bool
is_dma_before line b = is_dma (case_of b) && nat_lt (b.cycle / 14) line

-- one state more: it is in a line before this one, in this line, or in neither
module _ (s : Machine) (a b c : List Machine) (sum : length a ≡ length b + length c) where
  abbrev Adds : Bool → Bool → Bool → Type 0
  Adds t u v = length (cond t (s ∷ a) a) ≡ length (cond u (s ∷ b) b) + length (cond v (s ∷ c) c)

  before_it : (dma : Bool) → Adds (dma && true) (dma && true) (dma && false)
  before_it true = omega (arith, sum)
  before_it false = sum

  in_it : (dma : Bool) → Adds (dma && true) (dma && false) (dma && true)
  in_it true = omega (arith, sum)
  in_it false = sum

  in_neither : (dma : Bool) → Adds (dma && false) (dma && false) (dma && false)
  in_neither true = sum
  in_neither false = sum

-- those before the next line are those before this one and those in it
abbrev AddsLine : ℕ → List Machine → Type 0
AddsLine line l = length (filter (is_dma_before (line + 1)) l) ≡ length (filter (is_dma_before line) l) + length (filter (is_dma_in line) l)

module _ (line : ℕ) (s : Machine) (l : List Machine) where
  abbrev c : ℕ
  c = s.cycle / 14

  one_more : (c < line) ⊎ (line ≤ c) → (c ≡ line) ⊎ (c ≡ line → ⊥) → AddsLine line l → AddsLine line (s ∷ l)
  one_more (inl h) d sum =
      rw (lt-ltb c (line + 1) (omega (arith, h)), lt-ltb c line h, ne_eqb c line (λ e. omega (arith, e, h)))
      (before_it s (filter (is_dma_before (line + 1)) l) (filter (is_dma_before line) l) (filter (is_dma_in line) l) sum (is_dma (case_of s)))
  one_more (inr h) (inl e) sum =
      rw (lt-ltb c (line + 1) (omega (arith, e)), le-ltb c line h, eq-eqb c line e)
      (in_it s (filter (is_dma_before (line + 1)) l) (filter (is_dma_before line) l) (filter (is_dma_in line) l) sum (is_dma (case_of s)))
  one_more (inr h) (inr d) sum =
      rw (le-ltb c (line + 1) (omega (arith, h, d)), le-ltb c line h, ne_eqb c line d)
      (in_neither s (filter (is_dma_before (line + 1)) l) (filter (is_dma_before line) l) (filter (is_dma_in line) l) sum (is_dma (case_of s)))

one_line : (line : ℕ) (l : List Machine) → AddsLine line l
one_line line [] = refl
one_line line (s ∷ l) = one_more line s l (cases_lt (s.cycle / 14) line) (cases_eq (s.cycle / 14) line) (one_line line l)

none : (l : List Machine) → filter (λ s. false) l ≡ []
none [] = refl
none (s ∷ l) = none l

and_true : (t : Bool) → t ≡ (t && true)
and_true true = refl
and_true false = refl

-- ---- the states of a run

module _ (rom : List ℕ) (held : ℕ → Keys) where
  -- two tests that agree in the time of these states take the same ones
  same_taken : (p q : Machine → Bool) (n : ℕ) (b : Machine)
      → ((s : Machine) → b.cycle ≤ s.cycle → s.cycle < (after_moves rom held b n).cycle → p s ≡ q s)
      → filter p (states rom held b n) ≡ filter q (states rom held b n)
  same_taken p q zero b h = refl
  same_taken p q (suc n) b h =
      ap₂ (λ t l. cond t (b ∷ l) l)
      (h b (omega arith) (omega (arith, no_earlier rom held n b, later-move rom held (after_moves rom held b n))))
      (same_taken p q n (move rom held b)
      (λ s l m. h s (omega (arith, l, later-move rom held b)) (subst (λ (z : Machine). s.cycle < z.cycle) (move_first rom held n b) m)))

  -- n moves from the interrupt of frame m to the routine's return, with eight DMA cycles in each line of the window
  module _
      (m n : ℕ) (b : Machine) (from : b.cycle ≡ interrupt_at m) (end : (after_moves rom held b n).cycle ≡ interrupt_at m + routine_cycles)
      (eight : (k : ℕ) → k < 128 → length (fetched rom (262 * m + 80 + k) (states rom held b n)) ≡ 8) where
    abbrev run : List Machine
    run = states rom held b n

    abbrev top : ℕ
    top = 262 * m + 80

    none_above : filter (is_dma_before top) run ≡ []
    none_above = same_taken (is_dma_before top) (λ s. false) n b (λ s l h. early s l (cases_lt (s.cycle / 14) top)) ∙ none run
      where
        early : (s : Machine) → b.cycle ≤ s.cycle → (s.cycle / 14 < top) ⊎ (top ≤ s.cycle / 14) → is_dma_before top s ≡ false
        early s l (inl h) = and_left (is_dma (case_of s)) (nat_lt (s.cycle / 14) top) (no_case s (no_dma_in s.cycle (inl (omega (arith, l, from, h)))))
        early s l (inr h) = and_right (is_dma (case_of s)) (nat_lt (s.cycle / 14) top) (le-ltb (s.cycle / 14) top h)

    none_below : filter is_dma_cycle run ≡ filter (is_dma_before (top + 128)) run
    none_below = same_taken is_dma_cycle (is_dma_before (top + 128)) n b (λ s l h. late s (omega (arith, h, end)) (cases_lt (s.cycle / 14) (top + 128)))
      where
        late : (s : Machine) → s.cycle < interrupt_at m + routine_cycles → (s.cycle / 14 < top + 128) ⊎ (top + 128 ≤ s.cycle / 14)
            → is_dma_cycle s ≡ is_dma_before (top + 128) s
        late s l (inl h) = rw (lt-ltb (s.cycle / 14) (top + 128) h) (and_true (is_dma (case_of s)))
        late s l (inr h) = rw (no_case s (no_dma_in s.cycle (inr (omega (arith, l, h))))) refl

    in_lines : (k : ℕ) → k ≤ 128 → length (filter (is_dma_before (top + k)) run) ≡ 8 * k
    in_lines zero l = ap (λ z. length (filter (is_dma_before z) run)) same ∙ ap length none_above
      where
        same : top + 0 ≡ top
        same = omega arith
    in_lines (suc k) l =
        ap (λ z. length (filter (is_dma_before z) run)) next ∙ one_line (top + k) run
        ∙ omega (arith, in_lines k (omega (arith, l)), length-map (filter (is_dma_in (top + k)) run) (dma_byte rom), eight k (omega (arith, l)))
      where
        next : top + suc k ≡ top + k + 1
        next = omega arith

    pub counted : length (filter is_dma_cycle run) ≡ 1024
    counted = ap length none_below ∙ in_lines 128 (omega arith)
