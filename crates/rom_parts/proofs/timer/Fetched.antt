-- The bytes of the DMA cycles of a run, piece by piece.
use Rattle.std.proofs.Common.{◌≡◌, ℕ, zero, suc, ◌+◌, ◌-◌, ◌/◌, ◌<◌, ◌≤◌, ◌⊎◌, inl, inr, refl, sym, ◌∙◌, ap, ap₂, subst, arith, Bool, true, false, ◌&&◌, cond, List, [], ◌∷◌, ◌++◌, filter, map, slice_index, slice_range, length, take, drop}
use Rattle.std.specs.Prelude.{◌==◌}
use Rattle.std.proofs.Math.Seq.{drop-cons}
use Rattle.std.proofs.lemmas.Bool.{eq-eqb, and_left, and_right}
use Rattle.std.proofs.lemmas.List.{map-append}
use Rattle.std.proofs.lemmas.List.Elements.{filter-append}
use Rattle.machine.specs.Bank.{value, word_of}
use Rattle.machine.specs.Signals.{dma_at, int_at}
use Rattle.machine.specs.Memory.{read}
use Rattle.machine.specs.Board.{Machine, Case, case_of, move, dma_byte}
use Rattle.machine.specs.Board.Case.{Dma}
use Rattle.machine.specs.Keys.{Keys}
use Rattle.machine.specs.Run.{states, after_moves}
use Rattle.machine.specs.Pictures.{is_dma, is_dma_in}
use Rattle.machine.proofs.Moves.{case_dma, move_in}
use Rattle.machine.proofs.Runs.{later-move}
use Rattle.rom_law.proofs.Moves.{read_ram}
use Rattle.rom_parts.specs.timer.Scan.{fetched}
use Rattle.rom_parts.proofs.timer.Board.{timed, at_byte, up_is}

pub no_case : (b : Machine) → dma_at b.cycle true ≡ false → is_dma (case_of b) ≡ false
no_case b h = go b.on refl
  where
    go : (on : Bool) → b.on ≡ on → is_dma (case_of b) ≡ false
    go true e = rw (e, h) (other (b.regs.ie && int_at b.cycle true) b.regs.idle)
      where
        other : (t u : Bool) → is_dma (cond t Case.Interrupt (cond u Case.Idle Case.Instruction)) ≡ false
        other true u = refl
        other false true = refl
        other false false = refl
    go false e = rw e (other (b.regs.ie && int_at b.cycle false) b.regs.idle)
      where
        other : (t u : Bool) → is_dma (cond t Case.Interrupt (cond u Case.Idle Case.Instruction)) ≡ false
        other true u = refl
        other false true = refl
        other false false = refl

module _ (rom : List ℕ) (held : ℕ → Keys) where
  pub move_first : (n : ℕ) (b : Machine) → after_moves rom held (move rom held b) n ≡ after_moves rom held b (suc n)
  move_first zero b = refl
  move_first (suc n) b = ap (move rom held) (move_first n b)

  pub states_join : (n k : ℕ) (b : Machine) → states rom held b (n + k) ≡ states rom held b n ++ states rom held (after_moves rom held b n) k
  states_join zero k b = ap (states rom held b) same
    where
      same : 0 + k ≡ k
      same = omega arith
  states_join (suc n) k b =
      ap (states rom held b) same ∙ ap (λ l. b ∷ l)
      (states_join n k (move rom held b) ∙ ap (λ z. states rom held (move rom held b) n ++ states rom held z k) (move_first n b))
    where
      same : suc n + k ≡ suc (n + k)
      same = omega arith

  pub fetched_append : (line : ℕ) (l r : List Machine) → fetched rom line (l ++ r) ≡ fetched rom line l ++ fetched rom line r
  fetched_append line l r =
      ap (map (dma_byte rom)) (filter-append (is_dma_in line) l r) ∙ map-append (dma_byte rom) (filter (is_dma_in line) l) (filter (is_dma_in line) r)

  pub no_earlier : (n : ℕ) (b : Machine) → b.cycle ≤ (after_moves rom held b n).cycle
  no_earlier zero b = omega arith
  no_earlier (suc n) b = omega (arith, no_earlier n b, later-move rom held (after_moves rom held b n))

  -- the cycle is in another line, or no DMA is wanted there
  abbrev pub IsPast : ℕ → ℕ → Type 0
  IsPast line u = ((u / 14 == line) ≡ false) ⊎ (dma_at u true ≡ false)

  past_one : (line : ℕ) (b : Machine) → IsPast line b.cycle → is_dma_in line b ≡ false
  past_one line b (inl h) = and_right (is_dma (case_of b)) (b.cycle / 14 == line) h
  past_one line b (inr h) = and_left (is_dma (case_of b)) (b.cycle / 14 == line) (no_case b h)

  pub none_fetched : (line n : ℕ) (b : Machine) → ((u : ℕ) → b.cycle ≤ u → u < (after_moves rom held b n).cycle → IsPast line u)
      → fetched rom line (states rom held b n) ≡ []
  none_fetched line zero b h = refl
  none_fetched line (suc n) b h =
      rw (past_one line b (h b.cycle (omega arith) (omega (arith, no_earlier n b, later-move rom held (after_moves rom held b n)))))
      (none_fetched line n (move rom held b)
      (λ u l m. h u (omega (arith, l, later-move rom held b)) (subst (λ (z : Machine). u < z.cycle) (move_first n b) m)))

  fetched_one : (line : ℕ) (b : Machine) (l : List Machine) → is_dma_in line b ≡ true → fetched rom line (b ∷ l) ≡ dma_byte rom b ∷ fetched rom line l
  fetched_one line b l h = ap (λ t. map (dma_byte rom) (cond t (b ∷ filter (is_dma_in line) l) (filter (is_dma_in line) l))) h

  -- eight DMA cycles in a line, say, from a on, where RAM is as an older RAM from an address on
  module _ (line : ℕ) (c : Machine) (clear : c.latch ≡ false) (old : List ℕ) (full : length old ≡ 0x1000) (low : ℕ) (same : (j : ℕ) → low ≤ j → slice_index c.ram j ≡ slice_index old j) where
    pub bytes_fetched : (k t a : ℕ) → low ≤ a → a + k ≤ 0x1000 → ((u : ℕ) → t ≤ u → u < t + k → (u / 14 ≡ line) × (dma_at u true ≡ true))
        → fetched rom line (states rom held (timed t (at_byte (word_of a) c)) k) ≡ slice_range old a (a + k)
    bytes_fetched zero t a from room h = none
      where
        none : [] ≡ slice_range old a (a + 0)
        none = grind arith
    bytes_fetched (suc k) t a from room h =
        fetched_one line at (states rom held (move rom held at) k) wanted
        ∙ ap₂ (λ y z. y ∷ fetched rom line (states rom held z k)) byte moves
        ∙ ap (λ l. slice_index old a ∷ l) (bytes_fetched k (t + 1) (a + 1) (omega arith) (omega arith) (λ u l m. h u (omega arith) (omega arith)))
        ∙ slices
      where
        at : Machine
        at = timed t (at_byte (word_of a) c)

        dma : case_of at ≡ Dma
        dma = case_dma at (h t (omega arith) (omega arith)).1

        wanted : is_dma_in line at ≡ true
        wanted = rw (dma, eq-eqb (t / 14) line (h t (omega arith) (omega arith)).0) refl

        moves : move rom held at ≡ timed (t + 1) (at_byte (word_of (a + 1)) c)
        moves = move_in rom held at Dma dma ∙ ap (λ w. timed (t + 1) (at_byte w c)) (up_is a (omega arith))

        address : value (word_of a) ≡ a
        address = omega arith

        byte : dma_byte rom at ≡ slice_index old a
        byte = ap₂ (λ l j. read rom l c.ram j) clear address ∙ read_ram rom c.ram a (omega arith) ∙ same a from

        slices : slice_index old a ∷ slice_range old (a + 1) (a + 1 + k) ≡ slice_range old a (a + suc k)
        slices =
            ap₂ (λ n i. slice_index old a ∷ take n (drop i old)) count next ∙ ap (take (suc k)) (sym (drop-cons old a 0 (omega (arith, full))))
            ∙ ap (λ n. take n (drop a old)) count'
          where
            count : a + 1 + k - (a + 1) ≡ k
            count = omega arith

            next : a + 1 ≡ suc a
            next = omega arith

            count' : suc k ≡ a + suc k - a
            count' = omega arith
