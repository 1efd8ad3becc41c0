-- One line of a run, and what is left behind it.
use Rattle.std.proofs.Common.{◌≡◌, ℕ, zero, suc, ◌+◌, ◌-◌, ◌<◌, ◌≤◌, List, [], ◌∷◌, ◌++◌, Bool, true, false, refl, append_assoc, sym, ap, ◌∙◌, subst, arith}
use Rattle.std.specs.List.{flat_map}
use Rattle.asm_core.specs.Origins.{Origins}
use Rattle.machine.specs.Board.{Machine}
use Rattle.machine.specs.Keys.{Keys, held_at}
use Rattle.machine.specs.Run.{states, after_moves}
use Rattle.vip_board.specs.Seen.{Seen, held_by}
use Rattle.vip_program.specs.Lines.{end_behind, line_of, labels_before}
use Rattle.vip_program.specs.Moves.{goes_on, machine_after, MakesStretch, TakesLine}
use Rattle.vip_program.specs.Trace.{share, stretches, moves_to, labelled, lines, lines_of, moves_ahead}
use Rattle.vip_program.proofs.Runs.{rom-by, script-by, machine-by, moves-many, moves-rest}
use Rattle.vip_program.proofs.Stretches.{Apart, states-append, stretch}

module _ (rom : List ℕ) (held : ℕ → Keys) (limit : ℕ) where
  -- the next moves that are left, if there are any, begin another line
  apart-left : (last c : Machine) (left : ℕ) → (0 < left → share last c ≡ false) → Apart last (states rom held c left)
  unfolding Apart
  apart-left last c zero ends = tt
  apart-left last c (suc n) ends = ends (omega arith)

  -- the line of a stretch, and then those of the others
  first_line : (n left : ℕ) (b : Machine)
      → ((k : ℕ) → k < n → share (after_moves rom held b k) (after_moves rom held b (suc k)) ≡ true)
      → (0 < left → share (after_moves rom held b n) (after_moves rom held b (suc n)) ≡ false)
      → (origins : Origins)
      → lines rom held origins b (suc n + left)
      ≡ labels_before origins b ++ (line_of rom held (states rom held b (suc n)) ++ end_behind origins rom b) ∷ lines rom held origins (after_moves rom held b (suc n)) left
  unfolding lines
  first_line n left b shared ends origins =
      ap (λ moves. flat_map (labelled rom held origins) (stretches moves)) (states-append rom held (suc n) left b)
      ∙ ap (flat_map (labelled rom held origins))
      (stretch rom held n b (states rom held (after_moves rom held b (suc n)) left) shared
      (apart-left (after_moves rom held b n) (after_moves rom held b (suc n)) left ends))
      ∙ append_assoc (labels_before origins b) ((line_of rom held (states rom held b (suc n)) ++ end_behind origins rom b) ∷ [])
      (lines rom held origins (after_moves rom held b (suc n)) left)

  -- where some moves are left, the next is made
  some_left : (c : Machine) → c.cycle ≤ limit → 0 < moves_to rom held c limit → goes_on limit rom c ≡ true
  some_left c here some = by_test (goes_on limit rom c) refl
    where
      by_test : (t : Bool) → goes_on limit rom c ≡ t → goes_on limit rom c ≡ true
      by_test true e = e
      by_test false e = absurd (let none = moves-rest rom held limit c here e in omega (arith, none, some))

module _ (count limit : ℕ) (old new : Seen) (made : ℕ) (m : MakesStretch count limit old new made) (here : old.machine.cycle ≤ limit) where
  rom_is : new.rom ≡ old.rom
  rom_is = ap (λ (s : Seen). s.rom) m.makes.moved ∙ rom-by old made

  held_is : held_by new ≡ held_by old
  held_is = ap (λ (s : Seen). held_at s.script) m.makes.moved ∙ ap held_at (script-by old made)

  machine_is : new.machine ≡ machine_after old made
  machine_is = ap (λ (s : Seen). s.machine) m.makes.moved ∙ machine-by old made

  abbrev left : ℕ
  left = moves_to new.rom (held_by new) new.machine limit

  -- the moves of the run are those of this line and those that are left
  all : moves_to old.rom (held_by old) old.machine limit ≡ made + left
  all =
      moves-many old.rom (held_by old) limit made old.machine here m.makes.goes
      ∙ sym (ap (λ n. made + n) (ap (λ rom. moves_to rom (held_by new) new.machine limit) rom_is ∙ ap (λ held. moves_to old.rom held new.machine limit) held_is
      ∙ ap (λ c. moves_to old.rom (held_by old) c limit) machine_is))

  -- of those that are asked for
  abbrev rest : ℕ
  rest = moves_ahead new limit (count - made)

  ahead_is : moves_ahead old limit count ≡ made + moves_ahead new limit (count - made)
  ahead_is = let e = all in let few = m.few in omega (arith, e, few)

  pub takes : (line : List ℕ) → line ≡ line_of old.rom (held_by old) (states old.rom (held_by old) old.machine made) → TakesLine count limit old new line made
  takes line is = record {
    some = m.some;
    moved = m.makes.moved;
    within = m.makes.within;
    ahead = ahead_is;
    first = λ origins. ap (lines_of origins old) ahead_is ∙ first origins;
  }
    where
      ends_here : 0 < rest → share (machine_after old (made - 1)) (machine_after old made) ≡ false
      ends_here some = subst (λ c. share (machine_after old (made - 1)) c ≡ false) machine_is
          (m.ends (omega (arith, some)) (some_left new.rom (held_by new) limit new.machine m.makes.within (omega (arith, some))))

      behind : (origins : Origins) → lines_of origins new rest ≡ lines old.rom (held_by old) origins (machine_after old made) rest
      behind origins =
          ap (λ rom. lines rom (held_by new) origins new.machine rest) rom_is ∙ ap (λ held. lines old.rom held origins new.machine rest) held_is
          ∙ ap (λ c. lines old.rom (held_by old) origins c rest) machine_is

      by_number : (origins : Origins) (n : ℕ) → made ≡ suc n
          → lines_of origins old (made + rest)
          ≡ labels_before origins old.machine ++ (line ++ end_behind origins old.rom old.machine) ∷ lines old.rom (held_by old) origins (machine_after old made) rest
      by_number origins n e =
          let before : made - 1 ≡ n = omega (arith, e) in
          subst (λ k. lines_of origins old (k + rest)
          ≡ labels_before origins old.machine ++ (line ++ end_behind origins old.rom old.machine) ∷ lines old.rom (held_by old) origins (machine_after old k) rest) (sym e)
          (first_line old.rom (held_by old) limit n rest old.machine (λ k l. m.shared k (omega (arith, e, l)))
          (λ some. subst (λ k. share (machine_after old k) (machine_after old (suc n)) ≡ false) before
          (subst (λ k. share (machine_after old (made - 1)) (machine_after old k) ≡ false) e (ends_here some))) origins
          ∙ ap (λ l. labels_before origins old.machine ++ (l ++ end_behind origins old.rom old.machine) ∷ lines old.rom (held_by old) origins (machine_after old (suc n)) rest)
          (sym (is ∙ ap (λ k. line_of old.rom (held_by old) (states old.rom (held_by old) old.machine k)) e)))

      first : (origins : Origins)
          → lines_of origins old (made + rest) ≡ labels_before origins old.machine ++ (line ++ end_behind origins old.rom old.machine) ∷ lines_of origins new rest
      first origins =
          by_number origins (made - 1) (let some = m.some in omega (arith, some))
          ∙ ap (λ tail. labels_before origins old.machine ++ (line ++ end_behind origins old.rom old.machine) ∷ tail) (sym (behind origins))
