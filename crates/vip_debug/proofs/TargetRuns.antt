-- How many moves a board makes up to a cycle, by the state of its run in which it is.
use Rattle.std.proofs.Common.{◌≡◌, ◌⊎◌, inl, inr, ℕ, zero, suc, ◌+◌, ◌-◌, ◌<◌, ◌≤◌, Bool, true, false, List, [], ◌∷◌, length, refl, sym, ap, ◌∙◌, arith, add-one}
use Rattle.std.specs.Prelude.{if◌then◌else◌}
use Rattle.std.proofs.lemmas.Bool.{cases_lt}
use Rattle.machine.specs.Board.{Machine, length_of, move}
use Rattle.machine.specs.Keys.{Event, held_at}
use Rattle.machine.specs.Run.{run_to}
use Rattle.machine.proofs.Runs.{cycle-move, later-move, run_to-next, run_to-past}
use Rattle.vip_board.specs.Moves.{moved}
use Rattle.vip_board.specs.Seen.{Seen}
use Rattle.vip_cpu.specs.declared.cpu.Phase.TheVariants.{Boundary}
use Rattle.vip_debug.specs.TargetRun.{Run, state_of, up_to_end, moves_until}
use Rattle.vip_debug.specs.TargetRun as run

-- ---- the states up to the end

module _ (r : Run) (limit : ℕ) where
  abbrev at_move : ℕ → Machine
  at_move n = state_of r n

  abbrev from_move : ℕ → List Machine
  from_move n = up_to_end r.ends (run_to r.rom (held_at r.script) (at_move n) limit)

  goes_on : (stop : Bool) (b : Machine) (bs : List Machine) → stop ≡ false → (if stop then b ∷ [] else b ∷ bs) ≡ b ∷ bs
  goes_on false b bs h = refl
  goes_on true b bs h = cc

  stops : (stop : Bool) (b : Machine) (bs : List Machine) → stop ≡ true → (if stop then b ∷ [] else b ∷ bs) ≡ b ∷ []
  stops true b bs h = refl
  stops false b bs h = cc

  some : (stop : Bool) (b : Machine) (bs : List Machine) → 1 ≤ length (if stop then b ∷ [] else b ∷ bs)
  some true b bs = omega arith
  some false b bs = omega arith

  one : (stop : Bool) (b : Machine) → length (if stop then b ∷ [] else b ∷ []) ≡ 1
  one true b = refl
  one false b = refl

  here : (n : ℕ) → (at_move n).cycle ≤ limit → from_move n ≡ (if r.ends (at_move n) then at_move n ∷ [] else at_move n ∷ from_move (suc n))
  unfolding up_to_end
  here n within = ap (up_to_end r.ends) (run_to-next r.rom (held_at r.script) limit (at_move n) within)

  past : (n : ℕ) → limit < (at_move n).cycle → from_move n ≡ []
  unfolding up_to_end
  past n over = ap (up_to_end r.ends) (run_to-past r.rom (held_at r.script) limit (at_move n) over)

  pub all-moves : (n : ℕ) → (at_move n).cycle ≤ limit → ((k : ℕ) → k < n → r.ends (at_move k) ≡ false) → length (from_move 0) ≡ n + length (from_move n)
  all-moves zero within runs = omega arith
  all-moves (suc n) within runs =
      let first : (at_move n).cycle ≤ limit = omega (arith, within, later-move r.rom (held_at r.script) (at_move n)) in
      let before : length (from_move 0) ≡ n + length (from_move n) = all-moves n first (λ k l. runs k (omega (arith, l))) in
      let next : length (from_move n) ≡ suc (length (from_move (suc n))) =
      ap length (here n first ∙ goes_on (r.ends (at_move n)) (at_move n) (from_move (suc n)) (runs n (omega arith))) in
      omega (arith, before, next)

  pub some-here : (n : ℕ) → (at_move n).cycle ≤ limit → 1 ≤ length (from_move n)
  some-here n within = rw (here n within) (some (r.ends (at_move n)) (at_move n) (from_move (suc n)))

  pub stop-here : (n : ℕ) → (at_move n).cycle ≤ limit → r.ends (at_move n) ≡ true → length (from_move n) ≡ 1
  stop-here n within stop = ap length (here n within ∙ stops (r.ends (at_move n)) (at_move n) (from_move (suc n)) stop)

  pub last-here : (n : ℕ) → (at_move n).cycle ≤ limit → limit < (at_move (suc n)).cycle → length (from_move n) ≡ 1
  last-here n within over =
      ap length (here n within ∙ ap (λ bs. if r.ends (at_move n) then at_move n ∷ [] else at_move n ∷ bs) (past (suc n) over))
      ∙ one (r.ends (at_move n)) (at_move n)

  -- a state that comes by the limit, and not behind the end
  pub record Reached (n : ℕ) : Type 0 where
    pub within : (at_move n).cycle ≤ limit
    pub runs : (k : ℕ) → k < n → r.ends (at_move k) ≡ false

  pub reached-next : (n : ℕ) → Reached n → r.ends (at_move n) ≡ false → (at_move (suc n)).cycle ≤ limit → Reached (suc n)
  reached-next n before runs within = record { within = within; runs = λ k l. by_case k l (cases_lt k n) }
    where
      by_case : (k : ℕ) → k < suc n → (k < n) ⊎ (n ≤ k) → r.ends (at_move k) ≡ false
      by_case k l (inl below) = before.runs k below
      by_case k l (inr above) = let same : k ≡ n = omega (arith, above, l) in ap (λ m. r.ends (at_move m)) same ∙ runs

  -- each of the states up to the end is one
  pub reached : (n : ℕ) → n < length (from_move 0) → Reached n
  reached zero some = record { within = by_test (cases_lt limit (at_move 0).cycle); runs = λ k l. absurd (omega (arith, l)) }
    where
      by_test : (limit < (at_move 0).cycle) ⊎ ((at_move 0).cycle ≤ limit) → (at_move 0).cycle ≤ limit
      by_test (inl over) = absurd (omega (arith, some, ap length (past 0 over)))
      by_test (inr within) = within
  reached (suc n) some = on (reached n (omega (arith, some))) (r.ends (at_move n)) refl (cases_lt limit (at_move (suc n)).cycle)
    where
      on : Reached n → (stop : Bool) → r.ends (at_move n) ≡ stop → (limit < (at_move (suc n)).cycle) ⊎ ((at_move (suc n)).cycle ≤ limit) → Reached (suc n)
      on before true stop far = absurd (omega (arith, some, all-moves n before.within before.runs, stop-here n before.within stop))
      on before false runs (inl over) = absurd (omega (arith, some, all-moves n before.within before.runs, last-here n before.within over))
      on before false runs (inr within) = reached-next n before runs within

  fewer : (ends : Machine → Bool) (bs : List Machine) → length (up_to_end ends bs) ≤ length bs
  unfolding up_to_end
  fewer ends [] = omega arith
  fewer ends (b ∷ bs) = by_test (ends b) (fewer ends bs)
    where
      by_test : (stop : Bool) → length (up_to_end ends bs) ≤ length bs → length (if stop then b ∷ [] else b ∷ up_to_end ends bs) ≤ length (b ∷ bs)
      by_test true h = omega arith
      by_test false h = omega (arith, h)

  -- all states of the run, up to the end and behind it
  abbrev states_from : ℕ → List Machine
  states_from n = run_to r.rom (held_at r.script) (at_move n) limit

  pub all-states : (n : ℕ) → (at_move n).cycle ≤ limit → length (states_from 0) ≡ n + length (states_from n)
  all-states zero within = omega arith
  all-states (suc n) within =
      let first : (at_move n).cycle ≤ limit = omega (arith, within, later-move r.rom (held_at r.script) (at_move n)) in
      omega (arith, all-states n first, ap length (run_to-next r.rom (held_at r.script) limit (at_move n) first))

  pub short : (n : ℕ) → limit < (at_move n).cycle → length (states_from 0) ≤ n
  short zero over = omega (arith, ap length (run_to-past r.rom (held_at r.script) limit (at_move 0) over))
  short (suc n) over = by_test (short n) (cases_lt limit (at_move n).cycle)
    where
      by_test : (limit < (at_move n).cycle → length (states_from 0) ≤ n) → (limit < (at_move n).cycle) ⊎ ((at_move n).cycle ≤ limit)
          → length (states_from 0) ≤ suc n
      by_test shorter (inl earlier) = omega (arith, shorter earlier)
      by_test shorter (inr within) =
          omega (
            arith,
            all-states n within,
            ap length (run_to-next r.rom (held_at r.script) limit (at_move n) within),
            ap length
                (run_to-past r.rom (held_at r.script) limit (at_move (suc n)) over),
          )

  few-moves : length (from_move 0) ≤ length (states_from 0)
  few-moves = fewer r.ends (states_from 0)

  pub until : moves_until r limit ≡ length (from_move 0) - 1
  unfolding moves_until
  until = refl

  -- the moves from a state on, which comes by the limit or later
  abbrev later : ℕ → Run
  later n = record r { first = at_move n }

  later_until : (n : ℕ) → moves_until (later n) limit ≡ length (from_move n) - 1
  unfolding moves_until
  later_until n = refl

  pub until-from : (n : ℕ) → Reached n → moves_until r limit ≡ n + moves_until (later n) limit
  until-from n before = omega (arith, until, later_until n, all-moves n before.within before.runs, some-here n before.within)

  pub until-past : (n : ℕ) → limit < (at_move n).cycle → moves_until (later n) limit ≡ 0
  until-past n over = omega (arith, later_until n, ap length (past n over))

  -- no more moves are made than there are in the run up to the limit
  pub made-few : moves_until r limit ≤ length (states_from 0) - 1
  made-few = omega (arith, until, few-moves)

  -- the run has a state up to a cycle by which one comes, and this is the last where all moves are made
  pub some-run : (n : ℕ) → (at_move n).cycle ≤ limit → 1 ≤ length (states_from 0)
  some-run n within = omega (arith, all-states n within, ap length (run_to-next r.rom (held_at r.script) limit (at_move n) within))

  pub all-within : (n : ℕ) → 1 ≤ length (states_from 0) → n ≤ length (states_from 0) - 1 → (at_move n).cycle ≤ limit
  all-within n some made = by_test (cases_lt limit (at_move n).cycle)
    where
      by_test : (limit < (at_move n).cycle) ⊎ ((at_move n).cycle ≤ limit) → (at_move n).cycle ≤ limit
      by_test (inl over) = absurd (omega (arith, short n over, some, made))
      by_test (inr within) = within

-- ---- where a board is

-- the run, how many of its moves were made, and the board
pub record Progress : Type 0 where
  pub run : Run
  pub made : ℕ
  pub board : Seen

-- the board is the state of the run after these moves, which isn't behind its end
pub record Stands (p : Progress) : Type 0 where
  pub phase : p.board.phase ≡ Boundary
  pub rom : p.board.rom ≡ p.run.rom
  pub script : p.board.script ≡ p.run.script
  pub machine : p.board.machine ≡ state_of p.run p.made
  pub goes_on : (k : ℕ) → k < p.made → p.run.ends (state_of p.run k) ≡ false

abbrev pub Rests : ℕ → Progress → Type 0
Rests limit p = run.Rests p.run.ends limit p.board

-- after the board's next move
abbrev pub next : Progress → Progress
next p = record { run = p.run; made = p.made + 1; board = moved p.board }

module _ (p : Progress) (s : Stands p) where
  abbrev now : ℕ
  now = p.board.machine.cycle

  cycle_is : now ≡ (state_of p.run p.made).cycle
  cycle_is = ap (λ (b : Machine). b.cycle) s.machine

  pub longer : now < now + length_of p.board.rom p.board.machine
  longer = omega (arith, cycle-move p.board.rom (held_at p.board.script) p.board.machine, later-move p.board.rom (held_at p.board.script) p.board.machine)

  next_cycle : (state_of p.run (suc p.made)).cycle ≡ now + length_of p.board.rom p.board.machine
  next_cycle =
      cycle-move p.run.rom (held_at p.run.script) (state_of p.run p.made)
      ∙ ap (λ (b : Machine). b.cycle + length_of p.run.rom b) (sym s.machine)
      ∙ ap (λ rom. now + length_of rom p.board.machine) (sym s.rom)

  module _ (limit : ℕ) where
    -- no more moves are made than there are
    pub made-most : now ≤ limit → p.made ≤ moves_until p.run limit
    made-most within =
        let there : (state_of p.run p.made).cycle ≤ limit = omega (arith, cycle_is, within) in
        omega (arith, until p.run limit, all-moves p.run limit p.made there s.goes_on, some-here p.run limit p.made there)

    -- where the board rests all are made
    pub made-all : now ≤ limit → Rests limit p → p.made ≡ moves_until p.run limit
    made-all within (inl stop) =
        let there : (state_of p.run p.made).cycle ≤ limit = omega (arith, cycle_is, within) in
        omega (
          arith,
          until p.run limit,
          all-moves p.run limit p.made there s.goes_on,
          stop-here p.run limit p.made there
              (ap p.run.ends (sym s.machine) ∙ stop),
        )
    made-all within (inr over) =
        let there : (state_of p.run p.made).cycle ≤ limit = omega (arith, cycle_is, within) in
        omega (arith, until p.run limit, all-moves p.run limit p.made there s.goes_on, last-here p.run limit p.made there (omega (arith, next_cycle, over)))

    -- up to a cycle before the present one there are no others
    pub made-before : limit < now → moves_until p.run limit ≤ p.made
    made-before over = omega (arith, until p.run limit, few-moves p.run limit, short p.run limit p.made (omega (arith, over, cycle_is)))

  -- by its cycle
  pub made-now : p.made ≡ moves_until p.run now
  made-now = made-all now (omega arith) (inr longer)

  -- ---- the next move

  pub next-later : now < (next p).board.machine.cycle
  next-later = later-move p.board.rom (held_at p.board.script) p.board.machine

  pub next-within : (limit : ℕ) → (Rests limit p → ⊥) → (next p).board.machine.cycle ≤ limit
  next-within limit moves = by_test (cases_lt limit (now + length_of p.board.rom p.board.machine))
    where
      by_test : (limit < now + length_of p.board.rom p.board.machine) ⊎ (now + length_of p.board.rom p.board.machine ≤ limit)
          → (next p).board.machine.cycle ≤ limit
      by_test (inl over) = absurd (moves (inr over))
      by_test (inr within) = omega (arith, within, cycle-move p.board.rom (held_at p.board.script) p.board.machine)

  machine_next : (next p).board.machine ≡ state_of p.run (p.made + 1)
  machine_next =
      ap (λ rom. move rom (held_at p.board.script) p.board.machine) s.rom
      ∙ ap (λ (script : List Event). move p.run.rom (held_at script) p.board.machine) s.script
      ∙ ap (move p.run.rom (held_at p.run.script)) s.machine
      ∙ ap (state_of p.run) (sym (add-one p.made))

  runs_here : (limit : ℕ) → (Rests limit p → ⊥) → p.run.ends (state_of p.run p.made) ≡ false
  runs_here limit moves = by_test (p.run.ends p.board.machine) refl
    where
      by_test : (stop : Bool) → p.run.ends p.board.machine ≡ stop → p.run.ends (state_of p.run p.made) ≡ false
      by_test true stop = absurd (moves (inl stop))
      by_test false runs = ap p.run.ends (sym s.machine) ∙ runs

  pub stands-next : (limit : ℕ) → (Rests limit p → ⊥) → Stands (next p)
  stands-next limit moves =
      record { phase = s.phase; rom = s.rom; script = s.script; machine = machine_next; goes_on = λ k l. by_case k l (cases_lt k p.made) }
    where
      by_case : (k : ℕ) → k < p.made + 1 → (k < p.made) ⊎ (p.made ≤ k) → p.run.ends (state_of p.run k) ≡ false
      by_case k l (inl below) = s.goes_on k below
      by_case k l (inr above) = let same : k ≡ p.made = omega (arith, above, l) in ap (λ m. p.run.ends (state_of p.run m)) same ∙ runs_here limit moves
