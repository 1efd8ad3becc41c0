-- By the law of a run its pictures are those of all frames whose windows end before it does.
use Rattle.std.proofs.Common.{◌≡◌, ℕ, suc, ◌+◌, ◌-◌, ◌≤◌, ◌∙◌, ap, ap₂, arith, List, [], ◌∷◌}
use Rattle.machine.specs.Board.{Machine}
use Rattle.machine.specs.Keys.{Event as KeyEvent}
use Rattle.machine.specs.Pictures.{windows_ended}
use Rattle.machine.proofs.Counts.{windows}
use Rattle.chip8_lang.specs.Events.{Event, numbers_from}
use Rattle.chip8_lang.specs.Events.Event.{Picture, Dispatch, Stopped}
use Rattle.rom_law.specs.Language.{Also, GoesOn, Begins, frames_of, end_cycle}
use Rattle.rom_law.specs.Program.{Program}

-- the numbers from k up to, and without, n
abbrev up_to : ℕ → ℕ → List ℕ
up_to k n = numbers_from k (n - k)

no_more : (k n : ℕ) → n ≡ k → [] ≡ up_to k n
no_more k n e = ap (numbers_from k) none
  where
    none : 0 ≡ n - k
    none = omega (arith, e)

one_more : (k m n : ℕ) → m ≡ k → k + 1 ≤ n → (l : List ℕ) → l ≡ up_to (k + 1) n → m ∷ l ≡ up_to k n
one_more k m n same room l e = ap₂ (λ y z. y ∷ z) same e ∙ ap (numbers_from k) count
  where
    count : suc (n - (k + 1)) ≡ n - k
    count = omega (arith, room)

module _ (x : Program) (script : List KeyEvent) (limit : ℕ) (run : List Machine) (also : Also) where
  record AllOf (k : ℕ) (events : List Event) : Type 0 where
    from : k ≤ windows_ended (end_cycle limit events)
    are : frames_of events ≡ up_to k (windows_ended (end_cycle limit events))

  all_of : (k : ℕ) (b : Machine) (events : List Event) → b.cycle ≤ limit → GoesOn x script limit run also k b events → AllOf k events
  all_of k b [] here g = record { from = omega (arith, g.shown here); are = no_more k (windows_ended limit) (g.shown here) }
  all_of k b (Picture m ∷ events) here g =
      let a = all_of (k + 1) b events here g.2 in
      record { from = omega (arith, a.from); are = one_more k m _ g.0 a.from _ a.are }
  all_of k b (Dispatch c ∷ events) here g = let a = all_of k c events g.0.within g.2 in record { from = a.from; are = a.are }
  all_of k b (Stopped c ∷ events) here g =
      record { from = omega (arith, g.comes.shown); are = ap frames_of g.last ∙ no_more k (windows_ended c.cycle) g.comes.shown }

  -- behind a dispatch point
  pub frames_on :
      (k : ℕ) (b : Machine) (events : List Event) → b.cycle ≤ limit → GoesOn x script limit run also k b events
      → frames_of events ≡ numbers_from k (windows_ended (end_cycle limit events) - k)
  frames_on k b events here g = (all_of k b events here g).are

  -- and from reset
  pub frames_begin :
      (game : List ℕ) (events : List Event) → Begins x script limit run also game events
      → frames_of events ≡ numbers_from 0 (windows_ended (end_cycle limit events))
  frames_begin game [] g = ap (numbers_from 0) none
    where
      none : 0 ≡ windows_ended limit
      none = omega (arith, windows limit, g.0)
  frames_begin game (Picture m ∷ events) g = absurd g
  frames_begin game (Dispatch b ∷ events) g = (all_of 0 b events g.2 g.3).are ∙ ap (numbers_from 0) same
    where
      same : windows_ended (end_cycle limit events) - 0 ≡ windows_ended (end_cycle limit events)
      same = omega arith
  frames_begin game (Stopped b ∷ events) g = absurd g
