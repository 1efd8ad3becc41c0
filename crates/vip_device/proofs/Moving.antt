-- The moves of a board, one after another.
use Rattle.std.proofs.Common.{◌≡◌, ◌+◌, ◌≤◌, ◌<◌, ◌∙◌, ap, sym, refl, subst, arith, ℕ, zero, suc, List, lit≤}
use Rattle.machine.specs.Board.{Machine, move}
use Rattle.machine.specs.Keys.{Event, held_at}
use Rattle.machine.specs.Run.{after_moves}
use Rattle.machine.proofs.Runs.{later-move}
use Rattle.vip_board.specs.Seen.{Seen, held_by}
use Rattle.machine.specs.Ranges.{FitsMachine, FitsRom}
use Rattle.vip_board.specs.Alike.{HoldAlike, under}
use Rattle.vip_board.proofs.Alike.{moves-alike}
use Rattle.vip_board.specs.Moves.{moved, moved_by, name_of, IfDone}
use Rattle.vip_board.specs.declared.board.Moved.{Moved}
use Rattle.vip_board.specs.declared.board.Moved.TheVariants.{Done, End}

pub phase-by : (n : ℕ) (s : Seen) → (moved_by n s).phase ≡ s.phase
phase-by zero s = refl
phase-by (suc n) s = phase-by n s

pub rom-by : (n : ℕ) (s : Seen) → (moved_by n s).rom ≡ s.rom
rom-by zero s = refl
rom-by (suc n) s = rom-by n s

script-by : (n : ℕ) (s : Seen) → (moved_by n s).script ≡ s.script
script-by zero s = refl
script-by (suc n) s = script-by n s

pub later-by : (n : ℕ) (s : Seen) → s.machine.cycle + n ≤ (moved_by n s).machine.cycle
later-by zero s = omega arith
later-by (suc n) s = let v = moved_by n s in omega (arith, later-by n s, later-move v.rom (held_by v) v.machine)

pub more-by : (b a : ℕ) (s : Seen) → moved_by b (moved_by a s) ≡ moved_by (a + b) s
more-by zero a s = let same : a ≡ a + 0 = omega arith in ap (λ k. moved_by k s) same
more-by (suc b) a s = let next : suc (a + b) ≡ a + suc b = omega arith in ap moved (more-by b a s) ∙ ap (λ k. moved_by k s) next

-- the machine of a board is that of the definition after as many moves
pub machine-by : (n : ℕ) (s : Seen) → (moved_by n s).machine ≡ after_moves s.rom (held_by s) s.machine n
machine-by zero s = refl
machine-by (suc n) s =
    let v = moved_by n s in
    ap (λ (rom : List ℕ). move rom (held_at v.script) v.machine) (rom-by n s)
    ∙ ap (λ (script : List Event). move s.rom (held_at script) v.machine) (script-by n s)
    ∙ ap (move s.rom (held_by s)) (machine-by n s)

-- so many moves of a board
abbrev pub Moves : Seen → Seen → Type 0
Moves s v = (n : ℕ) × (v ≡ moved_by n s)

pub no-moves : (s : Seen) → Moves s s
no-moves s = (0, refl)

pub moves-more : (s v w : Seen) (m : ℕ) → Moves s v → w ≡ moved_by m v → Moves s w
moves-more s v w m h e = (h.0 + m, e ∙ ap (moved_by m) h.1 ∙ more-by m h.0 s)

pub moves-phase : (s v : Seen) → Moves s v → v.phase ≡ s.phase
moves-phase s v h = ap (λ (x : Seen). x.phase) h.1 ∙ phase-by h.0 s

-- what is written from a board that was made of a machine, after so many moves
after : (s v : Seen) (w b : Machine) (rom : List ℕ) (script : List Event) → s.machine ≡ b → s.rom ≡ rom → s.script ≡ script → w ≡ v.machine
    → (n : ℕ) → v ≡ moved_by n s → w ≡ after_moves rom (held_at script) b n
after s v w b rom script eb er es ew n h =
    ew ∙ ap (λ (x : Seen). x.machine) h ∙ machine-by n s
    ∙ ap (λ (x : List ℕ). after_moves x (held_by s) s.machine n) er
    ∙ ap (λ (x : List Event). after_moves rom (held_at x) s.machine n) es
    ∙ ap (λ (x : Machine). after_moves rom (held_at script) x n) eb

pub machine-of : (s v : Seen) (w b : Machine) (rom : List ℕ) (script : List Event) → s.machine ≡ b → s.rom ≡ rom → s.script ≡ script → w ≡ v.machine
    → Moves s v → (n : ℕ) × (w ≡ after_moves rom (held_at script) b n)
machine-of s v w b rom script eb er es ew h = (h.0, after s v w b rom script eb er es ew h.0 h.1)

-- after one move at most
pub one-of : (s v : Seen) (w b : Machine) (rom : List ℕ) (script : List Event) → s.machine ≡ b → s.rom ≡ rom → s.script ≡ script → w ≡ v.machine
    → (m : Moved) → (m ≡ End → v ≡ s) → IfDone m (λ x. (v ≡ moved s) × (x ≡ name_of s.machine))
    → (n : ℕ) × ((n ≤ 1) × (w ≡ after_moves rom (held_at script) b n))
one-of s v w b rom script eb er es ew (Done x) kept done = (1, (lit≤ tt, after s v w b rom script eb er es ew 1 done.0))
one-of s v w b rom script eb er es ew End kept done = (0, (lit≤ tt, after s v w b rom script eb er es ew 0 (kept refl)))

-- the same under each script that holds the same keys down meanwhile
pub alike-of : (s v : Seen) (w b : Machine) (rom : List ℕ) (events script : List Event) → s.machine ≡ b → s.rom ≡ rom → s.script ≡ events
    → w ≡ v.machine → Moves s v → FitsRom rom → FitsMachine b → HoldAlike b.cycle w.cycle events script
    → (n : ℕ) × (w ≡ after_moves rom (held_at script) b n)
alike-of s v w b rom events script eb er es ew h fits_rom fits alike =
    let n = h.0 in
    let along : HoldAlike s.machine.cycle (moved_by n s).machine.cycle s.script script =
    λ t from until k low. ap (λ (e : List Event). held_at e t k) es
    ∙ alike t (omega (arith, ap (λ (m : Machine). m.cycle) eb, from))
    (omega (arith, ap (λ (m : Machine). m.cycle) ew, ap (λ (x : Seen). x.machine.cycle) h.1, until)) k low in
    let same : moved_by n (under script s) ≡ under script (moved_by n s) =
    moves-alike n s script (subst FitsRom (sym er) fits_rom) (subst FitsMachine (sym eb) fits) along in (
      n,
      ew ∙ ap (λ (x : Seen). x.machine) h.1 ∙ sym (ap (λ (x : Seen). x.machine) same) ∙ machine-by n (under script s)
          ∙ ap (λ (x : List ℕ). after_moves x (held_at script) s.machine n) er
          ∙ ap (λ (x : Machine). after_moves rom (held_at script) x n) eb,
    )
