-- The moves of a board under another key script that holds the same keys down.
use Rattle.std.proofs.Common.{◌≡◌, ℕ, zero, suc, ◌+◌, ◌/◌, ◌<◌, Bool, true, false, List, refl, sym, ap, ◌∙◌, subst, arith}
use Rattle.std.specs.Prelude.{◌==◌, if◌then◌else◌}
use Rattle.machine.specs.Instruction.{instruction}
use Rattle.machine.specs.Keys.{Event, Keys, held_at}
use Rattle.machine.specs.Ranges.{FitsMachine, FitsRom}
use Rattle.machine.specs.Signals.{efx_at}
use Rattle.machine.specs.Opcodes.{cycles_of}
use Rattle.machine.specs.Board.{Machine, Case, case_of, acted, byte_of, flags_of, opcode_of, moved_in}
use Rattle.machine.specs.Board.Case.{Dma, Interrupt, Idle, Instruction}
use Rattle.machine.proofs.Fits.{move-fits}
use Rattle.machine.proofs.Runs.{later-move}
use Rattle.vip_board.specs.Seen.{Seen, held_by}
use Rattle.vip_board.specs.Moves.{moved, moved_by, pictures_after}
use Rattle.vip_board.specs.Alike.{under, HoldAlike}
use Rattle.vip_board.proofs.Through.{later-by}

-- a move looks at one key at most, in the cycle behind its first, and that one only where it goes on behind it
soon : (x : Bool) (t : ℕ) → t + 1 < t + (if x then 3 else 2)
soon true t = omega arith
soon false t = omega arith

in_alike : (k : Case) (rom : List ℕ) (held held' : ℕ → Keys) (b : Machine)
    → (b.cycle + 1 < (moved_in k rom held b).cycle → held (b.cycle + 1) b.key ≡ held' (b.cycle + 1) b.key)
    → moved_in k rom held b ≡ moved_in k rom held' b
in_alike Dma rom held held' b same = refl
in_alike Interrupt rom held held' b same = refl
in_alike Idle rom held held' b same = refl
in_alike Instruction rom held held' b same =
    ap (λ down. record (acted (instruction b.regs (byte_of rom b) (flags_of (efx_at (b.cycle + 1) b.on) down) 0) b) { cycle = b.cycle + cycles_of (opcode_of rom b) })
    (same (soon (opcode_of rom b / 16 == 12) b.cycle))

-- what no move changes
script-by : (n : ℕ) (s : Seen) → (moved_by n s).script ≡ s.script
script-by zero s = refl
script-by (suc n) s = script-by n s

rom-by : (n : ℕ) (s : Seen) → (moved_by n s).rom ≡ s.rom
rom-by zero s = refl
rom-by (suc n) s = rom-by n s

fits-by : (n : ℕ) (s : Seen) → FitsRom s.rom → FitsMachine s.machine → FitsMachine (moved_by n s).machine
fits-by zero s rom fits = fits
fits-by (suc n) s rom fits =
    let v = moved_by n s in move-fits v.rom (held_by v) (subst FitsRom (sym (rom-by n s)) rom) v.machine (fits-by n s rom fits)

pub moves-alike : (n : ℕ) (s : Seen) (script : List Event) → FitsRom s.rom → FitsMachine s.machine
    → HoldAlike s.machine.cycle (moved_by n s).machine.cycle s.script script → moved_by n (under script s) ≡ under script (moved_by n s)
moves-alike zero s script rom fits alike = refl
moves-alike (suc n) s script rom fits alike =
    let v = moved_by n s in
    let later = later-move v.rom (held_by v) v.machine in
    let from = later-by n s in
    let key = (fits-by n s rom fits).key in
    let same : v.machine.cycle + 1 < (moved v).machine.cycle → held_by v (v.machine.cycle + 1) v.machine.key ≡ held_at script (v.machine.cycle + 1) v.machine.key =
    λ more. ap (λ events. held_at events (v.machine.cycle + 1) v.machine.key) (script-by n s)
    ∙ alike (v.machine.cycle + 1) (omega (arith, from)) more v.machine.key key in
    ap moved (moves-alike n s script rom fits (λ t behind before. alike t behind (omega (arith, before, later))))
    ∙ ap (λ m. record (under script v) { machine = m; pictures = pictures_after v.rom v.machine v.pictures })
    (sym (in_alike (case_of v.machine) v.rom (held_by v) (held_at script) v.machine same))
