-- A move whose instruction can't change a watched byte leaves all of them.
use Rattle.std.proofs.Common.{◌≡◌, ◌≢◌, ℕ, zero, suc, ◌+◌, ◌-◌, ◌<◌, Bool, true, false, ◌&&◌, List, ◌∷◌, refl, sym, ap, ◌∙◌, subst, arith, min, Some, None, Option}
use Rattle.std.specs.Prelude.{◌==◌, if◌then◌else◌, nat_lt}
use Rattle.std.proofs.lemmas.Bool.{le-leb, lt-ltb}
use Rattle.machine.specs.Board.{Machine, Case, case_of, byte_of, move, moved_in, flags_of, latch_after, ram_after}
use Rattle.machine.specs.Board.Case.{Dma, Interrupt, Idle, Instruction}
use Rattle.machine.specs.Instruction.{Regs, Inputs, Effect, at, effect, inputs, stepped}
use Rattle.machine.specs.Keys.{Keys}
use Rattle.machine.specs.Memory.{read}
use Rattle.machine.specs.Opcodes.{kind_of, opcode_number}
use Rattle.machine.specs.Signals.{efx_at}
use Rattle.machine.specs.declared.Kind.{Kind}
use Rattle.machine.specs.declared.Kind.TheVariants.{Str, Inp, Stxd, Sav, Mark, Out}
use Rattle.vip_board.specs.Laws.{read-keeps}
use Rattle.vip_board.specs.Moves.{StartsInstruction}
use Rattle.vip_debug.specs.BoardShown.{bytes_from, stretch}
use Rattle.vip_debug.specs.Watching.{holds, may_change_by, may_change}
use Rattle.vip_debug.specs.declared.watched.Watched.{Watched}

-- it writes to no watched byte, and the latch stays
record Leaves (w : Watched) (latch : Bool) (e : Effect) : Type 0 where
  write : (address byte : ℕ) → e.write ≡ Some (address, byte) → holds w address ≡ false
  latch_stays : latch_after e.port latch ≡ latch

nothing : (w : Watched) (address byte : ℕ) → ◌≡◌ {A = Option (ℕ × ℕ)} None (Some (address, byte)) → holds w address ≡ false
nothing w address byte h = cc

there : (w : Watched) (a v address byte : ℕ) → holds w a ≡ false → ◌≡◌ {A = Option (ℕ × ℕ)} (Some (a, v)) (Some (address, byte)) → holds w address ≡ false
there w a v address byte misses is =
    let pair : ◌≡◌ {A = ℕ × ℕ} (a, v) (address, byte) = cc in
    subst (λ x. holds w x ≡ false) (ap (λ (p : ℕ × ℕ). p.0) pair) misses

cleared : (n : ℕ) (latch : Bool) → ((n == 4) && latch) ≡ false → (if n == 4 then false else latch) ≡ latch
cleared n true h = by_test (n == 4) h
  where
    by_test : (t : Bool) → (t && true) ≡ false → (if t then false else true) ≡ true
    by_test true e = cc
    by_test false e = refl
cleared n false h = by_test (n == 4)
  where
    by_test : (t : Bool) → (if t then false else false) ≡ false
    by_test true = refl
    by_test false = refl

leaves : (k : Kind) (n : ℕ) (w : Watched) (s : Regs) (i : Inputs) (latch : Bool) → may_change_by k n w s latch ≡ false → Leaves w latch (effect k n (stepped s s.p) i)
leaves Str n w s i latch h = record { write = λ address byte is. there w _ _ address byte h is; latch_stays = refl }
leaves Inp n w s i latch h = record { write = λ address byte is. there w _ _ address byte h is; latch_stays = refl }
leaves Stxd n w s i latch h = record { write = λ address byte is. there w _ _ address byte h is; latch_stays = refl }
leaves Sav n w s i latch h = record { write = λ address byte is. there w _ _ address byte h is; latch_stays = refl }
leaves Mark n w s i latch h = record { write = λ address byte is. there w _ _ address byte h is; latch_stays = refl }
leaves Out n w s i latch h = record { write = λ address byte is. nothing w address byte is; latch_stays = cleared n latch h }
leaves _ n w s i latch h = record { write = λ address byte is. nothing w address byte is; latch_stays = refl }

-- what a watched address reads behind its write
reads_on : (rom : List ℕ) (w : Watched) (ram : List ℕ) (latch : Bool) (write : Option (ℕ × ℕ)) → ((address byte : ℕ) → write ≡ Some (address, byte) → holds w address ≡ false)
    → (address : ℕ) → holds w address ≡ true → read rom latch (ram_after write latch ram) address ≡ read rom latch ram address
reads_on rom w ram latch None misses address held = refl
reads_on rom w ram latch (Some (a, v)) misses address held = read-keeps ram rom latch a v address other
  where
    other : address ≢ a
    other same = let e : true ≡ false = sym held ∙ ap (holds w) same ∙ misses a v refl in cc

-- the opcode at R(P), and its effect
abbrev opcode : List ℕ → Machine → ℕ
opcode rom b = byte_of rom b (at b.regs b.regs.p)

abbrev inputs_of : List ℕ → (ℕ → Keys) → Machine → Inputs
inputs_of rom held b =
    inputs (stepped b.regs b.regs.p) (byte_of rom b) (flags_of (efx_at (b.cycle + 1) b.on) (held (b.cycle + 1) b.key)) 0

abbrev effect_of : List ℕ → (ℕ → Keys) → Machine → Effect
effect_of rom held b = effect (kind_of (opcode rom b)) (opcode_number (opcode rom b)) (stepped b.regs b.regs.p) (inputs_of rom held b)

module _ (rom : List ℕ) (held : ℕ → Keys) (w : Watched) (b : Machine)
    (apart : StartsInstruction b → may_change w b.regs (record { ram = b.ram; rom = rom; latch = b.latch }) ≡ true → ⊥) where
  leaves_by : (k : Case) → case_of b ≡ k → (address : ℕ) → holds w address ≡ true → byte_of rom (moved_in k rom held b) address ≡ byte_of rom b address
  leaves_by Dma is address held_there = refl
  leaves_by Interrupt is address held_there = refl
  leaves_by Idle is address held_there = refl
  leaves_by Instruction is address held_there =
      let code = opcode rom b in
      let e = leaves (kind_of code) (opcode_number code) w b.regs (inputs_of rom held b) b.latch (not_true _ (apart is)) in
      ap (λ latch. read rom latch (ram_after (effect_of rom held b).write b.latch b.ram) address) e.latch_stays
      ∙ reads_on rom w b.ram b.latch (effect_of rom held b).write e.write address held_there
    where
      not_true : (x : Bool) → (x ≡ true → ⊥) → x ≡ false
      not_true true h = absurd (h refl)
      not_true false h = refl

  pub byte-stays : (address : ℕ) → holds w address ≡ true → byte_of rom (move rom held b) address ≡ byte_of rom b address
  byte-stays = leaves_by (case_of b) refl

  stretch_by : (address count : ℕ) → ((k : ℕ) → k < count → holds w (address + k) ≡ true)
      → bytes_from (byte_of rom (move rom held b)) address count ≡ bytes_from (byte_of rom b) address count
  stretch_by address zero all = refl
  stretch_by address (suc count) all =
      let first : address + 0 ≡ address = omega arith in
      ap (λ x. x ∷ bytes_from (byte_of rom (move rom held b)) (address + 1) count) (byte-stays address (subst (λ a. holds w a ≡ true) first (all 0 (omega arith))))
      ∙ ap (λ xs. byte_of rom b address ∷ xs)
      (stretch_by (address + 1) count
      (λ k l. let next : address + suc k ≡ address + 1 + k = omega arith in subst (λ a. holds w a ≡ true) next (all (suc k) (omega (arith, l)))))

-- the bytes that are watched
pub stretch-stays : (rom : List ℕ) (held : ℕ → Keys) (address count : ℕ) (b : Machine)
    → (StartsInstruction b → may_change (record { address = address; count = count }) b.regs (record { ram = b.ram; rom = rom; latch = b.latch }) ≡ true → ⊥)
    → stretch (byte_of rom (move rom held b)) address count ≡ stretch (byte_of rom b) address count
stretch-stays rom held address count b apart =
    stretch_by rom held (record { address = address; count = count }) b apart address (min (min count 4096) (0x10000 - address))
    (λ k l. rw (le-leb address (address + k) (omega arith)) (inside k l))
  where
    inside : (k : ℕ) → k < min (min count 4096) (0x10000 - address) → nat_lt (address + k - address) count ≡ true
    inside k l = lt-ltb (address + k - address) count (omega (arith, l))
