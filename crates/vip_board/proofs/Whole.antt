-- The cycles of an instruction, one after another, make the whole of it.
use Rattle.std.proofs.Common.{◌≡◌, ◌+◌, ◌-◌, ◌/◌, ℕ, List, Bool, true, false, ◌&&◌, cond, if◌then◌else◌, refl, sym, ap, ◌∙◌, arith}
use Rattle.std.specs.Prelude.{◌==◌, None}
use Rattle.machine.specs.Opcodes.{cycles_of}
use Rattle.machine.specs.Instruction.{Regs, Effect, at, stepped}
use Rattle.machine.specs.Board.{Machine, case_of, acted, main_move, length_of, opcode_of, byte_of, flags_of}
use Rattle.machine.specs.Board.Case.{Instruction as InstructionCase}
use Rattle.vip_cpu.specs.Cycle.{quiet, Cycle}
use Rattle.vip_cpu.specs.declared.cpu.Phase.TheVariants.{Boundary, Middle}
use Rattle.vip_cpu.specs.declared.cpu.Did.TheVariants.{Fetch, Execute}
use Rattle.machine.specs.Keys.{Event, held_at}
use Rattle.vip_video.specs.Chip.{Pictures, scanned}
use Rattle.vip_board.specs.Seen.{Seen, cycled, cycle_of}
use Rattle.machine.specs.Signals.{dma_at, int_at, efx_at}
use Rattle.vip_board.specs.Moves.{name_of, moved, scanned_over}
use Rattle.vip_board.specs.declared.board.Move.TheVariants.{Instruction}
use Rattle.machine.proofs.Moves.{case_instruction, length_of_in}
use Rattle.vip_board.proofs.Flags.{executed-flags}
use Rattle.vip_board.proofs.Cases.{by_fetch, resting, rests, moved-rests, moved-in}

-- what holds where the first cycle is a fetch
pub record Fetches (b : Machine) : Type 0 where
  pub no_dma : dma_at b.cycle b.on ≡ false
  pub no_int : (b.regs.ie && int_at b.cycle b.on) ≡ false
  pub awake : b.regs.idle ≡ false

pub fetches : (rom : List ℕ) (script : List Event) (b : Machine) (p : Pictures) → (cycle_of (resting rom script b p)).did ≡ Fetch → Fetches b
fetches rom script b p h =
    let t = by_fetch (dma_at b.cycle b.on) (b.regs.ie && int_at b.cycle b.on) b.regs.idle b.regs (byte_of rom b) h in
    record { no_dma = t.0; no_int = t.1; awake = t.2 }

pub is_instruction : (b : Machine) → Fetches b → case_of b ≡ InstructionCase
is_instruction b f = case_instruction b f.no_dma f.no_int f.awake

pub name_of-fetch : (b : Machine) → Fetches b → name_of b ≡ Instruction (at b.regs b.regs.p)
name_of-fetch b f = rw (is_instruction b f)

abbrev pub fetched : List ℕ → Machine → Machine
fetched rom b = record b { regs = stepped b.regs b.regs.p; cycle = b.cycle + 1 }

module _ (rom : List ℕ) (script : List Event) (b : Machine) (p : Pictures) (f : Fetches b) where
  -- the board after the fetch
  abbrev middle : ℕ → Seen
  middle n =
      record {
        machine = fetched rom b;
        phase = Middle (opcode_of rom b) (n - 1);
        pictures = scanned b.cycle b.on None p;
        rom = rom;
        script = script;
      }

  cycled-fetch : cycled (resting rom script b p) ≡ middle (cycles_of (opcode_of rom b))
  cycled-fetch = rw (f.no_dma, f.no_int, f.awake)

  -- what a whole instruction makes, in n cycles
  abbrev made : ℕ → Seen
  made n =
      resting rom script
      (record (main_move rom (efx_at (b.cycle + 1) b.on) (held_at script (b.cycle + 1)) b) { cycle = b.cycle + n })
      (scanned_over n b.cycle b.on None p)

  moved-fetch : moved (resting rom script b p) ≡ made (cycles_of (opcode_of rom b))
  moved-fetch = moved-in rom script b p InstructionCase (is_instruction b f)

  last_of_two : (n : ℕ) → n ≡ 2 → cycled (middle n) ≡ made n
  last_of_two n e =
      let later : b.cycle + 1 + 1 ≡ b.cycle + 2 = omega arith in
      rw e (ap (λ t. record (made 2) { machine = record (made 2).machine { cycle = t } }) later)

  two : cycles_of (opcode_of rom b) ≡ 2 → cycled (cycled (resting rom script b p)) ≡ moved (resting rom script b p)
  two h = ap cycled cycled-fetch ∙ last_of_two _ h ∙ sym moved-fetch

  last_of_three : (n : ℕ) → n ≡ 3 → (cycles_of (opcode_of rom b) == 2) ≡ false → cycled (cycled (middle n)) ≡ made n
  last_of_three n e h =
      let later : b.cycle + 1 + 1 + 1 ≡ b.cycle + 3 = omega arith in
      let same =
      executed-flags (opcode_of rom b) h (stepped b.regs b.regs.p) (byte_of rom b)
      (flags_of (efx_at (b.cycle + 1 + 1) b.on) (held_at script (b.cycle + 1 + 1) b.key))
      (flags_of (efx_at (b.cycle + 1) b.on) (held_at script (b.cycle + 1) b.key)) 0 in
      rw e
      (ap (λ (x : Effect). resting rom script (record (acted x (fetched rom b)) { cycle = b.cycle + 1 + 1 + 1 }) (scanned_over 3 b.cycle b.on None p)) same
      ∙ ap (λ t. record (made 3) { machine = record (made 3).machine { cycle = t } }) later)

  three : cycles_of (opcode_of rom b) ≡ 3 → cycled (cycled (cycled (resting rom script b p))) ≡ moved (resting rom script b p)
  three h = ap (λ s. cycled (cycled s)) cycled-fetch ∙ last_of_three _ h (ap (λ k. k == 2) h) ∙ sym moved-fetch

  length_of-fetch : length_of rom b ≡ cycles_of (opcode_of rom b)
  length_of-fetch = length_of_in rom (held_at script) b InstructionCase (is_instruction b f)

abbrev three_or_two : Bool → ℕ
three_or_two x = cond x 3 2

by_test : (x : Bool) → (three_or_two x ≡ 3 → ⊥) → three_or_two x ≡ 2
by_test true h = absurd (h refl)
by_test false h = refl

pub fetches_of : (s : Seen) → s.phase ≡ Boundary → (cycle_of s).did ≡ Fetch → Fetches s.machine
fetches_of s h d = fetches s.rom s.script s.machine s.pictures (sym (ap (λ x. (cycle_of x).did) (rests s h)) ∙ d)

pub make_two : (s : Seen) (n : ℕ) → s.phase ≡ Boundary → (cycle_of s).did ≡ Fetch → n ≡ length_of s.rom s.machine → (n ≡ 3 → ⊥) → cycled (cycled s) ≡ moved s
make_two s n h d l short =
    let f = fetches_of s h d in
    let len : n ≡ cycles_of (opcode_of s.rom s.machine) = l ∙ length_of-fetch s.rom s.script s.machine s.pictures f in
    let is_two = by_test (opcode_of s.rom s.machine / 16 == 12) (λ e. short (len ∙ e)) in
    ap (λ x. cycled (cycled x)) (rests s h) ∙ two s.rom s.script s.machine s.pictures f is_two ∙ moved-rests s h

pub make_three : (s : Seen) (n : ℕ) → s.phase ≡ Boundary → (cycle_of s).did ≡ Fetch → n ≡ length_of s.rom s.machine → n ≡ 3
    → cycled (cycled (cycled s)) ≡ moved s
make_three s n h d l e =
    let f = fetches_of s h d in
    let is_three : cycles_of (opcode_of s.rom s.machine) ≡ 3 = sym (l ∙ length_of-fetch s.rom s.script s.machine s.pictures f) ∙ e in
    ap (λ x. cycled (cycled (cycled x))) (rests s h) ∙ three s.rom s.script s.machine s.pictures f is_three ∙ moved-rests s h

-- ---- where it stands after its fetch, and where one of three cycles stands after its second one

not_boundary : (opcode left : ℕ) → Middle opcode left ≡ Boundary → ⊥
not_boundary opcode left e = cc

left_of_three : (opcode n : ℕ) (c : Cycle) (s : Regs) → n ≡ 3 → (if n - 1 == 1 then c else quiet s (Middle opcode (n - 1 - 1)) Execute).phase ≡ Middle opcode 1
left_of_three opcode n c s e = rw e

pub is-fetched : (s : Seen) → s.phase ≡ Boundary → (cycle_of s).did ≡ Fetch → (cycled s).phase ≡ Boundary → ⊥
is-fetched s h d e =
    let f = fetches_of s h d in
    let is = ap cycled (rests s h) ∙ cycled-fetch s.rom s.script s.machine s.pictures f in
    not_boundary (opcode_of s.rom s.machine) (cycles_of (opcode_of s.rom s.machine) - 1) (sym (ap (λ (x : Seen). x.phase) is) ∙ e)

pub is-going : (s : Seen) (n : ℕ) → s.phase ≡ Boundary → (cycle_of s).did ≡ Fetch → n ≡ length_of s.rom s.machine → n ≡ 3
    → (cycled (cycled s)).phase ≡ Boundary → ⊥
is-going s n h d l three e =
    let f = fetches_of s h d in
    let is_three : cycles_of (opcode_of s.rom s.machine) ≡ 3 = sym (l ∙ length_of-fetch s.rom s.script s.machine s.pictures f) ∙ three in
    let is = ap (λ x. cycled (cycled x)) (rests s h) ∙ ap cycled (cycled-fetch s.rom s.script s.machine s.pictures f) in
    not_boundary (opcode_of s.rom s.machine) 1
    (sym (ap (λ (x : Seen). x.phase) is ∙ left_of_three (opcode_of s.rom s.machine) (cycles_of (opcode_of s.rom s.machine)) _ _ is_three) ∙ e)
