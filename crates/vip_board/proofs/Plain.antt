-- An instruction that tests no flag and uses no port, and in whose cycles the video chip has nothing to do but count.
use Rattle.std.proofs.Common.{◌≡◌, ℕ, zero, suc, ◌+◌, ◌/◌, ◌<◌, Bool, true, false, ◌&&◌, refl, sym, ap, ◌∙◌, subst, arith}
use Rattle.std.specs.Prelude.{◌==◌, if◌then◌else◌, Option, Some, None}
use Rattle.machine.specs.declared.Kind.{Kind}
use Rattle.machine.specs.declared.Kind.TheVariants.{Idl, B1, B2, B3, B4, Bn1, Bn2, Bn3, Bn4, Out, Inp}
use Rattle.machine.specs.Opcodes.{kind_of, opcode_number, cycles_of}
use Rattle.machine.specs.Instruction.{Regs, Effect, Inputs, Port, at, stepped, effect, executed, inputs}
use Rattle.machine.specs.Keys.{held_at}
use Rattle.machine.specs.Memory.{read}
use Rattle.machine.specs.Signals.{efx_at}
use Rattle.machine.specs.Board.{Machine, on_after, key_after, latch_after, ram_after, flags_of, opcode_of}
use Rattle.machine.specs.Board.Case.{Instruction as InstructionCase}
use Rattle.machine.proofs.Flags.{reads_flags, effect_flags}
use Rattle.vip_cpu.specs.Acts.{Acts}
use Rattle.vip_cpu.specs.Cycle.{Processor, after, ended}
use Rattle.vip_cpu.specs.Groups.{is_plain, plain_cycles}
use Rattle.vip_cpu.specs.declared.cpu.Phase.TheVariants.{Boundary}
use Rattle.vip_video.specs.Chip.{Pictures}
use Rattle.vip_video.specs.Quiet.{IsQuiet}
use Rattle.vip_board.specs.Seen.{Seen}
use Rattle.vip_board.specs.Moves.{moved, later, scanned_over, Works}
use Rattle.vip_board.specs.Wired.{seen_of, after_calls}
use Rattle.vip_board.specs.declared.wires.Wires.{Wires}
use Rattle.vip_board.proofs.Calls.{Writes, Sends, Receives, calls-are, bytes, flags}
use Rattle.vip_board.proofs.Cases.{resting, moved-rests, moved-in}
use Rattle.vip_board.proofs.Whole.{Fetches, is_instruction}

plain_flags : (k : Kind) → is_plain k ≡ true → reads_flags k ≡ false
plain_flags B1 h = cc
plain_flags B2 h = cc
plain_flags B3 h = cc
plain_flags B4 h = cc
plain_flags Bn1 h = cc
plain_flags Bn2 h = cc
plain_flags Bn3 h = cc
plain_flags Bn4 h = cc
plain_flags _ h = refl

plain_port : (k : Kind) (n : ℕ) (s : Regs) (i : Inputs) → is_plain k ≡ true → (effect k n s i).port ≡ None
plain_port Out n s i h = cc
plain_port Inp n s i h = cc
plain_port _ n s i h = refl

plain_idle : (k : Kind) (n : ℕ) (s : Regs) (i : Inputs) → is_plain k ≡ true → (effect k n s i).regs.idle ≡ s.idle
plain_idle Idl n s i h = cc
plain_idle _ n s i h = refl

-- what a length by the table of plain opcodes says
by_length : (b : Bool) (n m : ℕ) → n ≡ (if b then m else 0) → (n ≡ 0 → ⊥) → (b ≡ true) × (n ≡ m)
by_length true n m e h = (refl, e)
by_length false n m e h = absurd (h e)

pub plain-length : (opcode n : ℕ) → n ≡ plain_cycles opcode → (n ≡ 0 → ⊥) → (is_plain (kind_of opcode) ≡ true) × (n ≡ cycles_of opcode)
plain-length opcode n = by_length (is_plain (kind_of opcode)) n (cycles_of opcode)

-- ---- what the video chip makes of quiet cycles

over : (n t : ℕ) (on before : Bool) (p : Pictures) → ((k : ℕ) → k < n → IsQuiet on before p.shown (t + k)) → scanned_over n t on None p ≡ p
over zero t on before p quiet = refl
over (suc n) t on before p quiet =
    let here : t + 0 ≡ t = omega arith in
    let later : (k : ℕ) → k < n → IsQuiet on before p.shown (t + 1 + k) =
    λ k l. let same : t + suc k ≡ t + 1 + k = omega arith in subst (IsQuiet on before p.shown) same (quiet (suc k) (omega (arith, l))) in
    ap (scanned_over n (t + 1) on None) ((subst (IsQuiet on before p.shown) here (quiet 0 (omega arith))).pictures p refl) ∙ over n (t + 1) on before p later

fetches : (b : Machine) (before shown : Bool) → b.regs.idle ≡ false → IsQuiet b.on before shown b.cycle → Fetches b
fetches b before shown awake q = record { no_dma = q.dma; no_int = never b.regs.ie q.int; awake = awake }
  where
    never : (ie : Bool) {x : Bool} → x ≡ false → (ie && x) ≡ false
    never true e = e
    never false e = refl

-- ---- the instruction

some_cycles : (x : Bool) → 0 < (if x then 3 else 2)
some_cycles true = omega arith
some_cycles false = omega arith

-- what the processor and the wires are after it
abbrev pub Did : {K : Type 0} → Processor → Wires K → ℕ → Processor → Wires K → ℕ → Type 0
Did cpu w taken q v opcode =
    let c = ended opcode (stepped cpu.regs cpu.regs.p) (bytes w) (flags w) taken in (q ≡ after c) × Acts Writes Sends Receives c.effect taken w v

module _ {K : Type 0} (cpu : Processor) (w v : Wires K) (taken : ℕ) (q : Processor) (opcode : ℕ) (plain : is_plain (kind_of opcode) ≡ true) (did : Did cpu w taken q v opcode) where
  abbrev pub regs : Regs
  regs = stepped cpu.regs cpu.regs.p

  abbrev pub given : Inputs
  given = inputs regs (bytes w) (flags w) taken

  abbrev pub made : Effect
  made = executed opcode regs given

  no_port : made.port ≡ None
  no_port = plain_port (kind_of opcode) (opcode_number opcode) regs given plain

  not_both : {A : Type 0} {x : A} (o : Option A) → o ≡ None → o ≡ Some x → ⊥
  not_both o h g = let never : None ≡ Some _ = sym h ∙ g in cc

  calls : (taken ≡ 0) × (v ≡ after_calls made.port made.write w)
  calls = let c = calls-are made.port made.write taken w v (λ port byte h. absurd (not_both made.port no_port h)) did.1 in (c.0, c.1)

  pub plain-wires : v ≡ after_calls None made.write w
  plain-wires = calls.1 ∙ ap (λ port. after_calls port made.write w) no_port

  awake : q.regs.idle ≡ cpu.regs.idle
  awake = ap (λ (x : Processor). x.regs.idle) did.0 ∙ plain_idle (kind_of opcode) (opcode_number opcode) regs given plain

  -- where p cycles before it aren't counted yet
  module _ (p n : ℕ) (boundary : cpu.phase ≡ Boundary) (active : cpu.regs.idle ≡ false) where
    abbrev s : Seen
    s = later (seen_of cpu w) p

    abbrev b : Machine
    b = s.machine

    abbrev flags_then : ℕ → Bool
    flags_then = flags_of (efx_at (b.cycle + 1) b.on) (held_at s.script (b.cycle + 1) b.key)

    -- the effect of the whole instruction
    abbrev effect_now : Effect
    effect_now = executed opcode regs (inputs regs (bytes w) flags_then 0)

    -- after an effect that uses no port
    abbrev after_effect : Effect → ℕ → Seen
    after_effect e t = resting s.rom s.script (record b { regs = e.regs; ram = ram_after e.write b.latch b.ram; cycle = t }) s.pictures

    same : made ≡ effect_now
    same =
        ap (λ t. executed opcode regs (inputs regs (bytes w) (flags w) t)) calls.0
        ∙ sym (effect_flags (kind_of opcode) (opcode_number opcode) regs (inputs regs (bytes w) (flags w) 0) flags_then (plain_flags (kind_of opcode) plain))

    module _ (is_opcode : opcode ≡ opcode_of s.rom b) (long : n ≡ cycles_of opcode) (quiet : (k : ℕ) → k < n → IsQuiet b.on b.on s.pictures.shown (b.cycle + k)) (some : 0 < n) where
      abbrev landed : Effect → Option Port → ℕ → Pictures → Seen
      landed e port m x =
          resting s.rom s.script
          (record b {
            regs = e.regs;
            ram = ram_after e.write b.latch b.ram;
            latch = latch_after port b.latch;
            on = on_after port b.on;
            key = key_after port b.key;
            cycle = b.cycle + m;
          })
          x

      abbrev effect_of : ℕ → Effect
      effect_of o = executed o regs (inputs regs (bytes w) flags_then 0)

      moves : after_effect effect_now (b.cycle + n) ≡ moved s
      moves =
          let here : b.cycle + 0 ≡ b.cycle = omega arith in
          let f = fetches b b.on s.pictures.shown active (subst (IsQuiet b.on b.on s.pictures.shown) here (quiet 0 some)) in
          let none : effect_now.port ≡ None = plain_port (kind_of opcode) (opcode_number opcode) regs _ plain in
          ap (λ port. landed effect_now port n s.pictures) (sym none)
          ∙ ap (landed effect_now effect_now.port n) (sym (over n b.cycle b.on b.on s.pictures quiet))
          ∙ ap (λ m. landed effect_now effect_now.port m (scanned_over m b.cycle b.on None s.pictures)) long
          ∙ ap (λ o. landed (effect_of o) (effect_of o).port (cycles_of o) (scanned_over (cycles_of o) b.cycle b.on None s.pictures)) is_opcode
          ∙ sym (moved-in s.rom s.script b s.pictures InstructionCase (is_instruction b f))
          ∙ moved-rests s boundary

      whole : later (seen_of q v) (p + n) ≡ moved s
      whole =
          let count : w.video.cycles + (p + n) ≡ b.cycle + n = omega arith in
          ap (λ x. later (seen_of x v) (p + n)) did.0
          ∙ ap (λ x. later (seen_of (record { regs = made.regs; phase = Boundary }) x) (p + n)) plain-wires
          ∙ ap (after_effect made) count
          ∙ ap (λ e. after_effect e (b.cycle + n)) same
          ∙ moves

-- said of a board
pub plain-works : {K : Type 0} (cpu : Processor) (w v : Wires K) (s : Seen) (n opcode taken : ℕ) (q : Processor) → seen_of cpu w ≡ s → s.phase ≡ Boundary
    → s.machine.regs.idle ≡ false → opcode ≡ read w.memory.rom w.memory.latch w.memory.ram (at s.machine.regs s.machine.regs.p) → n ≡ cycles_of opcode
    → is_plain (kind_of opcode) ≡ true → Did cpu w taken q v opcode → Works n s (seen_of q v)
plain-works cpu w v s n opcode taken q view h active op long plain did =
    let some : 0 < n = subst (λ m. 0 < m) (sym long) (some_cycles (opcode / 16 == 0xc)) in
    let phase : cpu.phase ≡ Boundary = ap (λ (x : Seen). x.phase) view ∙ h in
    let rests : cpu.regs.idle ≡ false = ap (λ (x : Seen). x.machine.regs.idle) view ∙ active in
    let same : opcode ≡ opcode_of w.memory.rom (seen_of cpu w).machine =
    op ∙ ap (read w.memory.rom w.memory.latch w.memory.ram) (sym (ap (λ (x : Seen). at x.machine.regs x.machine.regs.p) view)) in
    let wires = plain-wires cpu w v taken q opcode plain did in
    subst (λ x. Works n x (seen_of q v)) view
    (record {
      moved = λ p quiet. whole cpu w v taken q opcode plain did p n phase rests same long quiet some;
      cycle = ap (λ (x : Wires _). x.video.cycles) wires;
      on = ap (λ (x : Wires _). x.video.on) wires;
      awake = awake cpu w v taken q opcode plain did;
      phase = ap (λ (x : Processor). x.phase) did.0 ∙ sym phase;
      pictures = ap (λ (x : Wires _). x.video.pictures) wires;
    })
