-- The calls of a machine cycle make of the wires what the cycle's effect makes of the machine.
use Rattle.std.proofs.Common.{◌≡◌, ◌-◌, ◌∙◌, ℕ, Bool, true, false, if◌then◌else◌, refl, ap, sym, subst}
use Rattle.std.specs.Prelude.{◌==◌, Option, Some, None}
use Rattle.machine.specs.Opcodes.{kind_of, opcode_number}
use Rattle.machine.specs.Instruction.{Regs, Effect, Port, inputs}
use Rattle.machine.specs.Instruction.Port.{Send, Receive}
use Rattle.machine.specs.Memory.{read}
use Rattle.machine.specs.Keys.{held_at}
use Rattle.machine.specs.Signals.{int_at, dma_at, efx_at}
use Rattle.machine.specs.Board.{byte_of, flags_of}
use Rattle.machine.proofs.Ports.{send-writes_nothing}
use Rattle.vip_cpu.specs.Acts.{Calls, Acts}
use Rattle.vip_cpu.specs.Cycle.{Processor, Cycle, after, quiet, next_of, begun_as, begun, ended, cycle_in, cycle}
use Rattle.vip_cpu.specs.declared.cpu.Next.{Next}
use Rattle.vip_cpu.specs.declared.cpu.Next.TheVariants.{Dma as NextDma, Interrupt as NextInterrupt, Idle as NextIdle, Fetch as NextFetch}
use Rattle.vip_cpu.specs.declared.cpu.Phase.{Phase}
use Rattle.vip_cpu.specs.declared.cpu.Phase.TheVariants.{Boundary, Middle}
use Rattle.vip_cpu.specs.declared.cpu.Did.{Did}
use Rattle.vip_cpu.specs.declared.cpu.Did.TheVariants.{Execute}
use Rattle.vip_video.specs.Chip.{Chip, ended as video_ended}
use Rattle.vip_board.specs.Seen.{Seen, byte_in, cycle_of, cycled}
use Rattle.vip_board.specs.Wired.{seen_of, after_port, after_write, after_calls}
use Rattle.vip_board.specs.declared.wires.Wires.{Wires}

-- an effect that sends a byte writes nothing
abbrev pub SendsAlone : Effect → Type 0
SendsAlone e = (port byte : ℕ) → e.port ≡ Some (Send port byte) → e.write ≡ None

first-sends : (n : Next) (s : Regs) (m : ℕ → ℕ) → SendsAlone (begun_as n s m).effect
first-sends NextDma s m port byte h = cc
first-sends NextInterrupt s m port byte h = cc
first-sends NextIdle s m port byte h = cc
first-sends NextFetch s m port byte h = cc

picked-sends : (c d : Cycle) (last : Bool) → SendsAlone c.effect → SendsAlone d.effect → SendsAlone (if last then c else d).effect
picked-sends c d true f g = f
picked-sends c d false f g = g

cycle-sends : (phase : Phase) (s : Regs) (m : ℕ → ℕ) (f : ℕ → Bool) (dma int : Bool) (taken : ℕ) → SendsAlone (cycle_in phase s m f dma int taken).effect
cycle-sends Boundary s m f dma int taken = first-sends (next_of s dma int) s m
cycle-sends (Middle opcode left) s m f dma int taken =
    picked-sends (ended opcode s m f taken) (quiet s (Middle opcode (left - 1)) Execute) (left == 1)
    (λ port byte h. send-writes_nothing (kind_of opcode) (opcode_number opcode) s (inputs s m f taken) port byte h)
    (λ port byte h. refl)

-- it neither uses a port nor writes
abbrev SendsNothing : Cycle → Type 0
SendsNothing c = (c.effect.port ≡ None) × (c.effect.write ≡ None)

-- what a bus of the wires means by its calls
abbrev pub Writes : {K : Type 0} → Wires K → ℕ → ℕ → Wires K → Type 0
Writes w address value after = after ≡ after_write address value w

abbrev pub Sends : {K : Type 0} → Wires K → ℕ → ℕ → Wires K → Type 0
Sends w port value after = after ≡ after_port (Send port value) w

abbrev pub Receives : {K : Type 0} → Wires K → ℕ → ℕ → Wires K → Type 0
Receives w port value after = (value ≡ 0) × (after ≡ after_port (Receive port) w)

pub calls-are : {K : Type 0} (port : Option Port) (write : Option (ℕ × ℕ)) (taken : ℕ) (w v : Wires K) → ((p b : ℕ) → port ≡ Some (Send p b) → write ≡ None)
    → Calls Writes Sends Receives port write taken w v → (taken ≡ 0) × (v ≡ after_calls port write w)
calls-are None None taken w v a c = (c.0, c.1)
calls-are None (Some x) taken w v a c = (c.0, c.1)
calls-are (Some (Send p b)) None taken w v a c = (c.0, c.1)
calls-are (Some (Send p b)) (Some x) taken w v a c = let no = a p b refl in cc
calls-are (Some (Receive p)) None taken w v a c = (c.0, c.1)
calls-are (Some (Receive p)) (Some x) taken w v a c = (c.1.0, c.2 ∙ ap (after_write x.0 x.1) c.1.1)

-- the byte at each address, and the flags
abbrev pub bytes : {K : Type 0} → Wires K → ℕ → ℕ
bytes w = read w.memory.rom w.memory.latch w.memory.ram

abbrev pub flags : {K : Type 0} → Wires K → ℕ → Bool
flags w = flags_of (efx_at w.video.cycles w.video.on) (held_at w.keypad.script w.video.cycles w.keypad.latched)

-- what the processor's cycle makes
pub record Made {K : Type 0} (cpu : Processor) (w : Wires K) (p : Processor) (v : Wires K) (d : Did) : Type 0 where
  pub processor : p ≡ after (cycle_of (seen_of cpu w))
  pub did : d ≡ (cycle_of (seen_of cpu w)).did
  pub wires : v ≡ after_calls (cycle_of (seen_of cpu w)).effect.port (cycle_of (seen_of cpu w)).effect.write w

abbrev pub Answers : {K : Type 0} → Processor → Wires K → Bool → Bool → Processor → Wires K → Did → Type 0
Answers cpu w dma int p v did =
    (taken : ℕ) × (let c = cycle cpu (bytes w) (flags w) dma int taken in (p ≡ after c) × (did ≡ c.did) × Acts Writes Sends Receives c.effect taken w v)

made_at : {K : Type 0} (cpu : Processor) (w : Wires K) (p : Processor) (v : Wires K) (did : Did)
    → Answers cpu w (dma_at w.video.cycles w.video.on) (int_at w.video.cycles w.video.on) p v did → Made cpu w p v did
made_at cpu w p v did h =
    let taken = h.0 in
    let with_byte : ℕ → Cycle = λ n. cycle cpu (bytes w) (flags w) (dma_at w.video.cycles w.video.on) (int_at w.video.cycles w.video.on) n in
    let calls =
    calls-are (with_byte taken).effect.port (with_byte taken).effect.write taken w v
    (cycle-sends cpu.phase cpu.regs (bytes w) (flags w) (dma_at w.video.cycles w.video.on) (int_at w.video.cycles w.video.on) taken)
    h.1.2 in
    record {
      processor = h.1.0 ∙ ap (λ n. after (with_byte n)) calls.0;
      did = h.1.1 ∙ ap (λ n. (with_byte n).did) calls.0;
      wires = calls.1 ∙ ap (λ n. after_calls (with_byte n).effect.port (with_byte n).effect.write w) calls.0;
    }

pub made : {K : Type 0} (cpu : Processor) (w : Wires K) (now : ℕ) (dma int : Bool) (p : Processor) (v : Wires K) (did : Did) → now ≡ w.video.cycles
    → dma ≡ dma_at now w.video.on → int ≡ int_at now w.video.on → Answers cpu w dma int p v did → Made cpu w p v did
made cpu w now dma int p v did n d i h =
    let D : Bool → Type 0 = λ x. Answers cpu w x int p v did in
    let I : Bool → Type 0 = λ x. Answers cpu w (dma_at w.video.cycles w.video.on) x p v did in
    made_at cpu w p v did (subst I (i ∙ ap (λ t. int_at t w.video.on) n) (subst D (d ∙ ap (λ t. dma_at t w.video.on) n) h))

-- ---- the first cycle of a move calls nothing

first-calls : (n : Next) (s : Regs) (m : ℕ → ℕ) → SendsNothing (begun_as n s m)
first-calls NextDma s m = (refl, refl)
first-calls NextInterrupt s m = (refl, refl)
first-calls NextIdle s m = (refl, refl)
first-calls NextFetch s m = (refl, refl)

pub begun-made : {K : Type 0} (s : Seen) (cpu : Processor) (w : Wires K) (dma int : Bool) (p : Processor) (did : Did) → seen_of cpu w ≡ s → s.phase ≡ Boundary
    → dma ≡ dma_at s.machine.cycle s.machine.on → int ≡ int_at s.machine.cycle s.machine.on
    → p ≡ after (begun cpu.regs (bytes w) dma int) → did ≡ (begun cpu.regs (bytes w) dma int).did → Made cpu w p w did
begun-made s cpu w dma int p did view h d i is_p is_did =
    let on : Phase → Bool → Bool → Cycle = λ phase x y. cycle_in phase cpu.regs (bytes w) (flags w) x y 0 in
    let is : cycle_of (seen_of cpu w) ≡ begun cpu.regs (bytes w) dma int =
    ap (λ x. on x (dma_at w.video.cycles w.video.on) (int_at w.video.cycles w.video.on)) (ap (λ (x : Seen). x.phase) view ∙ h)
    ∙ ap (λ x. on Boundary x (int_at w.video.cycles w.video.on)) (ap (λ (x : Seen). dma_at x.machine.cycle x.machine.on) view ∙ sym d)
    ∙ ap (λ x. on Boundary dma x) (ap (λ (x : Seen). int_at x.machine.cycle x.machine.on) view ∙ sym i) in
    let calls = first-calls (next_of cpu.regs dma int) cpu.regs (bytes w) in
    record {
      processor = is_p ∙ ap after (sym is);
      did = is_did ∙ ap (λ (c : Cycle). c.did) (sym is);
      wires =
          sym
          (ap (λ (c : Cycle). after_calls c.effect.port c.effect.write w) is
          ∙ ap (λ x. after_calls x (begun cpu.regs (bytes w) dma int).effect.write w) calls.0
          ∙ ap (λ x. after_calls None x w) calls.1);
    }

-- and it is no cycle of an instruction after its fetch
never-executes : (n : Next) (s : Regs) (m : ℕ → ℕ) → (begun_as n s m).did ≡ Execute → ⊥
never-executes NextDma s m d = cc
never-executes NextInterrupt s m d = cc
never-executes NextIdle s m d = cc
never-executes NextFetch s m d = cc

pub begins-otherwise : (s : Seen) → s.phase ≡ Boundary → (cycle_of s).did ≡ Execute → ⊥
begins-otherwise s h d =
    let b = s.machine in
    never-executes (next_of b.regs (dma_at b.cycle b.on) (int_at b.cycle b.on)) b.regs (byte_of s.rom b) (sym (ap (λ x. (cycle_of (record s { phase = x })).did) h) ∙ d)

-- ---- in the middle of an instruction the requests play no part

by_requests : (phase : Phase) (s : Regs) (m : ℕ → ℕ) (f : ℕ → Bool) (dma int dma' int' : Bool) (taken : ℕ) → (phase ≡ Boundary → ⊥)
    → cycle_in phase s m f dma int taken ≡ cycle_in phase s m f dma' int' taken
by_requests Boundary s m f dma int dma' int' taken going = absurd (going refl)
by_requests (Middle opcode left) s m f dma int dma' int' taken going = refl

pub made-on : {K : Type 0} (cpu : Processor) (w : Wires K) (dma int : Bool) (p : Processor) (v : Wires K) (did : Did) → (cpu.phase ≡ Boundary → ⊥)
    → Answers cpu w dma int p v did → Made cpu w p v did
made-on cpu w dma int p v did going h =
    let same = by_requests cpu.phase cpu.regs (bytes w) (flags w) dma int (dma_at w.video.cycles w.video.on) (int_at w.video.cycles w.video.on) h.0 going in
    made_at cpu w p v did (h.0, subst (λ (c : Cycle). (p ≡ after c) × (did ≡ c.did) × Acts Writes Sends Receives c.effect h.0 w v) same h.1)

executes : (phase : Phase) (s : Regs) (m : ℕ → ℕ) (f : ℕ → Bool) (dma int : Bool) (taken : ℕ) → (phase ≡ Boundary → ⊥)
    → (cycle_in phase s m f dma int taken).did ≡ Execute
executes Boundary s m f dma int taken going = absurd (going refl)
executes (Middle opcode left) s m f dma int taken going = by_last (left == 1)
  where
    by_last : (last : Bool) → (if last then ended opcode s m f taken else quiet s (Middle opcode (left - 1)) Execute).did ≡ Execute
    by_last true = refl
    by_last false = refl

-- it puts no byte on the bus
pub no-byte : {K : Type 0} (cpu : Processor) (w : Wires K) (p : Processor) (v : Wires K) (did : Did) → (cpu.phase ≡ Boundary → ⊥) → Made cpu w p v did → None ≡ byte_in did
no-byte cpu w p v did going m = sym (ap byte_in (m.did ∙ executes cpu.phase cpu.regs _ _ _ _ _ going))

-- the video chip ends the cycle
pub seen_after : {K : Type 0} (cpu : Processor) (w : Wires K) (p : Processor) (v : Wires K) (did : Did) (byte : Option ℕ) (chip : Chip) → w.video.cycle_on ≡ w.video.on
    → Made cpu w p v did → byte ≡ byte_in did → chip ≡ video_ended byte v.video → seen_of p (record v { video = chip }) ≡ cycled (seen_of cpu w)
seen_after cpu w p v did byte chip on m b c = rw (c, b, m.processor, m.wires, m.did, on)
