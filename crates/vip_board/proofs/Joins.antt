-- The linked move of a board: the last machine cycle of an instruction, and what it makes with the cycles before it.
use Rattle.std.proofs.Common.{◌≡◌, ◌+◌, ◌-◌, ◌/◌, ℕ, List, Bool, true, false, cond, refl, sym, ap, ◌∙◌, subst, arith}
use Rattle.std.specs.Prelude.{◌==◌, Option, Some, None}
use Rattle.machine.specs.declared.Kind.{Kind}
use Rattle.machine.specs.declared.Kind.TheVariants.{Inp}
use Rattle.machine.specs.Opcodes.{kind_of, opcode_number, cycles_of}
use Rattle.machine.specs.Instruction.{Regs, Inputs, Effect, Port, effect, executed, inputs, stepped}
use Rattle.machine.specs.Instruction.Port.{Send, Receive}
use Rattle.machine.specs.Memory.{read}
use Rattle.machine.specs.Keys.{Event, held_at}
use Rattle.machine.specs.Signals.{efx_at}
use Rattle.machine.specs.Board.{Machine, Case, case_of, moved_in, acted, byte_of, opcode_of, length_in, length_of}
use Rattle.machine.specs.Board.Case.{Dma, Interrupt, Idle, Instruction}
use Rattle.machine.proofs.Ports.{send-writes_nothing}
use Rattle.machine.proofs.Moves.{case_instruction, length_of_in, move_in}
use Rattle.vip_cpu.specs.Acts.{Calls, Acts}
use Rattle.vip_cpu.specs.Cycle.{Processor, after, cycle}
use Rattle.vip_cpu.specs.declared.cpu.Phase.{Phase}
use Rattle.vip_cpu.specs.declared.cpu.Phase.TheVariants.{Boundary, Middle}
use Rattle.vip_cpu.specs.declared.cpu.Did.{Did}
use Rattle.vip_cpu.specs.declared.cpu.Did.TheVariants.{Fetch, Execute}
use Rattle.vip_video.specs.Chip.{Chip, Pictures, scanned, ended as video_ended}
use Rattle.vip_board.specs.Seen.{Seen, held_by, cycled, cycle_of}
use Rattle.vip_board.specs.Wired.{seen_of, after_port, after_write, after_calls}
use Rattle.vip_board.specs.Moves.{moved, pictures_after, scanned_over, bus_byte_in}
use Rattle.vip_board.specs.Linked.{joined, linked_flags, taken_at, incoming_after, outgoing_after, linked_in, linked_move}
use Rattle.vip_board.specs.Joins.{linked, linked_moved, IsLast, last_cycle, last_cycled}
use Rattle.vip_board.specs.declared.wires.Wires.{Wires}
use Rattle.vip_board.specs.declared.port.Joined.{Joined}
use Rattle.vip_board.proofs.Flags.{executed-flags}
use Rattle.vip_board.proofs.Cases.{resting, rests}
use Rattle.vip_board.proofs.Whole.{Fetches, fetched, fetches_of}

-- ---- the calls on the wires of a joined board

abbrev pub JoinedWrites : {K : Type 0} → Joined K → ℕ → ℕ → Joined K → Type 0
JoinedWrites j a v k =
    (k.wires.ghost_name ≡ j.wires.ghost_name) × (k.wires.now ≡ after_write a v j.wires.now) × (k.incoming ≡ j.incoming) × (k.outgoing ≡ j.outgoing)

abbrev pub JoinedSends : {K : Type 0} → Joined K → ℕ → ℕ → Joined K → Type 0
JoinedSends j p v k =
    (k.wires.ghost_name ≡ j.wires.ghost_name) × (k.wires.now ≡ after_port (Send p v) j.wires.now) × (k.incoming ≡ j.incoming)
    × (k.outgoing ≡ outgoing_after (Some (Send p v)) j.outgoing)

abbrev pub JoinedReceives : {K : Type 0} → Joined K → ℕ → ℕ → Joined K → Type 0
JoinedReceives j p v k =
    (v ≡ taken_at p j.incoming) × (k.wires.ghost_name ≡ j.wires.ghost_name) × (k.wires.now ≡ after_port (Receive p) j.wires.now)
    × (k.incoming ≡ incoming_after (Some (Receive p)) j.incoming) × (k.outgoing ≡ j.outgoing)

-- the byte that the bus takes from a port
abbrev taken_by : Option Port → Option ℕ → ℕ
taken_by None incoming = 0
taken_by (Some (Send p v)) incoming = 0
taken_by (Some (Receive p)) incoming = taken_at p incoming

record CallsMade {K : Type 0} (port : Option Port) (write : Option (ℕ × ℕ)) (taken : ℕ) (j k : Joined K) : Type 0 where
  byte : taken ≡ taken_by port j.incoming
  wires : k.wires.now ≡ after_calls port write j.wires.now
  incoming : k.incoming ≡ incoming_after port j.incoming
  outgoing : k.outgoing ≡ outgoing_after port j.outgoing

no_write : {x : ℕ × ℕ} → Some x ≡ None → ⊥
no_write e = cc

calls-made : {K : Type 0} (port : Option Port) (write : Option (ℕ × ℕ)) (taken : ℕ) (j k : Joined K) → ((p v : ℕ) → port ≡ Some (Send p v) → write ≡ None)
    → Calls JoinedWrites JoinedSends JoinedReceives port write taken j k → CallsMade port write taken j k
calls-made None None taken j k a c =
    record {
      byte = c.0;
      wires = ap (λ (x : Joined _). x.wires.now) c.1;
      incoming = ap (λ (x : Joined _). x.incoming) c.1;
      outgoing =
          ap (λ (x : Joined _). x.outgoing) c.1;
    }
calls-made None (Some x) taken j k a c = record { byte = c.0; wires = c.1.1; incoming = c.1.2; outgoing = c.1.3 }
calls-made (Some (Send p v)) None taken j k a c = record { byte = c.0; wires = c.1.1; incoming = c.1.2; outgoing = c.1.3 }
calls-made (Some (Send p v)) (Some x) taken j k a c = absurd (no_write (a p v refl))
calls-made (Some (Receive p)) None taken j k a c = record { byte = c.0; wires = c.2; incoming = c.3; outgoing = c.4 }
calls-made (Some (Receive p)) (Some x) taken j k a c =
    record { byte = c.1.0; wires = c.2.1 ∙ ap (after_write x.0 x.1) c.1.2; incoming = c.2.2 ∙ c.1.3; outgoing = c.2.3 ∙ c.1.4 }

-- only INP uses the byte, and its port is the number in its opcode
effect-takes : (k : Kind) (n : ℕ) (s : Regs) (i : Inputs) (incoming : Option ℕ) → i.taken ≡ taken_by (effect k n s i).port incoming
    → effect k n s i ≡ effect k n s (record i { taken = taken_at n incoming })
effect-takes Inp n s i incoming h = ap (λ v. effect Inp n s (record i { taken = v })) h
effect-takes _ n s i incoming h = refl

-- ---- the last cycle of an instruction

pub record MadeLast {K : Type 0} (cpu : Processor) (w : Wires K) (incoming outgoing : Option ℕ) (p : Processor) (v : Wires K) (incoming' outgoing' : Option ℕ) : Type 0 where
  pub processor : p ≡ after (last_cycle (seen_of cpu w) incoming outgoing)
  pub wires : v ≡ after_calls (last_cycle (seen_of cpu w) incoming outgoing).effect.port (last_cycle (seen_of cpu w) incoming outgoing).effect.write w
  pub incoming_is : incoming' ≡ incoming_after (last_cycle (seen_of cpu w) incoming outgoing).effect.port incoming
  pub outgoing_is : outgoing' ≡ outgoing_after (last_cycle (seen_of cpu w) incoming outgoing).effect.port outgoing

module _ {K : Type 0} (j : Joined K) where
  abbrev joined_bytes : ℕ → ℕ
  joined_bytes = read j.wires.now.memory.rom j.wires.now.memory.latch j.wires.now.memory.ram

  abbrev joined_flags : ℕ → Bool
  joined_flags =
      linked_flags (efx_at j.wires.now.video.cycles j.wires.now.video.on)
      (held_at j.wires.now.keypad.script j.wires.now.video.cycles j.wires.now.keypad.latched) j.incoming j.outgoing

abbrev pub JoinedAnswers : {K : Type 0} → Processor → Joined K → Processor → Joined K → Did → Type 0
JoinedAnswers cpu j p k did =
    (taken : ℕ) × (let c = cycle cpu (joined_bytes j) (joined_flags j) false false taken in
    (p ≡ after c) × (did ≡ c.did) × Acts JoinedWrites JoinedSends JoinedReceives c.effect taken j k)

abbrev Lasts : {K : Type 0} → Processor → Joined K → Processor → Joined K → Type 0
Lasts cpu j p k = MadeLast cpu j.wires.now j.incoming j.outgoing p k.wires.now k.incoming k.outgoing

made_in : {K : Type 0} (opcode : ℕ) (s : Regs) (j k : Joined K) (p : Processor) (did : Did) → JoinedAnswers (record { regs = s; phase = Middle opcode 1 }) j p k did
    → Lasts (record { regs = s; phase = Middle opcode 1 }) j p k
made_in opcode s j k p did h =
    let taken = h.0 in
    let number = opcode_number opcode in
    let i : ℕ → Inputs = λ v. inputs s (joined_bytes j) (joined_flags j) v in
    let calls =
    calls-made (effect (kind_of opcode) number s (i taken)).port (effect (kind_of opcode) number s (i taken)).write taken j k
    (λ q v e. send-writes_nothing (kind_of opcode) number s (i taken) q v e) h.1.2 in
    let same : effect (kind_of opcode) number s (i taken) ≡ effect (kind_of opcode) number s (i (taken_at number j.incoming)) =
    effect-takes (kind_of opcode) number s (i taken) j.incoming calls.byte in
    record {
      processor = h.1.0 ∙ ap (λ (e : Effect). after (record { effect = e; phase = Boundary; did = Execute })) same;
      wires = calls.wires ∙ ap (λ (e : Effect). after_calls e.port e.write j.wires.now) same;
      incoming_is = calls.incoming ∙ ap (λ (e : Effect). incoming_after e.port j.incoming) same;
      outgoing_is = calls.outgoing ∙ ap (λ (e : Effect). outgoing_after e.port j.outgoing) same;
    }

pub made-last : {K : Type 0} (opcode : ℕ) (cpu : Processor) (j k : Joined K) (p : Processor) (did : Did) → cpu.phase ≡ Middle opcode 1 → JoinedAnswers cpu j p k did
    → Lasts cpu j p k
made-last opcode cpu j k p did e h =
    let P : Phase → Type 0 =
    λ phase. JoinedAnswers (record { regs = cpu.regs; phase = phase }) j p k did → Lasts (record { regs = cpu.regs; phase = phase }) j p k in
    subst P (sym e) (made_in opcode cpu.regs j k p did) h

-- the video chip ends the cycle
pub seen-last : {K : Type 0} (cpu : Processor) (w : Wires K) (incoming outgoing : Option ℕ) (p : Processor) (v : Wires K) (incoming' outgoing' : Option ℕ)
    (chip : Chip) → w.video.cycle_on ≡ w.video.on
    → MadeLast cpu w incoming outgoing p v incoming' outgoing' → chip ≡ video_ended None v.video
    → seen_of p (record v { video = chip }) ≡ last_cycled (seen_of cpu w) incoming outgoing
seen-last cpu w incoming outgoing p v incoming' outgoing' chip on m c = rw (c, m.processor, m.wires, on)

-- ---- the whole move

module _ (rom : List ℕ) (script : List Event) (b : Machine) (p : Pictures) (incoming outgoing : Option ℕ) where
  linked-case : (k : Case) → case_of b ≡ k
      → linked_move rom (held_at script) (joined b incoming outgoing) ≡ linked_in k rom (held_at script) (joined b incoming outgoing)
  linked-case k e = rw e

  linked-moved-in : (k : Case) → case_of b ≡ k
      → linked_moved (resting rom script b p) incoming outgoing
      ≡ resting rom script (linked_in k rom (held_at script) (joined b incoming outgoing)).machine
      (scanned_over (length_in k rom b) b.cycle b.on (bus_byte_in k rom b) p)
  unfolding pictures_after
  linked-moved-in k e = rw e

-- a move without an instruction is that of the board alone, and leaves the wires
pub record LeavesWires (s : Seen) (incoming outgoing : Option ℕ) : Type 0 where
  pub board : moved s ≡ linked_moved s incoming outgoing
  pub incoming_is : incoming ≡ (linked s incoming outgoing).incoming
  pub outgoing_is : outgoing ≡ (linked s incoming outgoing).outgoing

abbrev Leaves : Seen → Option ℕ → Option ℕ → Case → Type 0
Leaves s incoming outgoing k =
    linked_in k s.rom (held_by s) (joined s.machine incoming outgoing) ≡ joined (moved_in k s.rom (held_by s) s.machine) incoming outgoing

leaves_in : (s : Seen) (incoming outgoing : Option ℕ) (k : Case) → case_of s.machine ≡ k → Leaves s incoming outgoing k → LeavesWires s incoming outgoing
leaves_in s incoming outgoing k e h =
    let same = linked-case s.rom s.script s.machine s.pictures incoming outgoing k e ∙ h in
    record {
      board =
          ap (λ m. record s { machine = m; pictures = pictures_after s.rom s.machine s.pictures })
          (move_in s.rom (held_by s) s.machine k e ∙ ap (λ j. j.machine) (sym same));
      incoming_is = ap (λ j. j.incoming) (sym same);
      outgoing_is = ap (λ j. j.outgoing) (sym same);
    }

pub dma-leaves : (s : Seen) (incoming outgoing : Option ℕ) → case_of s.machine ≡ Dma → LeavesWires s incoming outgoing
dma-leaves s incoming outgoing e = leaves_in s incoming outgoing Dma e refl

pub interrupt-leaves : (s : Seen) (incoming outgoing : Option ℕ) → case_of s.machine ≡ Interrupt → LeavesWires s incoming outgoing
interrupt-leaves s incoming outgoing e = leaves_in s incoming outgoing Interrupt e refl

pub idle-leaves : (s : Seen) (incoming outgoing : Option ℕ) → case_of s.machine ≡ Idle → LeavesWires s incoming outgoing
idle-leaves s incoming outgoing e = leaves_in s incoming outgoing Idle e refl

-- The board v is in the instruction that board s began: its last cycle makes the linked move of s.
pub record EndsLinked (s v : Seen) (incoming outgoing : Option ℕ) : Type 0 where
  pub last : IsLast v.phase
  pub board : last_cycled v incoming outgoing ≡ linked_moved s incoming outgoing
  pub incoming_is : incoming_after (last_cycle v incoming outgoing).effect.port incoming ≡ (linked s incoming outgoing).incoming
  pub outgoing_is : outgoing_after (last_cycle v incoming outgoing).effect.port outgoing ≡ (linked s incoming outgoing).outgoing

module _ (rom : List ℕ) (script : List Event) (b : Machine) (p : Pictures) (f : Fetches b) (incoming outgoing : Option ℕ) where
  abbrev first : Seen
  first = resting rom script b p

  -- the board after the fetch of an instruction of n cycles
  abbrev middle : ℕ → Seen
  middle n =
      record { machine = fetched rom b; phase = Middle (opcode_of rom b) (n - 1); pictures = scanned b.cycle b.on None p; rom = rom; script = script }

  cycled-fetch : cycled first ≡ middle (cycles_of (opcode_of rom b))
  cycled-fetch = rw (f.no_dma, f.no_int, f.awake)

  is_instruction : case_of b ≡ Instruction
  is_instruction = case_instruction b f.no_dma f.no_int f.awake

  -- what the instruction makes with the flags of a cycle, and the board after it, in n cycles
  abbrev made_by : ℕ → Effect
  made_by t =
      executed (opcode_of rom b) (stepped b.regs b.regs.p)
      (inputs (stepped b.regs b.regs.p) (byte_of rom b) (linked_flags (efx_at t b.on) (held_at script t b.key) incoming outgoing)
      (taken_at (opcode_number (opcode_of rom b)) incoming))

  abbrev whole : ℕ → Seen
  whole n = resting rom script (record (acted (made_by (b.cycle + 1)) b) { cycle = b.cycle + n }) (scanned_over n b.cycle b.on None p)

  moved-linked : linked_moved first incoming outgoing ≡ whole (cycles_of (opcode_of rom b))
  moved-linked = linked-moved-in rom script b p incoming outgoing Instruction is_instruction

  wires-linked : linked first incoming outgoing ≡ linked_in Instruction rom (held_at script) (joined b incoming outgoing)
  wires-linked = linked-case rom script b p incoming outgoing Instruction is_instruction

  two_in : (n : ℕ) → n ≡ 2 → last_cycled (middle n) incoming outgoing ≡ whole n
  two_in n e =
      let later : b.cycle + 1 + 1 ≡ b.cycle + 2 = omega arith in
      rw e (ap (λ t. record (whole 2) { machine = record (whole 2).machine { cycle = t } }) later)

  two : cycles_of (opcode_of rom b) ≡ 2 → EndsLinked first (cycled first) incoming outgoing
  two h =
      record {
        last = (opcode_of rom b, ap (λ (s : Seen). s.phase) cycled-fetch ∙ ap (λ n. Middle (opcode_of rom b) (n - 1)) h);
        board = ap (λ s. last_cycled s incoming outgoing) cycled-fetch ∙ two_in (cycles_of (opcode_of rom b)) h ∙ sym moved-linked;
        incoming_is = ap (λ s. incoming_after (last_cycle s incoming outgoing).effect.port incoming) cycled-fetch ∙ sym (ap (λ j. j.incoming) wires-linked);
        outgoing_is = ap (λ s. outgoing_after (last_cycle s incoming outgoing).effect.port outgoing) cycled-fetch ∙ sym (ap (λ j. j.outgoing) wires-linked);
      }

  -- an instruction of three cycles reads no flag
  same : (cycles_of (opcode_of rom b) == 2) ≡ false → made_by (b.cycle + 1 + 1) ≡ made_by (b.cycle + 1)
  same h =
      executed-flags (opcode_of rom b) h (stepped b.regs b.regs.p) (byte_of rom b)
      (linked_flags (efx_at (b.cycle + 1 + 1) b.on) (held_at script (b.cycle + 1 + 1) b.key) incoming outgoing)
      (linked_flags (efx_at (b.cycle + 1) b.on) (held_at script (b.cycle + 1) b.key) incoming outgoing)
      (taken_at (opcode_number (opcode_of rom b)) incoming)

  record Third (n : ℕ) : Type 0 where
    last : IsLast (cycled (middle n)).phase
    board : last_cycled (cycled (middle n)) incoming outgoing ≡ whole n
    port : (last_cycle (cycled (middle n)) incoming outgoing).effect ≡ made_by (b.cycle + 1)

  third : (n : ℕ) → n ≡ 3 → (cycles_of (opcode_of rom b) == 2) ≡ false → Third n
  third n e h =
      subst Third (sym e)
      (record {
        last = (opcode_of rom b, refl);
        board =
            (let later : b.cycle + 1 + 1 + 1 ≡ b.cycle + 3 = omega arith in
            ap (λ (x : Effect). resting rom script (record (acted x (fetched rom b)) { cycle = b.cycle + 1 + 1 + 1 })
            (scanned_over 3 b.cycle b.on None p)) (same h)
            ∙ ap (λ t. record (whole 3) { machine = record (whole 3).machine { cycle = t } }) later);
        port = same h;
      })

  three : cycles_of (opcode_of rom b) ≡ 3 → EndsLinked first (cycled (cycled first)) incoming outgoing
  three h =
      let t = third (cycles_of (opcode_of rom b)) h (ap (λ k. k == 2) h) in
      let at = ap cycled cycled-fetch in
      record {
        last = (t.last.0, ap (λ (s : Seen). s.phase) at ∙ t.last.1);
        board = ap (λ s. last_cycled s incoming outgoing) at ∙ t.board ∙ sym moved-linked;
        incoming_is =
            ap (λ s. incoming_after (last_cycle s incoming outgoing).effect.port incoming) at
            ∙ ap (λ (x : Effect). incoming_after x.port incoming) t.port ∙ sym (ap (λ j. j.incoming) wires-linked);
        outgoing_is =
            ap (λ s. outgoing_after (last_cycle s incoming outgoing).effect.port outgoing) at
            ∙ ap (λ (x : Effect). outgoing_after x.port outgoing) t.port ∙ sym (ap (λ j. j.outgoing) wires-linked);
      }

  length_of-fetch : length_of rom b ≡ cycles_of (opcode_of rom b)
  length_of-fetch = length_of_in rom (held_at script) b Instruction is_instruction

-- ---- the same of a board at a boundary

abbrev three_or_two : Bool → ℕ
three_or_two x = cond x 3 2

two_of_test : (x : Bool) → (three_or_two x ≡ 3 → ⊥) → three_or_two x ≡ 2
two_of_test true h = absurd (h refl)
two_of_test false h = refl

module _ (s : Seen) (n : ℕ) (incoming outgoing : Option ℕ) (h : s.phase ≡ Boundary) (d : (cycle_of s).did ≡ Fetch) (l : n ≡ length_of s.rom s.machine) where
  long : n ≡ cycles_of (opcode_of s.rom s.machine)
  long = l ∙ length_of-fetch s.rom s.script s.machine s.pictures (fetches_of s h d) incoming outgoing

  pub two-ends : (n ≡ 3 → ⊥) → EndsLinked s (cycled s) incoming outgoing
  two-ends short =
      subst (λ v. EndsLinked v (cycled v) incoming outgoing) (sym (rests s h))
      (two s.rom s.script s.machine s.pictures (fetches_of s h d) incoming outgoing
      (two_of_test (opcode_of s.rom s.machine / 16 == 12) (λ e. short (long ∙ e))))

  pub three-ends : n ≡ 3 → EndsLinked s (cycled (cycled s)) incoming outgoing
  three-ends e =
      subst (λ v. EndsLinked v (cycled (cycled v)) incoming outgoing) (sym (rests s h))
      (three s.rom s.script s.machine s.pictures (fetches_of s h d) incoming outgoing (sym long ∙ e))
