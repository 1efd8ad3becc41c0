-- DMA cycles one after another.
use Rattle.std.proofs.Common.{◌≡◌, ℕ, zero, suc, ◌+◌, ◌%◌, ◌<◌, ◌≤◌, List, [], ◌∷◌, Bool, true, false, not, refl, sym, ap, ◌∙◌, subst, arith}
use Rattle.std.proofs.Math.Bool.{◌&&◌}
use Rattle.std.specs.Prelude.{Some}
use Rattle.std.proofs.lemmas.Bool.Decides.{nat_tests}
use Rattle.machine.specs.Board.{Machine, case_of, dma_byte}
use Rattle.machine.specs.Board.Case.{Dma as DmaCase, Instruction as InstructionCase}
use Rattle.machine.specs.Signals.{line_cycles, int_at, dma_at}
use Rattle.machine.proofs.Moves.{case_dma, move_in}
use Rattle.vip_cpu.specs.Cycle.{Processor}
use Rattle.vip_cpu.specs.declared.cpu.Phase.TheVariants.{Boundary}
use Rattle.vip_board.specs.Seen.{Seen, held_by}
use Rattle.vip_board.specs.Moves.{moved, moved_by, taken_by, dma_bytes, sleeps, Aside}
use Rattle.vip_board.specs.Wired.{seen_of}
use Rattle.vip_board.specs.declared.wires.Wires.{Wires}
use Rattle.vip_board.proofs.Cases.{moved-rests, moved-in}
use Rattle.vip_board.proofs.Shown.{case-is}
use Rattle.vip_video.specs.Chip.{Chip, Pictures, drawn, scanned, ended, ended_with}
use Rattle.vip_video.proofs.Quiet.{passes}
use Rattle.vip_video.proofs.Scan.{ended_with-more}

-- where the board stands after so many of them
pub record Along (s : Seen) (n : ℕ) : Type 0 where
  pub phase : (moved_by n s).phase ≡ s.phase
  pub cycle : (moved_by n s).machine.cycle ≡ s.machine.cycle + n
  pub on : (moved_by n s).machine.on ≡ s.machine.on

one_more : (s : Seen) → dma_at s.machine.cycle s.machine.on ≡ true → ((moved s).machine.cycle ≡ s.machine.cycle + 1) × ((moved s).machine.on ≡ s.machine.on)
one_more s d =
    let is = move_in s.rom (held_by s) s.machine DmaCase (case_dma s.machine d) in
    (ap (λ (b : Machine). b.cycle) is, ap (λ (b : Machine). b.on) is)

module _ (s : Seen) (count : ℕ) (dma : (k : ℕ) → k < count → dma_at (s.machine.cycle + k) s.machine.on ≡ true) where
  here : (n : ℕ) → n < count → Along s n → dma_at (moved_by n s).machine.cycle (moved_by n s).machine.on ≡ true
  here n l a = ap (λ t. dma_at t (moved_by n s).machine.on) a.cycle ∙ ap (dma_at (s.machine.cycle + n)) a.on ∙ dma n l

  pub along : (n : ℕ) → n ≤ count → Along s n
  along zero l = record { phase = refl; cycle = omega arith; on = refl }
  along (suc n) l =
      let a = along n (omega (arith, l)) in
      let one = one_more (moved_by n s) (here n (omega (arith, l)) a) in
      record { phase = a.phase; cycle = omega (arith, one.0, a.cycle); on = one.1 ∙ a.on }

  pub scans-here : (n : ℕ) → n < count → dma_at (moved_by n s).machine.cycle (moved_by n s).machine.on ≡ true
  scans-here n l = here n l (along n (omega (arith, l)))

  pub case-here : (n : ℕ) → n < count → case_of (moved_by n s).machine ≡ DmaCase
  case-here n l = case_dma (moved_by n s).machine (scans-here n l)

-- ---- the processor takes all bytes, and then the video chip ends the cycles

abbrev pub chip_of : Seen → Chip
chip_of s = record { cycles = s.machine.cycle; on = s.machine.on; cycle_on = s.machine.on; pictures = s.pictures }

abbrev pub with_chip : Seen → Chip → Seen
with_chip s c = record s { machine = record s.machine { on = c.on; cycle = c.cycles }; pictures = c.pictures }

switches : (bytes : List ℕ) (c : Chip) → c.cycle_on ≡ c.on → (ended_with bytes c).cycle_on ≡ (ended_with bytes c).on
switches [] c e = e
switches (byte ∷ bytes) c e = switches bytes (ended (Some byte) c) refl

pub scanned-by : (s : Seen) → s.phase ≡ Boundary → (count : ℕ) → ((k : ℕ) → k < count → dma_at (s.machine.cycle + k) s.machine.on ≡ true) → (n : ℕ)
    → n ≤ count → with_chip (taken_by n s) (ended_with (dma_bytes n s) (chip_of s)) ≡ moved_by n s
scanned-by s h count dma zero l = refl
scanned-by s h count dma (suc n) l =
    let c = ended_with (dma_bytes n s) (chip_of s) in
    let u = with_chip (taken_by n s) c in
    let before = scanned-by s h count dma n (omega (arith, l)) in
    let case : case_of u.machine ≡ DmaCase = ap (λ (x : Seen). case_of x.machine) before ∙ case-here s count dma n (omega (arith, l)) in
    let byte = dma_byte s.rom (taken_by n s).machine in
    let v = taken_by (suc n) s in
    ap (with_chip v) (ended_with-more (dma_bytes n s) byte (chip_of s))
    ∙ ap (λ on. with_chip v (record (ended (Some byte) c) { pictures = scanned c.cycles on (Some byte) c.pictures }))
    (switches (dma_bytes n s) (chip_of s) refl)
    ∙ ap (λ p. record (with_chip v (record (ended (Some byte) c) { pictures = scanned c.cycles c.on (Some byte) c.pictures })) { phase = p }) h
    ∙ sym (moved-in s.rom s.script u.machine u.pictures DmaCase case)
    ∙ moved-rests u h
    ∙ ap moved before

-- the same of a board by its parts, of which the processor has taken the bytes
module _ {K : Type 0} (cpu : Processor) (w : Wires K) (chip : Chip) (s : Seen) (n : ℕ) (bytes : List ℕ) (view : seen_of cpu w ≡ taken_by n s) (switch : w.video.cycle_on ≡ w.video.on)
    (are : bytes ≡ dma_bytes n s) (ends : chip ≡ ended_with bytes w.video) where
  pub scan-switch : chip.cycle_on ≡ chip.on
  scan-switch = subst (λ (x : Chip). x.cycle_on ≡ x.on) (sym ends) (switches bytes w.video switch)

  pub scan-moved : s.phase ≡ Boundary → ((k : ℕ) → k < n → dma_at (s.machine.cycle + k) s.machine.on ≡ true)
      → seen_of cpu (record w { video = chip }) ≡ moved_by n s
  scan-moved h dma =
      ap (λ x. with_chip x chip) view
      ∙ ap (with_chip (taken_by n s)) ends
      ∙ ap (λ x. with_chip (taken_by n s) (ended_with bytes (record w.video { cycle_on = x }))) switch
      ∙ ap (λ x. with_chip (taken_by n s) (ended_with bytes (chip_of x))) view
      ∙ ap (λ x. with_chip (taken_by n s) (ended_with x (chip_of s))) are
      ∙ scanned-by s h n dma n (omega arith)

-- no window ends in one
pub same-count : (s : Seen) → case_of s.machine ≡ DmaCase → (moved s).pictures.count ≡ s.pictures.count
same-count s e =
    let b = s.machine in
    let d : dma_at b.cycle b.on ≡ true = case-is (dma_at b.cycle b.on) (b.regs.ie && int_at b.cycle b.on) b.regs.idle e in
    let column : b.cycle % line_cycles < 10 = grind (arith, nat_tests, d) in
    ap (λ (x : Seen). x.pictures.count) (moved-in s.rom s.script b s.pictures DmaCase e)
    ∙ ap (λ (p : Pictures). p.count) (passes (b.cycle + 1) (drawn b.cycle b.on (Some (dma_byte s.rom b)) s.pictures) (λ h. omega (arith, h, column)))

-- nor does the processor sleep before one, since the display is on
switched : (t : ℕ) (idle on : Bool) → dma_at t on ≡ true → (idle && not on) ≡ false
switched t false on d = refl
switched t true true d = refl
switched t true false d = cc

pub awake-here : (b : Machine) (k : ℕ) → k ≡ 0 → dma_at (b.cycle + k) b.on ≡ true → sleeps b ≡ false
awake-here b k none d = let same : b.cycle + k ≡ b.cycle = omega (arith, none) in switched b.cycle b.regs.idle b.on (subst (λ t. dma_at t b.on ≡ true) same d)

awake : (b : Machine) → case_of b ≡ DmaCase → sleeps b ≡ false
awake b e = switched b.cycle b.regs.idle b.on (case-is (dma_at b.cycle b.on) (b.regs.ie && int_at b.cycle b.on) b.regs.idle e)

pub scanned-aside : (s : Seen) (count : ℕ) → ((k : ℕ) → k < count → dma_at (s.machine.cycle + k) s.machine.on ≡ true) → (n : ℕ) → n ≤ count → Aside n s
scanned-aside s count dma n l k some below =
    record {
      apart = λ starts. not_both (sym (case-here s count dma k (omega (arith, l, below))) ∙ starts);
      count = counts k (omega (arith, l, below));
      asleep =
          awake (moved_by k s).machine (case-here s count dma k (omega (arith, l, below)))
          ∙ sym (awake s.machine (case-here s count dma 0 (omega (arith, l, some, below))));
    }
  where
    not_both : DmaCase ≡ InstructionCase → ⊥
    not_both e = cc

    counts : (k : ℕ) → k ≤ count → (moved_by k s).pictures.count ≡ s.pictures.count
    counts zero l = refl
    counts (suc k) l = same-count (moved_by k s) (case-here s count dma k (omega (arith, l))) ∙ counts k (omega (arith, l))
