-- The file of a program's machine is accepted, and what goes on from it goes on in that machine, with the ROM.
use Rattle.std.proofs.Common.{◌≡◌, ℕ, ◌+◌, ◌*◌, ◌/◌, ◌%◌, ◌<◌, ◌≤◌, ◌^◌, Bool, true, false, List, length, drop, take, slice_index, refl, sym, ap, ◌∙◌, subst, arith, length-append}
use Rattle.std.specs.Prelude.{◌==◌}
use Rattle.std.proofs.Math.Seq.{take-append_seam}
use Rattle.std.proofs.lemmas.Nat.{from_be_bytes-to_be_bytes_8}
use Rattle.std.proofs.lemmas.List.{drop_at}
use Rattle.machine.specs.Bit.{bit}
use Rattle.machine.specs.Board.{Machine}
use Rattle.machine.specs.Keys.{Event}
use Rattle.machine.specs.Ranges.{FitsMachine, FitsRom}
use Rattle.vip_byte.specs.Number.{most_cycles}
use Rattle.vip_cpu.specs.declared.cpu.Phase.TheVariants.{Boundary}
use Rattle.vip_program.specs.Program.{resumed}
use Rattle.vip_text.specs.ProgramFile.{IsProgram, machine_in, part, program_head, program_size, rom_in, switch}
use Rattle.vip_text.specs.StateFile.{bank_in, cycle_in, file_size}
use Rattle.vip_video.specs.Chip.{nothing_before}
use Rattle.vip_show.specs.Written.{ProgramGoesOn, if_on, program_file_of, program_head_of, program_part_of, switches_of}

-- ---- the switches

switched : (latch on ie idle : Bool) → let n = if_on latch 1 + (if_on on 2 + (if_on ie 4 + if_on idle 8)) in
    (n < 16) × ((n / 1 % 2 == 1) ≡ latch) × ((n / 2 % 2 == 1) ≡ on) × ((n / 4 % 2 == 1) ≡ ie) × ((n / 8 % 2 == 1) ≡ idle)
switched true true true true = (omega arith, refl, refl, refl, refl)
switched true true true false = (omega arith, refl, refl, refl, refl)
switched true true false true = (omega arith, refl, refl, refl, refl)
switched true true false false = (omega arith, refl, refl, refl, refl)
switched true false true true = (omega arith, refl, refl, refl, refl)
switched true false true false = (omega arith, refl, refl, refl, refl)
switched true false false true = (omega arith, refl, refl, refl, refl)
switched true false false false = (omega arith, refl, refl, refl, refl)
switched false true true true = (omega arith, refl, refl, refl, refl)
switched false true true false = (omega arith, refl, refl, refl, refl)
switched false true false true = (omega arith, refl, refl, refl, refl)
switched false true false false = (omega arith, refl, refl, refl, refl)
switched false false true true = (omega arith, refl, refl, refl, refl)
switched false false true false = (omega arith, refl, refl, refl, refl)
switched false false false true = (omega arith, refl, refl, refl, refl)
switched false false false false = (omega arith, refl, refl, refl, refl)

df_of : (n : ℕ) (q : Bool) → n ≤ 1 → (n + 2 * bit q) % 2 ≡ n
df_of n true h = omega (arith, h)
df_of n false h = omega (arith, h)

q_of : (n : ℕ) (q : Bool) → n ≤ 1 → ((n + 2 * bit q) / 2 == 1) ≡ q
q_of n true h = let e : (n + 2 * bit true) / 2 ≡ 1 = omega (arith, h) in ap (λ k. k == 1) e
q_of n false h = let e : (n + 2 * bit false) / 2 ≡ 0 = omega (arith, h) in ap (λ k. k == 1) e

few_flags : (n : ℕ) (q : Bool) → n ≤ 1 → n + 2 * bit q ≤ 3
few_flags n true h = omega (arith, h)
few_flags n false h = omega (arith, h)

-- ---- the bytes, by their places

length-head : (b : Machine) → length (program_head_of b) ≡ 51
unfolding program_head_of
length-head b = refl

ram-part : (b : Machine) → drop 51 (program_part_of b) ≡ b.ram
unfolding program_part_of
ram-part b = drop_at (program_head_of b) b.ram 51 (length-head b)

length-part : (b : Machine) → length b.ram ≡ 0x1000 → length (program_part_of b) ≡ file_size
unfolding program_part_of
length-part b size = length-append (program_head_of b) b.ram ∙ ap (λ n. n + length b.ram) (length-head b) ∙ ap (λ n. 51 + n) size

cycle-part : (b : Machine) → b.cycle < 2 ^ 64 → cycle_in (program_part_of b) ≡ b.cycle
unfolding program_part_of program_head_of
cycle-part b low = from_be_bytes-to_be_bytes_8 b.cycle low

bank-part : (b : Machine) → bank_in (program_part_of b) ≡ b.regs.r
unfolding program_part_of program_head_of bank_in
bank-part b = refl

record Bytes (b : Machine) (p : List ℕ) : Type 0 where
  d : slice_index p 46 ≡ b.regs.d
  t : slice_index p 47 ≡ b.regs.t
  xp : slice_index p 48 ≡ 16 * b.regs.x + b.regs.p
  flags : slice_index p 49 ≡ b.regs.df + 2 * bit b.regs.q
  key : slice_index p 50 ≡ b.key

bytes-part : (b : Machine) → Bytes b (program_part_of b)
unfolding program_part_of program_head_of
bytes-part b = record { d = refl; t = refl; xp = refl; flags = refl; key = refl }

switches-file : (b : Machine) (rom : List ℕ) → slice_index (program_file_of rom b) 5 ≡ switches_of b
unfolding program_part_of program_head_of
switches-file b rom = refl

begins-file : (b : Machine) (rom : List ℕ) → take 5 (program_file_of rom b) ≡ program_head
unfolding program_part_of program_head_of
begins-file b rom = refl

-- ---- the file

module _ (rom : List ℕ) (b : Machine) (fits : FitsMachine b) (fits_rom : FitsRom rom) (low : b.cycle ≤ most_cycles) where
  abbrev f : List ℕ
  f = program_file_of rom b

  abbrev p : List ℕ
  p = program_part_of b

  part_is : part f ≡ p
  part_is = ap (λ n. take n f) (sym (length-part b fits.size)) ∙ take-append_seam p rom

  rom_is : rom_in f ≡ rom
  rom_is = drop_at p rom file_size (length-part b fits.size)

  y : Bytes b p
  y = bytes-part b

  s : (switches_of b < 16) × ((switches_of b / 1 % 2 == 1) ≡ b.latch) × ((switches_of b / 2 % 2 == 1) ≡ b.on)
      × ((switches_of b / 4 % 2 == 1) ≡ b.regs.ie) × ((switches_of b / 8 % 2 == 1) ≡ b.regs.idle)
  s = switched b.latch b.on b.regs.ie b.regs.idle

  on_is : (weight : ℕ) → switch weight f ≡ (switches_of b / weight % 2 == 1)
  on_is weight = ap (λ n. n / weight % 2 == 1) (switches-file b rom)

  p_of : slice_index p 48 % 16 ≡ b.regs.p
  p_of = omega (arith, y.xp, fits.regs.p)

  x_of : slice_index p 48 / 16 ≡ b.regs.x
  x_of = omega (arith, y.xp, fits.regs.p)

  machine_is : machine_in f ≡ b
  machine_is = λ i. record {
    regs =
        record {
          r = (ap bank_in part_is ∙ bank-part b) i;
          d = (ap (λ p. slice_index p 46) part_is ∙ y.d) i;
          df = (ap (λ p. slice_index p 49 % 2) part_is ∙ ap (λ n. n % 2) y.flags ∙ df_of b.regs.df b.regs.q fits.regs.df) i;
          p = (ap (λ p. slice_index p 48 % 16) part_is ∙ p_of) i;
          x = (ap (λ p. slice_index p 48 / 16) part_is ∙ x_of) i;
          t = (ap (λ p. slice_index p 47) part_is ∙ y.t) i;
          q = (ap (λ p. slice_index p 49 / 2 == 1) part_is ∙ ap (λ n. n / 2 == 1) y.flags ∙ q_of b.regs.df b.regs.q fits.regs.df) i;
          ie = (on_is 4 ∙ s.3) i;
          idle = (on_is 8 ∙ s.4) i;
        };
    ram = (ap (drop 51) part_is ∙ ram-part b) i;
    latch = (on_is 1 ∙ s.1) i;
    on = (on_is 2 ∙ s.2) i;
    key = (ap (λ p. slice_index p 50) part_is ∙ y.key) i;
    cycle = (ap cycle_in part_is ∙ cycle-part b (omega (arith, low))) i;
  }

  size : length f ≡ program_size
  size = length-append p rom ∙ ap (λ n. n + length rom) (length-part b fits.size) ∙ ap (λ n. file_size + n) fits_rom.size

  accepted : IsProgram f
  accepted = record {
    size = size;
    begins = begins-file b rom;
    cycle = subst (λ (m : Machine). m.cycle ≤ most_cycles) (sym machine_is) low;
    machine = record {
      switches = subst (λ n. n < 16) (sym (switches-file b rom)) s.0;
      flags = subst (λ q. slice_index q 49 ≤ 3) (sym part_is) (subst (λ n. n ≤ 3) (sym y.flags) (few_flags b.regs.df b.regs.q fits.regs.df));
      key = subst (λ (m : Machine). m.key < 16) (sym machine_is) fits.key;
    };
  }

  pub goes-on : IsProgram f × ((script : List Event) → resumed f script
      ≡ record { machine = b; phase = Boundary; pictures = nothing_before b.cycle; rom = rom; script = script })
  goes-on = (
    accepted,
    λ script i. record {
      machine = machine_is i;
      phase = Boundary;
      pictures = nothing_before (machine_is i).cycle;
      rom = rom_is i;
      script = script;
    },
  )

pub program-goes-on : (rom : List ℕ) (b : Machine) → ProgramGoesOn rom b
program-goes-on rom b fits fits_rom low = goes-on rom b fits fits_rom low
