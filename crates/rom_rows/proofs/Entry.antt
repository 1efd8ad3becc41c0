-- The machine at the heads of blocks, with what is known of it filled in.
use Rattle.std.proofs.Common.{◌≡◌, ℕ, ◌+◌, ◌/◌, ◌%◌, ◌<◌, ◌≤◌, arith, true, List}
use Rattle.std.proofs.lemmas.Bool.{and_parts, leb-true}
use Rattle.machine.specs.Bank.{Word, word, word_of}
use Rattle.machine.specs.Board.{Machine}
use Rattle.machine.specs.Ranges.{FitsMachine}
use Rattle.chip8_lang.specs.declared.view.Edition.{Edition}
use Rattle.chip8_lang.specs.Editions.{memory_end}
use Rattle.chip8_lang.specs.State.{Lang, is_fetchable}
use Rattle.chip8_image.specs.declared.image.labels.TheConstants.{AT_FETCH}
use Rattle.rom_law.specs.Program.{Program}
use Rattle.rom_law.specs.Holding.{places, Holding}
use Rattle.rom_law.specs.Rows.{Ready}
use Rattle.rom_law.proofs.Places.{memory_fits}
use Rattle.rom_rows.specs.Rom.{program_of}
use Rattle.rom_rows.specs.Heads.{high_byte, low_byte, page_of, Fetching, Entered}

-- main code runs
pub ready : {e : Edition} {rom : List ℕ} {b : Machine} {s : Lang} → Holding (program_of e rom) (places b) s → Ready (program_of e rom) b
ready h = record { latch = h.latch; enabled = h.enabled; on = h.on; entry = h.entry }

-- in the fetch
abbrev pub on_4 : Word → Machine → Machine
on_4 a b = record b { regs = record b.regs { p = 4; r = record b.regs.r { r4 = a } } }

pub is_on_4 : {x : Program} {a : ℕ} {b : Machine} {s : Lang} → Fetching x a b s → b ≡ on_4 (word_of a) b
is_on_4 {b = b} o = λ i. record b { regs = record b.regs { p = o.p i; r = record b.regs.r { r4 = o.r4 i } } }

-- in a routine
abbrev pub on_3 : ℕ → Machine → Machine
on_3 a b = record b { regs = record b.regs { p = 3; r = record b.regs.r { r3 = word_of a } } }

pub is_on_3 : (a : ℕ) (b : Machine) → b.regs.p ≡ 3 → b.regs.r.r3 ≡ word_of a → b ≡ on_3 a b
is_on_3 a b p r3 = λ i. record b { regs = record b.regs { p = p i; r = record b.regs.r { r3 = r3 i } } }

-- in a routine, with the opcode at hand
abbrev pub entered : Edition → ℕ → ℕ → ℕ → Machine → Machine
entered e a high low b =
    record b {
      regs =
          record b.regs {
            p = 3;
            r = record b.regs.r {
              r3 = word_of a;
              r4 = word_of AT_FETCH;
              r6 = word (page_of e) (240 + high % 16);
              r7 = word (page_of e) (240 + low / 16);
              rc = word high low;
            };
          };
    }

pub is_inside : (e : Edition) (s : Lang) → is_fetchable e s ≡ true → (0x200 ≤ s.pc) × (s.pc + 2 ≤ memory_end e)
is_inside e s h = let p = and_parts _ _ h in (leb-true _ _ p.0, leb-true _ _ p.1)

module _ {e : Edition} {rom : List ℕ} {a : ℕ} {b : Machine} {s : Lang} (o : Entered (program_of e rom) a b s) where
  pub is_entered : b ≡ entered e a (high_byte s) (low_byte s) b
  is_entered = λ i. record b { regs = record b.regs { p = o.p i; r = record b.regs.r { r3 = o.r3 i; r4 = o.r4 i; r6 = o.r6 i; r7 = o.r7 i; rc = o.rc i } } }

  pub high_fits : FitsMachine b → high_byte s < 256
  high_fits f = memory_fits o.holds f.ram s.pc (is_inside e s o.inside).0 (omega (arith, is_inside e s o.inside))

  pub low_fits : FitsMachine b → low_byte s < 256
  low_fits f = memory_fits o.holds f.ram (s.pc + 1) (omega (arith, is_inside e s o.inside)) (omega (arith, is_inside e s o.inside))
