-- A move keeps the ranges of the machine.
use Rattle.std.proofs.Common.{◌≡◌, ◌≢◌, ◌⊎◌, inl, inr, ◌+◌, ◌-◌, ◌*◌, ◌/◌, ◌%◌, ◌<◌, ◌≤◌, ℕ, zero, suc, Bool, true, false, not, cond, List, [], ◌∷◌, length, slice_index, slice_set, replicate, refl, ap, sym, subst, ◌∙◌, arith, lit<, length-set, nat_lt, nat_le, ◌&&◌}
use Rattle.std.specs.Prelude.{◌==◌, Option, Some, None, if◌then◌else◌}
use Rattle.std.proofs.lemmas.List.{length-replicate}
use Rattle.machine.specs.Bank.{Word, Bank, zeros}
use Rattle.machine.specs.Opcodes.{kind_of, opcode_number}
use Rattle.machine.specs.Instruction.{Regs, Effect, Port, at, stepped, inputs, instruction, effect, interrupted, after_dma, regs_after_reset}
use Rattle.machine.specs.Instruction.Port.{Send, Receive}
use Rattle.machine.specs.Memory.{byte_at, mapped_address, read, written}
use Rattle.machine.specs.Keys.{Keys}
use Rattle.machine.specs.Signals.{efx_at}
use Rattle.machine.specs.Board.{Machine, Case, case_of, acted, main_move, move, moved_in, byte_of, flags_of, ram_after, key_after, after_reset}
use Rattle.machine.specs.Board.Case.{Dma, Interrupt, Idle, Instruction}
use Rattle.machine.specs.Ranges.{FitsWord, FitsBank, FitsRegs, FitsInputs, FitsMachine, FitsRom}
use Rattle.machine.proofs.Ranges.{get_fits, put_fits, up_fits, effect_fits, number_fits, ByteFits, write_fits}

-- ---- memory

picked-fits : (b : Bool) (x y : ℕ) → x < 256 → y < 256 → cond b x y < 256
picked-fits true x y f g = f
picked-fits false x y f g = g

pub read-fits : (rom ram : List ℕ) (latch : Bool) (a : ℕ) → ((k : ℕ) → slice_index rom k < 256) → ((k : ℕ) → slice_index ram k < 256)
    → read rom latch ram a < 256
unfolding read
read-fits rom ram latch a f g =
    picked-fits (nat_lt (mapped_address latch a) 0x1000) (slice_index ram (mapped_address latch a)) _ (g (mapped_address latch a))
    (picked-fits (nat_le 0x8000 (mapped_address latch a) && nat_lt (mapped_address latch a) 0x8800)
    (slice_index rom (mapped_address latch a - 0x8000)) 0xff (f (mapped_address latch a - 0x8000)) (lit< tt))

set-fits : (l : List ℕ) (i v : ℕ) → ((k : ℕ) → slice_index l k < 256) → v < 256 → (k : ℕ) → slice_index (slice_set l i v) k < 256
set-fits [] i v f h k = f k
set-fits (x ∷ l) zero v f h zero = h
set-fits (x ∷ l) zero v f h (suc k) = f (suc k)
set-fits (x ∷ l) (suc i) v f h zero = f zero
set-fits (x ∷ l) (suc i) v f h (suc k) = set-fits l i v (λ n. f (suc n)) h k

-- 4,096 bytes
pub record FitsRam (ram : List ℕ) : Type 0 where
  pub bytes : (k : ℕ) → slice_index ram k < 256
  pub size : length ram ≡ 0x1000

picked-ram : (b : Bool) (x y : List ℕ) → FitsRam x → FitsRam y → FitsRam (cond b x y)
picked-ram true x y f g = f
picked-ram false x y f g = g

written-fits : (latch : Bool) (ram : List ℕ) (a v : ℕ) → FitsRam ram → v < 256 → FitsRam (written latch ram a v)
unfolding written
written-fits latch ram a v f h =
    picked-ram (not latch && nat_lt a 0x1000) (slice_set ram a v) ram
    (record { bytes = set-fits ram a v f.bytes h; size = length-set ram a v ∙ f.size }) f

ram_after-fits : (w : Option (ℕ × ℕ)) (latch : Bool) (ram : List ℕ) → FitsRam ram → ByteFits w → FitsRam (ram_after w latch ram)
ram_after-fits None latch ram f h = f
ram_after-fits (Some w) latch ram f h = written-fits latch ram w.0 w.1 f h

picked-key : (b : Bool) (x y : ℕ) → x < 16 → y < 16 → cond b x y < 16
picked-key true x y f g = f
picked-key false x y f g = g

key_after-fits : (p : Option Port) (key : ℕ) → key < 16 → key_after p key < 16
key_after-fits None key h = h
key_after-fits (Some (Receive port)) key h = h
key_after-fits (Some (Send port byte)) key h = picked-key (port == 2) (byte % 16) key (omega arith) h

-- ---- the processor

stepped-fits : (s : Regs) (n : ℕ) → FitsRegs s → FitsRegs (stepped s n)
stepped-fits s n f =
    record { r = put_fits n s.r _ f.r (up_fits _); d = f.d; df = f.df; p = f.p; x = f.x; t = f.t }

inputs-fit : (s : Regs) (m : ℕ → ℕ) (flags : ℕ → Bool) (v : ℕ) → ((a : ℕ) → m a < 256) → v < 256 → FitsInputs (inputs s m flags v)
inputs-fit s m flags v f h = record { byte = f; next = f _; after = f _; taken = h }

pub record FitsEffect (e : Effect) : Type 0 where
  pub regs : FitsRegs e.regs
  pub write : ByteFits e.write

pub instruction-fits : (s : Regs) (m : ℕ → ℕ) (flags : ℕ → Bool) (v : ℕ) → FitsRegs s → ((a : ℕ) → m a < 256) → v < 256 → FitsEffect (instruction s m flags v)
instruction-fits s m flags v f g h =
    let k = m (at s s.p) in
    let t = stepped s s.p in
    let i = inputs t m flags v in
    record {
      regs = effect_fits (kind_of k) (opcode_number k) t i (number_fits k) (stepped-fits s s.p f) (inputs-fit t m flags v g h);
      write = write_fits (kind_of k) (opcode_number k) t i (stepped-fits s s.p f) (inputs-fit t m flags v g h);
    }

-- ---- the machine

pub acted-fits : (e : Effect) (b : Machine) → FitsEffect e → FitsMachine b → FitsMachine (acted e b)
acted-fits e b f g =
    let ram = ram_after-fits e.write b.latch b.ram (record { bytes = g.ram; size = g.size }) f.write in
    record { regs = f.regs; ram = ram.bytes; size = ram.size; key = key_after-fits e.port b.key g.key }

module _ (rom : List ℕ) (f : FitsRom rom) where
  pub main-fits : (efx : Bool) (keys : Keys) (b : Machine) → FitsMachine b → FitsMachine (main_move rom efx keys b)
  main-fits efx keys b g =
      acted-fits (instruction b.regs (byte_of rom b) (flags_of efx (keys b.key)) 0) b
      (instruction-fits b.regs (byte_of rom b) (flags_of efx (keys b.key)) 0 g.regs (λ a. read-fits rom b.ram b.latch a f.bytes g.ram) (lit< tt)) g

module _ (rom : List ℕ) (held : ℕ → Keys) (f : FitsRom rom) where
  moved-fits : (k : Case) (b : Machine) → FitsMachine b → FitsMachine (moved_in k rom held b)
  moved-fits Dma b g =
      let s = stepped-fits b.regs 0 g.regs in
      record {
        regs = record { r = s.r; d = s.d; df = s.df; p = s.p; x = s.x; t = s.t };
        ram = g.ram;
        size = g.size;
        key = g.key;
      }
  moved-fits Interrupt b g =
      record {
        regs = record { r = g.regs.r; d = g.regs.d; df = g.regs.df; p = lit< tt; x = lit< tt; t = omega (arith, g.regs.x, g.regs.p) };
        ram = g.ram;
        size = g.size;
        key = g.key;
      }
  moved-fits Idle b g = record { regs = g.regs; ram = g.ram; size = g.size; key = g.key }
  moved-fits Instruction b g =
      let m = main-fits rom f (efx_at (b.cycle + 1) b.on) (held (b.cycle + 1)) b g in
      record { regs = m.regs; ram = m.ram; size = m.size; key = m.key }

  pub move-fits : (b : Machine) → FitsMachine b → FitsMachine (move rom held b)
  move-fits b g = moved-fits (case_of b) b g

zero-word : FitsWord (record { hi = 0; lo = 0 })
zero-word = record { hi = lit< tt; lo = lit< tt }

zeros-fit : (n k : ℕ) → slice_index (replicate n 0) k < 256
zeros-fit zero k = lit< tt
zeros-fit (suc n) zero = lit< tt
zeros-fit (suc n) (suc k) = zeros-fit n k

pub reset-fits : FitsMachine after_reset
reset-fits =
    record {
      regs =
          record {
            r =
                record {
                  r0 = zero-word;
                  r1 = zero-word;
                  r2 = zero-word;
                  r3 = zero-word;
                  r4 = zero-word;
                  r5 = zero-word;
                  r6 = zero-word;
                  r7 = zero-word;
                  r8 = zero-word;
                  r9 = zero-word;
                  ra = zero-word;
                  rb = zero-word;
                  rc = zero-word;
                  rd = zero-word;
                  re = zero-word;
                  rf = zero-word;
                };
            d = lit< tt;
            df = omega arith;
            p = lit< tt;
            x = lit< tt;
            t = lit< tt;
          };
      ram = zeros-fit 0x1000;
      size = length-replicate {A = ℕ} 0x1000 0;
      key = lit< tt;
    }
