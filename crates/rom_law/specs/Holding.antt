-- The parts of a machine in which a language state lies, apart from all others.
use Rattle.std.specs.Prelude.{◌≡◌, ℕ, ◌+◌, ◌-◌, ◌*◌, ◌/◌, min, Bool, true, false, List, slice_index, slice_range, length}
use Rattle.machine.specs.Bank.{Word, value}
use Rattle.machine.specs.Board.{Machine}
use Rattle.chip8_lang.specs.declared.view.Edition.{Edition}
use Rattle.chip8_lang.specs.Editions.{memory_start, memory_end, stack_top, variables, screen_start, rows_of, random_cell}
use Rattle.chip8_lang.specs.State.{Lang}
use Rattle.chip8_lang.specs.Places.{pixels, addresses, most_addresses}
use Rattle.rom_law.specs.Program.{Program}

pub record Places : Type 0 where
  pub ram : List ℕ
  pub latch : Bool
  pub on : Bool
  pub ie : Bool
  pub idle : Bool
  pub q : Bool
  pub r1 : Word
  pub r2 : Word
  pub r5 : Word
  pub r8 : Word
  pub r9 : Word
  pub ra : Word
  pub rb : Word

abbrev pub places : Machine → Places
places b =
    record {
      ram = b.ram;
      latch = b.latch;
      on = b.on;
      ie = b.regs.ie;
      idle = b.regs.idle;
      q = b.regs.q;
      r1 = b.regs.r.r1;
      r2 = b.regs.r.r2;
      r5 = b.regs.r.r5;
      r8 = b.regs.r.r8;
      r9 = b.regs.r.r9;
      ra = b.regs.r.ra;
      rb = b.regs.r.rb;
    }

-- how many addresses lie between R2 and the top of the stack
abbrev pub depth : Edition → ℕ → ℕ
depth e r2 = min most_addresses ((stack_top e - r2) / 2)

abbrev pub lies_in : Edition → Places → Lang
lies_in e p =
    record {
      v = slice_range p.ram (variables e) (variables e + 16);
      i = value p.ra;
      pc = value p.r5;
      stack = addresses p.ram (stack_top e) (depth e (value p.r2));
      memory = slice_range p.ram memory_start (memory_end e);
      dt = p.r8.hi;
      st = p.r8.lo;
      tone = p.q;
      n = value p.r9;
      b = slice_index p.ram random_cell;
      screen = pixels (rows_of e) (slice_range p.ram (screen_start e) 0x1000);
    }

-- `KeepsState` over the places alone, so that it stays what it is where a machine changes elsewhere, and the size of RAM
pub record Holding (x : Program) (p : Places) (s : Lang) : Type 0 where
  pub is : lies_in x.edition p ≡ s
  pub stack : value p.r2 + 2 * length s.stack ≡ stack_top x.edition
  pub size : length p.ram ≡ 0x1000
  pub latch : p.latch ≡ false
  pub enabled : p.ie ≡ true
  pub awake : p.idle ≡ false
  pub on : p.on ≡ x.on
  pub entry : p.r1 ≡ x.entry
  pub page : p.rb.hi ≡ x.page
