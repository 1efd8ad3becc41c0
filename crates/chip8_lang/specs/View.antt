-- What is shown of a language state at a dispatch point.
use Rattle.std.specs.Prelude.{ℕ, ◌+◌, ◌*◌, if◌then◌else◌, Bool, List, Option, Some, None}
use Rattle.machine.specs.Board.{Machine}
use Rattle.chip8_lang.specs.declared.view.Edition.{Edition}
use Rattle.chip8_lang.specs.declared.view.StateView.{StateView}
use Rattle.chip8_lang.specs.Places.{state_of}
use Rattle.chip8_lang.specs.State.{Lang, memory_byte, is_fetchable}

-- a language state but for game memory and screen, with its opcode and its cycle
pub record View : Type 0 where
  pub v : List ℕ
  pub i : ℕ
  pub pc : ℕ
  pub opcode : Option ℕ
  pub stack : List ℕ
  pub dt : ℕ
  pub st : ℕ
  pub tone : Bool
  pub n : ℕ
  pub b : ℕ
  pub cycle : ℕ

-- the opcode at pc, where both its bytes lie in game memory
abbrev pub opcode_at : Edition → Lang → Option ℕ
opcode_at e s = if is_fetchable e s then Some (memory_byte s s.pc * 256 + memory_byte s (s.pc + 1)) else None

abbrev pub view_of : Edition → Lang → ℕ → View
view_of e s cycle =
    record {
      v = s.v;
      i = s.i;
      pc = s.pc;
      opcode = opcode_at e s;
      stack = s.stack;
      dt = s.dt;
      st = s.st;
      tone = s.tone;
      n = s.n;
      b = s.b;
      cycle = cycle;
    }

-- the view of the language state that is read off a machine
unfoldable pub view_at : Edition → Machine → View
view_at e b = view_of e (state_of e b) b.cycle

-- a view as the code has it
abbrev pub seen : StateView → View
seen view =
    record {
      v = view.v;
      i = view.i;
      pc = view.pc;
      opcode = view.opcode;
      stack = view.stack.items;
      dt = view.dt;
      st = view.st;
      tone = view.tone;
      n = view.n;
      b = view.b;
      cycle = view.cycle;
    }
