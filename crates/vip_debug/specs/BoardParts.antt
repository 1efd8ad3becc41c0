-- What the parts of a command make.
use Rattle.std.specs.Prelude.{◌≡◌, ◌⊎◌, ℕ, ◌-◌, ◌<◌, ◌≤◌, Bool, false, List, [], ◌∷◌, ◌++◌, length, Option, Result, Ok, Err}
use Rattle.machine.specs.Board.{case_of}
use Rattle.machine.specs.Memory.{read}
use Rattle.vip_board.specs.Seen.{Seen}
use Rattle.vip_byte.specs.Text.{newline}
use Rattle.vip_memory.specs.Contents.{Contents}
use Rattle.vip_outside.specs.Sink.{SinkMeaning}
use Rattle.vip_outside.specs.Pieces.{PutsAll, FailsWithin}
use Rattle.vip_outside.specs.declared.sink.Failed.{Failed}
use Rattle.asm_lex.specs.declared.shape.Isa.TheVariants.{Cdp1802}
use Rattle.asm_listing.specs.Disassembly.{taken}
use Rattle.vip_words.specs.declared.debug_commands.Running.{Running}
use Rattle.vip_words.specs.declared.debug_commands.Running.TheVariants.{Watch}
use Rattle.vip_debug.specs.declared.bytes.Layout.{Layout}
use Rattle.vip_debug.specs.declared.moves.Change.{Change}
use Rattle.vip_cpu.specs.declared.cpu.Phase.TheVariants.{Boundary}
use Rattle.vip_debug.specs.TargetRun.{Run, state_of}
use Rattle.vip_debug.specs.BoardShown.{cycle_text, rows, bytes_from, stretch, pieces_in}
use Rattle.vip_debug.specs.Commands.{Came, bytes_at}
use Rattle.vip_program.specs.Lines.{place_in}
use Rattle.vip_debug.specs.Answered.{move_line}
use Rattle.asm_core.specs.Origins.{Origins, labels_over}
use Rattle.std.specs.Option.{option_map_or}

-- ---- moves

-- a board is where a command comes to in a run, within the limit; the command is completed as the answer says
pub record Arrives (limit : ℕ) (r : Run) (came : Came) (s : Seen) (answer : Bool) : Type 0 where
  pub phase : s.phase ≡ Boundary
  pub rom : s.rom ≡ r.rom
  pub script : s.script ≡ r.script
  pub machine : s.machine ≡ state_of r came.moves
  pub within : s.machine.cycle ≤ limit
  pub completed : answer ≡ came.completed

-- no move was made, and nothing has changed; or so many were, which lead from the first to the second
abbrev pub HasMoved : {X : Type 0} (leads : ℕ → X → X → Type 0) → ℕ → X → X → Type 0
HasMoved leads moves old new = ((moves ≡ 0) × (new ≡ old)) ⊎ ((0 < moves) × leads moves old new)

-- what shows that bytes have changed by the k-th move
pub record IsChange (told : Option Origins) (r : Run) (address count k : ℕ) (change : Change) : Type 0 where
  pub line : change.line.items ≡ move_line told r (state_of r (k - 1))
  pub before : change.before.items ≡ stretch (bytes_at r 0) address count
  pub after : change.after.items ≡ stretch (bytes_at r k) address count
  pub place : change.place ≡ place_in (case_of (state_of r (k - 1))) (state_of r (k - 1))

-- what shows a command that is completed: nothing is needed but the board, or what has changed
abbrev pub IsShown : Option Origins → Running → Run → ℕ → Change → Type 0
IsShown told (Watch address count) r k change = IsChange told r address count k change
IsShown told running r k change = Unit {0}

-- the lines of such a command, by the board and by what has changed
abbrev pub lines_by : Running → Seen → Change → List (List ℕ)
lines_by (Watch address count) s change = change.line.items ∷ rows address change.before.items ++ rows address change.after.items
lines_by running s change = (cycle_text s.machine ++ newline) ∷ []

-- the labels at the instruction that changed it
abbrev pub labels_by : Origins → Running → Change → List (List ℕ)
labels_by origins (Watch address count) change = option_map_or (labels_over origins) change.place []
labels_by origins running change = []

-- what has changed ends at FFFF at the latest
abbrev pub Fits : Running → Change → Type 0
Fits (Watch address count) change = (length change.before.items ≤ 0x10000 - address) × (length change.after.items ≤ 0x10000 - address)
Fits running change = Unit {0}

-- ---- bytes

-- the byte that each address reads
abbrev pub reads : Contents → ℕ → ℕ
reads m address = read m.rom m.latch m.ram address

-- and where the boot latch is clear
abbrev pub clear_reads : Contents → ℕ → ℕ
clear_reads m address = read m.rom false m.ram address

-- the line of the instruction at an address went out behind those of its labels, and it shows so many bytes
abbrev pub PutsLine : Origins → Bool → Layout → (ℕ → ℕ) → ℕ → SinkMeaning → SinkMeaning → Result ℕ Failed → Type 0
PutsLine origins latch layout byte address old new (Ok shown) =
    PutsAll (pieces_in origins latch layout address (bytes_from byte address (0x10000 - address))) old new
    × (shown ≡ taken Cdp1802 (bytes_from byte address (0x10000 - address)))
PutsLine origins latch layout byte address old new (Err e) =
    FailsWithin (pieces_in origins latch layout address (bytes_from byte address (0x10000 - address))) old new
