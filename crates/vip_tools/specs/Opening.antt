-- What a source, a script and commands come to.
use Rattle.std.specs.Prelude.{◌≡◌, ℕ, Bool, List, Option, option_map, Ok, Err, Vec}
use Rattle.machine.specs.Keys.{Event as KeyEvent}
use Rattle.asm_lex.specs.declared.shape.Isa.{Isa}
use Rattle.asm_core.specs.Made.{Made, IsAssembly, IsFirstOf}
use Rattle.asm_core.specs.Sources.{source_lines}
use Rattle.asm_core.specs.declared.fault.AsmFault.{AsmFault}
use Rattle.asm_core.specs.declared.fault.AsmFault.TheVariants as asm
use Rattle.chip8_source.specs.declared.fault.ImageFault.{ImageFault}
use Rattle.chip8_source.specs.declared.fault.ImageFault.TheVariants as image
use Rattle.vip_words.specs.DebugGrammar.{commands_of}
use Rattle.vip_words.specs.Spoken.{Spoken}
use Rattle.vip_words.specs.declared.debug_commands.CommandFault.{CommandFault}
use Rattle.vip_words.specs.declared.debug_commands.CommandFault.TheVariants as command
use Rattle.vip_words.specs.declared.debug_commands.Speaks.{Speaks}
use Rattle.vip_keypad.specs.declared.script.ScriptFault.{ScriptFault}
use Rattle.vip_keypad.specs.declared.script.ScriptFault.TheVariants as script
use Rattle.vip_tools.specs.declared.refusal.Refusal.{Refusal}
use Rattle.vip_tools.specs.declared.refusal.Refusal.TheVariants.{Script, Command, Source, Games, Rom, NoMemory}
use Rattle.vip_tools.specs.Games.{Game, GamesFault, games_of}
use Rattle.vip_tools.specs.declared.games.LineFault.{LineFault}
use Rattle.vip_tools.specs.declared.games.LineFault.TheVariants as unread
use Rattle.vip_tools.specs.Judged.{Judged, judged}
use Rattle.vip_tools.specs.Outcome.{script_in}

-- ---- how a fault is told

abbrev pub script_refusal : ScriptFault → Refusal
script_refusal (script.Fault line cause) = Script line cause
script_refusal script.NoMemory = NoMemory

abbrev pub command_refusal : CommandFault → Refusal
command_refusal (command.Fault line cause) = Command line cause
command_refusal command.NoMemory = NoMemory

abbrev pub source_refusal : AsmFault → Refusal
source_refusal (asm.Fault line cause) = Source line cause
source_refusal asm.NoMemory = NoMemory

abbrev pub rom_refusal : ImageFault → Refusal
rom_refusal image.NoMemory = NoMemory
rom_refusal fault = Rom fault

abbrev pub games_refusal : GamesFault → Refusal
games_refusal fault = Games fault.line fault.cause

abbrev pub line_refusal : ℕ → LineFault → Refusal
line_refusal number (unread.Cause cause) = Games number cause
line_refusal number unread.NoMemory = NoMemory

-- ---- what is judged

-- the content of a key script, where there is one
abbrev pub keys_in : {Z : Type 0} → Option (Vec ℕ Z) → Option (List ℕ)
keys_in = option_map (λ script. script.items)

abbrev pub ScriptComes : Option (List ℕ) → Judged (List KeyEvent)
ScriptComes keys = judged (λ events. script_in keys ≡ Ok events) (λ fault. script_in keys ≡ Err fault) script_refusal

-- a list of games
abbrev pub GamesCome : List ℕ → Judged (List Game)
GamesCome list = judged (λ games. games_of list ≡ Ok games) (λ fault. games_of list ≡ Err fault) games_refusal

-- the debugger's commands
abbrev pub CommandsCome : Speaks → (List ℕ → Option ℕ) → Bool → ℕ → List ℕ → Judged (List Spoken)
CommandsCome speaks names echo limit text =
    judged (λ commands. commands_of speaks names echo limit text ≡ Ok commands) (λ fault. commands_of speaks names echo limit text ≡ Err fault) command_refusal

-- a source in the words of an instruction set
abbrev pub SourceComes : Isa → List ℕ → Judged Made
SourceComes isa text = judged (IsAssembly isa (source_lines text)) (IsFirstOf isa (source_lines text)) source_refusal
