-- The reports on the error output, each a line.
use Rattle.std.specs.Prelude.{ℕ, List, [], ◌∷◌, ◌++◌, codes, decimal}
use Rattle.chip8_lang.specs.State.{memory_size}
use Rattle.chip8_lang.specs.declared.view.Edition.TheVariants.{Usual, Tall}
use Rattle.vip_byte.specs.HexText.{hex2, hex4, words_text}
use Rattle.asm_core.specs.declared.fault.AsmCause.{AsmCause}
use Rattle.asm_core.specs.FaultNames.{asm_cause_name}
use Rattle.cycle_check.specs.declared.fault.CertCause.{CertCause}
use Rattle.cycle_check.specs.Exits.{obstacle_line}
use Rattle.cycle_check.specs.FaultNames.{cert_cause_name}
use Rattle.game_check.specs.declared.fault.Obstacle.{Obstacle}
use Rattle.game_check.specs.declared.fault.Obstacle.TheVariants.{Open, TooLong}
use Rattle.game_check.specs.declared.fault.OpenClaim.{OpenClaim}
use Rattle.game_check.specs.declared.fault.ProofCause.{ProofCause}
use Rattle.game_check.specs.FaultNames.{proof_cause_name}
use Rattle.chip8_source.specs.declared.fault.ImageFault.{ImageFault}
use Rattle.chip8_source.specs.declared.fault.ImageFault.TheVariants as image
use Rattle.vip_keypad.specs.declared.script.ScriptCause.{ScriptCause}
use Rattle.vip_keypad.specs.FaultNames.{script_cause_name}
use Rattle.vip_words.specs.declared.debug_commands.CommandCause.{CommandCause}
use Rattle.vip_words.specs.FaultNames.{command_cause_name}
use Rattle.vip_text.specs.declared.fault.StateFault.{StateFault}
use Rattle.vip_text.specs.declared.fault.StateFault.TheVariants.{BadLength}
use Rattle.vip_text.specs.FaultNames.{state_fault_name}
use Rattle.vip_text.specs.Stops.{idle_line, opcode_part, stop_line}
use Rattle.vip_byte.specs.Text.{newline}
use Rattle.vip_text.specs.Endings.{Ending, ending_in}
use Rattle.vip_text.specs.Endings.Ending.{AtLimit, AtStop}
use Rattle.vip_tools.specs.Files.{most_message, most_text, ram_size, rom_size}
use Rattle.vip_tools.specs.Games.{game_cause_name}
use Rattle.vip_tools.specs.declared.games.GameCause.{GameCause}
use Rattle.vip_tools.specs.declared.ended.Ended.{Ended}
use Rattle.vip_tools.specs.declared.ended.Ended.TheVariants.{Worked, Checked, Ran, Idle, Linked}
use Rattle.vip_tools.specs.declared.fault.PerformFault.{PerformFault}
use Rattle.vip_tools.specs.declared.fault.PerformFault.TheVariants.{NoDispatch, WriteFault}
use Rattle.vip_tools.specs.declared.refusal.Kind.{Kind}
use Rattle.vip_tools.specs.declared.refusal.Misfit.{Misfit}
use Rattle.vip_tools.specs.declared.refusal.Misfit.TheVariants as misfit
use Rattle.vip_tools.specs.declared.refusal.Kind.TheVariants.{Game, TallGame, Script, Commands, Source, Certificate, State, ProgramState, Message, Rom, Ram, Games}
use Rattle.vip_tools.specs.declared.refusal.NoTiming.{NoTiming}
use Rattle.vip_tools.specs.declared.refusal.NoTiming.TheVariants.{Undefined, Obstacle as Ended_at}
use Rattle.vip_tools.specs.declared.refusal.Refusal.{Refusal}
use Rattle.vip_tools.specs.declared.refusal.Refusal.TheVariants as refusal

-- ---- the end of a run

abbrev pub done : ℕ → List ℕ
done limit = codes "done " ++ (decimal limit ++ newline)

abbrev pub end_report : ℕ → Ending → List ℕ
end_report limit AtLimit = done limit
end_report limit (AtStop stop pc opcode) = stop_line stop pc opcode

-- the bytes of a message that were sent, and those that were received
abbrev pub linked_report : ℕ → ℕ → List ℕ
linked_report sent received = codes "linked sent " ++ (decimal sent ++ (codes " received " ++ (decimal received ++ newline)))

-- a verb whose text alone was written has no report
abbrev pub ended_report : Ended → List ℕ
ended_report Worked = []
ended_report (Checked faulty) = []
ended_report (Ran limit end) = end_report limit (ending_in end)
ended_report (Idle address) = idle_line address
ended_report (Linked sent received) = linked_report sent received

-- A report is one piece, which goes out by one put; where there is none, nothing is put.
abbrev pub report_pieces : List ℕ → List (List ℕ)
report_pieces [] = []
report_pieces (byte ∷ bytes) = (byte ∷ bytes) ∷ []

-- ---- refusals

-- the first fault of a state file
abbrev pub bad_state : StateFault → List ℕ
bad_state fault = codes "vip: state file: " ++ (state_fault_name fault ++ newline)

-- the number of a line and what is wrong with it
abbrev pub at_line : List ℕ → ℕ → List ℕ → List ℕ
at_line text line cause = text ++ (decimal line ++ (codes ": " ++ (cause ++ newline)))

-- the most bytes that a file may have
abbrev pub larger_than : List ℕ → ℕ → List ℕ
larger_than text most = text ++ (decimal most ++ (codes " bytes" ++ newline))

abbrev pub too_large_report : Kind → List ℕ
too_large_report Game = larger_than (codes "vip: game larger than ") (memory_size Usual)
too_large_report TallGame = larger_than (codes "vip: game larger than ") (memory_size Tall)
too_large_report Script = larger_than (codes "vip: key script larger than ") most_text
too_large_report Commands = larger_than (codes "vip: commands larger than ") most_text
too_large_report Source = codes "vip: source too large" ++ newline
too_large_report Certificate = larger_than (codes "vip: certificate larger than ") most_text
too_large_report State = bad_state BadLength
too_large_report ProgramState = bad_state BadLength
too_large_report Message = larger_than (codes "vip: message larger than ") most_message
too_large_report Rom = larger_than (codes "vip: rom larger than ") rom_size
too_large_report Ram = larger_than (codes "vip: program larger than ") ram_size
too_large_report Games = larger_than (codes "vip: games larger than ") most_text

-- the words are refused, or a file could not be read
abbrev pub usage : List ℕ
usage = codes "usage: vip trace, play, debug, demo, asm, list, dis or bounds" ++ newline

abbrev pub cannot_read : List ℕ → List ℕ
cannot_read name = codes "vip: cannot read " ++ (name ++ newline)

-- the first fault of a script, of the debugger's commands, of a source, and of a certificate of cycles and of a game
abbrev pub bad_script : ℕ → ScriptCause → List ℕ
bad_script line cause = at_line (codes "vip: key script line ") line (script_cause_name cause)

abbrev pub bad_command : ℕ → CommandCause → List ℕ
bad_command line cause = at_line (codes "vip: commands line ") line (command_cause_name cause)

abbrev pub bad_source : ℕ → AsmCause → List ℕ
bad_source line cause = at_line (codes "vip: source line ") line (asm_cause_name cause)

-- the bytes that a source gives can't be run
abbrev pub misfit_report : Misfit → List ℕ
misfit_report (misfit.Stray address) = codes "vip: source gives " ++ (hex4 address ++ (codes ", where no memory is" ++ newline))
misfit_report (misfit.Game e) = larger_than (codes "vip: game larger than ") (memory_size e)

abbrev pub bad_certificate : ℕ → CertCause → List ℕ
bad_certificate line cause = at_line (codes "vip: certificate line ") line (cert_cause_name cause)

abbrev pub bad_proof : ℕ → ProofCause → List ℕ
bad_proof line cause = at_line (codes "vip: proof line ") line (proof_cause_name cause)

-- and of a list of games
abbrev pub bad_games : ℕ → GameCause → List ℕ
bad_games line cause = at_line (codes "vip: games line ") line (game_cause_name cause)

-- a claim of a game that can't be closed: its cause, the opcode where it has one, pc, the range of I, and the stack
unfoldable pub open_line : OpenClaim → List ℕ
open_line o =
    codes "vip: no certificate: " ++ proof_cause_name o.cause ++ opcode_part o.opcode ++ codes " at " ++ hex4 o.point.pc ++ codes " with I "
    ++ hex4 o.low ++ codes " to " ++ hex4 o.high ++ codes " stack" ++ words_text o.point.stack.items ++ newline

-- why a game has no certificate: a claim that can't be closed; or that each would be too long
abbrev pub no_certificate : Obstacle → List ℕ
no_certificate TooLong = codes "vip: no certificate: TooLong" ++ newline
no_certificate (Open o) = open_line o

-- why no certificate of a routine was found: its entry has no number, or where the search ended
abbrev pub no_timing : NoTiming → List ℕ
no_timing (Undefined name) = codes "vip: no certificate: Undefined " ++ (name.items ++ newline)
no_timing (Ended_at obstacle) = codes "vip: no certificate: " ++ obstacle_line obstacle

abbrev pub no_memory : List ℕ
no_memory = codes "vip: no memory" ++ newline

-- the ROM isn't what its source gives: the first byte that differs, from the source and in the ROM
abbrev pub rom_differs : ℕ → ℕ → ℕ → List ℕ
rom_differs address assembled here =
    codes "vip: rom differs at " ++ (hex4 address ++ (codes ": source " ++ (hex2 assembled ++ (codes " image " ++ (hex2 here ++ newline)))))

abbrev pub image_report : ImageFault → List ℕ
image_report (image.BadRomSource line cause) = at_line (codes "vip: rom source line ") line (asm_cause_name cause)
image_report (image.RomDiffers address assembled here) = rom_differs address assembled here
image_report image.NoMemory = no_memory

-- no dispatch point could be saved; not all of the output could be written
abbrev pub no_dispatch : List ℕ
no_dispatch = codes "vip: no dispatch point" ++ newline

abbrev pub write_fault : List ℕ
write_fault = codes "vip: write fault" ++ newline

-- why a verb that was opened comes to no end
abbrev pub fault_report : PerformFault → List ℕ
fault_report NoDispatch = no_dispatch
fault_report WriteFault = write_fault

abbrev pub report_of : Refusal → List ℕ
report_of refusal.Usage = usage
report_of (refusal.Unread name) = cannot_read name.now
report_of (refusal.TooLarge kind) = too_large_report kind
report_of (refusal.Script line cause) = bad_script line cause
report_of (refusal.Command line cause) = bad_command line cause
report_of (refusal.Source line cause) = bad_source line cause
report_of (refusal.Misfit misfit) = misfit_report misfit
report_of (refusal.State fault) = bad_state fault
report_of (refusal.Rom fault) = image_report fault
report_of (refusal.Certificate line cause) = bad_certificate line cause
report_of (refusal.Proof line cause) = bad_proof line cause
report_of (refusal.Games line cause) = bad_games line cause
report_of (refusal.NoCertificate obstacle) = no_certificate obstacle
report_of (refusal.NoTiming why) = no_timing why
report_of refusal.NoMemory = no_memory
