-- What was saved of a program's run goes on as that run: the machine of the file is a state of the run, and the board from it makes the moves behind it.
use Rattle.std.proofs.Common.{◌≡◌, ℕ, ◌≤◌, List, [], ◌∷◌, ◌++◌, Option, append-nil, sym, ap, ap₂, subst, subst₂, ◌∙◌, arith}
use Rattle.std.specs.Prelude.{max, min}
use Rattle.machine.specs.Board.{Machine}
use Rattle.machine.specs.Keys.{Event as KeyEvent, held_at}
use Rattle.machine.specs.Ranges.{FitsMachine, FitsRom}
use Rattle.machine.proofs.Runs.{later-move}
use Rattle.asm_core.specs.Origins.{Origins}
use Rattle.rom_law.proofs.Ahead.{behind_moves}
use Rattle.rom_law.proofs.First.{moves_fit}
use Rattle.rom_board.specs.Saved.{AgreeBefore}
use Rattle.rom_board.proofs.Agreeing.{same_states}
use Rattle.vip_board.specs.Moves.{sleeps}
use Rattle.vip_board.specs.Seen.{Seen}
use Rattle.vip_board.proofs.Along.{in-turn}
use Rattle.vip_byte.specs.Number.{most_cycles}
use Rattle.vip_outside.specs.Pieces.{joined}
use Rattle.vip_program.specs.Program.{resumed}
use Rattle.vip_program.specs.Trace.{end_at}
use Rattle.vip_text.specs.ProgramFile.{machine_in, rom_in, IsProgram}
use Rattle.vip_show.specs.Written.{ProgramGoesOn, program_file_of, program_part_of, program_pieces_of}
use Rattle.vip_show.proofs.ProgramStates.{program-goes-on}
use Rattle.vip_debug.specs.Fold.{after_all, all_pieces, echoed}
use Rattle.vip_debug.specs.Programs.{machine_after, machine_at, program_pieces}
use Rattle.vip_debug.specs.TargetRun.{Run, moves_until, state_of}
use Rattle.vip_debug.proofs.TargetRuns.{Reached, all-moves, last-here, reached, some-here, until, until-from}
use Rattle.vip_words.specs.Spoken.{Spoken}
use Rattle.vip_words.specs.declared.debug_commands.Command.TheVariants.{Runs}
use Rattle.vip_words.specs.declared.debug_commands.Running.TheVariants.{To}
use Rattle.vip_words.specs.declared.request.BoardShow.{BoardShow}
use Rattle.vip_words.specs.declared.request.BoardShow.TheVariants as board
use Rattle.vip_tools.specs.Code.{Known}
use Rattle.vip_tools.specs.Judged.Verdict.{Given}
use Rattle.vip_tools.specs.Outcome.{Output}
use Rattle.vip_tools.proofs.JudgedLemmas.{same_value}
use Rattle.vip_verbs.specs.Programs.{BoardShowComes, RunsOn, limit_at, program_debugged, program_ran, program_saved}
use Rattle.vip_call.specs.Saved.{BoardGoesOn, BoardGoesOnAsRun, IsBoardSaved}

abbrev run : List ℕ → List KeyEvent → Machine → Run
run rom script b = record { rom = rom; script = script; first = b; ends = sleeps }

-- the state in which a run ends
abbrev end_of : List ℕ → List KeyEvent → ℕ → Machine → Machine
end_of rom script limit b = state_of (run rom script b) (moves_until (run rom script b) limit)

-- the machine and the ROM of a board are in their ranges
pub record FitsBoard (seen : Seen) : Type 0 where
  pub rom : FitsRom seen.rom
  pub machine : FitsMachine seen.machine
  pub few : seen.machine.cycle ≤ most_cycles

-- a board under any script
module _ (seen : Seen) (fits : FitsBoard seen) where
  abbrev rom : List ℕ
  rom = seen.rom

  abbrev first : Machine
  first = seen.machine

  abbrev pub board_by : List KeyEvent → Seen
  board_by script = record seen { script = script }

  module _ (script : List KeyEvent) (limit : ℕ) (few : limit ≤ most_cycles) where
    abbrev late : ℕ
    late = max limit first.cycle

    abbrev r : Run
    r = run rom script first

    abbrev made : ℕ
    made = moves_until r late

    abbrev last : Machine
    last = state_of r made

    abbrev file : List ℕ
    file = program_file_of rom last

    there : Reached r late made
    there = reached r late made (omega (arith, until r late, some-here r late 0 (omega arith)))

    last_is : machine_at (board_by script) (limit_at limit (board_by script)) ≡ last
    last_is = let same : min late late ≡ late = omega arith in ap (λ c. state_of r (moves_until r c)) same

    law : ProgramGoesOn rom last
    law = program-goes-on rom last

    last_fits : FitsMachine last
    last_fits = moves_fit rom fits.rom (held_at script) first fits.machine made

    last_few : last.cycle ≤ most_cycles
    last_few = omega (arith, there.within, few, fits.few)

    accepted : IsProgram file
    accepted = (law last_fits fits.rom last_few).0

    machine_is : machine_in file ≡ last
    machine_is = ap (λ (s : Seen). s.machine) ((law last_fits fits.rom last_few).1 script)

    rom_is : rom_in file ≡ rom
    rom_is = ap (λ (s : Seen). s.rom) ((law last_fits fits.rom last_few).1 script)

    abbrev t : ℕ
    t = (machine_in file).cycle

    cycle_is : t ≡ last.cycle
    cycle_is = ap (λ (b : Machine). b.cycle) machine_is

    module _ (other : List KeyEvent) (later : ℕ) (agree : AgreeBefore t script other) (behind : t ≤ later) where
      abbrev u : Run
      u = run rom other first

      same : (k : ℕ) → k ≤ made → state_of u k ≡ state_of r k
      same k order = same_states rom (held_at script) (held_at other) made first (λ c key low. agree c key (omega (arith, low, cycle_is))) k order

      same_last : state_of u made ≡ last
      same_last = same made (omega arith)

      same_cycle : (state_of u made).cycle ≡ t
      same_cycle = ap (λ (b : Machine). b.cycle) same_last ∙ sym cycle_is

      here : (c : ℕ) → t ≤ c → Reached u c made
      here c after =
          record { within = omega (arith, same_cycle, after); runs = λ k low. ap sleeps (same k (omega (arith, low))) ∙ there.runs k low }

      until_is : moves_until u t ≡ made
      until_is =
          let h : Reached u t made = here t (omega arith) in
          omega (arith, until u t, all-moves u t made h.within h.runs, last-here u t made h.within (omega (arith, same_cycle, later-move rom (held_at other) (state_of u made))))

      to_is : machine_after rom other later (Runs (To t)) first ≡ machine_in file
      to_is =
          let first_one : min t later ≡ t = omega (arith, behind) in
          ap (λ c. state_of u (moves_until u c)) first_one ∙ ap (state_of u) until_is ∙ same_last ∙ sym machine_is

      late_is : limit_at later (board_by other) ≡ later
      late_is = omega (arith, behind, cycle_is, in-turn rom (held_at script) made 0 first (omega arith))

      late_there : limit_at later (resumed file other) ≡ later
      late_there = omega (arith, behind)

      -- the run ends where the one from the file ends
      end_is : end_of rom other later first ≡ end_of (rom_in file) other later (machine_in file)
      end_is =
          let rest : ℕ = moves_until (run rom other (state_of u made)) later in
          ap (state_of u) (until-from u later made (here later behind))
          ∙ behind_moves rom (held_at other) rest made first
          ∙ ap (end_of rom other later) (same_last ∙ sym machine_is)
          ∙ ap (λ rom. end_of rom other later (machine_in file)) (sym rom_is)

      goes_on : BoardGoesOn board_by file other later
      goes_on = record { answers = answers; state = state }
        where
          answers :
              (origins : Origins) (echo : Option (List ℕ)) (commands : List Spoken)
              → let to : Spoken = record { command = Runs (To t); echo = echo } in
              program_debugged origins (to ∷ commands) later (board_by other)
              ≡ program_ran later
              (all_pieces (machine_after rom other (limit_at later (board_by other))) (program_pieces rom other (limit_at later (board_by other)) origins) (to ∷ []) first
              ++ all_pieces (machine_after (rom_in file) other (limit_at later (resumed file other)))
              (program_pieces (rom_in file) other (limit_at later (resumed file other)) origins) commands (machine_in file))
              (end_at (after_all (machine_after (rom_in file) other (limit_at later (resumed file other))) commands (machine_in file)))
          answers origins echo commands =
              subst₂
              (λ m n. program_ran later (all_pieces (machine_after rom other m) (program_pieces rom other m origins) (to ∷ commands) first)
              (end_at (after_all (machine_after rom other m) (to ∷ commands) first))
              ≡ program_ran later
              (all_pieces (machine_after rom other m) (program_pieces rom other m origins) (to ∷ []) first
              ++ all_pieces (machine_after (rom_in file) other n) (program_pieces (rom_in file) other n origins) commands (machine_in file))
              (end_at (after_all (machine_after (rom_in file) other n) commands (machine_in file))))
              (sym late_is) (sym late_there)
              (ap₂ (program_ran later)
              (ap₂ (λ ps qs. ps ++ qs) (sym (append-nil first_pieces))
              (ap (all_pieces (machine_after rom other later) (program_pieces rom other later origins) commands) to_is
              ∙ ap (λ rom. all_pieces (machine_after rom other later) (program_pieces rom other later origins) commands (machine_in file)) (sym rom_is)))
              (ap end_at
              (ap (after_all (machine_after rom other later) commands) to_is
              ∙ ap (λ rom. after_all (machine_after rom other later) commands (machine_in file)) (sym rom_is))))
            where
              to : Spoken
              to = record { command = Runs (To t); echo = echo }

              first_pieces : List (List ℕ)
              first_pieces = echoed to (program_pieces rom other later origins to.command first)

          state : program_saved later (board_by other) ≡ program_saved later (resumed file other)
          state =
              let twice : min later later ≡ later = omega arith in
              subst₂
              (λ m n. program_ran later (program_pieces_of rom (machine_at (board_by other) m)) (end_at (machine_at (board_by other) m))
              ≡ program_ran later (program_pieces_of (rom_in file) (machine_at (resumed file other) n)) (end_at (machine_at (resumed file other) n)))
              (sym late_is) (sym late_there)
              (subst
              (λ m. program_ran later (program_pieces_of rom (end_of rom other m first)) (end_at (end_of rom other m first))
              ≡ program_ran later (program_pieces_of (rom_in file) (end_of (rom_in file) other m (machine_in file))) (end_at (end_of (rom_in file) other m (machine_in file))))
              (sym twice)
              (ap₂ (λ rom b. program_ran later (program_pieces_of rom b) (end_at b)) (sym rom_is) end_is))

  module _ (keys : Option (List ℕ)) (limit : ℕ) (few : limit ≤ most_cycles) (output : Output) where
    saves : RunsOn board_by keys (program_saved limit) (Given output) → BoardGoesOnAsRun board_by keys limit (joined output.pieces)
    saves x =
        subst (BoardGoesOnAsRun board_by keys limit) (sym file_is)
        (record {
          accepted = accepted script limit few;
          script = script;
          reads = x.gives;
          shows = machine_is script limit few ∙ sym (last_is script limit few);
          rom = rom_is script limit few;
          rest = λ other later agree behind. goes_on script limit few other later agree behind;
        })
      where
        script : List KeyEvent
        script = x.value

        file_is : joined output.pieces ≡ file script limit few
        file_is =
            ap (λ (o : Output). joined o.pieces) (same_value output _ x.here)
            ∙ ap (λ b. joined (program_pieces_of rom b)) (last_is script limit few)
            ∙ ap (λ rest. program_part_of (last script limit few) ++ rest) (append-nil rom)

    pub board_saved :
        (known : Known) (shown : BoardShow (List ℕ)) → BoardShowComes known board_by keys limit shown (Given output)
        → IsBoardSaved board_by keys limit shown output.pieces
    board_saved known board.State comes = saves comes
    board_saved known (board.Commands text echo) comes = tt
