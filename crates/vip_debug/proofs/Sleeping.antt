-- The commands on a board that runs any program, whose run ends where the processor sleeps.
use Rattle.std.proofs.Common.{◌≡◌, inl, inr, ℕ, zero, suc, ◌+◌, ◌-◌, ◌<◌, ◌≤◌, ◌↔◌, Bool, true, false, List, [], ◌∷◌, ◌++◌, length, refl, sym, ap, ◌∙◌, subst, arith, min, nat_le, Result, Ok, Err, IsErr}
use Rattle.std.specs.Prelude.{◌==◌, if◌then◌else◌, codes}
use Rattle.std.proofs.lemmas.Bool.Decides.{nat_tests}
use Rattle.asm_core.specs.Origins.{Origins}
use Rattle.machine.specs.Board.{Machine, length_of}
use Rattle.machine.specs.Instruction.{Regs}
use Rattle.machine.specs.Keys.{Event, held_at}
use Rattle.machine.proofs.Runs.{cycle-move}
use Rattle.vip_memory.specs.Contents.{Contents}
use Rattle.vip_debug.proofs.TargetMoving.{later-on}
use Rattle.machine.specs.Run.{run_to}
use Rattle.vip_board.specs.Moves.{IfDone, moved, moved_by, name_of, Made}
use Rattle.vip_board.specs.Seen.{Seen, held_by}
use Rattle.vip_board.specs.declared.board.Moved.{Moved}
use Rattle.vip_board.specs.declared.board.Moved.TheVariants.{Done, End}
use Rattle.vip_byte.specs.Text.{newline}
use Rattle.std.specs.Option.{option_to_list}
use Rattle.vip_words.specs.Spoken.{Spoken}
use Rattle.vip_words.specs.declared.debug_commands.Command.{Command}
use Rattle.vip_words.specs.declared.debug_commands.Running.{Running}
use Rattle.vip_words.specs.declared.debug_commands.Running.TheVariants.{Step}
use Rattle.vip_cpu.specs.declared.cpu.Phase.TheVariants.{Boundary}
use Rattle.vip_outside.specs.Sink.{SinkMeaning}
use Rattle.vip_outside.specs.Pieces.{PutsAll, FailsWithin, StreamAnswers}
use Rattle.vip_outside.specs.declared.sink.Failed.{Failed}
use Rattle.vip_outside.proofs.PiecesLemmas.{PutsAll-append, FailsWithin-append, FailsWithin-more}
use Rattle.vip_program.specs.Trace.{sleeps, up_to_sleep, idle_address, end_at, lines, moves_to, moves_ahead, TraceFails, Traces}
use Rattle.vip_program.specs.declared.trace.ProgramEnd.{ProgramEnd}
use Rattle.vip_program.specs.declared.trace.ProgramEnd.TheVariants as end
use Rattle.vip_program.proofs.Runs.{rom-by, script-by, phase-by, machine-by}
use Rattle.vip_debug.specs.TargetRun.{Makes, run_from, state_of, up_to_end, moves_until, Rests}
use Rattle.vip_debug.specs.Commands.{Came}
use Rattle.vip_debug.specs.BoardParts.{Arrives, HasMoved}
use Rattle.vip_debug.specs.Fold.{all_pieces}
use Rattle.vip_debug.proofs.TargetFolding.{after-more, pieces-more, pieces-last}
use Rattle.vip_debug.proofs.TargetRuns.{reached, some-here, until}
use Rattle.vip_debug.specs.declared.program.Program.{Program}
use Rattle.vip_debug.specs.ProgramLaws.{ProgramLeads}
use Rattle.vip_text.specs.Stops.{idle_line}
use Rattle.vip_debug.specs.Programs.{ended_lines, comes, comes_to, ran_lines, gone_lines, program_pieces, machine_after, machine_with, program_written, StandsAs, ProgramAnswers, OneAnswers}

-- ---- whether the processor sleeps

pub asleep : (b : Machine) (address : ℕ) → end.Idle address ≡ end_at b → (sleeps b ≡ true) × (address ≡ idle_address b)
asleep b address is = by_test (sleeps b) is
  where
    by_test : (t : Bool) → end.Idle address ≡ (if t then end.Idle (idle_address b) else end.AtLimit) → (t ≡ true) × (address ≡ idle_address b)
    by_test true e = (refl, cc)
    by_test false e = cc

pub awake : (b : Machine) → end.AtLimit ≡ end_at b → sleeps b ≡ false
awake b is = by_test (sleeps b) is
  where
    by_test : (t : Bool) → end.AtLimit ≡ (if t then end.Idle (idle_address b) else end.AtLimit) → t ≡ false
    by_test true e = cc
    by_test false e = refl

-- a move of the board is one of its target
pub program-moved : (s s' : Seen) (r : Moved) (B : Type 0) → B → IfDone r (λ name. (s' ≡ moved s) × (name ≡ name_of s.machine))
    → IfDone r (λ name. (s' ≡ moved s) × (sleeps ≡ sleeps) × B)
program-moved s s' (Done name) B b m = (m.0, refl, b)
program-moved s s' End B b m = tt

pub rests-awake : (limit : ℕ) (s : Seen) (r : Moved) → sleeps s.machine ≡ false → (r ≡ End) ↔ (limit < s.machine.cycle + length_of s.rom s.machine)
    → (r ≡ End) ↔ Rests sleeps limit s
rests-awake limit s r is ends = (λ e. inr (ends.0 e), by_case)
  where
    by_case : Rests sleeps limit s → r ≡ End
    by_case (inl stop) = let bad : true ≡ false = sym stop ∙ is in cc
    by_case (inr over) = ends.1 over

-- so are some moves
module _ (stops : Regs → Contents → Type 0) (limit : ℕ) (s s' : Seen) (n : ℕ) (is : sleeps s.machine ≡ false) (made : Made limit stops s s' n) where
  pub program-makes : 0 < n → Makes stops sleeps limit s s' n
  program-makes some = record {
    moved = made.moves;
    goes_on = λ k after below. (made.passes k after below).asleep ∙ is;
    apart = λ k after below. (made.passes k after below).apart;
    within = made.within some;
  }

  none_late : (m : ℕ) → m ≡ n → limit < s.machine.cycle + length_of s.rom s.machine → n ≡ 0
  none_late zero e over = sym e
  none_late (suc m) e over =
      let first = cycle-move s.rom (held_by s) s.machine in
      let later = later-on m 1 n s (omega (arith, e)) in
      let within : (moved_by n s).machine.cycle ≤ limit = subst (λ (x : Seen). x.machine.cycle ≤ limit) made.moves (made.within (omega (arith, e))) in
      absurd (omega (arith, first, later, within, over))

  pub rests-none : (n ≡ 0 → limit < s.machine.cycle + length_of s.rom s.machine) → (n ≡ 0) ↔ Rests sleeps limit s
  rests-none none = (λ e. inr (none e), by_case)
    where
      by_case : Rests sleeps limit s → n ≡ 0
      by_case (inl stop) = let bad : true ≡ false = sym stop ∙ is in cc
      by_case (inr over) = none_late n refl over

-- the borrow of the board stays
pub program-stays : (moves : ℕ) (old new : Program) → HasMoved ProgramLeads moves old new → old.board.ghost_name ≡ new.board.ghost_name
program-stays moves old new (inl none) = sym (ap (λ (x : Program). x.board.ghost_name) none.1)
program-stays moves old new (inr more) = sym more.1

-- ---- what is written where a command comes to

module _ (b : Machine) (completed : Bool) (lines : List (List ℕ)) where
  abbrev by_tests : Bool → Bool → List (List ℕ)
  by_tests t c = if t then idle_line (idle_address b) ∷ [] else if c then lines else (codes "end" ++ newline) ∷ []

  at_tests : (t c : Bool) → sleeps b ≡ t → completed ≡ c → by_tests t c ≡ ended_lines b completed lines
  at_tests t c e d = ap (λ t. by_tests t c) (sym e) ∙ ap (by_tests (sleeps b)) (sym d)

  pub ended-idle : (address : ℕ) → end.Idle address ≡ end_at b → idle_line address ∷ [] ≡ ended_lines b completed lines
  ended-idle address is =
      let h = asleep b address is in
      ap (λ a. idle_line a ∷ []) h.1 ∙ ap (λ t. by_tests t completed) (sym h.0)

  pub ended-goes : end.AtLimit ≡ end_at b → completed ≡ true → lines ≡ ended_lines b completed lines
  ended-goes is done = at_tests false true (awake b is) done

  pub ended-early : end.AtLimit ≡ end_at b → completed ≡ false → (codes "end" ++ newline) ∷ [] ≡ ended_lines b completed lines
  ended-early is done = at_tests false false (awake b is) done

-- ---- the moves of a program

sleep_same : (bs : List Machine) → up_to_sleep bs ≡ up_to_end sleeps bs
unfolding up_to_sleep up_to_end
sleep_same [] = refl
sleep_same (b ∷ bs) = ap (λ rest. if sleeps b then b ∷ [] else b ∷ rest) (sleep_same bs)

pub moves-same : (s : Seen) (limit : ℕ) → moves_to s.rom (held_by s) s.machine limit ≡ moves_until (run_from sleeps s) limit
unfolding moves_to moves_until
moves-same s limit = ap (λ bs. length bs - 1) (sleep_same (run_to s.rom (held_by s) s.machine limit))

-- so many moves are made, and no more than there are
pub stands-by : (limit : ℕ) (s : Seen) (k : ℕ) (new : Seen) → s.phase ≡ Boundary → s.machine.cycle ≤ limit → new ≡ moved_by k s
    → k ≤ moves_until (run_from sleeps s) limit
    → StandsAs limit s (state_of (run_from sleeps s) k) new
stands-by limit s k new phase within is few =
    let r = run_from sleeps s in
    let there = reached r limit k (omega (arith, few, until r limit, some-here r limit 0 within)) in
    subst (StandsAs limit s (state_of r k)) (sym is)
    (record {
      phase = phase-by s k ∙ phase;
      rom = rom-by s k;
      script = script-by s k;
      machine = machine-by s k;
      within = subst (λ (b : Machine). b.cycle ≤ limit) (sym (machine-by s k)) there.within;
    })

pub stands-there : (limit : ℕ) (s : Seen) (c : Came) (new : Seen) (answer : Bool) → Arrives limit (run_from sleeps s) c new answer
    → StandsAs limit s (state_of (run_from sleeps s) c.moves) new
stands-there limit s c new answer a = record { phase = a.phase; rom = a.rom; script = a.script; machine = a.machine; within = a.within }

-- ---- one command

module _ (limit : ℕ) (pieces : Machine → List (List ℕ)) (after : Machine → Machine) (old new : Seen) (out out' : SinkMeaning) where
  pub one-fails : (r : Result (Unit {0}) Failed) → IsErr r → FailsWithin (pieces old.machine) out out' → OneAnswers limit pieces after old new out out' r
  one-fails (Ok done) bad fault = cc
  one-fails (Err e) bad fault = fault

  pub one-answers : (r : Result (Unit {0}) Failed) → StreamAnswers (pieces old.machine) out out' r → StandsAs limit old (after old.machine) new
      → OneAnswers limit pieces after old new out out' r
  one-answers (Ok done) puts stands = (puts, stands)
  one-answers (Err e) fault stands = fault

  pub one-further : (first rest : List (List ℕ)) (middle : SinkMeaning) (r : Result (Unit {0}) Failed) → first ++ rest ≡ pieces old.machine
      → PutsAll first out middle
      → StreamAnswers rest middle out' r → StandsAs limit old (after old.machine) new → OneAnswers limit pieces after old new out out' r
  one-further first rest middle (Ok done) is puts more stands =
      (subst (λ ps. PutsAll ps out out') is (PutsAll-append first rest out middle out' puts more), stands)
  one-further first rest middle (Err e) is puts fault stands =
      subst (λ ps. FailsWithin ps out out') is (FailsWithin-append first rest out middle out' puts fault)

-- ---- steps

module _ (origins : Origins) (limit count : ℕ) (old : Seen) where
  abbrev steps : Came
  steps = comes old.rom old.script limit (Step count) old.machine

  ahead_same : moves_ahead old limit count ≡ steps.moves
  ahead_same = ap (min count) (moves-same old limit)

  pub steps-fail : (new : Seen) (out out' : SinkMeaning) (r : Result (Unit {0}) Failed) → IsErr r → TraceFails origins count limit old new out out'
      → OneAnswers limit (ran_lines old.rom old.script limit origins (Step count)) (comes_to old.rom old.script limit (Step count)) old new out out' r
  steps-fail new out out' r bad t =
      let made = lines old.rom (held_at old.script) origins old.machine steps.moves in
      let ended = ended_lines (comes_to old.rom old.script limit (Step count) old.machine) steps.completed [] in
      one-fails limit (ran_lines old.rom old.script limit origins (Step count)) (comes_to old.rom old.script limit (Step count)) old new out out' r bad
      (FailsWithin-more made ended out out' (subst (λ n. FailsWithin (lines old.rom (held_at old.script) origins old.machine n) out out') ahead_same t.fails))

  pub steps-done : (new : Seen) (out middle out' : SinkMeaning) (made : ℕ) (r : Result (Unit {0}) Failed) → old.phase ≡ Boundary → old.machine.cycle ≤ limit
      → Traces origins count limit old new out middle made → StreamAnswers (ended_lines new.machine (made == count) []) middle out' r
      → OneAnswers limit (ran_lines old.rom old.script limit origins (Step count)) (comes_to old.rom old.script limit (Step count)) old new out out' r
  steps-done new out middle out' made r phase within t rest =
      let all : made ≡ steps.moves = t.all ∙ ahead_same in
      let few : made ≤ moves_until (run_from sleeps old) limit = omega (arith, all) in
      let stands = stands-by limit old made new phase within t.moved few in
      let there = subst (λ n. StandsAs limit old (state_of (run_from sleeps old) n) new) all stands in
      let done : (made == count) ≡ steps.completed = tested made (moves_until (run_from sleeps old) limit) all in
      let first = lines old.rom (held_at old.script) origins old.machine steps.moves in
      one-further limit (ran_lines old.rom old.script limit origins (Step count)) (comes_to old.rom old.script limit (Step count)) old new out out'
      first (ended_lines new.machine (made == count) []) middle r
      (ap (λ b. first ++ ended_lines b (made == count) []) there.machine
      ∙ ap (λ c. first ++ ended_lines (comes_to old.rom old.script limit (Step count) old.machine) c []) done)
      (subst (λ n. PutsAll (lines old.rom (held_at old.script) origins old.machine n) out middle) ahead_same t.puts) rest there
    where
      tested : (made most : ℕ) → made ≡ min count most → (made == count) ≡ nat_le count most
      tested made most is = grind (arith, nat_tests)

-- ---- other commands

pub other-lines : (rom : List ℕ) (script : List Event) (limit : ℕ) (origins : Origins) (running : Running) → ((count : ℕ) → running ≡ Step count → ⊥)
    → gone_lines rom script limit origins running ≡ ran_lines rom script limit origins running
other-lines rom script limit origins (Step count) not = absurd (not count refl)
other-lines rom script limit origins _ not = refl

-- ---- all commands

-- some are run
pub record Ran (origins : Origins) (limit : ℕ) (old s : Seen) (done : List Spoken) (out out' : SinkMeaning) : Type 0 where
  pub stands : StandsAs limit old (machine_with old limit done) s
  pub puts : PutsAll (program_written origins old limit done) out out'

module _ (origins : Origins) (limit : ℕ) (old s : Seen) (done : List Spoken) (spoken : Spoken) (out out' : SinkMeaning)
    (r : Ran origins limit old s done out out') where
  abbrev after : Command → Machine → Machine
  after = machine_after old.rom old.script limit

  abbrev pieces : Command → Machine → List (List ℕ)
  pieces = program_pieces old.rom old.script limit origins

  abbrev echo : List (List ℕ)
  echo = option_to_list spoken.echo

  abbrev answer : List (List ℕ)
  answer = pieces spoken.command (machine_with old limit done)

  from_here : {X : Type 0} (f : List ℕ → List Event → Machine → X) → f s.rom s.script s.machine ≡ f old.rom old.script (machine_with old limit done)
  from_here f =
      ap (λ rom. f rom s.script s.machine) r.stands.rom
      ∙ ap (λ script. f old.rom script s.machine) r.stands.script
      ∙ ap (f old.rom old.script) r.stands.machine

  answer_is : program_pieces s.rom s.script limit origins spoken.command s.machine ≡ answer
  answer_is = from_here (λ rom script b. program_pieces rom script limit origins spoken.command b)

  pub ran-more : (new : Seen) (middle out'' : SinkMeaning) → PutsAll echo out' middle
      → PutsAll (program_pieces s.rom s.script limit origins spoken.command s.machine) middle out''
      → StandsAs limit s (machine_after s.rom s.script limit spoken.command s.machine) new
      → Ran origins limit old new (done ++ spoken ∷ []) out out''
  ran-more new middle out'' first puts stands = record {
    stands = record {
      phase = stands.phase;
      rom = stands.rom ∙ r.stands.rom;
      script = stands.script ∙ r.stands.script;
      machine = stands.machine ∙ from_here (λ rom script b. machine_after rom script limit spoken.command b)
          ∙ sym (after-more after pieces done spoken old.machine);
      within = stands.within;
    };
    puts =
        subst (λ ps. PutsAll ps out out'') (sym (pieces-last after pieces done spoken old.machine))
        (PutsAll-append (program_written origins old limit done) (echo ++ answer) out out' out'' r.puts
        (PutsAll-append echo answer out' middle out'' first (subst (λ ps. PutsAll ps middle out'') answer_is puts)));
  }

  breaks_off : (all rest : List Spoken) (out'' : SinkMeaning) → all ≡ done ++ spoken ∷ rest → FailsWithin (echo ++ answer) out' out''
      → FailsWithin (program_written origins old limit all) out out''
  breaks_off all rest out'' split fault =
      let others = all_pieces after pieces rest (after spoken.command (machine_with old limit done)) in
      subst (λ ps. FailsWithin ps out out'') (sym (ap (program_written origins old limit) split ∙ pieces-more after pieces done spoken rest old.machine))
      (FailsWithin-append (program_written origins old limit done) ((echo ++ answer) ++ others) out out' out'' r.puts
      (FailsWithin-more (echo ++ answer) others out' out'' fault))

  -- a put of the echo failed, or one of the answer
  pub echo-fails : (all rest : List Spoken) (out'' : SinkMeaning) → all ≡ done ++ spoken ∷ rest → FailsWithin echo out' out''
      → FailsWithin (program_written origins old limit all) out out''
  echo-fails all rest out'' split fault = breaks_off all rest out'' split (FailsWithin-more echo answer out' out'' fault)

  pub ran-fails : (all rest : List Spoken) (middle out'' : SinkMeaning) → all ≡ done ++ spoken ∷ rest → PutsAll echo out' middle
      → FailsWithin (program_pieces s.rom s.script limit origins spoken.command s.machine) middle out''
      → FailsWithin (program_written origins old limit all) out out''
  ran-fails all rest middle out'' split first fault =
      breaks_off all rest out'' split
      (FailsWithin-append echo answer out' middle out'' first (subst (λ ps. FailsWithin ps middle out'') answer_is fault))

pub program-fails : (origins : Origins) (limit : ℕ) (commands : List Spoken) (old new : Seen) (out out' : SinkMeaning) (r : Result ProgramEnd Failed) → IsErr r
    → FailsWithin (program_written origins old limit commands) out out' → ProgramAnswers origins limit commands old new out out' r
program-fails origins limit commands old new out out' (Ok end) bad fault = cc
program-fails origins limit commands old new out out' (Err e) bad fault = fault
