-- The instructions of a run, with one move more.
use Rattle.std.proofs.Common.{◌≡◌, ◌⊎◌, inl, inr, ℕ, zero, suc, ◌+◌, ◌≤◌, ◌<◌, Bool, true, false, List, [], ◌∷◌, ◌++◌, length, replicate, refl, sym, ap, ◌∙◌, subst, arith, length-append, append-nil, add-one}
use Rattle.std.specs.Prelude.{if◌then◌else◌, ◌==◌, filter, find, map, Option, Some, None, Result, Ok, Err, IsErr, slice_index_or, slice_set}
use Rattle.std.specs.Option.{option_map, option_or}
use Rattle.std.proofs.lemmas.Bool.{cases_eq, eq-eqb, ne_eqb}
use Rattle.std.proofs.lemmas.List.{map-append}
use Rattle.std.proofs.lemmas.List.Elements.{filter-append}
use Rattle.std.proofs.lemmas.List.Folds.{find-append}
use Rattle.machine.specs.Board.{Machine, Case, case_of, move}
use Rattle.machine.specs.Board.Case.{Dma, Interrupt, Idle, Instruction}
use Rattle.machine.specs.Run.{states}
use Rattle.machine.proofs.Runs.{later-move}
use Rattle.vip_board.proofs.Along.{states-more}
use Rattle.vip_board.specs.Moves.{moved as moved_step, moved_by}
use Rattle.vip_board.specs.Seen.{Seen, held_by}
use Rattle.vip_byte.specs.Number.{most_cycles}
use Rattle.vip_cpu.specs.declared.cpu.Phase.TheVariants.{Boundary}
use Rattle.asm_core.specs.Origins.{Origins}
use Rattle.vip_outside.specs.Sink.{SinkMeaning, PutAnswers}
use Rattle.vip_outside.specs.Pieces.{PutsAll, FailsWithin}
use Rattle.vip_outside.specs.declared.sink.Failed.{Failed}
use Rattle.vip_outside.proofs.PiecesLemmas.{PutsAll-nil, PutsAll-one, FailsWithin-snoc}
use Rattle.vip_program.specs.declared.counts.Counts.{Counts}
use Rattle.vip_program.specs.declared.counts.Point.{Point}
use Rattle.vip_program.specs.declared.instructions.Fetched.{Fetched}
use Rattle.vip_program.specs.declared.instructions.Instructions.{Instructions}
use Rattle.vip_program.specs.declared.instructions.ProgramProfile.{ProgramProfile}
use Rattle.vip_program.specs.declared.trace.ProgramEnd.{ProgramEnd}
use Rattle.vip_program.specs.Counts.{addresses, Awaits, Counted, HasValues, IsCount}
use Rattle.vip_program.specs.Instructions.{AreFirst, Profiles, code_shown, fetched_at, first_at, instructions, is_instruction, pc_of, point_at, points_of, program_profile, title}
use Rattle.vip_program.specs.Moves.{goes_on, machine_after}
use Rattle.vip_program.specs.Pictures.{made}
use Rattle.vip_program.specs.Profile.{Code, last_cycle, profile_text}
use Rattle.vip_program.specs.Sums.{IsShown}
use Rattle.vip_program.specs.Trace.{ShowAnswers, ShowsProgram, end_at, last_machine, moves_to}
use Rattle.vip_program.proofs.Counting.{last_cycle-more, table-first, table-set}
use Rattle.vip_program.proofs.Runs.{machine-by, move-within, moves-go, moves-rest, rom-by}

-- ---- one move more

more-in : (run : List Machine) (b : Machine) (case : Case) → case_of b ≡ case
    → instructions (run ++ b ∷ []) ≡ instructions run ++ (if is_instruction case then b ∷ [] else [])
more-in run b case is =
    filter-append (λ b. is_instruction (case_of b)) run (b ∷ []) ∙ ap (λ case. instructions run ++ (if is_instruction case then b ∷ [] else [])) is

module _ (run : List Machine) (b : Machine) where
  pub instructions-more : case_of b ≡ Instruction → instructions (run ++ b ∷ []) ≡ instructions run ++ b ∷ []
  instructions-more is = more-in run b Instruction is

  pub instructions-kept : (case_of b ≡ Instruction → ⊥) → instructions (run ++ b ∷ []) ≡ instructions run
  instructions-kept other = by_case (case_of b) refl
    where
      by_case : (case : Case) → case_of b ≡ case → instructions (run ++ b ∷ []) ≡ instructions run
      by_case Instruction is = absurd (other is)
      by_case Dma is = more-in run b Dma is ∙ append-nil (instructions run)
      by_case Interrupt is = more-in run b Interrupt is ∙ append-nil (instructions run)
      by_case Idle is = more-in run b Idle is ∙ append-nil (instructions run)

  pub points-more : case_of b ≡ Instruction → points_of (run ++ b ∷ []) ≡ points_of run ++ point_at b ∷ []
  points-more is = ap (map point_at) (instructions-more is) ∙ map-append point_at (instructions run) (b ∷ [])

  pub points-kept : (case_of b ≡ Instruction → ⊥) → points_of (run ++ b ∷ []) ≡ points_of run
  points-kept other = ap (map point_at) (instructions-kept other)

  module _ (rom : List ℕ) where
    -- what is known of an address is known with more moves, and of no other does a move tell
    found : (pc : ℕ) → case_of b ≡ Instruction
        → first_at rom (run ++ b ∷ []) pc
        ≡ option_map (fetched_at rom) (option_or (find (λ b. pc_of b == pc) (instructions run)) (if pc_of b == pc then Some b else None))
    found pc is =
        ap (λ bs. option_map (fetched_at rom) (find (λ b. pc_of b == pc) bs)) (instructions-more is)
        ∙ ap (option_map (fetched_at rom)) (find-append (λ b. pc_of b == pc) (instructions run) (b ∷ []))

    known : (first : Option Machine) (more : Option Machine) (met : Fetched) → option_map (fetched_at rom) first ≡ Some met
        → option_map (fetched_at rom) (option_or first more) ≡ option_map (fetched_at rom) first
    known None more met is = cc
    known (Some c) more met is = refl

    unknown : (first : Option Machine) → option_map (fetched_at rom) first ≡ None
        → option_map (fetched_at rom) (option_or first (Some b)) ≡ Some (fetched_at rom b)
    unknown None is = refl
    unknown (Some c) is = cc

    nothing-more : (first : Option Machine) → option_or first None ≡ first
    nothing-more None = refl
    nothing-more (Some c) = refl

    first-there : (pc : ℕ) → case_of b ≡ Instruction → (pc ≡ pc_of b → ⊥) → first_at rom (run ++ b ∷ []) pc ≡ first_at rom run pc
    first-there pc is other =
        found pc is
        ∙ ap (λ here. option_map (fetched_at rom) (option_or (find (λ b. pc_of b == pc) (instructions run)) (if here then Some b else None)))
        (ne_eqb (pc_of b) pc (λ same. other (sym same)))
        ∙ ap (option_map (fetched_at rom)) (nothing-more (find (λ b. pc_of b == pc) (instructions run)))

    first-here : case_of b ≡ Instruction → first_at rom run (pc_of b) ≡ None → first_at rom (run ++ b ∷ []) (pc_of b) ≡ Some (fetched_at rom b)
    first-here is none =
        found (pc_of b) is
        ∙ ap (λ here. option_map (fetched_at rom) (option_or (find (λ c. pc_of c == pc_of b) (instructions run)) (if here then Some b else None)))
        (eq-eqb (pc_of b) (pc_of b) refl)
        ∙ unknown (find (λ c. pc_of c == pc_of b) (instructions run)) none

    first-kept : case_of b ≡ Instruction → (met : Fetched) → first_at rom run (pc_of b) ≡ Some met → (pc : ℕ) → first_at rom (run ++ b ∷ []) pc ≡ first_at rom run pc
    first-kept is met some pc = go (cases_eq pc (pc_of b))
      where
        go : (pc ≡ pc_of b) ⊎ (pc ≡ pc_of b → ⊥) → first_at rom (run ++ b ∷ []) pc ≡ first_at rom run pc
        go (inl here) =
            ap (first_at rom (run ++ b ∷ [])) here ∙ found (pc_of b) is
            ∙ known (find (λ c. pc_of c == pc_of b) (instructions run)) (if pc_of b == pc_of b then Some b else None) met some
            ∙ ap (first_at rom run) (sym here)
        go (inr there) = first-there pc is there

    -- ---- the tables

    -- an instruction is met
    met-at : (old new : Instructions) (fetched : Fetched) → AreFirst old rom run → length old.first.items ≡ addresses → pc_of b < addresses
        → case_of b ≡ Instruction → fetched ≡ fetched_at rom b
        → (slice_index_or old.first.items (pc_of b) None ≡ None → new.first.items ≡ slice_set old.first.items (pc_of b) (Some fetched))
        → ((met : Fetched) → slice_index_or old.first.items (pc_of b) None ≡ Some met → new.first.items ≡ old.first.items)
        → AreFirst new rom (run ++ b ∷ [])
    met-at old new fetched are size within is same first later = by_first (first_at rom run (pc_of b)) refl
      where
        by_first : (known : Option Fetched) → first_at rom run (pc_of b) ≡ known → AreFirst new rom (run ++ b ∷ [])
        by_first None none = λ pc other below.
            ap (λ items. slice_index_or items pc other) (first (are (pc_of b) None within ∙ none))
            ∙ table-set old.first.items (pc_of b) (Some fetched) (first_at rom run) (first_at rom (run ++ b ∷ [])) size within are
            (ap Some same ∙ sym (first-here is none)) (λ pc there. sym (first-there pc is there)) pc other below
        by_first (Some met) some = λ pc other below.
            ap (λ items. slice_index_or items pc other) (later met (are (pc_of b) None within ∙ some))
            ∙ are pc other below ∙ sym (first-kept is met some pc)

    pub first-met : (old new : Instructions) (pc : ℕ) (fetched : Fetched) → AreFirst old rom run → length old.first.items ≡ addresses → pc < addresses
        → case_of b ≡ Instruction → pc ≡ pc_of b → fetched ≡ fetched_at rom b
        → (slice_index_or old.first.items pc None ≡ None → new.first.items ≡ slice_set old.first.items pc (Some fetched))
        → ((met : Fetched) → slice_index_or old.first.items pc None ≡ Some met → new.first.items ≡ old.first.items)
        → AreFirst new rom (run ++ b ∷ [])
    first-met old new pc fetched are size within is at same first later =
        met-at old new fetched are size (subst (λ k. k < addresses) at within) is same
        (subst (λ k. slice_index_or old.first.items k None ≡ None → new.first.items ≡ slice_set old.first.items k (Some fetched)) at first)
        (subst (λ k. (met : Fetched) → slice_index_or old.first.items k None ≡ Some met → new.first.items ≡ old.first.items) at later)

    -- or another move is made
    pub first-same : (met : Instructions) → AreFirst met rom run → (case_of b ≡ Instruction → ⊥) → AreFirst met rom (run ++ b ∷ [])
    first-same met are other = λ pc value below.
        are pc value below ∙ sym (ap (λ bs. option_map (fetched_at rom) (find (λ b. pc_of b == pc) bs)) (instructions-kept other))

-- of no move
pub first-none : (rom : List ℕ) (items : List (Option Fetched)) → items ≡ replicate addresses None → HasValues items (first_at rom [])
first-none rom items none = table-first items None (first_at rom []) none (λ pc. refl)

-- ---- a run on its way

pub record Walking (limit : ℕ) (start v : Seen) (profile : ProgramProfile) : Type 0 where
  pub boundary : v.phase ≡ Boundary
  pub within : v.machine.cycle ≤ limit
  pub count : ℕ
  pub moved : v ≡ moved_by count start
  pub left : moves_to start.rom (held_by start) start.machine limit ≡ count + moves_to v.rom (held_by v) v.machine limit
  pub profiles : Profiles profile start.rom (states start.rom (held_by start) start.machine count)
  -- each point lies in a cycle of its own
  pub few : length (points_of (states start.rom (held_by start) start.machine count)) ≤ v.machine.cycle
  pub behind : last_cycle (points_of (states start.rom (held_by start) start.machine count)) ≤ v.machine.cycle

module _ (limit : ℕ) (start : Seen) where
  pub walking-first : (profile : ProgramProfile) → start.phase ≡ Boundary → start.machine.cycle ≤ limit → Counted profile.counts []
      → AreFirst profile.instructions start.rom [] → Walking limit start start profile
  walking-first profile boundary within counted first = record {
    boundary = boundary;
    within = within;
    count = 0;
    moved = refl;
    left = omega arith;
    profiles = record { counted = counted; first = first };
    few = omega arith;
    behind = omega arith;
  }

  module _ (v : Seen) (profile : ProgramProfile) (w : Walking limit start v profile) (in_time : v.machine.cycle ≤ most_cycles) where
    abbrev run : List Machine
    run = states start.rom (held_by start) start.machine w.count

    pub walking-awaits : Awaits profile.counts (point_at v.machine)
    walking-awaits = record {
      points = points_of run;
      counted = w.profiles.counted;
      few = let few = w.few in omega (arith, few, in_time);
      behind = w.behind;
      in_time = in_time;
    }

    pub walking-count : IsCount profile.counts
    walking-count = record {
      points = points_of run;
      counted = w.profiles.counted;
      few = let few = w.few in omega (arith, few, in_time);
      in_time = let behind = w.behind in omega (arith, behind, in_time);
    }

    -- one move more
    module _ (v' : Seen) (profile' : ProgramProfile) (goes : goes_on limit v.rom v.machine ≡ true) (moved : v' ≡ moved_step v) where
      here : v.machine ≡ machine_after start w.count
      here = ap (λ (s : Seen). s.machine) w.moved ∙ machine-by start w.count

      rom_is : v.rom ≡ start.rom
      rom_is = ap (λ (s : Seen). s.rom) w.moved ∙ rom-by start w.count

      run' : states start.rom (held_by start) start.machine (w.count + 1) ≡ run ++ v.machine ∷ []
      run' =
          ap (states start.rom (held_by start) start.machine) (add-one w.count) ∙ states-more start.rom (held_by start) w.count start.machine
          ∙ ap (λ b. run ++ b ∷ []) (sym here)

      later : v.machine.cycle < v'.machine.cycle
      later = rw moved (let later = later-move v.rom (held_by v) v.machine in omega (arith, later))

      few' : length (points_of (run ++ v.machine ∷ [])) ≤ v'.machine.cycle
      few' = by_case (case_of v.machine) refl
        where
          by_case : (case : Case) → case_of v.machine ≡ case → length (points_of (run ++ v.machine ∷ [])) ≤ v'.machine.cycle
          by_case Instruction is = rw (points-more run v.machine is, length-append) (let few = w.few in omega (arith, few, later))
          by_case Dma is = rw (points-kept run v.machine (λ bad. let no : Dma ≡ Instruction = sym is ∙ bad in cc)) (let few = w.few in omega (arith, few, later))
          by_case Interrupt is =
              rw (points-kept run v.machine (λ bad. let no : Interrupt ≡ Instruction = sym is ∙ bad in cc)) (let few = w.few in omega (arith, few, later))
          by_case Idle is = rw (points-kept run v.machine (λ bad. let no : Idle ≡ Instruction = sym is ∙ bad in cc)) (let few = w.few in omega (arith, few, later))

      behind' : last_cycle (points_of (run ++ v.machine ∷ [])) ≤ v'.machine.cycle
      behind' = by_case (case_of v.machine) refl
        where
          by_case : (case : Case) → case_of v.machine ≡ case → last_cycle (points_of (run ++ v.machine ∷ [])) ≤ v'.machine.cycle
          by_case Instruction is = rw (points-more run v.machine is, last_cycle-more (points_of run) (point_at v.machine)) (omega (arith, later))
          by_case Dma is = rw (points-kept run v.machine (λ bad. let no : Dma ≡ Instruction = sym is ∙ bad in cc)) (let behind = w.behind in omega (arith, behind, later))
          by_case Interrupt is =
              rw (points-kept run v.machine (λ bad. let no : Interrupt ≡ Instruction = sym is ∙ bad in cc)) (let behind = w.behind in omega (arith, behind, later))
          by_case Idle is = rw (points-kept run v.machine (λ bad. let no : Idle ≡ Instruction = sym is ∙ bad in cc)) (let behind = w.behind in omega (arith, behind, later))

      pub walking-next : v'.phase ≡ Boundary
          → ((run : List Machine) → Profiles profile v.rom run → last_cycle (points_of run) ≤ v.machine.cycle → Profiles profile' v.rom (run ++ v.machine ∷ []))
          → Walking limit start v' profile'
      walking-next boundary meets = record {
        boundary = boundary;
        within = rw moved (move-within v.rom (held_by v) limit v.machine goes);
        count = w.count + 1;
        moved = moved ∙ ap moved_step w.moved ∙ ap (λ n. moved_by n start) (sym (add-one w.count));
        left =
            let one = moves-go v.rom (held_by v) limit v.machine w.within goes in
            let same : moves_to v'.rom (held_by v') v'.machine limit ≡ moves_to v.rom (held_by v) (move v.rom (held_by v) v.machine) limit =
            ap (λ (s : Seen). moves_to s.rom (held_by s) s.machine limit) moved in
            let before = w.left in
            omega (arith, one, same, before);
        profiles =
            subst (Profiles profile' start.rom) (sym run')
            (subst (λ rom. Profiles profile' rom (run ++ v.machine ∷ [])) rom_is
            (meets run (subst (λ rom. Profiles profile rom run) (sym rom_is) w.profiles) w.behind));
        few = subst (λ run. length (points_of run) ≤ v'.machine.cycle) (sym run') few';
        behind = subst (λ run. last_cycle (points_of run) ≤ v'.machine.cycle) (sym run') behind';
      }

  -- all moves are made
  module _ (v : Seen) (profile : ProgramProfile) (w : Walking limit start v profile) (rests : goes_on limit v.rom v.machine ≡ false) where
    all : w.count ≡ moves_to start.rom (held_by start) start.machine limit
    all = let none = moves-rest v.rom (held_by v) limit v.machine w.within rests in let left = w.left in omega (arith, none, left)

    pub walked-moved : v ≡ moved_by (moves_to start.rom (held_by start) start.machine limit) start
    walked-moved = w.moved ∙ ap (λ n. moved_by n start) all

    pub walked-profiles : Profiles profile start.rom (made start limit)
    walked-profiles = subst (λ n. Profiles profile start.rom (states start.rom (held_by start) start.machine n)) all w.profiles

-- ---- what goes out

module _ (origins : Origins) (start v : Seen) (limit : ℕ) (profile : ProgramProfile) (profiles : Profiles profile start.rom (made start limit))
    (out out' : SinkMeaning) where
  -- what a put of the text of what was counted answers
  abbrev pub PutsProfile : Result (Unit {0}) Failed → Type 0
  PutsProfile answer =
      (points : List Point) (code : ℕ → Code) → Counted profile.counts points
      → IsShown (λ pc. code_shown pc (slice_index_or profile.instructions.first.items pc None)) code
      → PutAnswers (profile_text title origins code points) out out' answer

  abbrev piece : List ℕ
  piece = profile_text title origins (λ pc. code_shown pc (first_at start.rom (made start limit) pc)) (points_of (made start limit))

  text_is : piece ∷ [] ≡ program_profile origins start limit
  unfolding program_profile
  text_is = refl

  put : (answer : Result (Unit {0}) Failed) → PutsProfile answer → PutAnswers piece out out' answer
  put answer puts = puts _ _ profiles.counted (λ pc below. ap (code_shown pc) (profiles.first pc None below))

  pub profiled : v ≡ moved_by (moves_to start.rom (held_by start) start.machine limit) start → (done : Unit {0}) → PutsProfile (Ok done)
      → (end : ProgramEnd) → end ≡ end_at v.machine → ShowAnswers (program_profile origins start limit) limit start out out' (Ok end)
  profiled moved done puts end ends = record {
    puts = subst (λ pieces. PutsAll pieces out out') text_is (PutsAll-one piece out out' (put (Ok done) puts));
    ending =
        ends ∙ ap end_at (ap (λ (s : Seen). s.machine) moved ∙ machine-by start (moves_to start.rom (held_by start) start.machine limit));
  }

  pub profile-fails : (r : Result ProgramEnd Failed) → IsErr r → (e : Failed) → PutsProfile (Err e)
      → ShowAnswers (program_profile origins start limit) limit start out out' r
  profile-fails (Ok end) bad e puts = cc
  profile-fails (Err e') bad e puts =
      subst (λ pieces. FailsWithin pieces out out') text_is (FailsWithin-snoc [] piece [] out out out' (PutsAll-nil out) (put (Err e) puts))
