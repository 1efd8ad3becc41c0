-- Where the board comes to.
use Rattle.std.proofs.Common.{◌≡◌, inl, inr, ℕ, ◌+◌, ◌-◌, ◌<◌, ◌≤◌, Bool, true, false, refl, sym, ap, ◌∙◌, subst, arith, Some, None, Option, List}
use Rattle.std.specs.Prelude.{◌==◌, if◌then◌else◌, slice_get, find, []}
use Rattle.std.proofs.lemmas.Bool.Decides.{nat_tests}
use Rattle.asm_core.specs.Origins.{Origins}
use Rattle.machine.specs.Board.{Machine}
use Rattle.machine.specs.Instruction.{Regs}
use Rattle.vip_memory.specs.Contents.{Contents}
use Rattle.vip_program.proofs.Runs.{script-by}
use Rattle.chip8_lang.specs.Events.{is_stop}
use Rattle.vip_board.specs.Seen.{Seen}
use Rattle.vip_board.specs.Moves.{IfDone, moved}
use Rattle.vip_board.specs.declared.board.Moved.{Moved}
use Rattle.vip_board.specs.declared.board.Moved.TheVariants.{Done, End}
use Rattle.chip8_image.specs.Interpreters.{interpreter_of}
use Rattle.vip_relation.specs.State.{VipState, interpreter, state_after, events_waiting}
use Rattle.vip_relation.specs.Follows.{Follows}
use Rattle.vip_relation.specs.Meets.{IsSame, MovesBy, MovesOn}
use Rattle.vip_words.specs.declared.debug_commands.Running.{Running}
use Rattle.vip_words.specs.declared.debug_commands.Seeking.TheVariants.{Next, Break}
use Rattle.vip_words.specs.declared.debug_commands.Showing.{Showing}
use Rattle.vip_debug.specs.Answered.{shown}
use Rattle.vip_debug.specs.TargetRun.{Makes as MakesMoves, run_from}
use Rattle.vip_debug.specs.Commands.{came}
use Rattle.vip_debug.specs.BoardParts.{HasMoved, Arrives as Arrived}
use Rattle.vip_debug.specs.declared.game.Game.{Game}
use Rattle.vip_debug.specs.Game.{run_at, Leads}
use Rattle.vip_debug.specs.GameLaws.{GameLeads}
use Rattle.vip_debug.specs.Answers.{begun, moves_until, place_of, all_met, moved_on, has_pc, at_point, ran}
use Rattle.vip_debug.specs.Parts.{TellsPresent, points_left, Makes, FindAnswers, Arrives}
use Rattle.vip_debug.proofs.Places.{begun-same, made-now, all-here, none-waits, until-same}

-- ---- the target

-- a move of the game is one of its target
pub game-moved : (u v : VipState) (r : Moved) → IfDone r (λ name. MovesOn u v name)
    → IfDone r (λ name. (v.board ≡ moved u.board) × (is_stop (interpreter v) ≡ is_stop (interpreter u)) × Leads 1 u v)
game-moved u v End none = tt
game-moved u v (Done name) m =
    (m.board, ap (λ e. is_stop (interpreter_of e)) m.edition, record { same = same; made = m.moves; met = m.met })
  where
    same : IsSame u v
    same = record { edition = m.edition; start = m.start; script = ap (λ (b : Seen). b.script) m.board }

-- so are some moves
pub game-makes : (stops : Regs → Contents → Type 0) (limit : ℕ) (u v : VipState) (n : ℕ) → MovesBy limit stops u v n
    → MakesMoves stops (is_stop (interpreter u)) limit u.board v.board n × (is_stop (interpreter v) ≡ is_stop (interpreter u)) × Leads n u v
game-makes stops limit u v n m = (
  record { moved = m.board; goes_on = m.goes_on; apart = m.apart; within = m.within },
  ap (λ e. is_stop (interpreter_of e)) m.edition,
  record { same = same; made = m.moves; met = m.met },
)
  where
    same : IsSame u v
    same = record { edition = m.edition; start = m.start; script = ap (λ (b : Seen). b.script) m.board ∙ script-by u.board n }

-- what a target of a game has gone through the game has, and its borrow stays
module _ (moves : ℕ) (old new : Game) where
  pub from-game : HasMoved GameLeads moves old new → HasMoved Leads moves old.vip.now new.vip.now
  from-game (inl none) = inl (none.0, ap (λ (x : Game). x.vip.now) none.1)
  from-game (inr more) = inr (more.0, more.1.1)

  pub game-stays : HasMoved GameLeads moves old new → old.vip.ghost_name ≡ new.vip.ghost_name
  game-stays (inl none) = sym (ap (λ (x : Game). x.vip.ghost_name) none.1)
  game-stays (inr more) = sym more.1.0

-- the run from the present state on
pub run-here : (v : VipState) → Follows v → run_from (is_stop (interpreter v)) v.board ≡ run_at v v.moves
run-here v f =
    ap (λ rom. record { rom = rom; script = v.board.script; first = v.board.machine; ends = is_stop (interpreter v) }) f.rom
    ∙ ap (λ b. record { rom = (interpreter v).rom; script = v.board.script; first = b; ends = is_stop (interpreter v) }) f.machine

-- what is shown of the board
pub shown-here : (origins : Origins) (v : VipState) → Follows v → (b : Seen) → b ≡ v.board → (showing : Showing)
    → shown origins b.rom b.machine showing ≡ shown origins (interpreter v).rom (state_after v v.moves) showing
shown-here origins v f b is showing =
    ap (λ (x : Seen). shown origins x.rom x.machine showing) is
    ∙ ap (λ rom. shown origins rom v.board.machine showing) f.rom
    ∙ ap (λ machine. shown origins (interpreter v).rom machine showing) f.machine

-- ---- commands that run the board, whatever runs on it

module _ (limit : ℕ) (old v : VipState) (g : Follows v) (moves : ℕ) (h : HasMoved Leads moves old v) where
  pub same-game : IsSame old v
  same-game = by_case h
    where
      by_case : HasMoved Leads moves old v → IsSame old v
      by_case (inl none) = subst (IsSame old) (sym none.1) (record { edition = refl; start = refl; script = refl })
      by_case (inr more) = more.1.same

  -- with a move every event up to the new cycle is met, and with none none
  place_moved : place_of v ≡ moved_on (begun old) moves (place_of old)
  place_moved = by_case h
    where
      some : (n : ℕ) → 0 < n → (n == 0) ≡ false
      some n more = grind (arith, nat_tests)

      by_case : HasMoved Leads moves old v → place_of v ≡ moved_on (begun old) moves (place_of old)
      by_case (inl none) = ap place_of none.1 ∙ ap (λ n. moved_on (begun old) n (place_of old)) (sym none.0)
      by_case (inr more) =
          all-here v g more.1.met
          ∙ ap (λ (x : VipState). all_met x v.moves) (begun-same old v more.1.same)
          ∙ ap (all_met (begun old)) more.1.made
          ∙ sym (ap (λ t. if t then place_of old else all_met (begun old) (old.moves + moves)) (some moves more.0))

pub makes-came : (limit : ℕ) (old v : VipState) (g : Follows v) (running : Running) (answer : Bool)
    → HasMoved Leads (came (run_at old old.moves) limit running).moves old v
    → Arrived limit (run_at old old.moves) (came (run_at old old.moves) limit running) v.board answer
    → Makes limit old v (ran (begun old) limit running (place_of old)).place
makes-came limit old v g running answer h a =
    let moves = (came (run_at old old.moves) limit running).moves in
    record { same = same-game limit old v g moves h; place = place_moved limit old v g moves h; within = a.within }

-- ---- where a command comes to

module _ (limit : ℕ) (old v : VipState) (f : Follows old) (g : Follows v) where
  made_at : (b : Machine) → IsSame old v → v.board.machine ≡ b → v.moves ≡ moves_until (begun old) b.cycle
  made_at b same machine =
      made-now v g ∙ until-same old v f g same v.board.machine.cycle ∙ ap (λ (x : Machine). moves_until (begun old) x.cycle) machine

  -- where no event waits, the moves made say the place
  makes_all : (made : ℕ) → IsSame old v → events_waiting v ≡ [] → v.moves ≡ made → v.board.machine.cycle ≤ limit → Makes limit old v (all_met (begun old) made)
  makes_all made same none is within =
      record {
        same = same;
        place = none-waits v g none ∙ ap (λ (x : VipState). all_met x v.moves) (begun-same old v same) ∙ ap (all_met (begun old)) is;
        within = within;
      }

  pub record Found (found : Option Machine) (answer : Bool) : Type 0 where
    pub makes : Makes limit old v (at_point (begun old) limit found).place
    pub completed : answer ≡ (at_point (begun old) limit found).completed
    pub told : answer ≡ true → TellsPresent v

  by_answer : (found : Option Machine) (answer : Bool) → FindAnswers limit old v found answer → Found found answer
  by_answer (Some b) true c =
      record { makes = makes_all (moves_until (begun old) b.cycle) c.same c.met (made_at b c.same c.machine) c.within; completed = refl; told = λ e. c.told }
  by_answer (Some b) false c = absurd c
  by_answer None true c = absurd c
  by_answer None false c =
      record { makes = makes_all (moves_until (begun old) limit) c.same c.met c.made c.within; completed = refl; told = λ e. let bad : false ≡ true = e in cc }

  pub arrives-next : (n : ℕ) (answer : Bool) → FindAnswers limit old v (slice_get (points_left old limit) (n - 1)) answer → Arrives limit (Next n) old v answer
  arrives-next n answer c =
      let found = by_answer (slice_get (points_left old limit) (n - 1)) answer c in
      record { makes = found.makes; completed = found.completed; told = found.told }

  pub arrives-break : (pc : ℕ) (answer : Bool) → FindAnswers limit old v (find (has_pc old pc) (points_left old limit)) answer
      → Arrives limit (Break pc) old v answer
  arrives-break pc answer c =
      let found = by_answer (find (has_pc old pc) (points_left old limit)) answer c in
      record { makes = found.makes; completed = found.completed; told = found.told }
