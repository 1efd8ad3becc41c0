-- A run, from a call's entry on: moves alone, up to the next event or the limit.
use Rattle.std.proofs.Common.{◌≡◌, inl, inr, ℕ, ◌+◌, ◌-◌, ◌<◌, ◌≤◌, Bool, true, false, List, [], ◌∷◌, ◌++◌, length, drop, refl, sym, ap, ◌∙◌, subst, subst₂, arith, Some}
use Rattle.machine.specs.Board.{length_of}
use Rattle.machine.specs.Instruction.{Regs}
use Rattle.machine.specs.Keys.{Event as KeyEvent, held_at}
use Rattle.machine.specs.Pictures.{picture_of}
use Rattle.machine.specs.Run.{run_to}
use Rattle.chip8_lang.specs.Events.{Event, is_stop}
use Rattle.chip8_lang.specs.Events.Event.{Picture, Dispatch, Stopped}
use Rattle.std.proofs.lemmas.List.{length-drop}
use Rattle.chip8_lang.specs.View.{view_at}
use Rattle.vip_board.specs.Moves.{moved, moved_by, name_of, StartsInstruction}
use Rattle.vip_board.specs.Seen.{Seen, contents_of}
use Rattle.vip_memory.specs.Contents.{Contents}
use Rattle.chip8_image.specs.Interpreters.{interpreter_of}
use Rattle.vip_board.specs.declared.board.Move.{Move}
use Rattle.vip_relation.specs.State.{VipState, events_from, machine_of, interpreter, events_to, events_left, events_waiting, run_of, moves_by, screen_bytes}
use Rattle.vip_relation.specs.Stops.{stop_record}
use Rattle.vip_relation.specs.Follows.{Follows}
use Rattle.vip_relation.specs.Meets.{IsSame, MeetsOne, TellsSame, MeetsNext, HasStopped, Rests, MovesBy, MovesOn}
use Rattle.vip_relation.specs.Parts.{MeetsFirst, MeetsAll, Makes, Passes, Runs, Steps}
use Rattle.vip_relation.specs.declared.run.Met.{Met}
use Rattle.vip_relation.specs.declared.run.Met.TheVariants.{Picture as PictureMet, Dispatch as DispatchMet, Stopped as StoppedMet, End}
use Rattle.vip_relation.proofs.Steps.{none-left, all-moves, none-before, moves-before, others-to}

-- ---- within an advance

-- v comes from the entry by moves alone, which end within the limit
pub record Reaches (limit : ℕ) (entry v : VipState) : Type 0 where
  pub same : v ≡ record entry { moves = v.moves; board = v.board }
  pub script : v.board.script ≡ entry.board.script
  pub order : entry.moves ≤ v.moves
  pub within : v.board.machine.cycle ≤ limit
  pub goes_on : HasStopped v → ⊥
  pub follows : Follows v

-- as the entry itself does
pub reaches-self : (limit : ℕ) (v : VipState) → v.board.machine.cycle ≤ limit → (HasStopped v → ⊥) → Follows v → Reaches limit v v
reaches-self limit v within runs follows =
    record { same = refl; script = refl; order = omega arith; within = within; goes_on = runs; follows = follows }

reaches-next : (limit : ℕ) (entry v w : VipState) (name : Move) → Reaches limit entry v → Steps v w name → w.board.machine.cycle ≤ limit → Follows w
    → Reaches limit entry w
reaches-next limit entry v w name r s within follows =
    record {
      same =
          s.state
          ∙ ap (λ (x : VipState). record x { moves = v.moves + 1; board = moved v.board }) r.same
          ∙ ap (λ (x : VipState). record entry { moves = x.moves; board = x.board }) (sym s.state);
      script = ap (λ (x : VipState). x.board.script) s.state ∙ r.script;
      order = omega (arith, r.order, ap (λ (x : VipState). x.moves) s.state);
      within = within;
      goes_on = s.goes_on;
      follows = follows;
    }

reaches-passes : (limit : ℕ) (entry v w : VipState) → Reaches limit entry v → Passes limit v w → Follows w → Reaches limit entry w
reaches-passes limit entry v w r s follows =
    record {
      same = s.state ∙ ap (λ (x : VipState). record x { moves = w.moves; board = w.board }) r.same;
      script = s.script ∙ r.script;
      order = omega (arith, r.order, s.moves);
      within = s.within r.within;
      goes_on = λ stopped. not_both (is_stop (interpreter w) w.board.machine) stopped.stop s.runs;
      follows = follows;
    }
  where
    not_both : (b : Bool) → b ≡ true → b ≡ false → ⊥
    not_both b h g = cc

pub reaches-run : (limit : ℕ) (entry v w : VipState) → Reaches limit entry v → Runs limit v w → Follows w → Reaches limit entry w
reaches-run limit entry v w r s follows =
    reaches-next limit entry s.middle w s.name (reaches-passes limit entry v s.middle r s.passes s.follows) s.steps s.within follows

-- ---- what is said of v is said of the entry

module _ (limit : ℕ) (entry v w : VipState) (r : Reaches limit entry v) where
  abbrev left_by : List KeyEvent → List Event
  left_by script = drop entry.met (events_from (interpreter entry) script entry.start limit)

  left_same : events_left v limit ≡ events_left entry limit
  left_same = ap (λ (x : VipState). events_left x limit) r.same ∙ ap left_by r.script

  run_same : run_of v limit ≡ run_of entry limit
  run_same = ap (λ (x : VipState). run_of x limit) r.same ∙ ap (λ script. run_to (interpreter entry).rom (held_at script) (machine_of entry.start) limit) r.script

  same_entry : IsSame v w → IsSame entry w
  same_entry s =
      record {
        edition = s.edition ∙ ap (λ (x : VipState). x.edition) r.same;
        start = s.start ∙ ap (λ (x : VipState). x.start) r.same;
        script = s.script ∙ r.script;
      }

  told_entry : TellsSame v w → TellsSame entry w
  told_entry t = record { last = t.last ∙ ap (λ (x : VipState). x.last) r.same; shown = t.shown ∙ ap (λ (x : VipState). x.shown) r.same }

  one_entry : (others : List Event) → MeetsOne limit v w others → MeetsOne limit entry w others
  one_entry others o = record { same = same_entry o.same; met = o.met ∙ ap (λ (x : VipState). x.met + 1) r.same; left = o.left; within = o.within }

  by_case : (es : List Event) (answer : Met) → (es ≡ [] → ⊥) → MeetsNext limit v w es answer → MeetsNext limit entry w es answer
  by_case [] answer some m = absurd (some refl)
  by_case (Picture k ∷ es) PictureMet some m =
      record {
        one = one_entry es m.one;
        told = told_entry m.told;
        ended = m.ended;
        first = m.first;
        goes_on = m.goes_on;
        picture =
            m.picture
            ∙ ap (λ (x : VipState). Some (picture_of (interpreter x).rom (run_of v limit) k)) r.same
            ∙ ap (λ run. Some (picture_of (interpreter entry).rom run k)) run_same;
      }
  by_case (Picture k ∷ es) DispatchMet some m = absurd m
  by_case (Picture k ∷ es) (StoppedMet stop) some m = absurd m
  by_case (Picture k ∷ es) End some m = absurd m
  by_case (Dispatch b ∷ es) PictureMet some m = absurd m
  by_case (Dispatch b ∷ es) DispatchMet some m =
      record {
        one = one_entry es m.one;
        machine = m.machine;
        last = m.last ∙ ap (λ (x : VipState). Some (view_at x.edition b)) r.same;
        shown = m.shown ∙ ap (λ (x : VipState). screen_bytes x.edition b) r.same;
        goes_on = m.goes_on;
      }
  by_case (Dispatch b ∷ es) (StoppedMet stop) some m = absurd m
  by_case (Dispatch b ∷ es) End some m = absurd m
  by_case (Stopped b ∷ es) PictureMet some m = absurd m
  by_case (Stopped b ∷ es) DispatchMet some m = absurd m
  by_case (Stopped b ∷ es) (StoppedMet stop) some m =
      record {
        one = one_entry es m.one;
        told = told_entry m.told;
        machine = m.machine;
        stop = m.stop ∙ ap (λ (x : VipState). stop_record x.last b) r.same;
        stopped = m.stopped;
      }
  by_case (Stopped b ∷ es) End some m = absurd m

  -- the next event is met
  pub meets-entry : (answer : Met) → MeetsFirst v w answer → (events_left v limit ≡ [] → ⊥) → MeetsNext limit entry w (events_left entry limit) answer
  meets-entry answer m some =
      subst (λ es. MeetsNext limit entry w es answer) left_same
      (by_case (events_left v limit) answer some (m.next limit r.within))

-- the limit comes before the next move
module _ (limit : ℕ) (entry v : VipState) (r : Reaches limit entry v) where
  pub ends-entry : events_waiting v ≡ [] → limit < v.board.machine.cycle + length_of v.board.rom v.board.machine
      → MeetsNext limit entry v (events_left entry limit) End
  ends-entry met over =
      let left : events_left entry limit ≡ [] = sym (left_same limit entry v v r) ∙ none-left v r.follows limit r.within over ∙ met in
      let moves : moves_by entry limit ≡ v.moves = ap (λ run. length run - 1) (sym (run_same limit entry v v r)) ∙ all-moves v r.follows limit r.within over in
      subst (λ es. MeetsNext limit entry v es End) (sym left)
      (record {
        same = same_entry limit entry v v r (record { edition = refl; start = refl; script = refl });
        told = told_entry limit entry v v r (record { last = refl; shown = refl });
        met = ap (λ (x : VipState). x.met) r.same;
        moves = omega (arith, moves, r.order);
        goes_on = r.goes_on;
      })

-- it comes before the present state
pub ends-before : (limit : ℕ) (v : VipState) → Follows v → limit < v.board.machine.cycle → (HasStopped v → ⊥) → MeetsNext limit v v (events_left v limit) End
ends-before limit v follows over goes_on =
    subst (λ es. MeetsNext limit v v es End) (sym (none-before v follows limit over))
    (record {
      same = record { edition = refl; start = refl; script = refl };
      told = record { last = refl; shown = refl };
      met = refl;
      moves = omega (arith, moves-before v follows limit over);
      goes_on = goes_on;
    })

-- some event is left, where one waits
pub some-left : (limit : ℕ) (v w : VipState) (answer : Met) → MeetsFirst v w answer → Follows v → v.board.machine.cycle ≤ limit → events_left v limit ≡ [] → ⊥
some-left limit v w answer m follows within none =
    let o = others-to v follows limit within in
    not_none (events_waiting v) o.others (omega (arith, m.waiting)) (sym o.left ∙ none)
  where
    not_none : (xs ys : List Event) → 1 ≤ length xs → xs ++ ys ≡ [] → ⊥
    not_none [] ys l e = absurd (omega (arith, l))
    not_none (x ∷ xs) ys l e = cc

-- where no event waits and no stop was met, the state is no stop point
pub no-stop : (v : VipState) → events_waiting v ≡ [] → (HasStopped v → ⊥) → is_stop (interpreter v) v.board.machine ≡ false
no-stop v met goes_on = by_test (is_stop (interpreter v) v.board.machine) refl
  where
    by_test : (t : Bool) → is_stop (interpreter v) v.board.machine ≡ t → is_stop (interpreter v) v.board.machine ≡ false
    by_test false h = h
    by_test true h = absurd (goes_on (record { stop = h; met = met }))

-- ---- one move

-- where the events that wait are met, the board rests as before
pub rests-met : (limit : ℕ) (u v : VipState) → MeetsAll u v → limit < v.board.machine.cycle + length_of v.board.rom v.board.machine → Rests limit u
rests-met limit u v all over = inr (subst (λ (b : Seen). limit < b.machine.cycle + length_of b.rom b.machine) all.board over)

-- and where it doesn't rest it is at no stop point
pub runs-met : (limit : ℕ) (u v : VipState) → MeetsAll u v → (Rests limit u → ⊥) → is_stop (interpreter v) v.board.machine ≡ false
runs-met limit u v all goes_on =
    subst₂ (λ e b. is_stop (interpreter_of e) b.machine ≡ false) (sym all.edition) (sym all.board) (by_test (is_stop (interpreter u) u.board.machine) refl)
  where
    by_test : (t : Bool) → is_stop (interpreter u) u.board.machine ≡ t → is_stop (interpreter u) u.board.machine ≡ false
    by_test false h = h
    by_test true h = absurd (goes_on (inl h))

-- a move with all events met before it and after it
pub moves-on : (u v w x : VipState) (name : Move) → MeetsAll u v → Steps v w name → MeetsAll w x → Follows x → MovesOn u x name
moves-on u v w x name before step after follows =
    record {
      edition = after.edition ∙ ap (λ (s : VipState). s.edition) step.state ∙ before.edition;
      start = after.start ∙ ap (λ (s : VipState). s.start) step.state ∙ before.start;
      moves = after.moves ∙ ap (λ (s : VipState). s.moves) step.state ∙ ap (λ n. n + 1) before.moves;
      board = after.board ∙ ap (λ (s : VipState). s.board) step.state ∙ ap moved before.board;
      move = step.move ∙ ap (λ (s : Seen). name_of s.machine) before.board;
      met = omega (arith, follows.within, sym (length-drop x.met (events_to x x.board.machine.cycle)) ∙ ap length after.met);
    }

-- moves up to an event with all events met before them and after them
pub moves-by : (limit : ℕ) (stops : Regs → Contents → Type 0) (u v w x : VipState) (n : ℕ) → MeetsAll u v → Runs limit v w → Makes stops v w n → MeetsAll w x
    → Follows x → MovesBy limit stops u x n
moves-by limit stops u v w x n before run makes after follows =
    record {
      edition = after.edition ∙ ap (λ (s : VipState). s.edition) run.steps.state ∙ ap (λ (s : VipState). s.edition) run.passes.state ∙ before.edition;
      start = after.start ∙ ap (λ (s : VipState). s.start) run.steps.state ∙ ap (λ (s : VipState). s.start) run.passes.state ∙ before.start;
      moves = after.moves ∙ makes.moves ∙ ap (λ m. m + n) before.moves;
      board = after.board ∙ makes.board ∙ ap (moved_by n) before.board;
      goes_on =
          λ k some below. subst₂ (λ e b. is_stop (interpreter_of e) (moved_by k b).machine ≡ false) before.edition before.board (makes.goes_on k some below);
      apart =
          λ k some below.
          subst (λ b. StartsInstruction (moved_by k b).machine → stops (moved_by k b).machine.regs (contents_of (moved_by k b)) → ⊥) before.board
          (makes.apart k some below);
      within = subst (λ (b : Seen). b.machine.cycle ≤ limit) (sym after.board) run.within;
      met = omega (arith, follows.within, sym (length-drop x.met (events_to x x.board.machine.cycle)) ∙ ap length after.met);
    }
