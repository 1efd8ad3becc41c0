-- Commands one after another.
use Rattle.std.proofs.Common.{◌≡◌, ℕ, ◌≤◌, Bool, true, false, List, [], ◌∷◌, ◌++◌, sym, ap, ◌∙◌, subst, Some, None, inl, inr}
use Rattle.chip8_lang.specs.declared.view.StopRecord.{StopRecord}
use Rattle.chip8_lang.specs.Events.{is_stop}
use Rattle.vip_outside.specs.Sink.{SinkMeaning}
use Rattle.vip_outside.specs.Pieces.{PutsAll, FailsWithin}
use Rattle.vip_outside.proofs.PiecesLemmas.{PutsAll-append, FailsWithin-append, FailsWithin-more}
use Rattle.vip_relation.specs.State.{VipState, interpreter}
use Rattle.vip_relation.specs.Follows.{Follows}
use Rattle.vip_relation.specs.Meets.{IsSame}
use Rattle.std.specs.Option.{option_to_list}
use Rattle.vip_words.specs.Spoken.{Spoken}
use Rattle.vip_debug.specs.Fold.{echoed}
use Rattle.vip_debug.proofs.TargetFolding.{after-more, pieces-more, pieces-last}
use Rattle.vip_debug.specs.declared.run.DebugEnd.TheVariants.{Done, Stopped, WriteFault}
use Rattle.vip_debug.specs.declared.looks.Looks.{Looks}
use Rattle.vip_debug.specs.Answers.{begun, Place, place_of, pieces, stop_by, place_with, place_after, written, RunsWhole, DebugAnswers}
use Rattle.vip_debug.specs.Parts.{Makes}
use Rattle.vip_debug.proofs.Places.{same-trans, begun-same}
use Rattle.vip_debug.proofs.Answering.{stands, stop_here, runs-here, stops-here, stop-is}

-- ---- one command more

module _ (looks : Looks) (start : VipState) (limit : ℕ) where
  place_more : (cs : List Spoken) (c : Spoken) (p : Place)
      → place_after start limit (cs ++ c ∷ []) p ≡ place_with start limit c.command (place_after start limit cs p)
  place_more = after-more (place_with start limit) (pieces looks start limit)

  -- what a command writes behind others
  abbrev writes : List Spoken → Spoken → Place → List (List ℕ)
  writes cs c p = echoed c (pieces looks start limit c.command (place_after start limit cs p))

  written_more : (cs : List Spoken) (c : Spoken) (rest : List Spoken) (p : Place)
      → written looks start limit (cs ++ c ∷ rest) p
      ≡ written looks start limit cs p
      ++ (writes cs c p ++ written looks start limit rest (place_with start limit c.command (place_after start limit cs p)))
  written_more = pieces-more (place_with start limit) (pieces looks start limit)

  written_last : (cs : List Spoken) (c : Spoken) (p : Place)
      → written looks start limit (cs ++ c ∷ []) p ≡ written looks start limit cs p ++ writes cs c p
  written_last = pieces-last (place_with start limit) (pieces looks start limit)

-- ---- on the way

-- some commands are run
pub record Debugs (looks : Looks) (limit : ℕ) (old v : VipState) (done : List Spoken) (out out' : SinkMeaning) : Type 0 where
  pub begins : Follows old
  pub follows : Follows v
  pub same : IsSame old v
  pub place : place_of v ≡ place_after (begun old) limit done (place_of old)
  pub within : v.board.machine.cycle ≤ limit
  pub puts : PutsAll (written looks (begun old) limit done (place_of old)) out out'

module _ (looks : Looks) (limit : ℕ) (old v : VipState) (done : List Spoken) (c : Spoken) (out out' : SinkMeaning)
    (d : Debugs looks limit old v done out out') where
  abbrev echo : List (List ℕ)
  echo = option_to_list c.echo

  abbrev before : Place
  before = place_after (begun old) limit done (place_of old)

  abbrev answer : List (List ℕ)
  answer = pieces looks (begun old) limit c.command before

  from_here : {X : Type 0} (f : VipState → Place → X) → f (begun v) (place_of v) ≡ f (begun old) before
  from_here f = ap (λ x. f x (place_of v)) (begun-same old v d.same) ∙ ap (f (begun old)) d.place

  pieces_are : pieces looks (begun v) limit c.command (place_of v) ≡ answer
  pieces_are = from_here (λ x p. pieces looks x limit c.command p)

  -- a fault within what the command writes
  breaks_off : (all rest : List Spoken) (out'' : SinkMeaning) → all ≡ done ++ c ∷ rest → FailsWithin (echo ++ answer) out' out''
      → FailsWithin (written looks (begun old) limit all (place_of old)) out out''
  breaks_off all rest out'' split fault =
      let others = written looks (begun old) limit rest (place_with (begun old) limit c.command before) in
      subst (λ ps. FailsWithin ps out out'')
      (sym (ap (λ cs. written looks (begun old) limit cs (place_of old)) split ∙ written_more looks (begun old) limit done c rest (place_of old)))
      (FailsWithin-append (written looks (begun old) limit done (place_of old)) ((echo ++ answer) ++ others) out out' out'' d.puts
      (FailsWithin-more (echo ++ answer) others out' out'' fault))

  pub debugs-echo-fail : (all rest : List Spoken) (out'' : SinkMeaning) → all ≡ done ++ c ∷ rest → FailsWithin echo out' out''
      → DebugAnswers looks (begun old) limit all (place_of old) v out out'' WriteFault
  debugs-echo-fail all rest out'' split fault = (
    breaks_off all rest out'' split (FailsWithin-more echo answer out' out'' fault),
    record {
      before = done;
      command = c;
      after = rest;
      place = split;
      middle = out';
      whole = d.puts;
      breaks = inl (fault, stands old v before d.begins d.follows d.same d.place);
    },
  )

  module _ (v' : VipState) (middle out'' : SinkMeaning) (put : PutsAll echo out' middle) (g : Follows v')
      (makes : Makes limit v v' (place_with (begun v) limit c.command (place_of v))) where
    same_next : IsSame old v'
    same_next = same-trans old v v' d.same makes.same

    place_there : place_of v' ≡ place_with (begun old) limit c.command before
    place_there = makes.place ∙ from_here (λ x p. place_with x limit c.command p)

    pub debugs-next : PutsAll (pieces looks (begun v) limit c.command (place_of v)) middle out'' → Debugs looks limit old v' (done ++ c ∷ []) out out''
    debugs-next answered =
        record {
          begins = d.begins;
          follows = g;
          same = same_next;
          place = place_there ∙ sym (place_more looks (begun old) limit done c (place_of old));
          within = makes.within;
          puts =
              subst (λ all. PutsAll all out out'') (sym (written_last looks (begun old) limit done c (place_of old)))
              (PutsAll-append (written looks (begun old) limit done (place_of old)) (echo ++ answer) out out' out'' d.puts
              (PutsAll-append echo answer out' middle out'' put (subst (λ ps. PutsAll ps middle out'') pieces_are answered)));
        }

    pub debugs-fail : (all rest : List Spoken) → all ≡ done ++ c ∷ rest
        → FailsWithin (pieces looks (begun v) limit c.command (place_of v)) middle out''
        → DebugAnswers looks (begun old) limit all (place_of old) v' out out'' WriteFault
    debugs-fail all rest split fault =
        let here : FailsWithin answer middle out'' = subst (λ ps. FailsWithin ps middle out'') pieces_are fault in (
          breaks_off all rest out'' split (FailsWithin-append echo answer out' middle out'' put here),
          record {
            before = done;
            command = c;
            after = rest;
            place = split;
            middle = out';
            whole = d.puts;
            breaks = inr (
              middle,
              put,
              here,
              stands old v' (place_with (begun old) limit c.command before) d.begins g same_next place_there,
            );
          },
        )

-- ---- the end

module _ (looks : Looks) (limit : ℕ) (old v : VipState) (all : List Spoken) (out out' : SinkMeaning)
    (d : Debugs looks limit old v all out out') where
  whole : RunsWhole looks (begun old) limit all (place_of old) v out out'
  whole = record { puts = d.puts; stands = stands old v (place_after (begun old) limit all (place_of old)) d.begins d.follows d.same d.place }

  stop_test : (t : Bool) → is_stop (interpreter v) v.board.machine ≡ t → is_stop (interpreter (begun old)) v.board.machine ≡ t
  stop_test t e = ap (λ (x : VipState). is_stop (interpreter x) v.board.machine) (sym (begun-same old v d.same)) ∙ e

  pub debugged-done : None ≡ stop_here v → DebugAnswers looks (begun old) limit all (place_of old) v out out' Done
  debugged-done is = (whole, stop_test false (runs-here v is))

  pub debugged-stop : (stop : StopRecord) → Some stop ≡ stop_here v → DebugAnswers looks (begun old) limit all (place_of old) v out out' (Stopped stop)
  debugged-stop stop is = (
    whole,
    stop_test true (stops-here v stop is),
    stop-is v d.follows stop is
        ∙ ap (λ (x : VipState). stop_by x v.moves) (begun-same old v d.same)
        ∙ ap (λ (p : Place). stop_by (begun old) p.moves) d.place,
  )
