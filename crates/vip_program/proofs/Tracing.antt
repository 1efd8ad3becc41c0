-- A trace on its way: the lines of the moves made are written, and those of the others are left.
use Rattle.std.proofs.Common.{◌≡◌, ℕ, ◌+◌, ◌-◌, ◌≤◌, List, [], ◌∷◌, ◌++◌, false, refl, sym, ap, ◌∙◌, subst, arith, append_assoc, append-nil}
use Rattle.std.specs.Prelude.{Result, Ok, Err, IsErr}
use Rattle.asm_core.specs.Origins.{Origins}
use Rattle.machine.specs.Board.{Machine}
use Rattle.machine.specs.Keys.{Keys}
use Rattle.vip_board.specs.Moves.{moved_by}
use Rattle.vip_board.specs.Seen.{Seen, held_by}
use Rattle.vip_cpu.specs.declared.cpu.Phase.TheVariants.{Boundary}
use Rattle.vip_outside.specs.Sink.{SinkMeaning, PutsWhole, PutFails}
use Rattle.vip_outside.specs.Pieces.{PutsAll, FailsWithin}
use Rattle.vip_outside.specs.declared.sink.Failed.{Failed}
use Rattle.vip_outside.proofs.PiecesLemmas.{PutsAll-append, PutsAll-snoc, FailsWithin-append, FailsWithin-more, FailsWithin-snoc}
use Rattle.vip_program.specs.Lines.{end_behind, labels_before}
use Rattle.vip_program.specs.Moves.{goes_on, TakesLine}
use Rattle.vip_program.specs.Trace.{Traces, TraceFails, TraceAnswers, lines, lines_of, moves_ahead, stretches}
use Rattle.vip_program.proofs.Runs.{moved-more, moves-rest}

lines-none : (rom : List ℕ) (held : ℕ → Keys) (origins : Origins) (b : Machine) → lines rom held origins b 0 ≡ []
unfolding lines stretches
lines-none rom held origins b = refl

pub record Tracing (origins : Origins) (count limit : ℕ) (start v : Seen) (out out' : SinkMeaning) (made : ℕ) : Type 0 where
  pub few : made ≤ count
  pub boundary : v.phase ≡ Boundary
  pub within : v.machine.cycle ≤ limit
  pub moved : v ≡ moved_by made start
  pub ahead : moves_ahead start limit count ≡ made + moves_ahead v limit (count - made)
  pub written : List (List ℕ)
  pub puts : PutsAll written out out'
  pub all : lines_of origins start (moves_ahead start limit count) ≡ written ++ lines_of origins v (moves_ahead v limit (count - made))

module _ (origins : Origins) (count limit : ℕ) (start : Seen) (out : SinkMeaning) where
  module _ (v v' : Seen) (out' : SinkMeaning) (made more : ℕ) (t : Tracing origins count limit start v out out' made) (text line : List ℕ)
      (l : TakesLine (count - made) limit v v' text more) (is : line ≡ text ++ end_behind origins v.rom v.machine) where
    left_is : count - made - more ≡ count - (made + more)
    left_is = omega arith

    abbrev before : List (List ℕ)
    before = labels_before origins v.machine

    abbrev behind : List (List ℕ)
    behind = lines_of origins v' (moves_ahead v' limit (count - (made + more)))

    split : lines_of origins start (moves_ahead start limit count) ≡ t.written ++ (before ++ line ∷ behind)
    split =
        t.all
        ∙ ap (λ tail. t.written ++ tail)
        (l.first origins
        ∙ ap (λ x. before ++ x ∷ lines_of origins v' (moves_ahead v' limit (count - made - more))) (sym is)
        ∙ ap (λ n. before ++ line ∷ lines_of origins v' (moves_ahead v' limit n)) left_is)

    split-behind : lines_of origins start (moves_ahead start limit count) ≡ (t.written ++ before) ++ line ∷ behind
    split-behind = split ∙ sym (append_assoc t.written before (line ∷ behind))

    ahead : moves_ahead start limit count ≡ made + more + moves_ahead v' limit (count - (made + more))
    ahead =
        let same : moves_ahead v' limit (count - made - more) ≡ moves_ahead v' limit (count - (made + more)) = ap (moves_ahead v' limit) left_is in
        let one = t.ahead in
        let two = l.ahead in
        omega (arith, one, two, same)

    moved : v' ≡ moved_by (made + more) start
    moved = l.moved ∙ ap (moved_by more) t.moved ∙ moved-more start made more

    -- the labels before the line of the next moves go out, and then the line
    pub tracing-next : (middle out'' : SinkMeaning) → v'.phase ≡ Boundary → PutsAll before out' middle → PutsWhole line middle out''
        → Tracing origins count limit start v' out out'' (made + more)
    tracing-next middle out'' boundary first put = record {
      few = few_more;
      boundary = boundary;
      within = l.within;
      moved = moved;
      ahead = ahead;
      written = (t.written ++ before) ++ line ∷ [];
      puts = PutsAll-snoc (t.written ++ before) line out middle out'' (PutsAll-append t.written before out out' middle t.puts first) put;
      all = split-behind ∙ sym (append_assoc (t.written ++ before) (line ∷ []) behind);
    }
      where
        few_more : made + more ≤ count
        few_more = let e = ahead in omega (arith, e)

    -- or one of them fails
    fails-by : (out'' : SinkMeaning) → FailsWithin (lines_of origins start (moves_ahead start limit count)) out out''
        → TraceFails origins count limit start v' out out''
    fails-by out'' fault = record { fails = fault; made = made + more; few = let e = ahead in omega (arith, e); moved = moved }

    label-fails : (out'' : SinkMeaning) → FailsWithin before out' out'' → TraceFails origins count limit start v' out out''
    label-fails out'' fault = fails-by out''
        (subst (λ pieces. FailsWithin pieces out out'') (sym split)
        (FailsWithin-append t.written (before ++ line ∷ behind) out out' out'' t.puts (FailsWithin-more before (line ∷ behind) out' out'' fault)))

    line-fails : (middle out'' : SinkMeaning) → PutsAll before out' middle → PutFails line middle out'' → TraceFails origins count limit start v' out out''
    line-fails middle out'' first fault = fails-by out''
        (subst (λ pieces. FailsWithin pieces out out'') (sym split-behind)
        (FailsWithin-snoc (t.written ++ before) line behind out middle out'' (PutsAll-append t.written before out out' middle t.puts first) fault))

    pub fails-at-label : (out'' : SinkMeaning) (answer : Result ℕ Failed) → IsErr answer → FailsWithin before out' out''
        → TraceAnswers origins count limit start v' out out'' answer
    fails-at-label out'' (Ok done) bad fault = cc
    fails-at-label out'' (Err e) bad fault = label-fails out'' fault

    pub fails-at : (middle out'' : SinkMeaning) (answer : Result ℕ Failed) → IsErr answer → PutsAll before out' middle → PutFails line middle out''
        → TraceAnswers origins count limit start v' out out'' answer
    fails-at middle out'' (Ok done) bad first fault = cc
    fails-at middle out'' (Err e) bad first fault = line-fails middle out'' first fault

  module _ (v : Seen) (out' : SinkMeaning) (made : ℕ) (t : Tracing origins count limit start v out out' made) where
    -- no move is left
    pub traces : moves_ahead v limit (count - made) ≡ 0 → Traces origins count limit start v out out' made
    traces none = record {
      puts = subst (λ pieces. PutsAll pieces out out') (sym all) t.puts;
      all = let e = t.ahead in omega (arith, e, none);
      moved = t.moved;
    }
      where
        all : lines_of origins start (moves_ahead start limit count) ≡ t.written
        all = t.all ∙ ap (λ tail. t.written ++ tail) (ap (lines_of origins v) none ∙ lines-none v.rom (held_by v) origins v.machine) ∙ append-nil t.written

    pub none-asked : count ≤ made → moves_ahead v limit (count - made) ≡ 0
    none-asked enough = omega (arith, enough)

    pub none-made : goes_on limit v.rom v.machine ≡ false → moves_ahead v limit (count - made) ≡ 0
    none-made rests = let none = moves-rest v.rom (held_by v) limit v.machine t.within rests in omega (arith, none)
