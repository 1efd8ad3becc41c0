-- Several puts in turn are as one put of their bytes, as far as the first fault.
use Rattle.std.proofs.Common.{◌≡◌, ℕ, ◌+◌, ◌≤◌, min, List, [], ◌++◌, length, take, Result, Ok, Err, refl, ◌∙◌, arith}
use Rattle.std.proofs.Math.Seq.{take-append-add}
use Rattle.std.proofs.lemmas.List.{take-append-le, take_min}
use Rattle.vip_outside.specs.Count.{Rose}
use Rattle.vip_outside.specs.Sink.{SinkMeaning, GrewBy, Gains, GainsPart, GainAnswers}
use Rattle.vip_outside.specs.declared.sink.Failed.{Failed}
use Rattle.vip_outside.proofs.StreamLemmas.{Appends-append, Appends-nil}

-- what is held grew by one list and then by another
pub GrewBy-append : (a b : List ℕ) (old middle new : SinkMeaning) → GrewBy a old middle → GrewBy b middle new → GrewBy (a ++ b) old new
GrewBy-append a b old middle new first second = Appends-append a b old.held middle.held new.held first second

-- a count that did not move, and then rose
pub Rose-after_same : (old middle new : ℕ) → middle ≡ old → Rose middle new → Rose old new
Rose-after_same old middle new same rose = rw (← same) rose

-- nothing was put
pub Gains-nil : (s : SinkMeaning) → Gains [] s s
Gains-nil s = record { held = Appends-nil s.held; faults = refl }

-- bytes, and then bytes for which the answer says so
pub GainAnswers-append : (a b : List ℕ) (old middle new : SinkMeaning) (r : Result (Unit {0}) Failed) → Gains a old middle
    → GainAnswers b middle new r → GainAnswers (a ++ b) old new r
GainAnswers-append a b old middle new (Ok done) first second = record {
  held = GrewBy-append a b old middle new first.held second.held;
  faults = second.faults ∙ first.faults;
}
GainAnswers-append a b old middle new (Err e) first second = record {
  kept = length a + second.kept;
  held = rw take-append-add (GrewBy-append a (take second.kept b) old middle new first.held second.held);
  faults = Rose-after_same old.faults middle.faults new.faults first.faults second.faults;
}

prefix_of_first : (a b : List ℕ) (kept : ℕ) → take (min kept (length a)) (a ++ b) ≡ take kept a
prefix_of_first a b kept = let within : min kept (length a) ≤ length a = omega arith in take-append-le (min kept (length a)) a b within ∙ take_min kept a

-- a fault within the first bytes is one within more
pub GainsPart-append : (a b : List ℕ) (old new : SinkMeaning) → GainsPart a old new → GainsPart (a ++ b) old new
GainsPart-append a b old new fault = record {
  kept = min fault.kept (length a);
  held = rw prefix_of_first fault.held;
  faults = fault.faults;
}
