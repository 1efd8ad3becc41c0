-- Pieces put one after another: how to add to them.
use Rattle.std.proofs.Common.{◌≡◌, ℕ, ◌+◌, ◌-◌, ◌^◌, min, List, [], ◌∷◌, ◌++◌, length, take, Option, Some, None, Result, Ok, Err, IsErr, option_map, refl, ap, arith, append_assoc, append-nil, length-append}
use Rattle.std.proofs.lemmas.Grind.{flat_map-append}
use Rattle.vip_outside.specs.Sink.{SinkMeaning, PutsWhole, PutFails, PutAnswers}
use Rattle.vip_outside.specs.Pieces.{joined, PutsAll, FailsWithin, StreamAnswers}
use Rattle.vip_outside.specs.declared.sink.Failed.{Failed}
use Rattle.vip_outside.proofs.SinkLemmas.{GrewBy-append, Rose-after_same, Gains-nil, GainAnswers-append}

pub joined-append : (first second : List (List ℕ)) → joined (first ++ second) ≡ joined first ++ joined second
joined-append first second = flat_map-append (λ (piece : List ℕ). piece) first second

pub joined-one : (piece : List ℕ) → joined (piece ∷ []) ≡ piece
joined-one piece = append-nil piece

calls_rose : (m n : ℕ) (old middle new : Option ℕ) → middle ≡ option_map (λ calls. calls + m) old → new ≡ option_map (λ calls. calls + n) middle
    → new ≡ option_map (λ calls. calls + (m + n)) old
calls_rose m n None middle new first second = rw (second, first)
calls_rose m n (Some calls) middle new first second = rw (second, first) (ap (λ c. Some c) (omega arith))

calls_rose_at_most : (m n : ℕ) (old middle new : Option ℕ) → middle ≡ option_map (λ calls. calls + m) old
    → new ≡ option_map (λ calls. min (calls + n) (2 ^ 32 - 1)) middle → new ≡ option_map (λ calls. min (calls + (m + n)) (2 ^ 32 - 1)) old
calls_rose_at_most m n None middle new first second = rw (second, first)
calls_rose_at_most m n (Some calls) middle new first second = rw (second, first) (ap (λ c. Some c) (omega arith))

calls_rose_by_none : (calls : Option ℕ) → calls ≡ option_map (λ calls. calls + 0) calls
calls_rose_by_none None = refl
calls_rose_by_none (Some calls) = ap (λ c. Some c) (omega arith)

-- no piece
pub PutsAll-nil : (s : SinkMeaning) → PutsAll [] s s
PutsAll-nil s = record { gains = Gains-nil s; calls = calls_rose_by_none s.calls }

-- one piece
pub PutsAll-one : (piece : List ℕ) (old new : SinkMeaning) → PutsWhole piece old new → PutsAll (piece ∷ []) old new
PutsAll-one piece old new put = record { gains = rw joined-one put.gains; calls = put.calls }

-- pieces, and then pieces
pub PutsAll-append : (first second : List (List ℕ)) (old middle new : SinkMeaning) → PutsAll first old middle → PutsAll second middle new
    → PutsAll (first ++ second) old new
PutsAll-append first second old middle new before after = record {
  gains = rw joined-append (GainAnswers-append (joined first) (joined second) old middle new (Ok tt) before.gains after.gains);
  calls = rw length-append (calls_rose (length first) (length second) old.calls middle.calls new.calls before.calls after.calls);
}

-- pieces, and then one more
pub PutsAll-snoc : (pieces : List (List ℕ)) (piece : List ℕ) (old middle new : SinkMeaning) → PutsAll pieces old middle → PutsWhole piece middle new
    → PutsAll (pieces ++ piece ∷ []) old new
PutsAll-snoc pieces piece old middle new before put = PutsAll-append pieces (piece ∷ []) old middle new before (PutsAll-one piece middle new put)

-- pieces, and then a fault at the next one, whichever come after it
pub FailsWithin-snoc : (pieces : List (List ℕ)) (piece : List ℕ) (rest : List (List ℕ)) (old middle new : SinkMeaning) → PutsAll pieces old middle
    → PutFails piece middle new → FailsWithin (pieces ++ piece ∷ rest) old new
FailsWithin-snoc pieces piece rest old middle new before put = record {
  before = pieces;
  piece = piece;
  after = rest;
  place = refl;
  kept = put.gains.kept;
  held = GrewBy-append (joined pieces) (take put.gains.kept piece) old middle new before.gains.held put.gains.held;
  faults = Rose-after_same old.faults middle.faults new.faults before.gains.faults put.gains.faults;
  calls = calls_rose_at_most (length pieces) 1 old.calls middle.calls new.calls before.calls put.calls;
}

-- pieces, and then a fault within others
pub FailsWithin-append : (first second : List (List ℕ)) (old middle new : SinkMeaning) → PutsAll first old middle → FailsWithin second middle new
    → FailsWithin (first ++ second) old new
FailsWithin-append first second old middle new before fault = record {
  before = first ++ fault.before;
  piece = fault.piece;
  after = fault.after;
  place = rw (append_assoc, fault.place) refl;
  kept = fault.kept;
  held =
      rw (joined-append, append_assoc)
      (GrewBy-append (joined first) (joined fault.before ++ take fault.kept fault.piece) old middle new before.gains.held fault.held);
  faults = Rose-after_same old.faults middle.faults new.faults before.gains.faults fault.faults;
  calls =
      let count : length (first ++ fault.before) + 1 ≡ length first + (length fault.before + 1) = omega (arith, length-append first fault.before) in
      rw count (calls_rose_at_most (length first) (length fault.before + 1) old.calls middle.calls new.calls before.calls fault.calls);
}

-- a fault within pieces is one within them and more
pub FailsWithin-more : (pieces rest : List (List ℕ)) (old new : SinkMeaning) → FailsWithin pieces old new → FailsWithin (pieces ++ rest) old new
FailsWithin-more pieces rest old new fault = record {
  before = fault.before;
  piece = fault.piece;
  after = fault.after ++ rest;
  place = rw (fault.place, append_assoc) refl;
  kept = fault.kept;
  held = fault.held;
  faults = fault.faults;
  calls = fault.calls;
}

-- one put
pub StreamAnswers-one : (piece : List ℕ) (old new : SinkMeaning) (r : Result (Unit {0}) Failed) → PutAnswers piece old new r
    → StreamAnswers (piece ∷ []) old new r
StreamAnswers-one piece old new (Ok done) put = PutsAll-one piece old new put
StreamAnswers-one piece old new (Err e) put = FailsWithin-snoc [] piece [] old old new (PutsAll-nil old) put

-- pieces, and then pieces for which the answer says so
pub StreamAnswers-append : (first second : List (List ℕ)) (old middle new : SinkMeaning) (r : Result (Unit {0}) Failed) → PutsAll first old middle
    → StreamAnswers second middle new r → StreamAnswers (first ++ second) old new r
StreamAnswers-append first second old middle new (Ok done) before after = PutsAll-append first second old middle new before after
StreamAnswers-append first second old middle new (Err e) before after = FailsWithin-append first second old middle new before after

-- a fault, at whatever error is passed on
pub StreamAnswers-err : (pieces : List (List ℕ)) (old new : SinkMeaning) (r : Result (Unit {0}) Failed) → IsErr r → FailsWithin pieces old new
    → StreamAnswers pieces old new r
StreamAnswers-err pieces old new (Ok done) bad fault = cc
StreamAnswers-err pieces old new (Err e) bad fault = fault

-- of all pieces some, and then a fault at the next one, at whatever error is passed on
pub StreamAnswers-fault : (all pieces : List (List ℕ)) (piece : List ℕ) (rest : List (List ℕ)) (old middle new : SinkMeaning) (r : Result (Unit {0}) Failed)
    → all ≡ pieces ++ piece ∷ rest → IsErr r → PutsAll pieces old middle → PutFails piece middle new → StreamAnswers all old new r
StreamAnswers-fault all pieces piece rest old middle new r split bad before put =
    let fault = FailsWithin-snoc pieces piece rest old middle new before put in
    rw split (StreamAnswers-err (pieces ++ piece ∷ rest) old new r bad fault)
