-- Pieces that are put one after another, each by a call of its own.
use Rattle.std.specs.Prelude.{◌≡◌, ℕ, ◌+◌, List, ◌∷◌, ◌++◌, Result, Ok, Err, length, take}
use Rattle.std.specs.List.{flat_map}
use Rattle.vip_outside.specs.Count.{Rose}
use Rattle.vip_outside.specs.Sink.{SinkMeaning, GrewBy, Gains, CallsRose, CallsRoseSaturating}
use Rattle.vip_outside.specs.declared.sink.Failed.{Failed}

-- the bytes of the pieces, in order
abbrev pub joined : List (List ℕ) → List ℕ
joined = flat_map (λ piece. piece)

-- every piece went out whole
pub record PutsAll (pieces : List (List ℕ)) (old new : SinkMeaning) : Type 0 where
  pub gains : Gains (joined pieces) old new
  pub calls : CallsRose (length pieces) old new

-- a fault at one of the pieces: those before it went out whole, then a prefix of it, and nothing after
pub record FailsWithin (pieces : List (List ℕ)) (old new : SinkMeaning) : Type 0 where
  pub before : List (List ℕ)
  pub piece : List ℕ
  pub after : List (List ℕ)
  pub place : pieces ≡ before ++ piece ∷ after
  pub kept : ℕ
  pub held : GrewBy (joined before ++ take kept piece) old new
  pub faults : Rose old.faults new.faults
  pub calls : CallsRoseSaturating (length before + 1) old new

-- what an answer says of pieces that were put up to the first fault
abbrev pub StreamAnswers : List (List ℕ) → SinkMeaning → SinkMeaning → Result (Unit {0}) Failed → Type 0
StreamAnswers pieces old new (Ok _) = PutsAll pieces old new
StreamAnswers pieces old new (Err _) = FailsWithin pieces old new
