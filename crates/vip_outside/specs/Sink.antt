-- What a sink means, what it gained, and what a put answers.
use Rattle.std.specs.Prelude.{◌≡◌, ℕ, ◌+◌, ◌-◌, ◌^◌, min, List, [], Option, Some, Result, Ok, Err, option_map, take}
use Rattle.std.specs.Io.KnownBytes.{Appends}
use Rattle.vip_outside.specs.Count.{Rose}
use Rattle.vip_outside.specs.declared.sink.Failed.{Failed}

-- held: the bytes that it holds, where it tells them; faults: how many there were; calls: how many puts there were, where it tells that
pub record SinkMeaning : Type 0 where
  pub held : Option (List ℕ)
  pub faults : ℕ
  pub calls : Option ℕ

-- what is held grew by these bytes at its end, where it is told before
abbrev pub GrewBy : List ℕ → SinkMeaning → SinkMeaning → Type 0
GrewBy bytes old new = Appends old.held new.held bytes

-- these bytes went to the end with no fault, by any number of puts
pub record Gains (bytes : List ℕ) (old new : SinkMeaning) : Type 0 where
  pub held : GrewBy bytes old new
  pub faults : new.faults ≡ old.faults

-- a fault: of these bytes a prefix went to the end, and nothing after it
pub record GainsPart (bytes : List ℕ) (old new : SinkMeaning) : Type 0 where
  pub kept : ℕ
  pub held : GrewBy (take kept bytes) old new
  pub faults : Rose old.faults new.faults

-- what an answer says of these bytes, put by any number of puts
abbrev pub GainAnswers : List ℕ → SinkMeaning → SinkMeaning → Result (Unit {0}) Failed → Type 0
GainAnswers bytes old new (Ok _) = Gains bytes old new
GainAnswers bytes old new (Err _) = GainsPart bytes old new

-- the number of calls rose by so many, where it is told
abbrev pub CallsRose : ℕ → SinkMeaning → SinkMeaning → Type 0
CallsRose times old new = new.calls ≡ option_map (λ calls. calls + times) old.calls

-- the number of calls rose by so many, where it is told, but not above the greatest u32
abbrev pub CallsRoseSaturating : ℕ → SinkMeaning → SinkMeaning → Type 0
CallsRoseSaturating times old new = new.calls ≡ option_map (λ calls. min (calls + times) (2 ^ 32 - 1)) old.calls

-- no further call can be counted: the number of calls is told, and stands at the greatest u32
abbrev pub IsSpent : SinkMeaning → Type 0
IsSpent s = s.calls ≡ Some (2 ^ 32 - 1)

-- one put after which the whole piece is at the end
pub record PutsWhole (piece : List ℕ) (old new : SinkMeaning) : Type 0 where
  pub gains : Gains piece old new
  pub calls : CallsRose 1 old new
  pub unspent : ¬ IsSpent old

-- one put that is a fault. An empty piece is one only where the calls are spent, and then no byte is added
pub record PutFails (piece : List ℕ) (old new : SinkMeaning) : Type 0 where
  pub gains : GainsPart piece old new
  pub calls : CallsRoseSaturating 1 old new
  pub empty : piece ≡ [] → IsSpent old
  pub spent : IsSpent old → new.held ≡ old.held

-- what the answer to a put of a piece says
abbrev pub PutAnswers : List ℕ → SinkMeaning → SinkMeaning → Result (Unit {0}) Failed → Type 0
PutAnswers piece old new (Ok _) = PutsWhole piece old new
PutAnswers piece old new (Err _) = PutFails piece old new
