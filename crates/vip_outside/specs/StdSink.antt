-- What a sink over a stream means, and what a put of it does to the stream.
use Rattle.std.specs.Prelude.{◌≡◌, ℕ, ◌<◌, ◌≤◌, ◌⊎◌, List, [], ◌∷◌, length, Option, Some, None, Result, Ok, Err, is_err}
use Rattle.std.specs.Io.KnownBytes.{Appends}
use Rattle.vip_outside.specs.Sink.{SinkMeaning}
use Rattle.vip_outside.specs.Stream.{StreamCall, Sends, and_calls, bytes_of}
use Rattle.vip_outside.specs.Stream.StreamCall.{Wrote, WriteFailed}
use Rattle.vip_outside.specs.declared.sink.Failed.{Failed}

-- calls: those of the stream below so far; contents: what it holds; each where it tells that. faults: how many there were
pub record StreamSink : Type 0 where
  pub calls : Option (List StreamCall)
  pub contents : Option (List ℕ)
  pub faults : ℕ

-- the bytes that a stream took, by its calls where it tells them, and else by its contents
abbrev pub took : Option (List StreamCall) → Option (List ℕ) → Option (List ℕ)
took (Some calls) contents = Some (bytes_of calls)
took None contents = contents

-- Of its bytes it tells those that the stream below took, at a stream of the system nothing, and never how often it was called.
abbrev pub meaning_of : StreamSink → SinkMeaning
meaning_of s = record { held = took s.calls s.contents; faults = s.faults; calls = None }

-- a piece was sent to the stream, by these calls, and the bytes that they took went to the end of its contents
pub record Sent (piece : List ℕ) (old new : Option (List StreamCall)) (had has : Option (List ℕ)) (result : Result (Unit {0}) Failed) : Type 0 where
  pub calls : List StreamCall
  pub sends : Sends piece calls (is_err result)
  pub made : new ≡ and_calls calls old
  pub appends : Appends had has (bytes_of calls)

-- an empty piece makes no call and is no fault, and any other is sent
abbrev pub PutSends : List ℕ → StreamSink → StreamSink → Result (Unit {0}) Failed → Type 0
PutSends [] old new (Ok done) = new ≡ old
PutSends [] old new (Err e) = ⊥
PutSends (byte ∷ bytes) old new result = Sent (byte ∷ bytes) old.calls new.calls old.contents new.contents result

-- one write took some of the bytes; or it took none, or failed
abbrev pub SendsSome : List ℕ → Option (List StreamCall) → Option (List StreamCall) → Result ℕ Failed → Type 0
SendsSome piece old new (Ok count) = (0 < count) × (count ≤ length piece) × (new ≡ and_calls (Wrote piece count ∷ []) old)
SendsSome piece old new (Err e) = (new ≡ and_calls (Wrote piece 0 ∷ []) old) ⊎ (new ≡ and_calls (WriteFailed piece ∷ []) old)
