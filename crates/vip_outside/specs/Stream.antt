-- The calls of a stream, and which of them send a piece.
use Rattle.std.specs.Prelude.{◌≡◌, ℕ, ◌<◌, ◌≤◌, Bool, true, false, List, [], ◌∷◌, ◌++◌, length, take, drop, Option, Result, Ok, Err, option_map}

-- a write that was offered these bytes and took so many of them; one of these bytes that failed; a flush; or one that failed
pub data StreamCall : Type 0 where
  Wrote : (offered : List ℕ) (count : ℕ) → StreamCall
  WriteFailed : (offered : List ℕ) → StreamCall
  Flushed : StreamCall
  FlushFailed : StreamCall

-- calls more, where the calls are told
abbrev pub and_calls : List StreamCall → Option (List StreamCall) → Option (List StreamCall)
and_calls more calls = option_map (λ cs. cs ++ more) calls

module _ {Error : Type 0} where
  abbrev pub LogsWrite : List ℕ → Option (List StreamCall) → Option (List StreamCall) → Result ℕ Error → Type 0
  LogsWrite bytes old new (Ok count) = new ≡ and_calls (Wrote bytes count ∷ []) old
  LogsWrite bytes old new (Err error) = new ≡ and_calls (WriteFailed bytes ∷ []) old

  abbrev pub LogsFlush : Option (List StreamCall) → Option (List StreamCall) → Result (Unit {0}) Error → Type 0
  LogsFlush old new (Ok done) = new ≡ and_calls (Flushed ∷ []) old
  LogsFlush old new (Err error) = new ≡ and_calls (FlushFailed ∷ []) old

-- the bytes that the calls took
abbrev pub bytes_of : List StreamCall → List ℕ
bytes_of [] = []
bytes_of (Wrote offered count ∷ calls) = take count offered ++ bytes_of calls
bytes_of (_ ∷ calls) = bytes_of calls

-- The calls that send a piece, and whether they fail. All that is left of it is offered to one write; where the write takes less, the rest is offered to the
-- next one. A write that takes nothing and one that fails are faults, and nothing follows. At the end comes a flush, which may fail.
pub data Sends : List ℕ → List StreamCall → Bool → Type 0 where
  Ends : Sends [] (Flushed ∷ []) false
  EndFails : Sends [] (FlushFailed ∷ []) true
  Takes : (rest : List ℕ) (count : ℕ) (calls : List StreamCall) (fails : Bool) → 0 < count → count ≤ length rest → Sends (drop count rest) calls fails
      → Sends rest (Wrote rest count ∷ calls) fails
  TakesNone : (rest : List ℕ) → 0 < length rest → Sends rest (Wrote rest 0 ∷ []) true
  Fails : (rest : List ℕ) → 0 < length rest → Sends rest (WriteFailed rest ∷ []) true
