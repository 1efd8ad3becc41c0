-- Reading a text line by line up to its first fault. A format says what a line says by itself, for which cause a line is refused behind
-- others, and which fault a line has, given by its number and that cause.
use Rattle.std.specs.Prelude.{ℕ, ◌+◌, List, [], ◌∷◌, length, take, slice_index_or, Option, None, Result, Ok, Err}
use Rattle.std.specs.List.{filter_map, range_with_len}
use Rattle.std.specs.Option.{option_map}
use Rattle.std.specs.Result.{result_unwrap_or}
use Rattle.std.specs.Str.Lines.{lines}

-- the second step, if the first gave a value
infixl 10 ◌>>=◌
abbrev pub ◌>>=◌ : {A B Cause : Type 0} → Result A Cause → (A → Result B Cause) → Result B Cause
Ok value >>= next = next value
Err cause >>= next = Err cause

-- a line says a value, or nothing, or there is a cause for which it says neither
pub record Format (Value Cause Fault : Type 0) : Type 0 where
  pub said : List ℕ → Result (Option Value) Cause
  pub refused : List Value → Result (Option Value) Cause → Option Cause
  pub fault : ℕ → Cause → Fault

module _ {Value Cause Fault : Type 0} (format : Format Value Cause Fault) where
  -- the values that some lines say
  unfoldable pub values_of : List (List ℕ) → List Value
  values_of lines = filter_map (λ line. result_unwrap_or (format.said line) None) lines

  -- the fault of line i, counted from 0; a fault names its line counted from 1
  abbrev pub fault_at : List (List ℕ) → ℕ → Option Fault
  fault_at lines i = option_map (format.fault (i + 1)) (format.refused (values_of (take i lines)) (format.said (slice_index_or lines i [])))

  -- the faults of all lines, first to last
  unfoldable pub faults_of : List (List ℕ) → List Fault
  faults_of lines = filter_map (fault_at lines) (range_with_len 0 (length lines))

  -- the values, or the first fault where there is one
  abbrev pub unless_faulty : List Value → List Fault → Result (List Value) Fault
  unless_faulty values [] = Ok values
  unless_faulty values (fault ∷ others) = Err fault

  -- what a text says: the list of its values, or its first fault
  unfoldable pub read : List ℕ → Result (List Value) Fault
  read text = unless_faulty (values_of (lines text)) (faults_of (lines text))
