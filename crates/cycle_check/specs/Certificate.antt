-- The cycle certificate: a text whose first line bounds the cycles of a routine, and whose other lines say what is left at each address
-- (this project's format). std's `lines` are the lines of a text, and `words` those of a line.
use Rattle.std.specs.Prelude.{ℕ, ◌+◌, ◌-◌, ◌==◌, Bool, true, if◌then◌else◌, nat_lt, List, [], ◌∷◌, length, slice_get, codes, Option, Some, None, Result, Ok, Err, ok_or}
use Rattle.std.specs.List.{filter_map}
use Rattle.std.specs.Option.{option_map_or}
use Rattle.std.specs.Result.{result_err, result_ok}
use Rattle.std.specs.Str.{bytes_eq}
use Rattle.vip_byte.specs.Number.{decimal_number, hex_number}
use Rattle.vip_byte.specs.Reading.{Format, ◌>>=◌}
use Rattle.vip_byte.specs.Text.{is_silent, words}
use Rattle.cycle_check.specs.declared.fault.CertCause.{CertCause}
use Rattle.cycle_check.specs.declared.fault.CertCause.TheVariants.{BadLine, BadNumber, Order}
use Rattle.cycle_check.specs.declared.fault.CertFault.{CertFault}
use Rattle.cycle_check.specs.declared.fault.CertFault.TheVariants.{Fault}
use Rattle.cycle_check.specs.declared.grammar.Bound.{Bound}
use Rattle.cycle_check.specs.declared.grammar.Fact.{Fact}
use Rattle.cycle_check.specs.declared.grammar.Fact.TheVariants.{Any, Copy, NonZero, Is}
use Rattle.cycle_check.specs.declared.grammar.Line.{Line}
use Rattle.cycle_check.specs.declared.grammar.Statement.{Statement}
use Rattle.cycle_check.specs.declared.grammar.Statement.TheVariants.{Within, At}

-- ---- numbers

-- so many hexadecimal digits, whose number is at most `most`
unfoldable pub hex_of : ℕ → ℕ → List ℕ → Result ℕ CertCause
hex_of count most word = if length word == count then ok_or (result_ok (hex_number word most)) BadNumber else Err BadNumber

abbrev pub digit_of : List ℕ → Result ℕ CertCause
digit_of word = hex_of 1 0xf word

abbrev pub byte_of : List ℕ → Result ℕ CertCause
byte_of word = hex_of 2 0xff word

abbrev pub address_of : List ℕ → Result ℕ CertCause
address_of word = hex_of 4 0xffff word

-- a decimal number
unfoldable pub decimal_of : ℕ → List ℕ → Result ℕ CertCause
decimal_of most word = ok_or (result_ok (decimal_number word most)) BadNumber

-- X, or `-` where it is unknown
unfoldable pub x_of : List ℕ → Result (Option ℕ) CertCause
x_of word = if bytes_eq word (codes "-") then Ok None else (do
  x ← digit_of word
  Ok (Some x))

-- ---- the first line: `within ENTRY P K LIMIT`

-- the greatest limit
abbrev pub most_limit : ℕ
most_limit = 1_000_000_000

unfoldable pub bound_in : List ℕ → List ℕ → List ℕ → List ℕ → Result Bound CertCause
bound_in first second third fourth = do
  entry ← address_of first
  p ← digit_of second
  k ← digit_of third
  limit ← decimal_of most_limit fourth
  if k == p then Err BadNumber else Ok (record { entry = entry; p = p; k = k; limit = limit })

unfoldable pub bound_of : List (List ℕ) → Result Bound CertCause
bound_of (word ∷ entry ∷ p ∷ k ∷ limit ∷ []) = if bytes_eq word (codes "within") then bound_in entry p k limit else Err BadLine
bound_of words = Err BadLine

-- ---- the other lines: `ADDRESS X BASE STEP FACT`

-- the greatest base, and the greatest step
abbrev pub most_left : ℕ
most_left = 1_000_000

-- the fact is one word, or `is` and a byte
unfoldable pub word_of_fact : List ℕ → Result Fact CertCause
word_of_fact word =
    if bytes_eq word (codes "any") then Ok Any
    else if bytes_eq word (codes "copy") then Ok Copy
    else if bytes_eq word (codes "some") then Ok NonZero
    else Err BadLine

unfoldable pub byte_of_fact : List ℕ → List ℕ → Result Fact CertCause
byte_of_fact word number = if bytes_eq word (codes "is") then (do
  byte ← byte_of number
  Ok (Is byte)) else Err BadLine

unfoldable pub fact_of : List (List ℕ) → Result Fact CertCause
fact_of (word ∷ []) = word_of_fact word
fact_of (word ∷ number ∷ []) = byte_of_fact word number
fact_of words = Err BadLine

unfoldable pub line_in : List ℕ → List ℕ → List ℕ → List ℕ → Fact → Result Line CertCause
line_in first second third fourth fact = do
  address ← address_of first
  x ← x_of second
  base ← decimal_of most_left third
  step ← decimal_of most_left fourth
  Ok (record { address = address; x = x; base = base; step = step; fact = fact })

-- the form of a line goes before its numbers, and the fact has the last of the form
unfoldable pub line_of : List (List ℕ) → Result Line CertCause
line_of (address ∷ x ∷ base ∷ step ∷ others) = do
  fact ← fact_of others
  line_in address x base step fact
line_of words = Err BadLine

-- ---- the lines that say something

-- what a line says: nothing, or its words
unfoldable pub said : List ℕ → Option (List (List ℕ))
said line = if is_silent (words line) then None else Some (words line)

-- the numbers of the lines that say something, where the first line has this number
unfoldable pub numbers_from : ℕ → List (List ℕ) → List ℕ
numbers_from number [] = []
numbers_from number (line ∷ others) =
    if is_silent (words line) then numbers_from (number + 1) others else number ∷ numbers_from (number + 1) others

-- ---- a line behind others

-- What is read: the bound, which is there as soon as a line says something, and the lines of the addresses.
pub record Certificate : Type 0 where
  pub bound : Option Bound
  pub lines : List Line

-- the certificate that some lines say
abbrev pub lines_of : List (List (List ℕ)) → List Line
lines_of others = filter_map (λ words. result_ok (line_of words)) others

abbrev pub certificate_of : List (List (List ℕ)) → Certificate
certificate_of [] = record { bound = None; lines = [] }
certificate_of (first ∷ others) = record { bound = result_ok (bound_of first); lines = lines_of others }

-- an address is above that of the last line
abbrev pub is_behind : List Line → ℕ → Bool
is_behind lines address = option_map_or (λ last. nat_lt last.address address) (slice_get lines (length lines - 1)) true

abbrev pub in_order : List Line → Line → Result Line CertCause
in_order before line = if is_behind before line.address then Ok line else Err Order

-- what a line's words say behind the lines before it: the bound in the first line, an address in each other one
abbrev pub stated : Option Bound → List Line → List (List ℕ) → Result Statement CertCause
stated None before words = do
  bound ← bound_of words
  Ok (Within bound)
stated (Some bound) before words = do
  line ← line_of words
  ordered ← in_order before line
  Ok (At ordered)

abbrev pub next_of : Certificate → Option (List (List ℕ)) → Result (Option Statement) CertCause
next_of before None = Ok None
next_of before (Some words) = do
  statement ← stated before.bound before.lines words
  Ok (Some statement)

-- ---- the whole text

-- The causes that are looked for line by line, over all lines, the first in a line: its form, its numbers, its order.
abbrev pub refused : List (List (List ℕ)) → Result (Option (List (List ℕ))) CertCause → Option CertCause
refused before (Err cause) = Some cause
refused before (Ok says) = result_err (next_of (certificate_of before) says)

abbrev pub certificate_format : Format (List (List ℕ)) CertCause CertFault
certificate_format = record { said = λ line. Ok (said line); refused = refused; fault = Fault }
