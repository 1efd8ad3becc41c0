-- A certificate that a game never stops: a text each line of which claims, of a point of control, where I lies there (this project's format).
-- Its lines, its words and its remarks are those of a key script.
use Rattle.std.specs.Prelude.{ℕ, ◌-◌, ◌==◌, ◌&&◌, Bool, true, if◌then◌else◌, nat_le, List, ◌∷◌, length, map, slice_get, Option, Some, None, Result, Ok, Err}
use Rattle.std.specs.Cmp.Lexicographic.{slice_cmp}
use Rattle.std.specs.List.{list_all}
use Rattle.std.specs.Option.{is_some, option_map_or, unwrap_or}
use Rattle.std.specs.Ordering.{is_lt, nat_cmp, on, then_cmp}
use Rattle.std.specs.declared.cmp.Ordering.{Ordering}
use Rattle.std.specs.Result.{result_ok}
use Rattle.std.specs.Str.Lines.{lines}
use Rattle.vip_byte.specs.Number.{hex_number}
use Rattle.vip_byte.specs.Reading.{Format, values_of, read, ◌>>=◌}
use Rattle.vip_byte.specs.Text.{is_silent, words}
use Rattle.game_check.specs.declared.claim.Point.{Point}
use Rattle.game_check.specs.declared.claim.Claim.{Claim}
use Rattle.game_check.specs.declared.fault.ProofCause.{ProofCause}
use Rattle.game_check.specs.declared.fault.ProofCause.TheVariants.{BadLine, Order}
use Rattle.game_check.specs.declared.fault.ProofFault.{ProofFault}
use Rattle.game_check.specs.declared.fault.ProofFault.TheVariants.{Fault}

-- ---- one line by itself

-- four hexadecimal digits
abbrev pub word_of : List ℕ → Option ℕ
word_of word = if length word == 4 then result_ok (hex_number word 0xffff) else None

abbrev pub are_words : List (List ℕ) → Bool
are_words = list_all (λ word. is_some (word_of word))

abbrev pub values : List (List ℕ) → List ℕ
values = map (λ word. unwrap_or (word_of word) 0)

-- pc, the least and the greatest I, and at most 12 addresses on the stack, the oldest first
unfoldable pub claim_by : List ℕ → Result Claim ProofCause
claim_by (pc ∷ low ∷ high ∷ stack) =
    if nat_le (length stack) 12 && nat_le low high
    then Ok (record { point = record { pc = pc; stack = record { items = stack } }; low = low; high = high })
    else Err BadLine
claim_by numbers = Err BadLine

unfoldable pub claim_of : List (List ℕ) → Result Claim ProofCause
claim_of words = if are_words words then claim_by (values words) else Err BadLine

-- what a line says: nothing, or one claim
unfoldable pub said : List ℕ → Result (Option Claim) ProofCause
said line = if is_silent (words line) then Ok None else (do
  claim ← claim_of (words line)
  Ok (Some claim))

-- ---- a line behind others

-- the lower pc comes first, with one pc the shorter stack, and of two of one length the one that is lower at the first difference
abbrev pub order : Point → Point → Ordering
order = then_cmp (on (λ p. p.pc) nat_cmp) (then_cmp (on (λ p. length p.stack.items) nat_cmp) (on (λ p. p.stack.items) (slice_cmp nat_cmp)))

abbrev pub comes_before : Claim → Claim → Bool
comes_before a b = is_lt (order a.point b.point)

-- a claim comes behind others where it does so behind the last of them
abbrev pub is_behind : List Claim → Claim → Bool
is_behind before claim = option_map_or (λ last. comes_before last claim) (slice_get before (length before - 1)) true

-- the first cause for which a line that says this is refused behind the claims before it
unfoldable pub cause_after : List Claim → Result (Option Claim) ProofCause → Option ProofCause
cause_after before (Err cause) = Some cause
cause_after before (Ok None) = None
cause_after before (Ok (Some claim)) =
    if is_behind before claim then None else Some Order

-- ---- the whole text

abbrev pub claim_format : Format Claim ProofCause ProofFault
claim_format = record { said = said; refused = cause_after; fault = Fault }

-- the claims of a text in order, or its first fault by form or order
abbrev pub read_claims : List ℕ → Result (List Claim) ProofFault
read_claims = read claim_format

-- the claims of its lines
abbrev pub claims_of : List ℕ → List Claim
claims_of text = values_of claim_format (lines text)
