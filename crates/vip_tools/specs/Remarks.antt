-- The remarks that name labels in the text of a certificate, which `cycles` and `safe` pass over.
use Rattle.std.specs.Prelude.{ℕ, ◌==◌, ◌&&◌, if◌then◌else◌, nat_le, Bool, false, List, [], ◌∷◌, ◌++◌, length, is_some, codes, flat_map, zip, Option, Some, None}
use Rattle.std.specs.Option.{option_map_or}
use Rattle.std.specs.Result.{result_ok}
use Rattle.std.specs.Str.Lines.{lines}
use Rattle.chip8_lang.specs.declared.view.Edition.{Edition}
use Rattle.vip_byte.specs.Text.{newline, words}
use Rattle.asm_core.specs.Origins.{Origins, labels_over}
use Rattle.cycle_check.specs.Closed.{checked}
use Rattle.cycle_check.specs.declared.Within.{Within}
use Rattle.game_check.specs.Grammar.{word_of}
use Rattle.game_check.specs.Proof.{proof_of}
use Rattle.vip_tools.specs.Files.{most_text}

-- ---- a text with remarks

-- the address with which a line begins: its first word, where that is four hexadecimal digits
abbrev pub address_by : List (List ℕ) → Option ℕ
address_by [] = None
address_by (first ∷ others) = word_of first

abbrev pub address_in : List ℕ → Option ℕ
address_in line = address_by (words line)

-- the address that is named before a line: its own, where the line before it has another one
abbrev pub named : Option ℕ → Option ℕ → Option ℕ
named before None = None
named None (Some address) = Some address
named (Some before) (Some address) = if before == address then None else Some address

-- a remark for each label that stands at the byte of an address
abbrev pub remarks_at : Origins → ℕ → List ℕ
remarks_at origins address = flat_map (λ label. codes "# " ++ label) (labels_over origins address)

-- a line behind another one, with what stands before it
unfoldable pub remarked_line : Origins → List ℕ → List ℕ → List ℕ
remarked_line origins before line = option_map_or (remarks_at origins) (named (address_in before) (address_in line)) [] ++ (line ++ newline)

-- the lines of a text, each behind the one before it, and the first behind an empty one
unfoldable pub with_remarks : Origins → List ℕ → List ℕ
with_remarks origins text = flat_map (λ pair. remarked_line origins pair.0 pair.1) (zip ([] ∷ lines text) (lines text))

-- ---- what is written

-- `safe` takes a text for a game
unfoldable pub is_safe : Edition → List ℕ → List ℕ → Bool
is_safe e game text = nat_le (length text) most_text && is_some (result_ok (proof_of e game text))

-- a game's certificate has all remarks where `safe` takes it with them, and else none
unfoldable pub proof_shown : Edition → List ℕ → Origins → List ℕ → List ℕ
proof_shown e game origins text = if is_safe e game (with_remarks origins text) then with_remarks origins text else text

-- what `cycles` says of a text that it takes
abbrev pub promised : List ℕ → List ℕ → Option Within
promised rom text = result_ok (checked rom text)

abbrev pub is_same : Option Within → Option Within → Bool
is_same (Some a) (Some b) = a.entry == b.entry && a.limit == b.limit
is_same _ _ = false

-- `cycles` takes a text, and says of it what it says of another one
unfoldable pub says_same : List ℕ → List ℕ → List ℕ → Bool
says_same rom text other = nat_le (length text) most_text && is_same (promised rom text) (promised rom other)

-- a routine's certificate has all remarks where `cycles` says the same of it with them, and else none
unfoldable pub routine_shown : List ℕ → Origins → List ℕ → List ℕ
routine_shown rom origins text = if says_same rom (with_remarks origins text) text then with_remarks origins text else text
