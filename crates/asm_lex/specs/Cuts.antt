-- The bytes at which a text is cut.
use Rattle.std.specs.Prelude.{ℕ, Bool, List, [], if◌then◌else◌, Option, None, Some}
use Rattle.std.specs.List.{list_any, after_first, slice_split}
use Rattle.vip_byte.specs.Text.{is_blank}
use Rattle.asm_lex.specs.Bytes.{is_semicolon, is_colon, is_comma, ends_name, is_forbidden}
use Rattle.asm_lex.specs.Expressions.{is_sign}
use Rattle.asm_lex.specs.declared.cuts.Stop.{Stop}
use Rattle.asm_lex.specs.declared.cuts.Stop.TheVariants.{Semicolon, Colon, Comma, Blank, Sign, EndOfName, NotAllowed}

abbrev pub stops : Stop → ℕ → Bool
stops Semicolon byte = is_semicolon byte
stops Colon byte = is_colon byte
stops Comma byte = is_comma byte
stops Blank byte = is_blank byte
stops Sign byte = is_sign byte
stops EndOfName byte = ends_name byte
stops NotAllowed byte = is_forbidden byte

-- the parts of what is left of a text that is cut
abbrev pub parts_of : (ℕ → Bool) → Option (List ℕ) → List (List ℕ)
parts_of stop None = []
parts_of stop (Some rest) = slice_split stop rest

-- what stands behind the first byte at which a text is cut
abbrev pub behind_first : (ℕ → Bool) → List ℕ → Option (List ℕ)
behind_first stop text = if list_any stop text then Some (after_first stop text) else None
