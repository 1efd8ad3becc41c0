use Rattle.std.proofs.Common.{◌≡◌, drop}
use Rattle.std.specs.Prelude.{map}
use Rattle.std.specs.Str.{bytes_eq}
use Rattle.std.specs.Char.{to_ascii_uppercase}
use Rattle.asm_lex.proofs.text.spells.Given as goal

-- the texts are equal exactly where what is left of them is
abbrev pub invariant-loop-place : goal.invariant-loop-place
invariant-loop-place l = bytes_eq (map to_ascii_uppercase (drop l.place l.text)) (drop l.place l.name) ≡ bytes_eq (map to_ascii_uppercase l.text) l.name
