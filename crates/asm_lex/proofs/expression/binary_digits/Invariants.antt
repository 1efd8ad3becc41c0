use Rattle.std.proofs.Common.{◌≡◌, take, true}
use Rattle.std.specs.Prelude.{min}
use Rattle.std.specs.Str.Parse.{digits_value}
use Rattle.vip_byte.specs.Number.{are_digits}
use Rattle.asm_lex.proofs.expression.binary_digits.Given as goal

-- the first bytes are digits, and write the number, or a greater one
abbrev pub invariant-loop-byte : goal.invariant-loop-byte
invariant-loop-byte l = record {
  digits : are_digits 2 (take l.byte-index l.digits) ≡ true;
  worth : l.number ≡ min (digits_value 2 (take l.byte-index l.digits)) 65536;
}
