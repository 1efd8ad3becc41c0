use Rattle.std.proofs.Common.{◌≡◌, ◌+◌, length}
use Rattle.std.specs.List.{list_any}
use Rattle.std.specs.Option.{option_map, option_map_or}
use Rattle.asm_lex.specs.Bytes.{is_long_name, ends_name, has_long_name}
use Rattle.asm_lex.specs.Cuts.{parts_of}
use Rattle.asm_lex.proofs.text.has_long_name.Given as goal

-- the text has a name that is too long exactly where one is left
abbrev pub invariant-loop-rest : goal.invariant-loop-rest
invariant-loop-rest l = has_long_name l.text ≡ list_any is_long_name (parts_of ends_name (option_map (λ rest. rest.now) l.rest))

abbrev pub decreases-loop-rest : goal.decreases-loop-rest
decreases-loop-rest l = option_map_or (λ rest. length rest.now + 1) l.rest 0
