use Rattle.std.proofs.Common.{◌≡◌, ◌≤◌, ◌+◌, length}
use Rattle.std.specs.List.{slice_split}
use Rattle.std.specs.Option.{option_map, option_map_or}
use Rattle.asm_lex.specs.Cuts.{stops, parts_of}
use Rattle.asm_lex.specs.Names.{value_in}
use Rattle.asm_lex.specs.Culprits.{is_sought, first_part, part_place}
use Rattle.asm_lex.proofs.culprit.first_part.Given as goal

-- the part is the first of those that are left
abbrev pub invariant-loop-rest : goal.invariant-loop-rest
invariant-loop-rest l = record {
  found : part_place l.before (first_part (is_sought l.isa (value_in l.names) l.sought) (parts_of (stops l.stop) (option_map (λ rest. rest.now) l.rest)))
      ≡ part_place l.from (first_part (is_sought l.isa (value_in l.names) l.sought) (slice_split (stops l.stop) l.text));
  within : l.before + option_map_or (λ rest. length rest.now + 1) l.rest 0 ≤ 65536;
}

abbrev pub decreases-loop-rest : goal.decreases-loop-rest
decreases-loop-rest l = option_map_or (λ rest. length rest.now + 1) l.rest 0
