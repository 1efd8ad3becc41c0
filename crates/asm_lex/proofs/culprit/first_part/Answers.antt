use Rattle.std.proofs.Common.{◌≡◌, ◌≤◌, ◌+◌, ◌∙◌, sym, ap, subst, length, Bor, List, ℕ, Option}
use Rattle.std.specs.Option.{option_map, option_map_or}
use Rattle.std.specs.List.{slice_split}
use Rattle.asm_lex.specs.Cuts.{stops, parts_of}
use Rattle.asm_lex.specs.Names.{value_in}
use Rattle.asm_lex.specs.Culprits.{is_sought, first_part, part_place}
use Rattle.asm_lex.proofs.Places.{place-next, within-next}
use Rattle.asm_lex.proofs.culprit.first_part.Goals as goal

pub loop-rest-preserved : goal.loop-rest-preserved
loop-rest-preserved c =
    let stop = stops c.args.stop in
    let passes = is_sought c.args.isa (value_in c.args.names.now) c.args.sought in
    let part = c.cut.result.0.now in
    let P : Option (Bor (List ℕ)) → Type 0 = λ rest. part_place c.loop-rest.before (first_part passes (parts_of stop (option_map (λ rest. rest.now) rest)))
    ≡ part_place c.args.from (first_part passes (slice_split stop c.args.text.now)) in
    let Q : Option (Bor (List ℕ)) → Type 0 = λ rest. c.loop-rest.before + option_map_or (λ (rest : Bor (List ℕ)). length rest.now + 1) rest 0 ≤ 65536 in
    record {
      found = place-next passes c.loop-rest.before part (parts_of stop (option_map (λ rest. rest.now) c.cut.result.1)) (sym c.is_sought.ensures ∙ c.if-is_sought.false)
          ∙ ap (λ parts. part_place c.loop-rest.before (first_part passes parts)) (sym c.cut.ensures.parts)
          ∙ subst P c.in-Some.is c.loop-rest.invariant.found;
      within = within-next c.cut.result.1 part c.in-Some.left.now _ c.loop-rest.before 65536 c.cut.ensures.first c.cut.ensures.shorter
          (subst Q c.in-Some.is c.loop-rest.invariant.within);
    }
