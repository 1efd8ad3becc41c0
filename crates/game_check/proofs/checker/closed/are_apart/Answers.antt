use Rattle.std.proofs.Common.{◌≡◌, ◌+◌, ◌<◌, ◌≤◌, ltb, leb, length, get_or, rules, arith, sym, ap, ◌∙◌}
use Rattle.std.proofs.lemmas.Bool.{ltb-false, ltb-true}
use Rattle.std.proofs.lemmas.List.Sorted.{IsPartitionPoint-from_clause, IsPartitionedBy-ltb}
use Rattle.game_check.proofs.Ordered.{apart_nowhere, apart_there, pc_rises}
use Rattle.game_check.proofs.checker.closed.are_apart.Goals as goal

pub returns-in-Some : goal.returns-in-Some
returns-in-Some c =
    let claims = c.args.claims.now in
    let place = c.partition_point-place.result in
    let here = c.in-Some.claim.now in
    let cut = IsPartitionPoint-from_clause (λ claim. ltb (claim.point.pc + 1) c.args.start) claims place c.partition_point-place.ensures.partitioned
    (IsPartitionedBy-ltb (λ claim. claim.point.pc + 1) claims c.args.start (pc_rises claims c.requires.ascending c.args.start c.args.count))
    (λ a r f' called. search rules) in
    let within : place < length claims = ltb-true place (length claims) (sym c.in-Some.ensures.lookup.0) in
    let read = ap (λ claim. claim.point.pc) (c.in-Some.ensures.lookup.3.1 here) in
    let is : c.from.result ≡ (get_or claims place here).point.pc = omega (arith, c.from.ensures, read) in
    ap (leb (c.args.start + c.args.count)) is ∙ sym (apart_there claims c.requires.ascending c.args.start c.args.count place here within cut)

pub returns-in-None : goal.returns-in-None
returns-in-None c =
    let claims = c.args.claims.now in
    let place = c.partition_point-place.result in
    let cut = IsPartitionPoint-from_clause (λ claim. ltb (claim.point.pc + 1) c.args.start) claims place c.partition_point-place.ensures.partitioned
    (IsPartitionedBy-ltb (λ claim. claim.point.pc + 1) claims c.args.start (pc_rises claims c.requires.ascending c.args.start c.args.count))
    (λ a r f' called. search rules) in
    let past : length claims ≤ place = ltb-false place (length claims) (sym c.in-None.ensures.lookup.0) in
    sym (apart_nowhere claims c.requires.ascending c.args.start c.args.count place past cut)
