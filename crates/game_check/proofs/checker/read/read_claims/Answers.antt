use Rattle.std.proofs.Common.{sym, inr, arith}
use Rattle.std.proofs.lemmas.List.{map-append}
use Rattle.vip_byte.proofs.ReadingLemmas.{length-IsReadUpTo, read_line, read_none, read-refused, read-whole}
use Rattle.game_check.specs.Grammar.{claim_format}
use Rattle.game_check.proofs.Ordered.{ascending_with, length_with}
use Rattle.game_check.proofs.checker.read.read_claims.Goals as goal

pub loop-line-init : goal.loop-line-init
loop-line-init c =
    rw (c.into_iter-line-iterator.ensures.into_iter_gives, c.new-line-items.ensures, c.new-claims.ensures.items)
    (read_none claim_format c.args.text.now, (λ i j d before within. absurd (omega (arith, within))), omega arith)

pub overflow_add-number : goal.overflow_add-number
overflow_add-number c =
    omega (
      arith,
      length-IsReadUpTo claim_format c.args.text.now _ c.loop-line.line-iterator c.loop-line.claims.items c.loop-line.number
          c.loop-line.invariant.0,
    )

pub loop-line-preserved : goal.loop-line-preserved
loop-line-preserved c =
    let so_far = rw c.in-Some.ensures.steps at c.loop-line.invariant.0 in
    let few = length_with c.loop-line.claims.items c.in-Ok.claim in
    let accepted = rw c.as_slice.ensures.value at (sym c.in-Ok.ensures.refused) in
    rw (c.in_ok-extend-in-Ok.ensures, map-append) (
      read_line claim_format c.args.text.now _ c.in-Some.line.now c.next.new.self c.loop-line.claims.items c.loop-line.number c.in-Ok.claim so_far accepted
          c.in-Ok.ensures.claim,
      ascending_with c.loop-line.claims.items c.in-Ok.claim c.loop-line.invariant.1 (rw c.in-Ok.ensures.claim at accepted),
      omega (arith, few, c.loop-line.invariant.2),
    )

pub returns-in-Err-clause-fault : goal.returns-in-Err-clause-fault
returns-in-Err-clause-fault c =
    let so_far = rw c.in-Some.ensures.steps at c.loop-line.invariant.0 in
    inr (read-refused claim_format c.args.text.now _ c.in-Some.line.now c.next.new.self c.loop-line.claims.items c.loop-line.number c.in-Err.cause so_far
    (rw c.as_slice.ensures.value at (sym c.in-Err.ensures.refused)))

pub returns-clause-claims : goal.returns-clause-claims
returns-clause-claims c =
    read-whole claim_format c.args.text.now _ c.loop-line.claims.items c.loop-line.number (rw c.in-None.ensures.steps.0 at c.loop-line.invariant.0)

pub returns-clause-few : goal.returns-clause-few
returns-clause-few c =
    let lines = length-IsReadUpTo claim_format c.args.text.now _ c.loop-line.line-iterator c.loop-line.claims.items c.loop-line.number
    c.loop-line.invariant.0 in
    omega (arith, lines, c.loop-line.invariant.2)
