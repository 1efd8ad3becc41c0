use Rattle.std.proofs.Common.{◌≡◌, None}
use Rattle.std.specs.List.{All}
use Rattle.game_check.specs.Closed.{cause_in}
use Rattle.game_check.specs.Least.{IsTooLong}
use Rattle.game_check.specs.Searching.{IsSettled}
use Rattle.game_check.proofs.Deciding.{found_text, none_long, writable}
use Rattle.game_check.proofs.decision.find_certificate.Goals as goal

pub returns-in_default-clause-why : goal.returns-in_default-clause-why
returns-in_default-clause-why c =
    let long : IsTooLong c.args.edition c.args.game.now = rw c.in_default.is at c.in_ok-family.ensures in
    (long, none_long c.args.edition c.args.game.now long)

pub text_of-requires : goal.text_of-requires
text_of-requires c =
    let settled : IsSettled c.args.edition c.args.game.now c.in-Some.family.items = rw c.in-Some.is at c.in_ok-family.ensures in
    let rules : All (λ d. cause_in c.args.edition c.args.game.now c.in-Some.family.items d ≡ None) c.in-Some.family.items =
    rw c.as_slice.ensures.value at c.in_default-first_open.ensures in
    rw c.as_slice-2.ensures.value (writable c.args.edition c.args.game.now c.in-Some.family.items settled rules)

pub returns-clause-found : goal.returns-clause-found
returns-clause-found c =
    let settled : IsSettled c.args.edition c.args.game.now c.in-Some.family.items = rw c.in-Some.is at c.in_ok-family.ensures in
    let rules : All (λ d. cause_in c.args.edition c.args.game.now c.in-Some.family.items d ≡ None) c.in-Some.family.items =
    rw c.as_slice.ensures.value at c.in_default-first_open.ensures in
    found_text c.args.edition c.args.game.now c.in-Some.family.items settled rules c.in_ok-text.text.items (rw c.as_slice-2.ensures.value at c.in_ok-text.ensures.text)
    (rw c.as_slice-2.ensures.value at c.in_ok-text.ensures.words)
