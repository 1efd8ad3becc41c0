use Rattle.std.proofs.Common.{◌∙◌, [], ◌++◌, ap}
use Rattle.vip_show.proofs.Fresh.{fresh-begun}
use Rattle.vip_tools.proofs.JoinLemmas.{all_joined, one_more}
use Rattle.vip_verbs.specs.Outcome.{digest_line}
use Rattle.vip_verbs.proofs.DigestLemmas.{line-told}
use Rattle.vip_verbs.proofs.digest.lines.Goals as goal

pub digest_run-digests-requires : goal.digest_run-digests-requires
digest_run-digests-requires c = record { fresh = fresh-begun _ _ _ _ c.in_ok-run.ensures.is c.in_ok-run.ensures.runs }

pub loop-game-preserved : goal.loop-game-preserved
loop-game-preserved c =
    c.in_ok-append_line.ensures
    ∙ (ap (λ line. c.loop-game.text.items ++ line)
    (line-told _ _ _ _ c.in_ok-run.ensures c.digest_run-digests.ensures ∙ ap (digest_line c.args.limit) c.game-item.is)
    ∙ one_more (digest_line c.args.limit) [] c.args.games.now c.loop-game.game-index c.loop-game.text.items c.game-item.result c.loop-game.invariant
    c.loop-game-test.true)

pub returns : goal.returns
returns c = all_joined (digest_line c.args.limit) [] c.args.games.now c.loop-game.game-index c.loop-game.text.items c.loop-game.invariant c.loop-game-test.false
