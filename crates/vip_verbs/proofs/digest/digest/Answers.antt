use Rattle.std.proofs.Common.{◌∙◌, ap, refl}
use Rattle.std.specs.List.{flat_map}
use Rattle.vip_tools.specs.Opening.{GamesCome}
use Rattle.vip_tools.specs.Outcome.{Writes}
use Rattle.vip_tools.specs.Work.{TextAnswers}
use Rattle.vip_tools.proofs.JudgedLemmas.{refused-first}
use Rattle.vip_tools.proofs.WorkLemmas.{passed}
use Rattle.vip_verbs.specs.Outcome.{DigestComes, digest_line}
use Rattle.vip_verbs.proofs.digest.digest.Goals as goal

pub returns-in_err-games : goal.returns-in_err-games
returns-in_err-games c =
    passed (TextAnswers (DigestComes c.args.limit c.args.list.now)) _ _ c.from_residual.ensures.1
    (refused-first (GamesCome c.args.list.now) (λ games. Writes (flat_map (digest_line c.args.limit) games)) _ c.in_err-games.ensures)

pub returns : goal.returns
returns c =
    rw (c.in_ok-text.ensures ∙ ap (flat_map (digest_line c.args.limit)) c.as_slice.ensures.value)
    (record { value = c.in_ok-games.games.items; gives = c.in_ok-games.ensures; here = refl })
