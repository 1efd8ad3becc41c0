use Rattle.vip_words.specs.Request.{map_code}
use Rattle.vip_tools.proofs.WorkLemmas.{passed}
use Rattle.vip_words.specs.Request.{map_start}
use Rattle.vip_verbs.specs.Opening.{OpenedAnswers}
use Rattle.vip_verbs.proofs.WorkLemmas.{game-begins, refused-game}
use Rattle.vip_verbs.proofs.opening.read_start.Goals as goal

pub returns-in_ok-made-in-Game : goal.returns-in_ok-made-in-Game
returns-in_ok-made-in-Game c =
    let made = c.in_ok-made-in-Game.ensures in
    rw c.in-Game.is
    (game-begins c.in-Game.edition (map_code (λ bytes. bytes.items) c.in-Game.code) c.in_ok-made-in-Game.made.game made.0.0, made.0.1, made.1)

pub returns-in_err-made-in-Game : goal.returns-in_err-made-in-Game
returns-in_err-made-in-Game c =
    passed (OpenedAnswers (map_start (λ bytes. bytes.items) c.args.start)) _ _ c.from_residual.ensures.1
    (rw c.in-Game.is (refused-game c.in-Game.edition (map_code (λ bytes. bytes.items) c.in-Game.code) _ c.in_err-made-in-Game.ensures))
