use Rattle.std.proofs.Common.{ap, ◌∙◌, arith}
use Rattle.chip8_lang.specs.View.{view_at}
use Rattle.vip_board.specs.Seen.{Seen}
use Rattle.vip_show.proofs.Profiling.{awaits-first, first-counted, none-counted}
use Rattle.vip_show.proofs.Saving.{told}
use Rattle.vip_show.proofs.Screens.{none-viewed, some-viewed}
use Rattle.vip_show.proofs.profile.count_first.Goals as goal

pub meet-requires : goal.meet-requires
meet-requires c =
    awaits-first _ c.requires.fresh c.board-board.ensures.follows _ _ c.requires.none
    (c.view_of.ensures ∙ ap (λ e. view_at e c.board-board.result.now.machine) c.edition.ensures.edition
    ∙ ap (λ (b : Seen). view_at c.args.run.now.edition b.machine) c.board-board.ensures.board)

pub returns-in-Some-clause-counted : goal.returns-in-Some-clause-counted
returns-in-Some-clause-counted c =
    first-counted _ c.requires.fresh c.board-board.ensures.follows _ _ (told _ _ (some-viewed _ _ c.in-Some.ensures).is)
    (c.view_of.ensures ∙ ap (λ e. view_at e c.board-board.result.now.machine) c.edition.ensures.edition
    ∙ ap (λ (b : Seen). view_at c.args.run.now.edition b.machine) c.board-board.ensures.board)
    (c.meet.ensures _ c.requires.none (omega arith))

pub returns-in_default-clause-counted : goal.returns-in_default-clause-counted
returns-in_default-clause-counted c =
    none-counted _ c.requires.fresh c.board-board.ensures.follows _ (none-viewed _ c.in_default.ensures) c.requires.none
