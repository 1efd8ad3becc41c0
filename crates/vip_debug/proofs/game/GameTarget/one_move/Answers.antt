use Rattle.std.proofs.Common.{refl}
use Rattle.vip_board.specs.Moves.{IfDone}
use Rattle.vip_board.specs.declared.board.Moved.{Moved}
use Rattle.vip_board.specs.declared.board.Moved.TheVariants.{Done, End}
use Rattle.vip_debug.proofs.Moving.{game-moved}
use Rattle.vip_debug.proofs.game.GameTarget.one_move.Goals as goal

-- the borrow stays
with_name : (A B C D : Type 0) (r : Moved) → C → IfDone r (λ name. A × B × D) → IfDone r (λ name. A × B × (C × D))
with_name A B C D (Done name) b h = (h.0, h.1, (b, h.2))
with_name A B C D End b h = tt

pub returns-clause-moved : goal.returns-clause-moved
returns-clause-moved c = with_name _ _ _ _ c.one_move.result refl (game-moved _ _ c.one_move.result c.one_move.ensures.moved)
