use Rattle.std.proofs.Common.{◌≡◌, ℕ, [], ◌∷◌, ◌++◌, refl, subst}
use Rattle.vip_board.specs.Seen.{Seen}
use Rattle.vip_byte.specs.Text.{newline}
use Rattle.vip_words.specs.declared.debug_commands.Running.{Running}
use Rattle.vip_words.specs.declared.debug_commands.Running.TheVariants.{Watch}
use Rattle.vip_outside.specs.Pieces.{StreamAnswers}
use Rattle.vip_outside.proofs.PiecesLemmas.{StreamAnswers-one}
use Rattle.vip_debug.specs.declared.moves.Change.{Change}
use Rattle.vip_debug.specs.BoardShown.{cycle_text}
use Rattle.vip_debug.specs.BoardParts.{lines_by}
use Rattle.vip_debug.proofs.answer.put_completed.Goals as goal

other : (running : Running) (s : Seen) (change : Change) → ((x y : ℕ) → running ≡ Watch x y → ⊥)
    → (cycle_text s.machine ++ newline) ∷ [] ≡ lines_by running s change
other (Watch x y) s change watches = absurd (watches x y refl)
other _ s change watches = refl

pub returns-in_default : goal.returns-in_default
returns-in_default g c =
    subst (λ lines. StreamAnswers lines (g.O.Sink.meaning c.args.out.now) (g.O.Sink.meaning c.put_now.new.out) c.put_now.result)
    (other c.args.running c.args.board.now c.args.change.now c.in_default.not-Watch) (StreamAnswers-one _ _ _ _ c.put_now.ensures)
