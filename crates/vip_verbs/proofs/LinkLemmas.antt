-- What `link` answers, from the answers of its parts, and what its work does.
use Rattle.std.proofs.Common.{◌≡◌, ℕ, ◌+◌, ◌≤◌, List, [], ◌∷◌, length, refl, sym, ap, ap₂, subst, ◌∙◌, Ok}
use Rattle.vip_link.specs.Laws.{most_bytes}
use Rattle.vip_link.specs.Links.{Linking, started}
use Rattle.vip_link.specs.Pair.{Pair, scheduled}
use Rattle.vip_link.specs.Roms.{sender_rom, receiver_rom}
use Rattle.vip_link.specs.Schedules.{schedule_by}
use Rattle.vip_link.specs.Checked.{ComparesLink}
use Rattle.vip_outside.specs.Sink.{SinkMeaning, PutsWhole}
use Rattle.vip_outside.proofs.PiecesLemmas.{PutsAll-one}
use Rattle.vip_outside.specs.Pieces.{PutsAll}
use Rattle.vip_tools.specs.Report.{linked_report}
use Rattle.vip_tools.specs.declared.ended.Ended.TheVariants.{Linked}
use Rattle.vip_verbs.specs.Outcome.{LinkComes, linked, linked_after}
use Rattle.vip_verbs.specs.Prepared.{IsJoined, PerformAnswers}

module _ (message : List ℕ) (moves number : ℕ) where
  -- both boards are joined, so their output is settled
  pub link-comes : (l : Linking) → l ≡ started message → ComparesLink (Ok tt) → LinkComes message moves number (linked (linked_after number moves l.message))
  link-comes l e roms =
      subst (λ m. LinkComes message moves number (linked (linked_after number moves m))) (sym (ap (λ (l : Linking). l.message) e))
      (record { value = tt; gives = roms; here = refl })

pub joined-of : (message : List ℕ) (l : Linking) → l ≡ started message → length message ≤ most_bytes → IsJoined l
joined-of message l e short = subst IsJoined (sym e) (record { is = refl; short = short })

-- where the moves bring both boards
pub pair-of :
    (l after : Linking) (number moves : ℕ) → IsJoined l
    → after ≡ record l { pair = scheduled sender_rom receiver_rom (schedule_by number moves) l.pair; moves = l.moves + moves }
    → after.pair ≡ linked_after number moves l.message
pair-of l after number moves h e =
    ap (λ (l : Linking). l.pair) e ∙ ap (λ (l : Linking). scheduled sender_rom receiver_rom (schedule_by number moves) l.pair) h.is

-- the output went out
pub link-performs :
    (s t : Pair) (old new : SinkMeaning) (piece received : List ℕ) (sent : ℕ) → s ≡ t → piece ≡ s.received → received ≡ s.received → sent ≡ length s.sent
    → PutsWhole piece old new → PerformAnswers (linked t) old new (Ok (Linked sent (length received)))
link-performs s t old new piece received sent same e f g puts =
    subst (λ t. PerformAnswers (linked t) old new (Ok (Linked sent (length received)))) same
    (record {
      puts = subst (λ p. PutsAll (p ∷ []) old new) e (PutsAll-one piece old new puts);
      status_is = refl;
      report_is = sym (ap₂ linked_report g (ap length f));
    })
