use Rattle.std.proofs.Common.{sym, ap, ◌∙◌, length}
use Rattle.std.specs.Option.{option_map}
use Rattle.chip8_lang.specs.View.{seen}
use Rattle.vip_relation.specs.State.{screen_size}
use Rattle.vip_relation.proofs.Telling.{begins-dark, begins-told}
use Rattle.vip_relation.proofs.vip.Vip.of.Goals.{in-Some, in-None}
use Rattle.vip_relation.proofs.vip.Vip.of.Goals as goal

pub invariant_of-result : goal.invariant_of-result
invariant_of-result c =
    let run = c.args.run in
    let edition = c.edition.ensures.edition in
    elim c.match-last_pc.branch [
      | in-Some w ↦
          let first = begins-told run c.requires _ (sym c.last_pc.ensures ∙ w.in-Some.is) in
          record {
            follows = c.edition.ensures.follows;
            last = ap (option_map seen) w.last-is ∙ w.keep.ensures.last ∙ sym first.0;
            shown = ap (λ s. s.items) w.shown-is ∙ w.keep.ensures.shown ∙ sym first.1;
            size = ap (λ s. length s.items) w.shown-is ∙ w.keep.ensures.size;
          }
      | in-None w ↦
          let first = begins-dark run c.requires (sym c.last_pc.ensures ∙ w.in-None.is) in
          record {
            follows = c.edition.ensures.follows;
            last = ap (option_map seen) w.last-is ∙ sym first.0;
            shown = ap (λ s. s.items) w.shown-is ∙ rw (c.dark-shown.ensures.items, edition) (sym first.1);
            size = ap (λ s. length s.items) w.shown-is ∙ c.dark-shown.ensures.size ∙ ap screen_size edition;
          }
    ]
