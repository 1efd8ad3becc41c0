-- How a run ends, by what is left of it, is the same before and behind an event that is met.
use Rattle.std.proofs.Common.{◌≡◌, ℕ, ◌∷◌, refl, sym, ap, ◌∙◌}
use Rattle.std.specs.Prelude.{Some}
use Rattle.chip8_lang.specs.declared.view.Edition.{Edition}
use Rattle.chip8_lang.specs.Events.Event.{Picture, Dispatch}
use Rattle.chip8_lang.specs.View.{view_at}
use Rattle.vip_relation.specs.State.{VipState, events_left}
use Rattle.vip_relation.specs.Stops.{pc_of, opcode_of}
use Rattle.vip_relation.proofs.Nexts.{Dispatched, Pictured}
use Rattle.vip_show.specs.Endings.{ending_after}

module _ (e : Edition) (limit : ℕ) (v v' : VipState) where
  pub last-told : v.edition ≡ e → (d : Dispatched limit v v' (events_left v limit)) → v'.last ≡ Some (view_at e d.b)
  last-told same d = d.meets.last ∙ ap (λ x. Some (view_at x d.b)) same

  pub ends-dispatch : v.edition ≡ e → Dispatched limit v v' (events_left v limit)
      → ending_after e (pc_of v.last) (opcode_of v.last) (events_left v limit)
      ≡ ending_after e (pc_of v'.last) (opcode_of v'.last) (events_left v' limit)
  ends-dispatch same d =
      ap (ending_after e (pc_of v.last) (opcode_of v.last)) d.split ∙ here
      ∙ ap (ending_after e (pc_of v'.last) (opcode_of v'.last)) (sym d.meets.one.left)
    where
      here : ending_after e (pc_of v.last) (opcode_of v.last) (Dispatch d.b ∷ d.rest)
          ≡ ending_after e (pc_of v'.last) (opcode_of v'.last) d.rest
      here = unfold ending_after in rw (last-told same d) refl

  pub ends-picture : Pictured limit v v' (events_left v limit)
      → ending_after e (pc_of v.last) (opcode_of v.last) (events_left v limit)
      ≡ ending_after e (pc_of v'.last) (opcode_of v'.last) (events_left v' limit)
  ends-picture d =
      ap (ending_after e (pc_of v.last) (opcode_of v.last)) d.split ∙ here
      ∙ ap (ending_after e (pc_of v'.last) (opcode_of v'.last)) (sym d.meets.one.left)
    where
      here : ending_after e (pc_of v.last) (opcode_of v.last) (Picture d.m ∷ d.rest)
          ≡ ending_after e (pc_of v'.last) (opcode_of v'.last) d.rest
      here = unfold ending_after in rw d.meets.told.last refl
