use Rattle.std.proofs.Common.{◌∙◌, sym, refl, ap, arith, [], ◌∷◌, ◌++◌, length}
use Rattle.vip_link.specs.Schedules.{next_random}
use Rattle.vip_tools.proofs.DemoLemmas.{bytes_to, random-more, bytes-more, whole-game, length-game}
use Rattle.vip_tools.proofs.demo.demo_game.Goals as goal

pub loop-init : goal.loop-init
unfolding bytes_to
loop-init c = record { x = refl; game = c.in_ok-extend_from_slice.ensures.items ∙ ap (λ start. start ++ 240 ∷ 41 ∷ []) c.new-game.ensures.items }

pub loop-preserved : goal.loop-preserved
loop-preserved c =
    let x-is = c.next_random-x.ensures ∙ ap next_random c.loop.invariant.x ∙ sym (random-more c.args.number c.loop.counter) in
    record {
      x = x-is;
      game =
          bytes-more c.args.number _ _ _ _ _ (omega (arith, c.opcode_by.type_inv)) c.loop.invariant.game x-is c.opcode_by.ensures
          (rw c.to_be_bytes.ensures at c.in_ok-extend_from_slice-2.ensures.items);
    }

pub returns-clause-game : goal.returns-clause-game
returns-clause-game c = whole-game c.args.number c.loop.counter _ _ (omega arith) c.loop.invariant.game c.in_ok-extend_from_slice-3.ensures.items

pub returns-clause-size : goal.returns-clause-size
returns-clause-size c =
    ap length (whole-game c.args.number c.loop.counter _ _ (omega arith) c.loop.invariant.game c.in_ok-extend_from_slice-3.ensures.items)
    ∙ length-game c.args.number
