use Rattle.std.proofs.Common.{◌≡◌, ◌+◌, ◌≤◌, ◌∙◌, Bool, true, false, sym, subst, arith}
use Rattle.std.specs.Prelude.{IsTrue}
use Rattle.vip_board.specs.Seen.{Seen, contents_of}
use Rattle.vip_board.proofs.Through.{worked-more, passes-more, positive}
use Rattle.vip_board.proofs.board.Board.work.Goals as goal

not_both : (b : Bool) → IsTrue b → b ≡ false → ⊥
not_both true h e = cc
not_both false h e = cc

pub overflow_add-made : goal.overflow_add-made
overflow_add-made g c =
    let some = positive c.instruct-length.result c.if-length-eq0.false in
    omega (arith, c.loop-stops.invariant.worked.each, c.loop-stops.invariant.worked.few, c.instruct-length.ensures.few, some, c.ranges.most.fits)

pub loop-stops-preserved : goal.loop-stops-preserved
loop-stops-preserved g c =
    let i = c.loop-stops.invariant in
    let some = positive c.instruct-length.result c.if-length-eq0.false in
    let works = c.instruct-length.ensures.worked some in
    let few : c.loop-stops.passed + c.instruct-length.result ≤ c.args.most = omega (arith, i.worked.few, c.instruct-length.ensures.few) in
    record {
      worked =
          worked-more c.args.most (g.S.Stops.stands c.args.stops) c.args.self.now c.loop-stops.self c.instruct-length.new.self c.loop-stops.made c.loop-stops.passed
          c.instruct-length.result i.worked i.here works c.requires.quiet few some;
      here =
          λ _. passes-more c.args.most (g.S.Stops.stands c.args.stops) c.args.self.now c.loop-stops.self c.instruct-length.new.self c.loop-stops.made c.loop-stops.passed
          c.instruct-length.result i.worked i.here works c.requires.quiet few some
          (λ stands. not_both c.has.result (c.has.ensures.1 (subst (λ (x : Seen). g.S.Stops.stands c.args.stops x.machine.regs (contents_of x)) (sym c.self.view_is) stands)) c.if-has.false);
      boundary = works.phase ∙ i.boundary;
      awake = works.awake ∙ i.awake;
      address = c.counter-address-in-loop-stops.ensures;
    }

pub returns-then-has : goal.returns-then-has
returns-then-has g c =
    let i = c.loop-stops.invariant in
    let some = positive c.instruct-length.result c.if-length-eq0.false in
    worked-more c.args.most (g.S.Stops.stands c.args.stops) c.args.self.now c.loop-stops.self c.instruct-length.new.self c.loop-stops.made c.loop-stops.passed
    c.instruct-length.result i.worked i.here (c.instruct-length.ensures.worked some) c.requires.quiet
    (omega (arith, i.worked.few, c.instruct-length.ensures.few)) some
