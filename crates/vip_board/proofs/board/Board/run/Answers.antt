use Rattle.std.proofs.Common.{◌≡◌, ◌⊎◌, inl, inr, ◌+◌, ◌<◌, ◌≤◌, ◌∙◌, Bool, true, false, ap, sym, subst, arith}
use Rattle.std.specs.Prelude.{IsTrue}
use Rattle.machine.specs.Board.{length_of}
use Rattle.vip_board.specs.Seen.{Seen}
use Rattle.vip_board.specs.Moves.{sleeps}
use Rattle.vip_board.proofs.Through.{phase-by, later-by, stays, few-made, aside-made, made-more, passes-awake, positive}
use Rattle.vip_board.proofs.board.Board.run.Goals as goal

not_both : (b : Bool) → IsTrue b → b ≡ false → ⊥
not_both true h e = cc
not_both false h e = cc

pub some-some-requires : goal.some-some-requires
some-some-requires g c = ap (λ (x : Seen). x.phase) c.loop-stops.invariant.made.moves ∙ phase-by c.loop-stops.made c.args.self.now ∙ c.requires

pub returns-then-sleeps-clause-made : goal.returns-then-sleeps-clause-made
returns-then-sleeps-clause-made g c = aside-made c.args.limit _ _ c.sleep.new.self c.sleep.result c.sleep.ensures.moved c.sleep.ensures.aside c.sleep.ensures.within

pub returns-then-sleeps-clause-few : goal.returns-then-sleeps-clause-few
returns-then-sleeps-clause-few g c =
    few-made _ (g.S.Stops.stands c.args.stops) _ _ _
    (aside-made c.args.limit _ _ c.sleep.new.self c.sleep.result c.sleep.ensures.moved c.sleep.ensures.aside c.sleep.ensures.within)

pub overflow_add-made : goal.overflow_add-made
overflow_add-made g c =
    let made =
    made-more c.args.limit (g.S.Stops.stands c.args.stops) c.args.self.now c.loop-stops.self c.some-some.new.self c.loop-stops.made c.some-some.result
    c.loop-stops.invariant.made (λ some more. passes-awake _ _ _ (c.loop-stops.invariant.here some) (c.some-some.ensures.awake more) (sym c.sleeps.ensures ∙ c.if-sleeps.false))
    c.some-some.ensures.made.moves c.some-some.ensures.made.passes c.some-some.ensures.made.within in
    omega (arith, few-made _ _ _ _ _ made, c.ranges.limit.fits)

pub returns-then-some-eq0-clause-made : goal.returns-then-some-eq0-clause-made
returns-then-some-eq0-clause-made g c =
    (made-more c.args.limit (g.S.Stops.stands c.args.stops) c.args.self.now c.loop-stops.self c.some-some.new.self c.loop-stops.made c.some-some.result
    c.loop-stops.invariant.made (λ some more. passes-awake _ _ _ (c.loop-stops.invariant.here some) (c.some-some.ensures.awake more) (sym c.sleeps.ensures ∙ c.if-sleeps.false))
    c.some-some.ensures.made.moves c.some-some.ensures.made.passes c.some-some.ensures.made.within)

pub returns-then-some-eq0-clause-none : goal.returns-then-some-eq0-clause-none
returns-then-some-eq0-clause-none g c none =
    subst (λ (x : Seen). c.args.limit < x.machine.cycle + length_of x.rom x.machine) same (by_case (c.some-some.ensures.none (omega (arith, none))))
  where
    same : c.loop-stops.self ≡ c.args.self.now
    same = stays c.loop-stops.made c.args.self.now c.loop-stops.self c.loop-stops.invariant.made.moves (omega (arith, none))

    by_case : (c.args.limit < c.loop-stops.self.machine.cycle + length_of c.loop-stops.self.rom c.loop-stops.self.machine)
        ⊎ (sleeps c.loop-stops.self.machine ≡ true) → c.args.limit < c.loop-stops.self.machine.cycle + length_of c.loop-stops.self.rom c.loop-stops.self.machine
    by_case (inl over) = over
    by_case (inr asleep) =
        let e : true ≡ false = sym asleep ∙ ap (λ (x : Seen). sleeps x.machine) same ∙ sym c.sleeps.ensures ∙ c.if-sleeps.false in cc

pub returns-then-some-eq0-clause-few : goal.returns-then-some-eq0-clause-few
returns-then-some-eq0-clause-few g c =
    few-made _ _ _ _ _
    (made-more c.args.limit (g.S.Stops.stands c.args.stops) c.args.self.now c.loop-stops.self c.some-some.new.self c.loop-stops.made c.some-some.result
    c.loop-stops.invariant.made (λ some more. passes-awake _ _ _ (c.loop-stops.invariant.here some) (c.some-some.ensures.awake more) (sym c.sleeps.ensures ∙ c.if-sleeps.false))
    c.some-some.ensures.made.moves c.some-some.ensures.made.passes c.some-some.ensures.made.within)

pub loop-stops-smaller : goal.loop-stops-smaller
loop-stops-smaller g c =
    let some = positive c.some-some.result c.if-some-eq0.false in
    let on : c.loop-stops.self.machine.cycle + c.some-some.result ≤ c.some-some.new.self.machine.cycle =
    subst (λ (x : Seen). c.loop-stops.self.machine.cycle + c.some-some.result ≤ x.machine.cycle) (sym c.some-some.ensures.made.moves)
    (later-by c.some-some.result c.loop-stops.self) in
    omega (arith, some, on, c.some-some.ensures.made.within some)

pub loop-stops-preserved : goal.loop-stops-preserved
loop-stops-preserved g c =
    record {
      made =
          made-more c.args.limit (g.S.Stops.stands c.args.stops) c.args.self.now c.loop-stops.self c.some-some.new.self c.loop-stops.made c.some-some.result
          c.loop-stops.invariant.made (λ some more. passes-awake _ _ _ (c.loop-stops.invariant.here some) (c.some-some.ensures.awake more) (sym c.sleeps.ensures ∙ c.if-sleeps.false))
          c.some-some.ensures.made.moves c.some-some.ensures.made.passes
          c.some-some.ensures.made.within;
      here =
          λ some. record {
            count =
                sym (ap (λ (x : Seen). x.pictures.count) c.self-in-loop-stops.view_is)
                ∙ sym c.count.ensures
                ∙ c.if-count-pictures.false
                ∙ c.count-pictures.ensures
                ∙ ap (λ (x : Seen). x.pictures.count) c.self.view_is;
            apart = λ starts stands. not_both c.stands_at.result (c.stands_at.ensures.1 stands) c.if-stands_at.false;
          };
    }
