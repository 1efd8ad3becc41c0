use Rattle.std.proofs.Common.{◌≡◌, ◌||◌, get_or, sym, ap, inl, inr, arith, ◌∙◌}
use Rattle.std.proofs.lemmas.Bool.{cases_lt}
use Rattle.std.proofs.lemmas.Option.{slice_get-get_or}
use Rattle.game_check.proofs.Covering.{followed_there, grown_on, neither}
use Rattle.game_check.proofs.least.Family.round.Goals as goal
use Rattle.game_check.proofs.least.Family.round.Goals.{then-branch, else-branch}

pub loop-place-preserved : goal.loop-place-preserved
loop-place-preserved c =
    let r_is : c.if-branch.grew ≡ (c.in_ok-follow.field-0 || c.loop-place.grew) =
    elim c.if-branch.branch [
      | then-branch w ↦ w.grew-is ∙ sym (ap (λ b. b || c.loop-place.grew) w.if-branch.true)
      | else-branch w ↦ w.grew-is ∙ sym (ap (λ b. b || c.loop-place.grew) w.if-branch.false)
    ] in
    let known = c.loop-place.invariant in
    record {
      grown = grown_on c.args.self.now c.loop-place.self c.follow.new.self c.loop-place.grew c.in_ok-follow.field-0 c.if-branch.grew known.grown c.in_ok-follow.ensures.grown r_is;
      start = λ stays. known.start (neither _ _ _ r_is stays).0;
      end = λ stays. known.end (neither _ _ _ r_is stays).0;
      followed = λ stays k below d there. elim (cases_lt k c.loop-place.place) [
        | inl lt ↦ known.followed (neither _ _ _ r_is stays).0 k lt d there
        | inr ge ↦
            let here : k ≡ c.loop-place.place = omega (arith, ge, below) in
            followed_there c.args.self.now c.loop-place.self c.loop-place.grew known.grown (neither _ _ _ r_is stays).0 c.loop-place.place
            (c.in_ok-follow.ensures.followed (neither _ _ _ r_is stays).1) d (rw here at there)
      ];
    }

pub returns-clause-closed : goal.returns-clause-closed
returns-clause-closed c = λ stays. record {
  in_order = c.requires.in_order;
  start = c.loop-place.invariant.start stays;
  steps = λ k d within going.
      c.loop-place.invariant.followed stays k (omega (arith, within, c.loop-place.invariant.end stays, c.loop-place-test.false)) (get_or c.args.self.now.claims.items k d)
      (sym (slice_get-get_or c.args.self.now.claims.items k d within)) going;
}
