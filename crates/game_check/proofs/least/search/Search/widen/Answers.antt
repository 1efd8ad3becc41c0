use Rattle.std.proofs.Common.{◌≡◌, ◌<◌, length, refl, sym, ap, ◌∙◌, arith}
use Rattle.std.specs.declared.cmp.Ordering.TheVariants.{Equal}
use Rattle.std.proofs.lemmas.List.{get_or_default}
use Rattle.game_check.specs.Grammar.{order}
use Rattle.game_check.proofs.Covering.{found_marked, widened_found}
use Rattle.game_check.proofs.Ordered.{is_eq-true}
use Rattle.game_check.proofs.least.search.Search.widen.Goals as goal

pub returns-then-is_eq : goal.returns-then-is_eq
returns-then-is_eq c =
    let claims = c.args.self.now.claims.items in
    let place = c.args.place in
    let old = c.index_mut.result.now in
    let within : place < length claims = omega (arith, c.if-place-len.true, c.len.ensures) in
    let one : c.index.result.now ≡ old = c.index.ensures ∙ get_or_default claims place _ _ within ∙ sym c.index_mut.ensures.value in
    let same : order old.point c.args.claim.now.point ≡ Equal =
    ap (λ x. order x.point c.args.claim.now.point) (sym one) ∙ is_eq-true _ (rw c.order.ensures at (sym c.is_eq.ensures ∙ c.if-is_eq.true)) in
    found_marked c.args.self.now _ c.mark.new.self c.mark.ensures
    (record {
      edition = refl;
      game = refl;
      found =
          widened_found c.args.self.now.edition c.args.self.now.game.now claims place within c.args.claim.now old c.widen-grew.new.self
          c.index_mut.ensures.value same c.widen-grew.ensures.point c.widen-grew.ensures.low c.widen-grew.ensures.high c.requires.found c.requires.met c.requires.proper;
    })
