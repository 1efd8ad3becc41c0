use Rattle.std.proofs.Common.{◌≡◌, ◌<◌, length, refl, true, false}
use Rattle.game_check.proofs.Covering.{insert_met, weights-insert, widened_covers, widened_met, widened_more, widened_same}
use Rattle.game_check.proofs.least.Family.meet.Goals as goal

pub returns-in-Ok-clause-grown : goal.returns-in-Ok-clause-grown
returns-in-Ok-clause-grown c =
    let claims = c.args.self.now.claims.items in
    let place = c.in-Ok.place in
    let within : place < length claims = c.in-Ok.ensures.found.within in
    let same = rw (← c.index_mut.ensures.value) at (c.in-Ok.ensures.found.here c.index_mut.result.now) in
    record {
      edition = refl;
      game = refl;
      kept =
          widened_met c.args.self.now.edition c.args.self.now.game.now claims place within c.args.claim c.index_mut.result.now
          c.widen-grew.new.self c.index_mut.ensures.value same c.widen-grew.ensures.point c.widen-grew.ensures.low c.widen-grew.ensures.high c.requires.kept c.requires.met c.requires.proper;
      more =
          widened_more c.args.self.now.edition c.args.self.now.game.now claims place within c.args.claim c.index_mut.result.now
          c.widen-grew.new.self c.index_mut.ensures.value same c.widen-grew.ensures.point c.widen-grew.ensures.low c.widen-grew.ensures.high c.requires.kept c.widen-grew.result c.widen-grew.ensures.grew
          c.requires.proper;
      same =
          widened_same c.args.self.now.edition c.args.self.now.game.now claims place within c.args.claim c.index_mut.result.now
          c.widen-grew.new.self c.index_mut.ensures.value same c.widen-grew.ensures.point c.widen-grew.ensures.low c.widen-grew.ensures.high c.widen-grew.result c.widen-grew.ensures.grew;
    }

pub returns-in-Ok-clause-covered : goal.returns-in-Ok-clause-covered
returns-in-Ok-clause-covered c =
    let claims = c.args.self.now.claims.items in
    let place = c.in-Ok.place in
    let within : place < length claims = c.in-Ok.ensures.found.within in
    let same = rw (← c.index_mut.ensures.value) at (c.in-Ok.ensures.found.here c.index_mut.result.now) in
    widened_covers c.args.self.now.edition c.args.self.now.game.now claims place within c.args.claim c.index_mut.result.now
    c.widen-grew.new.self c.index_mut.ensures.value same c.widen-grew.ensures.point c.widen-grew.ensures.low c.widen-grew.ensures.high c.widen-grew.result c.widen-grew.ensures.grew

pub returns-in_ok-insert-in-Err-clause-grown : goal.returns-in_ok-insert-in-Err-clause-grown
returns-in_ok-insert-in-Err-clause-grown c =
    let claims = c.args.self.now.claims.items in
    let none = c.in-Err.ensures.none in
    record {
      edition = refl;
      game = refl;
      kept =
          rw c.in_ok-insert-in-Err.ensures.items
          (insert_met c.args.self.now.edition c.args.self.now.game.now claims c.requires.kept c.in-Err.place c.args.claim none.within none.before none.behind
          c.requires.met c.requires.proper);
      more = λ up. rw c.in_ok-insert-in-Err.ensures.items (weights-insert claims c.in-Err.place c.args.claim);
      same = λ stays. absurd (true_false stays);
    }
  where
    true_false : true ≡ false → ⊥
    true_false h = cc
