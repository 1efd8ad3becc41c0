use Rattle.std.proofs.Common.{◌≡◌, ℕ, ◌<◌, true, false, length, Some}
use Rattle.std.specs.Prelude.{slice_get}
use Rattle.game_check.specs.declared.claim.Claim.{Claim}
use Rattle.game_check.specs.Least.{IsCovered, IsFollowed, goes, start_claim}
use Rattle.game_check.specs.Searching.{HasGrown}
use Rattle.game_check.proofs.least.Family.round.Given as goal

abbrev pub invariant-loop-place : goal.invariant-loop-place
invariant-loop-place l = record {
  grown : HasGrown l.fn.self l.self l.grew;
  start : l.grew ≡ false → IsCovered l.fn.self.claims.items start_claim;
  end : l.grew ≡ false → l.place-end ≡ length l.fn.self.claims.items;
  followed : l.grew ≡ false → (k : ℕ) → k < l.place → (c : Claim) → Some c ≡ slice_get l.fn.self.claims.items k
      → goes l.fn.self.edition l.fn.self.game.now c ≡ true → IsFollowed l.fn.self.game.now l.fn.self.claims.items c;
}
