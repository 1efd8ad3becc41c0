use Rattle.std.proofs.Common.{inl, inr}
use Rattle.game_check.specs.Proof.{proof_of}
use Rattle.game_check.proofs.Faultless.{counts, faults, proof-unread, shows}
use Rattle.game_check.proofs.Games.{certified_games, every_step}
use Rattle.game_check.proofs.checker.check_game.Goals as goal

pub returns-in-Ok-clause-count : goal.returns-in-Ok-clause-count
returns-in-Ok-clause-count c = counts (proof_of c.args.edition c.args.game.now c.args.text.now) _ c.check_claims.ensures

pub returns-in-Ok-clause-fault : goal.returns-in-Ok-clause-fault
returns-in-Ok-clause-fault c = faults (proof_of c.args.edition c.args.game.now c.args.text.now) _ c.check_claims.ensures

pub returns-in-Ok-clause-steps : goal.returns-in-Ok-clause-steps
returns-in-Ok-clause-steps c =
    shows c.args.edition c.args.game.now c.args.text.now _ c.check_claims.ensures _
    (λ accepted. every_step c.args.edition c.args.game.now c.args.text.now accepted)

pub returns-in-Ok-clause-never_stops : goal.returns-in-Ok-clause-never_stops
returns-in-Ok-clause-never_stops c =
    shows c.args.edition c.args.game.now c.args.text.now _ c.check_claims.ensures _
    (λ accepted. certified_games c.args.edition c.args.game.now c.args.text.now (λ k. (c.type_inv.game k).fits) accepted)

pub returns-in-Err-clause-fault : goal.returns-in-Err-clause-fault
returns-in-Err-clause-fault c = elim c.in-Err.ensures.fault [
  | inl none ↦ inl none
  | inr unread ↦ inr (proof-unread c.args.edition c.args.game.now c.args.text.now c.in-Err.fault unread)
]
