use Rattle.std.proofs.Common.{sym}
use Rattle.game_check.proofs.Faultless.{proof-closed, proof-open, proof-unstarted}
use Rattle.game_check.proofs.checker.check_claims.Goals as goal

pub returns-then-not-has_start : goal.returns-then-not-has_start
returns-then-not-has_start c =
    sym (proof-unstarted c.args.edition c.args.game.now c.args.text.now c.args.claims.now c.requires.read (sym c.if-not-has_start.ensures))

pub returns-in-Ok : goal.returns-in-Ok
returns-in-Ok c =
    sym (proof-closed c.args.edition c.args.game.now c.args.text.now c.args.claims.now c.requires.read (sym c.if-not-has_start.ensures) _
    c.in-Ok.ensures.closed)

pub returns-in-Err : goal.returns-in-Err
returns-in-Err c =
    sym (proof-open c.args.edition c.args.game.now c.args.text.now c.args.claims.now c.requires.read (sym c.if-not-has_start.ensures) c.in-Err.fault
    c.in-Err.ensures.fault)
