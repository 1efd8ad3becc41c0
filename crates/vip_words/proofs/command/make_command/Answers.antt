use Rattle.std.proofs.Common.{◌∙◌, ap₂, arith, refl}
use Rattle.clap.specs.Words.{with_rule}
use Rattle.vip_words.proofs.Arguments.{all_arguments, next_argument}
use Rattle.vip_words.proofs.command.make_command.Goals as goal

pub loop-argument-preserved : goal.loop-argument-preserved
loop-argument-preserved c =
    c.in_ok-command.ensures.shape c.make.ensures.own
    ∙ (ap₂ with_rule c.loop-argument.invariant c.make.ensures.rule
    ∙ next_argument c.args.verb.now _ _ c.loop-argument.argument-index _ refl c.loop-argument-test.true)

pub returns : goal.returns
returns c =
    c.loop-argument.invariant
    ∙ all_arguments c.args.verb.now _ c.args.places c.loop-argument.argument-index c.requires (omega arith) c.loop-argument-test.false
    c.loop-argument.auto.argument-index-end
