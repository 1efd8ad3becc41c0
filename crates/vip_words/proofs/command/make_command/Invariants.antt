use Rattle.std.proofs.Common.{◌≡◌, take}
use Rattle.clap.specs.Words.{app_of}
use Rattle.vip_words.specs.Command.{app_with}
use Rattle.vip_words.proofs.Arguments.{every_rule}
use Rattle.vip_words.proofs.command.make_command.Given as goal

-- the command has the arguments that were gone through
abbrev pub invariant-loop-argument : goal.invariant-loop-argument
invariant-loop-argument l = app_of l.command ≡ app_with l.verb (take l.argument-index every_rule)
