-- What `clap` reads in an argument of the command.
use Rattle.clap.specs.Walk.{Rule}
use Rattle.vip_words.specs.Command.{flag_rule, keys_rule, place_rule}
use Rattle.vip_words.specs.declared.command.Argument.{Argument}
use Rattle.vip_words.specs.declared.command.Argument.TheVariants.{Keys, Place, Switch}

abbrev pub argument_rule : Argument → Rule
argument_rule Keys = keys_rule
argument_rule (Switch flag) = flag_rule flag
argument_rule (Place name) = place_rule name.now
