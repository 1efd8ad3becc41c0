use Rattle.std.proofs.Common.{map}
use Rattle.vip_byte.proofs.ReadingLemmas.{IsReadUpTo}
use Rattle.asm_lex.specs.Names.{number_named, value_in}
use Rattle.vip_words.specs.DebugGrammar.{command_format}
use Rattle.vip_words.proofs.debug_commands.read_commands.Given as goal

abbrev pub invariant-loop-line : goal.invariant-loop-line
invariant-loop-line l = IsReadUpTo (command_format l.speaks (number_named (value_in l.names)) l.echo l.limit) l.text (map (λ line. line.now) l.yielded) l.line-iterator l.list.items l.number
