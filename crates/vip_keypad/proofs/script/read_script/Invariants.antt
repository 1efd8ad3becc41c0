use Rattle.std.proofs.Common.{map}
use Rattle.vip_byte.proofs.ReadingLemmas.{IsReadUpTo}
use Rattle.vip_keypad.specs.KeyScript.{script_format}
use Rattle.vip_keypad.proofs.script.read_script.Given as goal

abbrev pub invariant-loop-line : goal.invariant-loop-line
invariant-loop-line l = IsReadUpTo script_format l.text (map (λ line. line.now) l.yielded) l.line-iterator l.script l.number
