use Rattle.std.proofs.Common.{◌≡◌, ◌++◌, ◌<◌}
use Rattle.vip_tools.specs.Games.{script_text}
use Rattle.vip_tools.proofs.games.script_text.Given as goal

-- the text so far, and that of the words that are left
abbrev pub invariant-loop-word : goal.invariant-loop-word
invariant-loop-word l = record {
  whole : l.text.items ++ script_text l.before l.word-iterator ≡ script_text 0 l.fn.words;
  before : l.before < 3;
}
