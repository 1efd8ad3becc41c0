use Rattle.std.proofs.Common.{◌≡◌, drop, map, string_bytes}
use Rattle.vip_words.specs.Rules.{is_once}
use Rattle.vip_words.proofs.broken.is_once.Given as goal

-- it holds of all words where it holds of those that are left
abbrev pub invariant-loop-i : goal.invariant-loop-i
invariant-loop-i l = is_once (map string_bytes (drop l.i l.words)) l.option ≡ is_once (map string_bytes l.words) l.option
