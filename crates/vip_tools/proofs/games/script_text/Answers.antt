use Rattle.std.proofs.Common.{arith}
use Rattle.vip_tools.specs.Games.{script_text}
use Rattle.vip_tools.proofs.GamesLemmas.{script-more, script-whole}
use Rattle.vip_tools.proofs.games.script_text.Goals as goal

pub loop-word-preserved : goal.loop-word-preserved
loop-word-preserved c = record {
  whole =
      rw (c.in_ok-push.ensures.items, c.in_ok-extend_from_slice.ensures.items)
      (script-more c.loop-word.text.items c.in-Some.word.now (script_text 0 c.args.words) c.gap.result c.loop-word.before c.next.new.self c.gap.ensures
      (rw c.in-Some.ensures.steps at c.loop-word.invariant.whole));
  before = omega arith;
}

pub returns : goal.returns
returns c = script-whole c.loop-word.text.items (script_text 0 c.args.words) c.loop-word.before (rw c.in-None.ensures.steps.0 at c.loop-word.invariant.whole)
