use Rattle.std.proofs.Common.{refl}
use Rattle.vip_relation.specs.State.Start.{Reset, Saved}
use Rattle.vip_tools.specs.Judged.{Answers}
use Rattle.vip_tools.specs.Opening.{ScriptComes, keys_in}
use Rattle.vip_tools.proofs.JudgedLemmas.{answers-behind, refused-first}
use Rattle.vip_tools.proofs.WorkLemmas.{passed}
use Rattle.vip_verbs.specs.Opening.{BeginComes, BeginsAt, Started}
use Rattle.vip_verbs.proofs.WorkLemmas.{begins-all}
use Rattle.vip_verbs.proofs.opening.begin.Goals as goal

pub returns-in_err-script : goal.returns-in_err-script
returns-in_err-script c =
    let keys = keys_in c.args.keys in
    passed (λ r. BeginsAt c.args.beginning (λ e s. Answers (BeginComes e s keys) r)) _ _ c.from_residual.ensures.1
    (begins-all _ c.args.beginning c.requires.beginning (λ e s. refused-first (ScriptComes keys) (Started e s) _ c.in_err-script.ensures))

pub returns-in-Reset : goal.returns-in-Reset
returns-in-Reset c =
    let e = c.in-Reset.edition in
    let s = Reset c.in-Reset.game.items in
    rw c.in-Reset.is (record {
      value = record { edition = e; start = s };
      gives = refl;
      here =
          answers-behind (ScriptComes (keys_in c.args.keys)) (Started e s) _ c.in_ok-script.ensures _ (rw c.as_slice.ensures.value at c.start_game.ensures);
    })

pub returns : goal.returns
returns c =
    let went = rw c.as_slice-in-Saved.ensures.value at c.go_on.ensures in
    let s = Saved c.in-Saved.file.items in
    rw c.in-Saved.is (record {
      value = record { edition = went.edition; start = s };
      gives = record { accepted = went.accepted; saved = refl };
      here = answers-behind (ScriptComes (keys_in c.args.keys)) (Started went.edition s) _ c.in_ok-script.ensures _ went.here;
    })
