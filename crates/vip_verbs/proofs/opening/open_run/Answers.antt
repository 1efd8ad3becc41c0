use Rattle.std.proofs.Common.{Err, List, Ok, subst, ℕ}
use Rattle.chip8_lang.specs.declared.view.Edition.{Edition}
use Rattle.vip_relation.specs.State.{Start}
use Rattle.vip_tools.specs.Judged.{Judged}
use Rattle.vip_tools.specs.Outcome.{Output}
use Rattle.vip_tools.proofs.JudgedLemmas.{refused-first}
use Rattle.vip_tools.proofs.WorkLemmas.{passed}
use Rattle.vip_words.specs.Request.{map_run}
use Rattle.vip_words.specs.declared.request.RunRequest.{RunRequest}
use Rattle.vip_verbs.specs.Opening.{ShowReady}
use Rattle.vip_verbs.specs.Outcome.{RunComes, ShowComes, StartComes, known_in}
use Rattle.vip_verbs.specs.Prepared.{PrepareAnswers}
use Rattle.vip_verbs.proofs.FitLemmas.{keys-fit, show-fits, start-fits}
use Rattle.vip_verbs.proofs.WorkLemmas.{beginning-of, begins-all, begun-comes, refused-begin, refused-begun, refused-show, run-comes}
use Rattle.vip_verbs.proofs.opening.open_run.Goals as goal

-- what is shown of a run
abbrev Shows : RunRequest (List ℕ) → Edition → Start → Judged Output
Shows asked e s = ShowComes (known_in asked.start) e s asked.keys asked.limit asked.show

pub read_start-requires : goal.read_start-requires
read_start-requires c = start-fits (map_run (λ bytes. bytes.items) c.args.request) c.requires

pub make_ready-requires : goal.make_ready-requires
make_ready-requires c = show-fits (map_run (λ bytes. bytes.items) c.args.request) c.requires

pub begin-requires-clause-beginning : goal.begin-requires-clause-beginning
begin-requires-clause-beginning c = c.in_ok-opened.ensures.1

pub begin-requires-clause-keys : goal.begin-requires-clause-keys
begin-requires-clause-keys c = keys-fit (map_run (λ bytes. bytes.items) c.args.request) c.requires

pub returns-in_err-opened : goal.returns-in_err-opened
returns-in_err-opened c =
    let asked = map_run (λ bytes. bytes.items) c.args.request in
    passed (PrepareAnswers (RunComes asked)) _ _ c.from_residual.ensures.1
    (refused-first (StartComes asked.start) (λ s. Shows asked s.edition s.start) _ c.in_err-opened.ensures)

pub returns-in_err-show : goal.returns-in_err-show
returns-in_err-show c =
    let asked = map_run (λ bytes. bytes.items) c.args.request in
    let at = c.in_ok-opened.opened.beginning in
    passed (PrepareAnswers (RunComes asked)) _ _ c.from_residual-in_err-show.ensures.1
    (refused-begun (Shows asked) asked.start at c.in_ok-opened.ensures.0 _
    (begins-all _ at c.in_ok-opened.ensures.1 (λ e s. refused-show e s asked.keys (known_in asked.start) asked.limit asked.show _
    (subst (λ known. ShowReady known asked.limit asked.show (Err c.in_err-show.field-0.0)) c.in_ok-opened.ensures.2 c.in_err-show.ensures))))

pub returns-in_err-run : goal.returns-in_err-run
returns-in_err-run c =
    let asked = map_run (λ bytes. bytes.items) c.args.request in
    let at = c.in_ok-opened.opened.beginning in
    let begins = c.in_err-run.ensures in
    passed (PrepareAnswers (RunComes asked)) _ _ c.from_residual-in_err-run.ensures.1
    (refused-begun (Shows asked) asked.start at c.in_ok-opened.ensures.0 _
    (record {
      value = begins.value;
      gives = begins.gives;
      here =
          refused-begin begins.value.edition begins.value.start asked.keys (known_in asked.start) asked.limit c.in_ok-show.show asked.show
          (subst (λ known. ShowReady known asked.limit asked.show (Ok c.in_ok-show.show)) c.in_ok-opened.ensures.2 c.in_ok-show.ensures) _ begins.here;
    }))

pub returns : goal.returns
returns c =
    let asked = map_run (λ bytes. bytes.items) c.args.request in
    let at = c.in_ok-opened.opened.beginning in
    let run = c.in_ok-run.run' in
    let begins = c.in_ok-run.ensures in (
      beginning-of begins.value.edition begins.value.start begins.here.value run begins.here.here.here,
      begun-comes (Shows asked) asked.start at c.in_ok-opened.ensures.0 _
          (record {
            value = begins.value;
            gives = begins.gives;
            here =
                run-comes begins.value.edition begins.value.start asked.keys (known_in asked.start) asked.limit c.in_ok-show.show asked.show
                (subst (λ known. ShowReady known asked.limit asked.show (Ok c.in_ok-show.show)) c.in_ok-opened.ensures.2 c.in_ok-show.ensures) run begins.here;
          }),
    )
