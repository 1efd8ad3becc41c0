use Rattle.std.proofs.Common.{ℕ, subst}
use Rattle.std.specs.Prelude.{◌≡◌, IfOk}
use Rattle.asm_lex.specs.declared.shape.Isa.TheVariants.{Cdp1802}
use Rattle.asm_core.specs.Origins.{origins_of}
use Rattle.asm_core.specs.Sources.{source_lines}
use Rattle.vip_tools.specs.Certificates.{EntryComes, RoutineFound, SourceRom, TimingComes, rom_in, timing_shown}
use Rattle.vip_tools.specs.Judged.{Judged, RefusedBy, bind}
use Rattle.vip_tools.specs.Judged.Verdict.{Given}
use Rattle.vip_tools.specs.Outcome.{Output, Writes}
use Rattle.vip_tools.specs.Remarks.{routine_shown}
use Rattle.vip_tools.specs.Work.{TextAnswers}
use Rattle.vip_tools.proofs.JudgedLemmas.{by-first, by-tail, refused-behind, refused-first}
use Rattle.vip_tools.proofs.WorkLemmas.{passed, shown-behind, text-behind}
use Rattle.vip_tools.proofs.certificates.timing.Goals as goal

pub returns-in_err-routine : goal.returns-in_err-routine
returns-in_err-routine c =
    let source = c.args.source.now in
    let found : ℕ → Judged Output = λ address. bind (RoutineFound (rom_in source) address c.args.p c.args.k) (λ text. Writes (timing_shown source text)) in
    passed (TextAnswers (TimingComes source c.args.entry c.args.p c.args.k)) _ _ c.from_residual.ensures.1
    (by-tail (SourceRom source) (λ made. EntryComes made.made c.args.entry) (λ made. bind (EntryComes made.made c.args.entry) found)
    (λ made cause by. by-first (EntryComes made.made c.args.entry) found cause by) _ c.in_err-routine.ensures)

pub returns-in_err-text : goal.returns-in_err-text
returns-in_err-text c =
    let source = c.args.source.now in
    let address = c.in_ok-routine.routine.address in
    let enters = c.in_ok-routine.ensures.0 in
    let found : ℕ → Judged Output = λ address. bind (RoutineFound (rom_in source) address c.args.p c.args.k) (λ text. Writes (timing_shown source text)) in
    passed (TextAnswers (TimingComes source c.args.entry c.args.p c.args.k)) _ _ c.from_residual-in_err-text.ensures.1
    (refused-behind (SourceRom source) (λ made. bind (EntryComes made.made c.args.entry) found) enters.value enters.gives _
    (refused-behind (EntryComes enters.value.made c.args.entry) found address enters.here _
    (refused-first (RoutineFound (rom_in source) address c.args.p c.args.k) (λ text. Writes (timing_shown source text)) _
    (subst (λ rom. RefusedBy (RoutineFound rom address c.args.p c.args.k) c.in_err-text.field-0.0) c.in_ok-routine.ensures.1 c.in_err-text.ensures))))

pub named_routine-requires : goal.named_routine-requires
named_routine-requires c = c.in_ok-text.ensures.1

pub returns : goal.returns
returns c =
    let source = c.args.source.now in
    let address = c.in_ok-routine.routine.address in
    let enters = c.in_ok-routine.ensures.0 in
    let text = c.in_ok-text.text.items in
    let r = c.named_routine.result in
    let found : ℕ → Judged Output = λ address. bind (RoutineFound (rom_in source) address c.args.p c.args.k) (λ text. Writes (timing_shown source text)) in
    let shown =
    subst (λ origins. IfOk r (λ shown. shown.items ≡ routine_shown (rom_in source) origins text)) c.in_ok-routine.ensures.2
    (subst (λ rom. IfOk r (λ shown. shown.items ≡ routine_shown rom c.in_ok-routine.routine.origins text)) c.in_ok-routine.ensures.1 c.named_routine.ensures.shown) in
    text-behind (SourceRom source) (λ made. bind (EntryComes made.made c.args.entry) found) enters.value enters.gives r
    (text-behind (EntryComes enters.value.made c.args.entry) found address enters.here r
    (shown-behind (RoutineFound (rom_in source) address c.args.p c.args.k) (timing_shown source) text
    (subst (λ rom. RoutineFound rom address c.args.p c.args.k (Given text)) c.in_ok-routine.ensures.1 c.in_ok-text.ensures) r shown c.named_routine.ensures.memory))
