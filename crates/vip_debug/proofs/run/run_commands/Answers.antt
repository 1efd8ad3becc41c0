use Rattle.std.proofs.Common.{◌≡◌, ◌≤◌, ◌∙◌, ℕ, sym, ap, subst, min, max, arith}
use Rattle.vip_byte.specs.Number.{most_cycles}
use Rattle.vip_board.specs.Seen.{Seen}
use Rattle.vip_debug.specs.declared.run.DebugEnd.TheVariants.{Done, Stopped, WriteFault}
use Rattle.vip_debug.specs.Answers.{begun, place_of, DebugAnswers}
use Rattle.vip_debug.proofs.TargetFolding.{split-at, taken-to, all-taken}
use Rattle.vip_debug.proofs.Folding.{Debugs, debugs-echo-fail, debugs-next, debugs-fail, debugged-done, debugged-stop}
use Rattle.vip_debug.proofs.run.run_commands.Goals as goal

-- a run that is in time is within the most cycles, as its limit is
ends-at : (last end cycles limit now cycle : ℕ) → last ≡ min end most_cycles → end ≡ max cycles now → cycles ≡ limit → cycles ≤ most_cycles
    → now ≡ cycle → cycle ≤ most_cycles → last ≡ max limit cycle
ends-at last end cycles limit now cycle is later same few here early = omega (arith, is, later, same, few, here, early)

pub returns-in-Err-clause-answer : goal.returns-in-Err-clause-answer
returns-in-Err-clause-answer g c =
    let limit = ends-at _ _ _ _ _ _ c.up_to-limit.ensures c.max.ensures c.cycles.ensures.value c.cycles.ensures.bound
    (c.now.ensures ∙ ap (λ (b : Seen). b.machine.cycle) c.board.ensures.board) c.board.ensures.follows.in_time in
    let items = c.as_slice-entry-items.result.now in
    let answer = debugs-echo-fail c.args.looks.now c.up_to-limit.result c.args.vip.now c.loop-entry.vip _ _ _ _ c.loop-entry.invariant items _ _
    (split-at items c.loop-entry.entry-index c.entry-item.result c.loop-entry-test.true c.entry-item.is) c.in-Err.ensures in
    subst (λ l. DebugAnswers c.args.looks.now (begun c.args.vip.now) l c.args.commands.now (place_of c.args.vip.now) c.loop-entry.vip
    (g.O.Sink.meaning c.args.out.now) (g.O.Sink.meaning c.put_echo.new.out) WriteFault) limit
    (subst (λ all. DebugAnswers c.args.looks.now (begun c.args.vip.now) c.up_to-limit.result all (place_of c.args.vip.now) c.loop-entry.vip
    (g.O.Sink.meaning c.args.out.now) (g.O.Sink.meaning c.put_echo.new.out) WriteFault) c.as_slice-entry-items.ensures answer)

pub returns-in-Err-run_command-clause-answer : goal.returns-in-Err-run_command-clause-answer
returns-in-Err-run_command-clause-answer g c =
    let limit = ends-at _ _ _ _ _ _ c.up_to-limit.ensures c.max.ensures c.cycles.ensures.value c.cycles.ensures.bound
    (c.now.ensures ∙ ap (λ (b : Seen). b.machine.cycle) c.board.ensures.board) c.board.ensures.follows.in_time in
    let items = c.as_slice-entry-items.result.now in
    let makes = rw c.command.ensures at c.in-Err-run_command.ensures.makes in
    let pieces = rw c.command.ensures at c.in-Err-run_command.ensures.pieces in
    let answer = debugs-fail c.args.looks.now c.up_to-limit.result c.args.vip.now c.loop-entry.vip _ _ _ _ c.loop-entry.invariant c.run_command.new.vip _ _
    c.in_default.ensures c.in-Err-run_command.ensures.follows makes items _ (split-at items c.loop-entry.entry-index c.entry-item.result c.loop-entry-test.true c.entry-item.is) pieces in
    subst (λ l. DebugAnswers c.args.looks.now (begun c.args.vip.now) l c.args.commands.now (place_of c.args.vip.now) c.run_command.new.vip
    (g.O.Sink.meaning c.args.out.now) (g.O.Sink.meaning c.run_command.new.out) WriteFault) limit
    (subst (λ all. DebugAnswers c.args.looks.now (begun c.args.vip.now) c.up_to-limit.result all (place_of c.args.vip.now) c.run_command.new.vip
    (g.O.Sink.meaning c.args.out.now) (g.O.Sink.meaning c.run_command.new.out) WriteFault) c.as_slice-entry-items.ensures answer)

pub loop-entry-preserved : goal.loop-entry-preserved
loop-entry-preserved g c =
    let items = c.as_slice-entry-items.result.now in
    let makes = rw c.command.ensures at c.in_default-run_command.ensures.makes in
    let pieces = rw c.command.ensures at c.in_default-run_command.ensures.pieces in
    let next = debugs-next c.args.looks.now c.up_to-limit.result c.args.vip.now c.loop-entry.vip _ _ _ _ c.loop-entry.invariant c.run_command.new.vip _ _
    c.in_default.ensures c.in_default-run_command.ensures.follows makes pieces in
    subst (λ done. Debugs c.args.looks.now c.up_to-limit.result c.args.vip.now c.run_command.new.vip done (g.O.Sink.meaning c.args.out.now)
    (g.O.Sink.meaning c.run_command.new.out))
    (sym (taken-to items c.loop-entry.entry-index c.entry-item.result c.loop-entry-test.true c.entry-item.is)) next

pub returns-in-Some-clause-answer : goal.returns-in-Some-clause-answer
returns-in-Some-clause-answer g c =
    let limit = ends-at _ _ _ _ _ _ c.up_to-limit.ensures c.max.ensures c.cycles.ensures.value c.cycles.ensures.bound
    (c.now.ensures ∙ ap (λ (b : Seen). b.machine.cycle) c.board.ensures.board) c.board.ensures.follows.in_time in
    let all = all-taken c.as_slice-entry-items.result.now c.loop-entry.entry-index c.loop-entry-test.false ∙ c.as_slice-entry-items.ensures in
    let run = subst (λ done. Debugs c.args.looks.now c.up_to-limit.result c.args.vip.now c.loop-entry.vip done (g.O.Sink.meaning c.args.out.now)
    (g.O.Sink.meaning c.loop-entry.out)) all c.loop-entry.invariant in
    subst (λ l. DebugAnswers c.args.looks.now (begun c.args.vip.now) l c.args.commands.now (place_of c.args.vip.now) c.loop-entry.vip
    (g.O.Sink.meaning c.args.out.now) (g.O.Sink.meaning c.loop-entry.out) (Stopped c.in-Some.stop)) limit
    (debugged-stop _ _ _ _ _ _ _ run c.in-Some.stop (sym c.in-Some.is ∙ c.stop.ensures))

pub returns-in-None-clause-answer : goal.returns-in-None-clause-answer
returns-in-None-clause-answer g c =
    let limit = ends-at _ _ _ _ _ _ c.up_to-limit.ensures c.max.ensures c.cycles.ensures.value c.cycles.ensures.bound
    (c.now.ensures ∙ ap (λ (b : Seen). b.machine.cycle) c.board.ensures.board) c.board.ensures.follows.in_time in
    let all = all-taken c.as_slice-entry-items.result.now c.loop-entry.entry-index c.loop-entry-test.false ∙ c.as_slice-entry-items.ensures in
    let run = subst (λ done. Debugs c.args.looks.now c.up_to-limit.result c.args.vip.now c.loop-entry.vip done (g.O.Sink.meaning c.args.out.now)
    (g.O.Sink.meaning c.loop-entry.out)) all c.loop-entry.invariant in
    subst (λ l. DebugAnswers c.args.looks.now (begun c.args.vip.now) l c.args.commands.now (place_of c.args.vip.now) c.loop-entry.vip
    (g.O.Sink.meaning c.args.out.now) (g.O.Sink.meaning c.loop-entry.out) Done) limit
    (debugged-done _ _ _ _ _ _ _ run (sym c.in-None.is ∙ c.stop.ensures))
