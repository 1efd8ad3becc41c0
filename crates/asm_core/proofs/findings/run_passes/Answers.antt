use Rattle.std.proofs.Common.{◌∙◌, sym}
use Rattle.asm_core.specs.Passes.{planned}
use Rattle.asm_core.specs.Sources.{source_lines}
use Rattle.asm_core.proofs.Agrees.{has-faulty, has-clean, told-faulty, told-clean, nothing-faulty, found_is}
use Rattle.asm_core.proofs.findings.run_passes.Goals as goal

pub returns-then-faulty-clause-told : goal.returns-then-faulty-clause-told
returns-then-faulty-clause-told c =
    told-faulty c.args.isa (source_lines c.args.text.now) (sym c.in_ok-first.ensures.faulty ∙ c.if-faulty.true) c.in_ok-first.first.told.findings.items
    c.in_ok-first.ensures.told

pub returns-then-faulty-clause-made : goal.returns-then-faulty-clause-made
returns-then-faulty-clause-made c = λ none.
    absurd (nothing-faulty c.args.isa (source_lines c.args.text.now) (sym c.in_ok-first.ensures.faulty ∙ c.if-faulty.true) none)

pub returns-clause-told : goal.returns-clause-told
returns-clause-told c =
    told-clean c.args.isa (source_lines c.args.text.now) (c.in_ok-first.ensures.plan c.if-faulty.false).faultless c.in_ok-cells.field-0.findings.items
    c.in_ok-cells.ensures.told

pub returns-clause-made : goal.returns-clause-made
returns-clause-made c =
    found_is c.args.isa (source_lines c.args.text.now) (planned c.in_ok-first.first.plan) (c.in_ok-first.ensures.plan c.if-faulty.false) _
    c.in_ok-cells.ensures.count c.in_ok-cells.ensures.bytes

pub returns-then-faulty-clause-waits : goal.returns-then-faulty-clause-waits
returns-then-faulty-clause-waits c = sym (has-faulty c.args.isa (source_lines c.args.text.now) (sym c.in_ok-first.ensures.faulty ∙ c.if-faulty.true))

pub returns-clause-waits : goal.returns-clause-waits
returns-clause-waits c = sym (has-clean c.args.isa (source_lines c.args.text.now) (c.in_ok-first.ensures.plan c.if-faulty.false).faultless)
