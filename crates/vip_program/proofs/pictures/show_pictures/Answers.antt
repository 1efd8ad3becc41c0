use Rattle.std.proofs.Common.{◌∙◌, sym, arith}
use Rattle.vip_program.proofs.Picturing.{picturing-first, picturing-last, picturing-none, picturing-one, picturing-fault, picturing-done}
use Rattle.vip_program.proofs.pictures.show_pictures.Goals as goal

pub loop-limit-preserved-in-Continue-1 : goal.loop-limit-preserved-in-Continue-1
loop-limit-preserved-in-Continue-1 g c =
    let t = picturing-last _ _ _ _ _ _ c.loop-limit.invariant (sym c.goes_on.ensures.goes ∙ c.loop-limit-test.true) _ (rw c.cycles.ensures.value at c.run.ensures.made) (rw c.cycles.ensures.value at c.run.ensures.none) in
    picturing-one _ _ _ _ _ _ t.here t.goes t.moved t.carries
    t.boundary
    (λ same. c.if-finished-before.true (c.finished.ensures ∙ same ∙ t.count ∙ sym c.finished-before.ensures)) _ _ c.in_ok-put_picture.ensures

pub returns-in_err-put_picture : goal.returns-in_err-put_picture
returns-in_err-put_picture g c =
    let t = picturing-last _ _ _ _ _ _ c.loop-limit.invariant (sym c.goes_on.ensures.goes ∙ c.loop-limit-test.true) _ (rw c.cycles.ensures.value at c.run.ensures.made) (rw c.cycles.ensures.value at c.run.ensures.none) in
    picturing-fault _ _ _ _ _ _ t.here t.goes t.moved t.carries
    (λ same. c.if-finished-before.true (c.finished.ensures ∙ same ∙ t.count ∙ sym c.finished-before.ensures)) _ _ c.in_err-put_picture.ensures _ c.from_residual.ensures.0

pub loop-limit-preserved : goal.loop-limit-preserved
loop-limit-preserved g c =
    let t = picturing-last _ _ _ _ _ _ c.loop-limit.invariant (sym c.goes_on.ensures.goes ∙ c.loop-limit-test.true) _ (rw c.cycles.ensures.value at c.run.ensures.made) (rw c.cycles.ensures.value at c.run.ensures.none) in
    picturing-none _ _ _ _ _ _ t.here t.goes t.moved t.carries
    t.boundary
    (sym c.finished.ensures ∙ c.if-finished-before.false ∙ c.finished-before.ensures ∙ sym t.count)

pub returns : goal.returns
returns g c = picturing-done _ _ _ _ _ c.loop-limit.invariant (sym c.goes_on.ensures.goes ∙ c.loop-limit-test.false) _ c.ending.ensures

pub loop-limit-init : goal.loop-limit-init
loop-limit-init g c = picturing-first _ _ _ c.requires.boundary c.requires.begins c.requires.pictures

pub loop-limit-smaller-in-Continue-1 : goal.loop-limit-smaller-in-Continue-1
loop-limit-smaller-in-Continue-1 g c =
    let t = picturing-last _ _ _ _ _ _ c.loop-limit.invariant (sym c.goes_on.ensures.goes ∙ c.loop-limit-test.true) _ (rw c.cycles.ensures.value at c.run.ensures.made) (rw c.cycles.ensures.value at c.run.ensures.none) in
    omega (arith, t.later, t.within)

pub loop-limit-smaller : goal.loop-limit-smaller
loop-limit-smaller g c =
    let t = picturing-last _ _ _ _ _ _ c.loop-limit.invariant (sym c.goes_on.ensures.goes ∙ c.loop-limit-test.true) _ (rw c.cycles.ensures.value at c.run.ensures.made) (rw c.cycles.ensures.value at c.run.ensures.none) in
    omega (arith, t.later, t.within)
