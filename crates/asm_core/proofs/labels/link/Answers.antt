use Rattle.std.proofs.Common.{◌≡◌, ◌<◌, ◌≤◌, ◌-◌, ◌+◌, ◌∙◌, arith, sym, subst, length}
use Rattle.std.proofs.lemmas.List.{length-map}
use Rattle.asm_core.specs.Labels.{shown_label, shown_labels}
use Rattle.asm_core.proofs.Marking.{AreFoundFrom, address-shown, all-found, none-found, one-found, one-passed, shown-inside}
use Rattle.asm_core.proofs.labels.link.Goals as goal

pub loop-place-init : goal.loop-place-init
loop-place-init c =
    let same = length-map c.args.list.now shown_label in
    subst (AreFoundFrom (shown_labels c.args.list.now) c.args.first.now c.args.next.now) same
    (none-found (shown_labels c.args.list.now) c.args.first.now c.args.next.now c.requires.first (c.requires.next ∙ sym same)
    (λ address low. c.requires.none address low ∙ sym same))

pub loop-place-preserved-then-address-lt-ADDRESSES : goal.loop-place-preserved-then-address-lt-ADDRESSES
loop-place-preserved-then-address-lt-ADDRESSES c =
    let place = c.loop-place.place - 1 in
    let below : place < length c.args.list.now = omega arith in
    let up : c.loop-place.place ≡ place + 1 = omega arith in
    one-found (shown_labels c.args.list.now) c.loop-place.first c.loop-place.next place _ (shown-inside c.args.list.now place below)
    (address-shown c.args.list.now place c.index-list-place.result below) c.if-address-lt-ADDRESSES.true
    (subst (AreFoundFrom (shown_labels c.args.list.now) c.loop-place.first c.loop-place.next) up c.loop-place.invariant)

pub loop-place-preserved : goal.loop-place-preserved
loop-place-preserved c =
    let place = c.loop-place.place - 1 in
    let below : place < length c.args.list.now = omega arith in
    let up : c.loop-place.place ≡ place + 1 = omega arith in
    one-passed (shown_labels c.args.list.now) c.loop-place.first c.loop-place.next place (shown-inside c.args.list.now place below)
    (subst (λ n. 65536 ≤ n) (sym (address-shown c.args.list.now place c.index-list-place.result below)) c.if-address-lt-ADDRESSES.false)
    (subst (AreFoundFrom (shown_labels c.args.list.now) c.loop-place.first c.loop-place.next) up c.loop-place.invariant)

pub returns-clause-found : goal.returns-clause-found
returns-clause-found c = all-found (shown_labels c.args.list.now) c.loop-place.first c.loop-place.next c.loop-place.place (omega arith) c.loop-place.invariant
