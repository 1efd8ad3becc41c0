use Rattle.std.proofs.Common.{◌≡◌, ◌∙◌, ◌++◌, Some, None, ap, sym, map, List, [], ◌∷◌, ℕ}
use Rattle.std.specs.Borrow.{Bor}
use Rattle.std.proofs.lemmas.List.{map-append}
use Rattle.vip_c.specs.Given.{File}
use Rattle.vip_c.proofs.FileLemmas.{none_same, not_there, one_file, some_same, twice}
use Rattle.vip_c.proofs.given.files_of.Goals as goal

abbrev texts : List (Bor (List ℕ)) → List (List ℕ)
texts = map (λ name. name.now)

pub loop-place-init : goal.loop-place-init
loop-place-init c = record {
  files = [];
  are = record { each = tt; differ = tt };
  names_are = ap texts c.new-names.ensures.items;
  memory_is = c.in_ok-files.ensures.empty;
}

pub returns-in_default : goal.returns-in_default
returns-in_default c =
    not_there c.args.bytes.now c.args.places.now c.loop-place.place-index _ c.loop-place-test.true (λ file at. c.in_default.ensures file.name at.name at.text)

pub returns-in_default-part : goal.returns-in_default-part
returns-in_default-part c =
    not_there c.args.bytes.now c.args.places.now c.loop-place.place-index _ c.loop-place-test.true
    (λ file at. let bad : None ≡ Some file.content = c.in_default-part.ensures ∙ at.content in cc)

pub returns-then-contains : goal.returns-then-contains
returns-then-contains c =
    twice c.args.bytes.now c.args.places.now c.loop-place.place-index _ c.loop-place-test.true (texts c.loop-place.names.items) c.loop-place.files
    c.loop-place.invariant c.in-Some.name.now c.in-Some.ensures.0
    (some_same (λ name. name.now) c.in-Some.name.now c.loop-place.names.items (rw c.deref.ensures.value at (sym c.contains.ensures.value ∙ c.if-contains.true)))

pub loop-place-preserved : goal.loop-place-preserved
loop-place-preserved c =
    let file : File = record { name = c.in-Some.name.now; content = c.in-Some-part.content.now } in
    let names : texts c.push.new.self.items ≡ texts c.loop-place.names.items ++ c.in-Some.name.now ∷ [] =
    ap texts c.in_ok-push.ensures.items ∙ map-append (λ name. name.now) c.loop-place.names.items (c.in-Some.name ∷ []) in
    rw (names, c.in_ok-add.ensures.ok)
    (one_file c.args.bytes.now c.args.places.now c.loop-place.place-index _ c.loop-place-test.true (texts c.loop-place.names.items) c.loop-place.files
    c.loop-place.invariant file (record { name = c.in-Some.ensures.0; content = sym c.in-Some-part.ensures; text = c.in-Some.ensures.1 })
    (none_same (λ name. name.now) c.in-Some.name.now c.loop-place.names.items
    (rw c.deref.ensures.value at (sym c.contains.ensures.value ∙ c.if-contains.false))))
