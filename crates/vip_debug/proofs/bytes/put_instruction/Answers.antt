use Rattle.std.proofs.Common.{◌≡◌, ◌<◌, ◌-◌, ◌∙◌, ◌∷◌, [], List, ℕ, ap, subst, arith, min, take, length-take}
use Rattle.vip_outside.specs.Sink.{PutsWhole, PutFails}
use Rattle.vip_outside.proofs.PiecesLemmas.{PutsAll-snoc, FailsWithin-more, FailsWithin-snoc}
use Rattle.vip_debug.specs.BoardShown.{bytes_from, labels_in, line_in}
use Rattle.vip_debug.specs.BoardParts.{reads}
use Rattle.vip_debug.proofs.Disassembling.{line-read, line-joined, taken-read, line-fails, taken-few}
use Rattle.vip_debug.proofs.bytes.put_instruction.Goals as goal

pub slice_bounds-three-end : goal.slice_bounds-three-end
slice_bounds-three-end g c =
    let few = taken-few (take c.min-have.result (c.read.result ∷ c.read-2.result ∷ c.read-3.result ∷ [])) in
    omega (arith, few, c.from-2.ensures, c.one_line-shown.ensures.taken)

pub slice_bounds-bytes-end : goal.slice_bounds-bytes-end
slice_bounds-bytes-end g c =
    let three : List ℕ = c.read.result ∷ c.read-2.result ∷ c.read-3.result ∷ [] in
    let few = taken-few (take c.min-have.result three) in
    omega (arith, few, c.from-2.ensures, c.one_line-shown.ensures.taken, length-take c.from-2.result three)

pub returns-in_err-put_labels_in : goal.returns-in_err-put_labels_in
returns-in_err-put_labels_in g c =
    let origins = c.args.origins.now in
    let latch = c.args.memory.now.latch in
    let bytes = bytes_from (reads c.args.memory.now) c.args.address (0x10000 - c.args.address) in
    line-fails origins latch c.args.layout (reads c.args.memory.now) c.args.address _ _ _ c.from_residual.ensures.0
    (FailsWithin-more (labels_in origins latch c.args.layout c.args.address) (line_in origins latch c.args.layout c.args.address bytes ∷ []) _ _
    (rw c.latch_set-latch.ensures at c.in_err-put_labels_in.ensures))

pub returns-in_err-put : goal.returns-in_err-put
returns-in_err-put g c =
    let origins = c.args.origins.now in
    let latch = c.args.memory.now.latch in
    let low : c.args.address < 0x10000 = omega arith in
    let size : c.min-have.result ≡ min (0x10000 - c.args.address) 3 = c.min-have.ensures ∙ ap (λ a. min (0x10000 - a) 3) c.from.ensures in
    let second = c.read-2.ensures ∙ ap (reads c.args.memory.now) c.add16.ensures in
    let third = c.read-3.ensures ∙ ap (reads c.args.memory.now) c.add16-2.ensures in
    let line = line-read (reads c.args.memory.now) c.args.address c.min-have.result _ _ _ low size c.read.ensures second third origins latch c.args.layout in
    let piece = line-joined origins latch c.args.layout c.args.address _ _ _ _ _ _ _ _ _ _ c.new-text.ensures c.put_before.ensures.items c.put.ensures.items
    (rw c.latch_set-latch.ensures at c.put_behind.ensures.items) c.put-2.ensures.items c.as_slice-2.ensures.value
    (c.as_slice.ensures.value ∙ c.one_line-shown.ensures.line) (c.from-2.ensures ∙ c.one_line-shown.ensures.taken) in
    line-fails origins latch c.args.layout (reads c.args.memory.now) c.args.address _ _ _ c.from_residual-in_err-put.ensures.0
    (FailsWithin-snoc (labels_in origins latch c.args.layout c.args.address) _ [] _ _ _ (rw c.latch_set-latch.ensures at c.in_ok-put_labels_in.ensures)
    (subst (λ bytes. PutFails bytes (g.O.Sink.meaning c.put_labels_in.new.out) (g.O.Sink.meaning c.put-3.new.self)) (piece ∙ line) c.in_err-put.ensures.answer))

pub returns : goal.returns
returns g c =
    let origins = c.args.origins.now in
    let latch = c.args.memory.now.latch in
    let low : c.args.address < 0x10000 = omega arith in
    let size : c.min-have.result ≡ min (0x10000 - c.args.address) 3 = c.min-have.ensures ∙ ap (λ a. min (0x10000 - a) 3) c.from.ensures in
    let second = c.read-2.ensures ∙ ap (reads c.args.memory.now) c.add16.ensures in
    let third = c.read-3.ensures ∙ ap (reads c.args.memory.now) c.add16-2.ensures in
    let line = line-read (reads c.args.memory.now) c.args.address c.min-have.result _ _ _ low size c.read.ensures second third origins latch c.args.layout in
    let shown = taken-read (reads c.args.memory.now) c.args.address c.min-have.result _ _ _ low size c.read.ensures second third in
    let piece = line-joined origins latch c.args.layout c.args.address _ _ _ _ _ _ _ _ _ _ c.new-text.ensures c.put_before.ensures.items c.put.ensures.items
    (rw c.latch_set-latch.ensures at c.put_behind.ensures.items) c.put-2.ensures.items c.as_slice-2.ensures.value
    (c.as_slice.ensures.value ∙ c.one_line-shown.ensures.line) (c.from-2.ensures ∙ c.one_line-shown.ensures.taken) in (
      PutsAll-snoc (labels_in origins latch c.args.layout c.args.address) _ _ _ _ (rw c.latch_set-latch.ensures at c.in_ok-put_labels_in.ensures)
          (subst (λ bytes. PutsWhole bytes (g.O.Sink.meaning c.put_labels_in.new.out) (g.O.Sink.meaning c.put-3.new.self)) (piece ∙ line) c.in_ok-put.ensures.answer),
      c.one_line-shown.ensures.taken ∙ shown,
    )
