use Rattle.std.proofs.Common.{◌+◌, ◌++◌, ◌∷◌, [], ◌∙◌, sym, ap, arith, refl}
use Rattle.std.proofs.lemmas.List.FromFn.{map-range_with_len_more}
use Rattle.vip_debug.specs.BoardShown.{bytes_from}
use Rattle.vip_debug.specs.BoardParts.{reads}
use Rattle.vip_debug.proofs.bytes.read_stretch.Goals as goal

pub loop-i-preserved : goal.loop-i-preserved
loop-i-preserved c = record {
  len = omega arith;
  items =
      c.push.ensures.items
      ∙ ap (λ xs. xs ++ c.read.result ∷ []) c.loop-i.invariant.items
      ∙ ap (λ x. bytes_from (reads c.args.memory.now) c.args.address c.loop-i.i ++ x ∷ [])
      (c.read.ensures ∙ ap (λ a. reads c.args.memory.now (a + c.loop-i.i)) c.from-start.ensures)
      ∙ sym (map-range_with_len_more (reads c.args.memory.now) c.args.address c.loop-i.i (c.args.address + c.loop-i.i) refl);
}
