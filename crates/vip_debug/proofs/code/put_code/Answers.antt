use Rattle.std.proofs.Common.{◌≡◌, ◌+◌, ◌-◌, ◌*◌, ◌/◌, ◌<◌, ◌++◌, ◌∷◌, [], ap, arith, min, subst}
use Rattle.std.specs.List.{flat_map, range_with_len}
use Rattle.asm_core.specs.Origins.{labels_over}
use Rattle.vip_outside.specs.Pieces.{PutsAll, FailsWithin}
use Rattle.vip_debug.specs.BoardParts.{clear_reads}
use Rattle.vip_debug.specs.Code.{code_line, code_pieces}
use Rattle.vip_debug.proofs.Lines.{groups-fail, groups-more}
use Rattle.vip_debug.proofs.code.put_code.Goals as goal

pub returns-in_err-put_line : goal.returns-in_err-put_line
returns-in_err-put_line g c =
    let k = c.loop-k.k in
    let bytes = clear_reads c.args.memory.now in
    let more : k < min c.args.count ((0x10001 - c.args.address) / 2) = omega (arith, c.loop-k-test.true, c.min-k-end.ensures, c.from.ensures) in
    let here = ap (λ address. labels_over c.args.origins.now (address + 2 * k) ++ code_line bytes c.args.origins.now (address + 2 * k) ∷ []) c.from-in-loop-k.ensures in
    groups-fail (code_pieces bytes c.args.origins.now c.args.address) _ _ _ k _ _ more c.from_residual.ensures.0 c.loop-k.invariant
    (subst (λ pieces. FailsWithin pieces (g.O.Sink.meaning c.loop-k.out) (g.O.Sink.meaning c.put_line.new.out)) here c.in_err-put_line.ensures)

pub loop-k-preserved : goal.loop-k-preserved
loop-k-preserved g c =
    let k = c.loop-k.k in
    let bytes = clear_reads c.args.memory.now in
    let here = ap (λ address. labels_over c.args.origins.now (address + 2 * k) ++ code_line bytes c.args.origins.now (address + 2 * k) ∷ []) c.from-in-loop-k.ensures in
    groups-more (code_pieces bytes c.args.origins.now c.args.address) _ _ _ k c.loop-k.invariant
    (subst (λ pieces. PutsAll pieces (g.O.Sink.meaning c.loop-k.out) (g.O.Sink.meaning c.put_line.new.out)) here c.in_ok-put_line.ensures)

pub returns : goal.returns
returns g c =
    let pieces = code_pieces (clear_reads c.args.memory.now) c.args.origins.now c.args.address in
    let all : c.loop-k.k ≡ min c.args.count ((0x10001 - c.args.address) / 2) =
    omega (arith, c.loop-k-test.false, c.loop-k.auto.k-end, c.min-k-end.ensures, c.from.ensures) in
    subst (λ n. PutsAll (flat_map pieces (range_with_len 0 n)) (g.O.Sink.meaning c.args.out.now) (g.O.Sink.meaning c.loop-k.out)) all c.loop-k.invariant
