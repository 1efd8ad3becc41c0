use Rattle.std.proofs.Common.{◌≡◌, ◌+◌, ◌*◌, ap₂, subst, arith, length, slice_range, map, ◌/◌}
use Rattle.std.specs.List.{range_with_len}
use Rattle.vip_outside.specs.Sink.{PutsWhole, PutFails}
use Rattle.vip_outside.specs.Pieces.{PutsAll}
use Rattle.vip_debug.specs.BoardShown.{row, row_at, rows}
use Rattle.vip_debug.proofs.Lines.{pieces-more, pieces-fail, row-bytes}
use Rattle.vip_debug.proofs.bytes.put_rows.Goals as goal

pub returns-in_err-put_row : goal.returns-in_err-put_row
unfolding rows
returns-in_err-put_row g c =
    let bytes = c.args.bytes.now in
    let here : row (c.from.result + 16 * c.loop-k.k) (slice_range bytes (16 * c.loop-k.k) c.min-end.result) ≡ row_at c.args.address bytes c.loop-k.k =
    ap₂ (λ address part. row (address + 16 * c.loop-k.k) part) c.from.ensures (row-bytes bytes (16 * c.loop-k.k) c.min-end.result c.min-end.ensures) in
    pieces-fail (row_at c.args.address bytes) _ _ _ c.loop-k.k _ _ c.loop-k-test.true c.from_residual.ensures.0 c.loop-k.invariant
    (subst (λ piece. PutFails piece (g.O.Sink.meaning c.loop-k.out) (g.O.Sink.meaning c.put_row.new.out)) here c.in_err-put_row.ensures)

pub loop-k-preserved : goal.loop-k-preserved
loop-k-preserved g c =
    let bytes = c.args.bytes.now in
    let here : row (c.from.result + 16 * c.loop-k.k) (slice_range bytes (16 * c.loop-k.k) c.min-end.result) ≡ row_at c.args.address bytes c.loop-k.k =
    ap₂ (λ address part. row (address + 16 * c.loop-k.k) part) c.from.ensures (row-bytes bytes (16 * c.loop-k.k) c.min-end.result c.min-end.ensures) in
    pieces-more (row_at c.args.address bytes) _ _ _ c.loop-k.k c.loop-k.invariant
    (subst (λ piece. PutsWhole piece (g.O.Sink.meaning c.loop-k.out) (g.O.Sink.meaning c.put_row.new.out)) here c.in_ok-put_row.ensures)

pub returns : goal.returns
unfolding rows
returns g c =
    let all : c.loop-k.k ≡ (length c.args.bytes.now + 15) / 16 = omega arith in
    subst (λ n. PutsAll (map (row_at c.args.address c.args.bytes.now) (range_with_len 0 n)) (g.O.Sink.meaning c.args.out.now) (g.O.Sink.meaning c.loop-k.out))
    all c.loop-k.invariant
