use Rattle.std.proofs.Common.{◌<◌, ◌+◌, ◌≤◌, ◌∙◌, sym, subst, arith, length}
use Rattle.vip_outside.specs.Pieces.{StreamAnswers}
use Rattle.vip_debug.specs.BoardShown.{rows}
use Rattle.vip_debug.specs.BoardParts.{reads}
use Rattle.vip_debug.proofs.Lines.{stretch-fits}
use Rattle.vip_debug.proofs.bytes.put_mem.Goals as goal

pub put_rows-requires : goal.put_rows-requires
put_rows-requires g c =
    let low : c.args.address < 0x10000 = omega arith in
    subst (λ bytes. c.args.address + length bytes ≤ 65536) (sym (c.as_slice.ensures.value ∙ c.read_stretch.ensures))
    (stretch-fits (reads c.args.memory.now) c.args.address c.args.count low)

pub returns : goal.returns
returns g c =
    subst (λ bytes. StreamAnswers (rows c.args.address bytes) (g.O.Sink.meaning c.args.out.now) (g.O.Sink.meaning c.put_rows.new.out) c.put_rows.result)
    (c.as_slice.ensures.value ∙ c.read_stretch.ensures) c.put_rows.ensures
