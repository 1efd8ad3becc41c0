use Rattle.std.proofs.Common.{◌≡◌, ◌∙◌, ◌+◌, ◌-◌, ◌*◌, ◌++◌, ap, slice_range, take_all, arith}
use Rattle.vip_memory.specs.Contents.{page_at}
use Rattle.vip_relation.proofs.Reading.{page-more}
use Rattle.vip_show.proofs.writing.put_rom.Goals as goal

pub loop-page-preserved : goal.loop-page-preserved
loop-page-preserved c =
    let rom = c.args.memory.now.rom in
    let page = c.loop-page.page in
    let same : 128 + page - 128 ≡ page = omega arith in (
      c.put_rom_page.ensures.items ∙ ap (λ l. l ++ page_at rom (128 + page - 128)) c.loop-page.invariant.0
          ∙ ap (λ k. slice_range rom 0 (page * 256) ++ page_at rom k) same ∙ page-more rom 0 page (omega arith),
      omega (arith, c.put_rom_page.ensures.len, c.loop-page.invariant.1),
    )

pub put_rom_page-requires-clause-room : goal.put_rom_page-requires-clause-room
put_rom_page-requires-clause-room c = omega (arith, c.loop-page.invariant.1, c.loop-page-test.true)

pub returns : goal.returns
returns c =
    let rom = c.args.memory.now.rom in
    let all : c.loop-page.page * 256 ≡ 0x800 = omega (arith, c.loop-page-test.false, c.loop-page.auto.page-end) in
    c.loop-page.invariant.0 ∙ ap (slice_range rom 0) all ∙ take_all 0x800 rom (omega (arith, c.sizes.ensures.rom))
