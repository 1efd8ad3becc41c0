use Rattle.std.proofs.Common.{◌≡◌, ◌≤◌, ◌*◌, arith}
use Rattle.vip_relation.specs.State.{screen_size}
use Rattle.vip_relation.proofs.Reading.{dark-bytes}
use Rattle.vip_relation.proofs.view.dark.Goals as goal

pub returns-clause-items : goal.returns-clause-items
returns-clause-items c =
    let size : c.from-size.result * 256 ≡ screen_size c.args.edition = omega (arith, c.from-size.ensures, c.of.ensures.screen) in
    let few : c.from-size.result * 256 ≤ 512 = omega (arith, c.from-size.ensures, c.of.ensures.pages.1) in
    rw (c.put.ensures.items, c.new-bytes.ensures) (dark-bytes (c.from-size.result * 256) (screen_size c.args.edition) size few)
