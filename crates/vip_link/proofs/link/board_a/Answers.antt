use Rattle.std.proofs.Common.{List, ℕ, subst}
use Rattle.machine.specs.Board.{after_reset}
use Rattle.vip_link.specs.Roms.{sender_rom}
use Rattle.vip_link.specs.Kept.{AtStart}
use Rattle.vip_link.proofs.Links.{at-start-loaded}
use Rattle.vip_link.proofs.link.board_a.Goals as goal

pub returns : goal.returns
returns c =
    at-start-loaded sender_rom c.args.message.now c.in_ok-a.a c.load.new.self c.load-2.new.self
    (subst (λ (rom : List ℕ). AtStart rom after_reset c.in_ok-a.a) c.sender_image.ensures c.in_ok-a.ensures) c.load.ensures c.load-2.ensures
