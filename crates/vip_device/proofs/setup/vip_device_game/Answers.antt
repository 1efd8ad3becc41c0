use Rattle.std.proofs.Common.{◌∙◌, ap, List, ℕ}
use Rattle.machine.specs.Board.{Machine, after_reset}
use Rattle.vip_memory.specs.Contents.{loaded}
use Rattle.vip_device.specs.Device.{machine_in}
use Rattle.vip_device.proofs.Machines.{started}
use Rattle.vip_device.proofs.setup.vip_device_game.Goals as goal

pub returns-clause-machine : goal.returns-clause-machine
returns-clause-machine c ok =
    ap machine_in c.put_ram.ensures
    ∙ ap (λ (b : Machine). record b { ram = loaded b.ram 0x200 c.args.game.now }) c.reset_board.ensures.machine
    ∙ ap (λ (x : List ℕ). record after_reset { ram = x }) (started c.args.game.now)
