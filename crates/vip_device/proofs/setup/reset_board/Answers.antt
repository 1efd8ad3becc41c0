use Rattle.vip_device.proofs.Machines.{same-machine}
use Rattle.vip_device.proofs.setup.reset_board.Goals as goal

pub returns-clause-machine : goal.returns-clause-machine
returns-clause-machine c =
    same-machine _ _ c.registers_after_reset-device.ensures.regs _ _ c.no_ram-device.ensures _ _ c.registers_after_reset-device.ensures.latch
    _ _ c.registers_after_reset-device.ensures.display _ _ c.registers_after_reset-device.ensures.key _ _ c.clear_pictures.ensures.cycle
