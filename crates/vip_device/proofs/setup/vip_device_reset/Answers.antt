use Rattle.std.proofs.Common.{◌∙◌, ap, List, ℕ}
use Rattle.vip_memory.specs.Contents.{loaded}
use Rattle.vip_device.specs.declared.device.VipDevice.{VipDevice}
use Rattle.vip_device.proofs.setup.vip_device_reset.Goals as goal

pub returns-clause-rom : goal.returns-clause-rom
returns-clause-rom c ok =
    ap (λ (d : VipDevice). d.rom) c.put_rom.ensures ∙ ap (λ (x : List ℕ). loaded x 0 c.args.rom.now) c.no_rom-device.ensures
