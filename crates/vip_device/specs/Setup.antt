-- What the functions that change memory make of a device.
use Rattle.std.specs.Prelude.{ℕ, ◌+◌, ◌-◌, ◌==◌, ◌&&◌, nat_le, if◌then◌else◌, List, length}
use Rattle.chip8_lang.specs.declared.view.Edition.{Edition}
use Rattle.chip8_lang.specs.declared.view.Edition.TheVariants.{Usual, Tall}
use Rattle.vip_memory.specs.Contents.{loaded}
use Rattle.vip_device.specs.declared.device.VipDevice.{VipDevice}

-- the edition of a game, by the number that C gives
abbrev pub edition_of : ℕ → Edition
edition_of tall = if tall == 0 then Usual else Tall

-- bytes that fit into RAM, or into ROM, are there; others change nothing
abbrev pub written_to : ℕ → List ℕ → VipDevice → VipDevice
written_to address bytes d =
    if nat_le (address + length bytes) 0x1000 then record d { ram = loaded d.ram address bytes }
    else if nat_le 0x8000 address && nat_le (address + length bytes) 0x8800 then record d { rom = loaded d.rom (address - 0x8000) bytes }
    else d
