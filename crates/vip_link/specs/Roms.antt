-- The two ROMs.
use Rattle.std.specs.Prelude.{ℕ, ◌-◌, List, ◌++◌, length, replicate}
use Rattle.vip_link.specs.declared.sender.TheConstants.{CODE as SENDER, TEXT as SENDER_TEXT}
use Rattle.vip_link.specs.declared.receiver.TheConstants.{CODE as RECEIVER, TEXT as RECEIVER_TEXT}

-- 2,048 bytes that begin with this code, and are 00 behind it
abbrev pub rom_of : List ℕ → List ℕ
rom_of code = code ++ replicate (0x800 - length code) 0x00

-- shut: what is said of them is said by name, and not by their bytes
unfoldable pub sender_rom : List ℕ
sender_rom = rom_of SENDER

unfoldable pub receiver_rom : List ℕ
receiver_rom = rom_of RECEIVER

-- their texts
unfoldable pub sender_text : List ℕ
sender_text = SENDER_TEXT.now

unfoldable pub receiver_text : List ℕ
receiver_text = RECEIVER_TEXT.now
