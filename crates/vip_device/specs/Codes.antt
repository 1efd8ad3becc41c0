-- What the functions that change a device return: the first error whose condition holds, else 0.
use Rattle.std.specs.Prelude.{ℕ, ℤ, Bool, ◌+◌, ◌==◌, ◌&&◌, ◌||◌, nat_le, nat_lt, if◌then◌else◌}
use Rattle.chip8_lang.specs.State.{memory_size}
use Rattle.chip8_lang.specs.declared.view.Edition.TheVariants.{Usual, Tall}
use Rattle.vip_device.specs.declared.codes.TheConstants.{OK, BAD_LENGTH, BAD_ADDRESS, BAD_NUMBER}
use Rattle.vip_device.specs.declared.device.VipRegisters.{VipRegisters}

-- of a reset with a ROM of so many bytes and a boot latch
abbrev pub reset_code : ℕ → ℕ → ℤ
reset_code size latch = if size == 0 || nat_lt 0x800 size then BAD_LENGTH else if nat_lt 1 latch then BAD_NUMBER else OK

-- of a game of so many bytes
abbrev pub game_code : ℕ → ℕ → ℤ
game_code size tall =
    if tall == 0 then (if nat_lt (memory_size Usual) size then BAD_LENGTH else OK)
    else if tall == 1 then (if nat_lt (memory_size Tall) size then BAD_LENGTH else OK)
    else BAD_NUMBER

-- of so many bytes that are written at an address
abbrev pub write_code : ℕ → ℕ → ℤ
write_code address size =
    if nat_le (address + size) 0x1000 then OK else if nat_le 0x8000 address && nat_le (address + size) 0x8800 then OK else BAD_ADDRESS

-- of so many bytes that are read from an address
abbrev pub read_code : ℕ → ℕ → ℤ
read_code address size = if nat_le (address + size) 0x10000 then OK else BAD_ADDRESS

-- all numbers and flags are in their ranges
abbrev pub are_in_range : VipRegisters → Bool
are_in_range a =
    nat_lt a.df 2 && nat_lt a.p 16 && nat_lt a.x 16 && nat_lt a.q 2 && nat_lt a.ie 2 && nat_lt a.idle 2 && nat_lt a.latch 2 && nat_lt a.display 2
    && nat_lt a.key 16
