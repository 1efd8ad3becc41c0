-- What a memory holds.
use Rattle.std.specs.Prelude.{◌+◌, ◌-◌, ◌*◌, if◌then◌else◌, ℕ, Bool, nat_lt, List, ◌++◌, length, take, drop}

-- the bytes of RAM from address 0000 on, those of ROM from address 8000 on, and whether the boot latch is set
pub record Contents : Type 0 where
  pub ram : List ℕ
  pub rom : List ℕ
  pub latch : Bool

-- RAM with `bytes` in it from an address on
abbrev pub loaded : List ℕ → ℕ → List ℕ → List ℕ
loaded ram address bytes = take address ram ++ bytes ++ drop (address + length bytes) ram

-- page n of a list of bytes
abbrev pub page_at : List ℕ → ℕ → List ℕ
page_at bytes n = take 256 (drop (n * 256) bytes)

-- the page of a high byte: 00 to 0F are RAM, and 80 on are ROM
abbrev pub page_of : Contents → ℕ → List ℕ
page_of m high = if nat_lt high 0x10 then page_at m.ram high else page_at m.rom (high - 0x80)
