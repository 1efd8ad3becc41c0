-- The address map of the board (RCA's COSMAC VIP instruction manual; the place and size of the ROM, and what an address without
-- memory reads, are this project's profile): what an address reads, and what a write changes.
use Rattle.std.specs.Prelude.{ℕ, ◌-◌, ◌&&◌, if◌then◌else◌, Bool, not, nat_lt, nat_le, List, slice_index, slice_set, bit_or}

-- while the boot latch is set, address a reads as address a OR 8000
abbrev pub mapped_address : Bool → ℕ → ℕ
mapped_address latch address = if latch then bit_or address 0x8000 else address

-- RAM at 0000 to 0FFF, ROM at 8000 to 87FF, and FF elsewhere
abbrev pub byte_at : List ℕ → List ℕ → ℕ → ℕ
byte_at rom ram place =
    if nat_lt place 0x1000 then slice_index ram place
    else if nat_le 0x8000 place && nat_lt place 0x8800 then slice_index rom (place - 0x8000)
    else 0xff

-- the byte that an address reads; shut, since a proof about RAM goes by lemmas and not by cases on the address
unfoldable pub read : List ℕ → Bool → List ℕ → ℕ → ℕ
read rom latch ram address = byte_at rom ram (mapped_address latch address)

-- RAM after a write: outside RAM, and everywhere while the latch is set, a write does nothing
unfoldable pub written : Bool → List ℕ → ℕ → ℕ → List ℕ
written latch ram address byte = if not latch && nat_lt address 0x1000 then slice_set ram address byte else ram
