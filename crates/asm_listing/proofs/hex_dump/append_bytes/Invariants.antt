use Rattle.std.proofs.Common.{◌≡◌, ◌++◌, take}
use Rattle.asm_listing.specs.Row.{bytes_text}
use Rattle.asm_listing.proofs.hex_dump.append_bytes.Given as goal

-- the first of them are appended
abbrev pub invariant-loop-byte : goal.invariant-loop-byte
invariant-loop-byte l = l.text.items ≡ l.fn.text.items ++ bytes_text (take l.byte-index l.bytes)
