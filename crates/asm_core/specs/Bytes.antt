-- The bytes of a line as they are kept.
use Rattle.std.specs.Prelude.{ℕ, List, replicate}
use Rattle.asm_core.specs.declared.encode.Bytes.{Bytes}
use Rattle.asm_core.specs.declared.encode.Bytes.TheVariants.{Given, Zeros}

abbrev pub bytes_in : Bytes → List ℕ
bytes_in (Given bytes) = bytes.items
bytes_in (Zeros count) = replicate count 0
