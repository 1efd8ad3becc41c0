-- Parts of a view, by RAM and a register.
use Rattle.std.specs.Prelude.{ℕ, ◌+◌, ◌-◌, ◌*◌, ◌/◌, if◌then◌else◌, min, List, slice_index, Option, Some, None}
use Rattle.chip8_lang.specs.declared.view.Edition.{Edition}
use Rattle.chip8_lang.specs.Editions.{stack_top}
use Rattle.chip8_lang.specs.Places.{addresses, most_addresses}
use Rattle.chip8_lang.specs.State.{is_in_memory}

abbrev pub opcode_in : Edition → List ℕ → ℕ → Option ℕ
opcode_in e ram pc = if is_in_memory e pc 2 then Some (slice_index ram pc * 256 + slice_index ram (pc + 1)) else None

abbrev pub stack_in : Edition → List ℕ → ℕ → List ℕ
stack_in e ram r2 = addresses ram (stack_top e) (min most_addresses ((stack_top e - r2) / 2))
