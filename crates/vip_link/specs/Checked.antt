-- The comparison of both ROMs with their texts, SENDER first.
use Rattle.std.specs.Prelude.{◌⊎◌, Result, Ok, Err}
use Rattle.asm_core.specs.Sources.{source_lines}
use Rattle.chip8_source.specs.Compared.{Compares}
use Rattle.chip8_source.specs.declared.fault.ImageFault.{ImageFault}
use Rattle.vip_link.specs.Roms.{sender_rom, receiver_rom, sender_text, receiver_text}

abbrev pub ComparesSender : Result Unit ImageFault → Type 0
ComparesSender answer = Compares (source_lines sender_text) sender_rom answer

abbrev pub ComparesReceiver : Result Unit ImageFault → Type 0
ComparesReceiver answer = Compares (source_lines receiver_text) receiver_rom answer

-- RECEIVER is compared where SENDER is fine, and the answer is the last one
abbrev pub ComparesLink : Result Unit ImageFault → Type 0
ComparesLink (Ok u) = ComparesSender (Ok u) × ComparesReceiver (Ok u)
ComparesLink (Err fault) = ComparesSender (Err fault) ⊎ (ComparesSender (Ok tt) × ComparesReceiver (Err fault))
