-- A byte that a state may read lies in game memory, or in the font of the ROM.
use Rattle.std.proofs.Common.{◌≡◌, ℕ, ◌+◌, ◌-◌, ◌<◌, ◌≤◌, ◌⊎◌, inl, inr, sym, ◌∙◌, ap, arith, slice_index, slice_range, List}
use Rattle.std.proofs.lemmas.Bool.{lt-ltb, le-ltb}
use Rattle.machine.specs.Memory.{read}
use Rattle.chip8_lang.specs.declared.view.Edition.{Edition}
use Rattle.chip8_lang.specs.Editions.{memory_start, memory_end, font_start, font_end}
use Rattle.chip8_lang.specs.State.{Lang, font, readable_byte}
use Rattle.rom_law.proofs.Moves.{read_rom}
use Rattle.rom_law.specs.Holding.{Places, Holding}
use Rattle.rom_law.proofs.Places.{range_get, memory_get}
use Rattle.rom_rows.specs.Rom.{program_of}
use Rattle.rom_rows.proofs.Bytes.{memory_end_is, page_fits}

-- the font lies at 8700
abbrev pub HasFont : List ℕ → Type 0
HasFont rom = slice_range rom 0x700 0x750 ≡ font

font_byte : (rom : List ℕ) → HasFont rom → (k : ℕ) → k < 80 → slice_index rom (0x700 + k) ≡ slice_index font k
font_byte rom lies k l = sym (range_get 0x700 0x750 rom k (omega (arith, l))) ∙ ap (λ r. slice_index r k) lies

-- address a lies in game memory, or in the font
abbrev pub Readable : Edition → ℕ → Type 0
Readable e a = ((memory_start ≤ a) × (a < memory_end e)) ⊎ ((font_start ≤ a) × (a < font_end))

module _ {e : Edition} {rom : List ℕ} (lies : HasFont rom) {p : Places} {s : Lang} (h : Holding (program_of e rom) p s) where
  pub readable_get : (a : ℕ) → Readable e a → read rom p.latch p.ram a ≡ readable_byte s a
  readable_get a (inl k) = rw (lt-ltb a font_start (omega (arith, k.1, memory_end_is e, page_fits e))) (memory_get h a k.0 k.1)
  readable_get a (inr k) =
      rw (le-ltb a font_start k.0) (read_rom rom p.latch p.ram a (omega (arith, k)) (omega (arith, k)) ∙ ap (slice_index rom) place
      ∙ font_byte rom lies (a - font_start) (omega (arith, k)))
    where
      place : a - 0x8000 ≡ 0x700 + (a - font_start)
      place = omega (arith, k)
