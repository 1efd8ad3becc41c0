-- What an address reads where the boot latch is clear, by the pages of memory.
use Rattle.std.proofs.Common.{◌≡◌, ℕ, ◌+◌, ◌-◌, ◌*◌, ◌/◌, ◌%◌, ◌<◌, ◌≤◌, ◌⊎◌, inl, inr, List, drop, slice_index, ap, ◌∙◌, refl, arith}
use Rattle.std.proofs.lemmas.Bool.{cases_lt, lt-ltb, le-ltb, le-leb, lt-leb}
use Rattle.std.proofs.lemmas.List.{get_or-drop, get_or-take}
use Rattle.machine.specs.Memory.{read}
use Rattle.vip_memory.specs.Contents.{Contents, page_at, page_of}
use Rattle.vip_debug.specs.BoardParts.{clear_reads}

-- a byte of a page
page_byte : (bytes : List ℕ) (page k : ℕ) → k < 256 → slice_index (page_at bytes page) k ≡ slice_index bytes (page * 256 + k)
page_byte bytes page k within = get_or-take 256 (drop (page * 256) bytes) k 0 within ∙ get_or-drop (page * 256) bytes k 0

module _ (m : Contents) (address : ℕ) (fits : address < 0x10000) where
  abbrev page : ℕ
  page = address / 256

  ram_byte : page < 0x10 → slice_index (page_of m page) (address % 256) ≡ clear_reads m address
  unfolding read
  ram_byte low =
      let place : address / 256 * 256 + address % 256 ≡ address = omega arith in
      let below : address < 0x1000 = omega (arith, low) in
      rw (lt-ltb page 0x10 low, lt-ltb address 0x1000 below) (page_byte m.ram page (address % 256) (omega arith) ∙ ap (slice_index m.ram) place)

  rom_byte : (0x80 ≤ page) × (page < 0x88) → slice_index (page_of m page) (address % 256) ≡ clear_reads m address
  unfolding read
  rom_byte between =
      let place : (page - 0x80) * 256 + address % 256 ≡ address - 0x8000 = omega (arith, between.0) in
      let above : 0x8000 ≤ address = omega (arith, between.0) in
      let below : address < 0x8800 = omega (arith, between.1) in
      rw (le-ltb page 0x10 (omega (arith, between.0)), le-ltb address 0x1000 (omega (arith, above)), le-leb 0x8000 address above, lt-ltb address 0x8800 below)
      (page_byte m.rom (page - 0x80) (address % 256) (omega arith) ∙ ap (slice_index m.rom) place)

  pub paged_byte : (page < 0x10) ⊎ ((0x80 ≤ page) × (page < 0x88)) → slice_index (page_of m page) (address % 256) ≡ clear_reads m address
  paged_byte there = elim there [ inl low ↦ ram_byte low | inr between ↦ rom_byte between ]

  -- an address without memory
  pub no_byte : ((page < 0x10) ⊎ ((0x80 ≤ page) × (page < 0x88)) → ⊥) → 0xff ≡ clear_reads m address
  unfolding read
  no_byte none =
      let high : 0x1000 ≤ address = elim (cases_lt address 0x1000) [ inl low ↦ absurd (none (inl (omega (arith, low)))) | inr high ↦ high ] in
      rw (le-ltb address 0x1000 high)
      (elim (cases_lt address 0x8000) [
        | inl below ↦ rw (lt-leb 0x8000 address below) refl
        | inr above ↦ elim (cases_lt address 0x8800) [
          | inl below ↦ absurd (none (inr (omega (arith, above), omega (arith, below))))
          | inr behind ↦ rw (le-leb 0x8000 address above, le-ltb address 0x8800 behind) refl
        ]
      ])
