-- The main cycles that a head says, where a test has been decided.
use Rattle.std.proofs.Common.{◌≡◌, ℕ, ◌+◌, ◌-◌, ◌*◌, ◌/◌, ◌%◌, ◌<◌, ◌≤◌, refl, arith, true, false}
use Rattle.std.specs.Prelude.{nat_le}
use Rattle.std.proofs.lemmas.Bool.{lt-ltb, le-ltb, le-leb, lt-leb, leb-true, and_parts, eq-eqb, ne_eqb}
use Rattle.chip8_lang.specs.declared.view.Edition.{Edition}
use Rattle.chip8_lang.specs.Editions.{memory_start, memory_end, font_start, font_end, rows_of}
use Rattle.chip8_lang.specs.State.{Lang, is_in_memory, is_in_font}
use Rattle.chip8_lang.specs.Timed.{outside_cycles, stop_cycles, row_cycles}
use Rattle.rom_rows.specs.SpriteBlocks.{column, top, asked, aim_time, edge_time, rows_time}

-- ---- the range check

pub outside_low : (i : ℕ) → i < memory_start → outside_cycles i ≡ 0
outside_low i l = rw (lt-ltb i memory_start l) refl

pub outside_page : (i : ℕ) → i / 256 ≡ 0x87 → outside_cycles i ≡ 26
outside_page i page = rw (le-ltb i memory_start (omega (arith, page)), page) refl

pub outside_other : (i : ℕ) → memory_start ≤ i → (i / 256 ≡ 0x87 → ⊥) → outside_cycles i ≡ 18
outside_other i l other = rw (le-ltb i memory_start l, ne_eqb (i / 256) 0x87 other) refl

pub outside_font : (i n : ℕ) → is_in_font i n ≡ true → outside_cycles i ≡ 26
outside_font i n h =
    let p = and_parts (nat_le font_start i) (nat_le (i + n) font_end) h in
    outside_page i (omega (arith, leb-true font_start i p.0, leb-true (i + n) font_end p.1))

-- ---- the fetch

pub stop_low : (e : Edition) (s : Lang) → s.pc < memory_start → stop_cycles e s ≡ 32
stop_low e s l = rw (lt-leb memory_start s.pc l, lt-ltb s.pc memory_start l) refl

pub stop_high : (e : Edition) (s : Lang) → memory_start ≤ s.pc → memory_end e < s.pc + 2 → stop_cycles e s ≡ 42
stop_high e s l m = rw (le-leb memory_start s.pc l, lt-leb (s.pc + 2) (memory_end e) m, le-ltb s.pc memory_start l) refl

-- ---- DXYN

pub aim_none : (e : Edition) (s : Lang) → asked s ≡ 0 → aim_time e s ≡ 0
aim_none e s n = rw (eq-eqb (asked s) 0 n) refl

pub aim_game : (e : Edition) (s : Lang) → 0 < asked s → is_in_memory e s.i (asked s) ≡ true → aim_time e s ≡ 50
aim_game e s some inside = rw (ne_eqb (asked s) 0 (λ z. omega (arith, z, some)), inside) refl

pub aim_font : (e : Edition) (s : Lang) → 0 < asked s → is_in_memory e s.i (asked s) ≡ false → aim_time e s ≡ 64
aim_font e s some outside = rw (ne_eqb (asked s) 0 (λ z. omega (arith, z, some)), outside) refl

pub edge_none : (e : Edition) (s : Lang) → asked s < rows_of e - top e s → edge_time e s ≡ 0
edge_none e s l = rw (lt-ltb (asked s) (rows_of e - top e s) l) refl

pub edge_some : (e : Edition) (s : Lang) → rows_of e - top e s ≤ asked s → edge_time e s ≡ 8
edge_some e s l = rw (le-ltb (asked s) (rows_of e - top e s) l) refl

-- a row, and one more
pub row_last : (s : Lang) → column s / 8 ≡ 7 → row_cycles (column s) ≡ 38 + 12 * (column s % 8)
row_last s l = rw (eq-eqb (column s / 8) 7 l) (omega arith)

pub row_other : (s : Lang) → (column s / 8 ≡ 7 → ⊥) → row_cycles (column s) ≡ 40 + 12 * (column s % 8)
row_other s d = rw (ne_eqb (column s / 8) 7 d) (omega arith)

pub rows_next : (s : Lang) (r : ℕ) → rows_time s (r + 1) ≡ rows_time s r + row_cycles (column s)
rows_next s r = next r (row_cycles (column s))
  where
    next : (r n : ℕ) → (r + 1) * n ≡ r * n + n
    next r n = grind arith
