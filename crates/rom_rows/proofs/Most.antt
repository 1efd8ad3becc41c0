-- The most main cycles of a stop, of the range check, and of what 00E0 and DXYN do before they wait.
use Rattle.std.proofs.Common.{◌≡◌, ℕ, zero, suc, ◌+◌, ◌*◌, ◌/◌, ◌≤◌, arith, Bool, true, false, cond}
use Rattle.std.specs.Prelude.{◌==◌, nat_lt}
use Rattle.chip8_lang.specs.declared.instr.Instr.{Instr}
use Rattle.chip8_lang.specs.declared.instr.Instr.TheVariants.{Clear, Machine, Unknown, Call, Return, Draw, Decimal, Store, Fetch, SkipEq, SkipNe, SkipSame, SkipDiffer}
use Rattle.chip8_lang.specs.declared.view.Edition.{Edition}
use Rattle.chip8_lang.specs.Editions.{memory_start}
use Rattle.chip8_lang.specs.State.{Lang, memory_byte, is_in_memory, is_fetchable, instr_at}
use Rattle.chip8_lang.specs.Step.KeyInput.{Nothing}
use Rattle.chip8_lang.specs.Timed.{cycles, check_cycles, row_cycles, outside_cycles, stopped_cycles, stop_cycles}
use Rattle.rom_rows.specs.ArithBlocks.{has_shared_end}
use Rattle.rom_rows.specs.Checks.{Answer, answer_time}
use Rattle.rom_rows.specs.Checks.Answer.{InGame, InFont, Nowhere}
use Rattle.rom_rows.specs.SpriteBlocks.{column, asked, height, aim_time, edge_time, rows_time, draw_time}

-- the greater of two choices
either_most : (t : Bool) (a b m : ℕ) → a ≤ m → b ≤ m → cond t a b ≤ m
either_most true a b m l k = l
either_most false a b m l k = k

-- ---- stops

pub outside_most : (i : ℕ) → outside_cycles i ≤ 26
outside_most i = either_most (nat_lt i memory_start) 0 _ 26 (omega arith) (either_most (i / 256 == 0x87) 26 18 26 (omega arith) (omega arith))

pub answer_most : (answer : Answer) (i : ℕ) → answer_time answer i ≤ 46
answer_most InGame i = omega arith
answer_most InFont i = omega arith
answer_most Nowhere i = omega (arith, outside_most i)

stopped_most : (i : Instr) (s : Lang) → stopped_cycles i s ≤ 232
stopped_most (Machine a) s = either_most (memory_byte s s.pc == 0) 122 110 232 (omega arith) (omega arith)
stopped_most (Unknown opcode) s =
    either_most _ 112 _ 232 (omega arith) (either_most (memory_byte s s.pc / 16 == 15) 160 120 232 (omega arith) (omega arith))
stopped_most (Call a) s = omega arith
stopped_most Return s = omega arith
stopped_most (Draw x y n) s = omega (arith, outside_most s.i)
stopped_most (Decimal x) s = omega (arith, outside_most s.i)
stopped_most (Store x) s = omega (arith, outside_most s.i)
stopped_most (Fetch x) s = omega (arith, outside_most s.i)
stopped_most _ s = omega arith

pub stop_most : (e : Edition) (s : Lang) → stop_cycles e s ≤ 232
stop_most e s =
    either_most (is_fetchable e s) (stopped_cycles (instr_at s) s) _ 232 (stopped_most (instr_at s) s)
    (either_most (nat_lt s.pc memory_start) 32 42 232 (omega arith) (omega arith))

-- ---- instructions that share an end

skip_most : (t : Bool) (n m : ℕ) → n + 4 ≤ m → cond t (n + 4) n ≤ m
skip_most t n m l = either_most t (n + 4) n m l (omega (arith, l))

not_shared : false ≡ true → ⊥
not_shared k = cc

pub shared_most : (e : Edition) (i : Instr) (s : Lang) → has_shared_end i ≡ true → cycles e i Nothing s ≤ 146
shared_most e (SkipEq x k) s h = skip_most _ 90 146 (omega arith)
shared_most e (SkipNe x k) s h = skip_most _ 90 146 (omega arith)
shared_most e (SkipSame x y) s h = skip_most _ 96 146 (omega arith)
shared_most e (SkipDiffer x y) s h = skip_most _ 96 146 (omega arith)
shared_most e Clear s h = absurd (not_shared h)
shared_most e (Draw x y n) s h = absurd (not_shared h)
shared_most e (Decimal x) s h = absurd (not_shared h)
shared_most e (Store x) s h = absurd (not_shared h)
shared_most e (Fetch x) s h = absurd (not_shared h)
shared_most e _ s h = omega arith

-- ---- the range check, and DXYN

pub check_most : (e : Edition) (s : Lang) (n : ℕ) → check_cycles e s n ≤ 14
check_most e s n = either_most (is_in_memory e s.i n) 0 14 14 (omega arith) (omega arith)

pub aim_most : (e : Edition) (s : Lang) → aim_time e s ≤ 64
aim_most e s = either_most (asked s == 0) 0 _ 64 (omega arith) (omega (arith, check_most e s (asked s)))

pub edge_most : (e : Edition) (s : Lang) → edge_time e s ≤ 8
edge_most e s = either_most _ 0 8 8 (omega arith) (omega arith)

pub rows_most : (s : Lang) (r : ℕ) → rows_time s r ≤ 124 * r
rows_most s r = times r (row_cycles (column s)) (omega arith)
  where
    times : (r n : ℕ) → n ≤ 124 → r * n ≤ 124 * r
    times zero n l = omega arith
    times (suc r) n l = omega (arith, l, times r n l)

pub draw_most : (e : Edition) (s : Lang) → draw_time e s ≤ 2154
draw_most e s = omega (arith, aim_most e s, edge_most e s, rows_most s (height e s), few)
  where
    few : height e s ≤ 15
    few = omega arith
