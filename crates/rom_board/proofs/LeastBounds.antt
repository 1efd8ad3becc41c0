-- The least bounds hold, by arithmetic, and are taken, by computing the runs of games of `costs.txt` of `test_machine`.
use Rattle.std.proofs.Common.{◌≡◌, ℕ, zero, suc, ◌+◌, ◌-◌, ◌*◌, ◌/◌, ◌%◌, ◌<◌, ◌≤◌, refl, subst, arith, Bool, true, false, List, [], ◌∷◌, length, slice_index, slice_get, not, mul-le-mul, Option, Some, None}
use Rattle.std.specs.Prelude.{◌==◌, ◌||◌, if◌then◌else◌, nat_le, nat_lt}
use Rattle.std.specs.List.{list_all}
use Rattle.std.proofs.Math.Nat.{min-le_left}
use Rattle.std.proofs.lemmas.Bool.{and_parts, leb-true, ltb-true}
use Rattle.machine.specs.Keys.{Event}
use Rattle.machine.specs.Pictures.{interrupt_at, place, windows_ended}
use Rattle.chip8_lang.specs.declared.instr.Instr.{Instr}
use Rattle.chip8_lang.specs.declared.instr.Instr.TheVariants.{Clear, Return, Machine, Call, SkipEq, SkipNe, SkipSame, SkipDiffer, Draw, SkipDown, SkipUp, WaitKey, Decimal, Store, Fetch, Unknown}
use Rattle.chip8_lang.specs.declared.view.Edition.{Edition}
use Rattle.chip8_lang.specs.declared.view.Edition.TheVariants.{Usual, Tall}
use Rattle.chip8_lang.specs.declared.view.Stop.{Stop}
use Rattle.chip8_lang.specs.Decode.{arithmetic, instr_of_bytes, transfer}
use Rattle.chip8_lang.specs.Editions.{rows_of}
use Rattle.chip8_lang.specs.State.{Lang, memory_size, instr_at, is_fetchable, is_in_memory, memory_byte, variable}
use Rattle.chip8_lang.specs.Step.{stop_of}
use Rattle.chip8_lang.specs.Step.KeyInput.{Nothing}
use Rattle.chip8_lang.specs.Timed.{Next, after_instr, asked_cycles, before_wait, behind_wait, by_stop, check_cycles, cycles, edge_cycles, ended, interrupts, later, next_point, outside_cycles, row_cycles, rows_shown, shown_behind, skip_cycles, stop_cycles, stopped_cycles, timed_run, to_interrupt, unknown_cycles, woken}
use Rattle.rom_board.specs.LeastBounds.{CanBe, ComesIn, EveryBound, EveryTaken, IsTaken, Line, TakesAt, least, least_clear, line_by, line_of_instr}
use Rattle.rom_board.specs.LeastBounds.Line.{ClearLine, DrawLine, DecimalLine, StoreLine, FetchLine, OtherLine, StopLine}
use Rattle.rom_law.proofs.Places.{few_rows}

-- ---- cycles

-- in less main cycles than lie between two interrupts one comes at most
pub once : (t k : ℕ) → k < 1822 → later t k ≤ t + k + 1846
once t k l = omega (arith, l)

-- one that comes in cycle u or later has been served by then
served : (u m : ℕ) → u ≤ interrupt_at m → woken u ≤ interrupt_at m + 1846
served u m l = omega (arith, l)

returned : (u : ℕ) → place (woken u) ≡ 2938
returned u = omega arith

soon : (t k : ℕ) → place t ≡ 2938 → k < 1822 → later t k ≡ t + k
soon t k r l = omega (arith, r, l)

-- The first interrupt in cycle t or later is d cycles away, an even number where t is one.
abbrev first_interrupt : ℕ → ℕ
first_interrupt t = (t + 2575) / 3668

away : (t : ℕ) → interrupt_at (first_interrupt t) ≡ t + to_interrupt t
away t = omega arith

even_away : (t : ℕ) → t % 2 ≡ 0 → to_interrupt t % 2 ≡ 0
even_away t e = omega (arith, e)

-- with q interrupts before p main cycles are over
d_most : (d p : ℕ) → d % 2 ≡ 0 → d < 3668 → p ≤ 2154 → d + 3668 * ((1822 + (p - 1) - d) / 1822) ≤ 7666
d_most d p e l m = omega (arith, e, l, m)

d_clear : (d : ℕ) → d % 2 ≡ 0 → d < 3668 → d + 3668 * ((1822 + 101 - d) / 1822) ≤ 3768
d_clear d e l = omega (arith, e, l)

-- where p main cycles are over before the interrupt that ends the wait
over_by : (t d p q : ℕ) → 0 < p → q ≡ (1822 + (p - 1) - d) / 1822 → t + (p - 1) + 1846 * q + 1 ≤ t + d + 3668 * q
over_by t d p q l is = omega (arith, l, is)

woken_by : (t p : ℕ) → 0 < p → woken (ended t p) ≤ t + to_interrupt t + 3668 * interrupts t (p - 1) + 1846
woken_by t p l =
    omega (
      arith,
      served (ended t p) (first_interrupt t + interrupts t (p - 1))
          (omega (arith, over_by t (to_interrupt t) p (interrupts t (p - 1)) l refl, away t)),
      away t,
    )

below_frame : (t : ℕ) → to_interrupt t < 3668
below_frame t = omega arith

-- p main cycles before the wait, and q behind it
waits_by : (t p q m : ℕ) → 0 < p → q < 1822 → to_interrupt t + 3668 * interrupts t (p - 1) ≤ m → later (woken (ended t p)) q ≤ t + (m + 1846 + q)
waits_by t p q m l k by = omega (arith, soon (woken (ended t p)) q (returned (ended t p)) k, woken_by t p l, by)

-- ---- instructions

if_most : (c : Bool) (a b m : ℕ) → a ≤ m → b ≤ m → (if c then a else b) ≤ m
if_most true a b m l k = l
if_most false a b m l k = k

check_most : (e : Edition) (s : Lang) (n : ℕ) → check_cycles e s n ≤ 14
check_most e s n = if_most (is_in_memory e s.i n) 0 14 14 (omega arith) (omega arith)

asked_most : (e : Edition) (s : Lang) (n : ℕ) → asked_cycles e s n ≤ 64
asked_most e s n = if_most (n == 0) 0 (50 + check_cycles e s n) 64 (omega arith) (omega (arith, check_most e s n))

edge_most : (e : Edition) (y0 n : ℕ) → edge_cycles e y0 n ≤ 8
edge_most e y0 n = if_most (nat_lt n (rows_of e - y0)) 0 8 8 (omega arith) (omega arith)

row_most : (x0 : ℕ) → row_cycles x0 ≤ 124
row_most x0 = omega arith

rows_most : (e : Edition) (y0 n : ℕ) → n < 16 → rows_shown e y0 n ≤ 15
rows_most e y0 n l = omega (arith, min-le_left n (rows_of e - y0), l)

product_most : (a m b n : ℕ) → a ≤ m → b ≤ n → a * b ≤ m * n
product_most a m b n l k = mul-le-mul l k

draw_most : (e : Edition) (x y n : ℕ) (s : Lang) → n < 16 → before_wait e (Draw x y n) s ≤ 2154
draw_most e x y n s l =
    omega (
      arith,
      asked_most e s n,
      edge_most e (variable s y % rows_of e) n,
      product_most (rows_shown e (variable s y % rows_of e) n) 15 (row_cycles (variable s x % 64)) 124 (rows_most e (variable s y % rows_of e) n l) (row_most (variable s x % 64)),
    )

digits_most : (v : ℕ) → v < 256 → v / 100 + v / 10 % 10 ≤ 10
digits_most v l = omega (arith, l)

skipped : (t n : ℕ) (b : Bool) → n ≤ 142 → later t (skip_cycles n b) ≤ t + 1992
skipped t n true l = omega (arith, l)
skipped t n false l = omega (arith, l)

clear_is : (e : Edition) → least_clear e ≡ 3768 + 1846 + (2 + 24 * rows_of e)
clear_is Usual = refl
clear_is Tall = refl

-- ---- operands

-- X and N are digits
abbrev Small : Instr → Type 0
Small (Draw x y n) = n < 16
Small (Store x) = x < 16
Small (Fetch x) = x < 16
Small _ = Unit {0}

either : (c : Bool) (i j : Instr) → Small i → Small j → Small (if c then i else j)
either true i j a b = a
either false i j a b = b

digit : (n : ℕ) → n % 16 < 16
digit n = omega arith

arithmetic_small : (n x y opcode : ℕ) → Small (arithmetic n x y opcode)
arithmetic_small n x y opcode =
    either (n == 0) _ _ tt (either (n == 1) _ _ tt (either (n == 2) _ _ tt (either (n == 3) _ _ tt (either (n == 4) _ _ tt (either (n == 5) _ _ tt
    (either (n == 6) _ _ tt (either (n == 7) _ _ tt (either (n == 0xe) _ _ tt tt))))))))

transfer_small : (kk x opcode : ℕ) → x < 16 → Small (transfer kk x opcode)
transfer_small kk x opcode l =
    either (kk == 0x07) _ _ tt (either (kk == 0x0a) _ _ tt (either (kk == 0x15) _ _ tt (either (kk == 0x18) _ _ tt (either (kk == 0x1e) _ _ tt
    (either (kk == 0x29) _ _ tt (either (kk == 0x33) _ _ tt (either (kk == 0x55) _ _ l (either (kk == 0x65) _ _ l tt))))))))

small : (high kk : ℕ) → Small (instr_of_bytes high kk)
small high kk =
    either (high / 16 == 0) _ _ (either (high % 16 * 256 + kk == 0x0e0) _ _ tt (either (high % 16 * 256 + kk == 0x0ee) _ _ tt tt))
    (either (high / 16 == 1) _ _ tt (either (high / 16 == 2) _ _ tt (either (high / 16 == 3) _ _ tt (either (high / 16 == 4) _ _ tt
    (either (high / 16 == 5) _ _ (either (kk % 16 == 0) _ _ tt tt) (either (high / 16 == 6) _ _ tt (either (high / 16 == 7) _ _ tt
    (either (high / 16 == 8) _ _ (arithmetic_small (kk % 16) (high % 16) (kk / 16) (high * 256 + kk))
    (either (high / 16 == 9) _ _ (either (kk % 16 == 0) _ _ tt tt) (either (high / 16 == 0xa) _ _ tt (either (high / 16 == 0xb) _ _ tt
    (either (high / 16 == 0xc) _ _ tt (either (high / 16 == 0xd) _ _ (digit kk)
    (either (high / 16 == 0xe) _ _ (either (kk == 0x9e) _ _ tt (either (kk == 0xa1) _ _ tt tt))
    (transfer_small kk (high % 16) (high * 256 + kk) (digit high))))))))))))))))

-- ---- stops

outside_most : (i : ℕ) → outside_cycles i ≤ 26
outside_most i =
    if_most (nat_lt i 0x200) 0 (if i / 256 == 0x87 then 26 else 18) 26 (omega arith) (if_most (i / 256 == 0x87) 26 18 26 (omega arith) (omega arith))

unknown_most : (digit : ℕ) → unknown_cycles digit ≤ 160
unknown_most n =
    if_most (n == 5 || n == 9) 112 (if n == 15 then 160 else 120) 160 (omega arith) (if_most (n == 15) 160 120 160 (omega arith) (omega arith))

stopped_most : (i : Instr) (s : Lang) → stopped_cycles i s ≤ 232
stopped_most (Machine a) s = if_most (memory_byte s s.pc == 0) 122 110 232 (omega arith) (omega arith)
stopped_most (Unknown opcode) s = omega (arith, unknown_most (memory_byte s s.pc / 16))
stopped_most (Call a) s = omega arith
stopped_most Return s = omega arith
stopped_most (Decimal x) s = omega (arith, outside_most s.i)
stopped_most (Store x) s = omega (arith, outside_most s.i)
stopped_most (Fetch x) s = omega (arith, outside_most s.i)
stopped_most (Draw x y n) s = omega (arith, outside_most s.i)
stopped_most _ s = omega arith

stop_most : (e : Edition) (s : Lang) → stop_cycles e s ≤ 232
stop_most e s =
    if_most (is_fetchable e s) (stopped_cycles (instr_at s) s) (if nat_lt s.pc 0x200 then 32 else 42) 232 (stopped_most (instr_at s) s)
    (if_most (nat_lt s.pc 0x200) 32 42 232 (omega arith) (omega arith))

-- ---- the bounds

abbrev Within : Edition → ℕ → Option Line → Next → Type 0
Within e t (Some line) n = ComesIn (λ c. c ≤ t + least e line) n
Within e t None n = Unit {0}

module _ (e : Edition) (script : List Event) (limit : ℕ) where
  after : (i : Instr) (t : ℕ) (s : Lang) → CanBe t s → i ≡ instr_at s → Small i → Within e t (line_of_instr i) (after_instr e script limit i t s)
  after Clear t s can is l =
      subst (λ i. later (woken (ended t (before_wait e i s))) (behind_wait e i s) ≤ t + least_clear e) is
      (omega (
        arith,
        waits_by t 102 (2 + 24 * rows_of e) 3768 (omega arith) (omega (arith, few_rows e))
            (d_clear (to_interrupt t) (even_away t can.even) (below_frame t)),
        clear_is e,
      ))
  after (Draw x y n) t s can is l =
      subst (λ i. later (woken (ended t (before_wait e i s))) (behind_wait e i s) ≤ t + 10406) is
      (omega (
        arith,
        waits_by t (before_wait e (Draw x y n) s) (behind_wait e (Draw x y n) s) 7666 (omega arith)
            (omega (arith, rows_most e (variable s y % rows_of e) n l))
            (d_most (to_interrupt t) (before_wait e (Draw x y n) s) (even_away t can.even) (below_frame t) (draw_most e x y n s l)),
        rows_most e (variable s y % rows_of e) n l,
      ))
  after (SkipEq x k) t s can is l = skipped t 90 (variable s x == k) (omega arith)
  after (SkipNe x k) t s can is l = skipped t 90 (not (variable s x == k)) (omega arith)
  after (SkipSame x y) t s can is l = skipped t 96 (variable s x == variable s y) (omega arith)
  after (SkipDiffer x y) t s can is l = skipped t 96 (not (variable s x == variable s y)) (omega arith)
  after (SkipDown x) t s can is l = skipped t 94 _ (omega arith)
  after (SkipUp x) t s can is l = skipped t 100 _ (omega arith)
  after (WaitKey x) t s can is l = tt
  after (Decimal x) t s can is l =
      omega (arith, once t (cycles e (Decimal x) Nothing s) (omega (arith, digits_most (variable s x) (can.bytes x))), digits_most (variable s x) (can.bytes x))
  after (Store x) t s can is l = omega (arith, once t (206 + 12 * x) (omega (arith, l)), l)
  after (Fetch x) t s can is l =
      omega (arith, once t (cycles e (Fetch x) Nothing s) (omega (arith, l, check_most e s (x + 1))), l, check_most e s (x + 1))
  after _ t s can is l = omega arith

  within : (o : Option Stop) (t : ℕ) (s : Lang) → CanBe t s → Within e t (line_by o (instr_at s)) (by_stop e script limit o t s)
  within (Some stop) t s can = omega (arith, once t (stop_cycles e s) (omega (arith, stop_most e s)), stop_most e s)
  within None t s can = after (instr_at s) t s can refl (small (memory_byte s s.pc) (memory_byte s (s.pc + 1)))

pub every_bound : EveryBound
every_bound e line script limit t s can is = subst (λ o. Within e t o (next_point e script limit t s)) is (within e script limit (stop_of e s) t s can)

-- ---- the games

-- so many 6E00 and 7E00 before other opcodes
abbrev pub loads : ℕ → List ℕ → List ℕ
loads zero game = game
loads (suc n) game = 0x6e ∷ 0x00 ∷ loads n game

abbrev adds : ℕ → List ℕ → List ℕ
adds zero game = game
adds (suc n) game = 0x7e ∷ 0x00 ∷ adds n game

abbrev game_of : Line → List ℕ
game_of ClearLine = loads 8 (adds 23 (0x00 ∷ 0xe0 ∷ []))
game_of DrawLine =
    0x6d ∷ 0x00 ∷ 0xfd ∷ 0x29 ∷ 0xfd ∷ 0x1e ∷ 0x60 ∷ 0x07 ∷ 0x61 ∷ 0x31 ∷ loads 1 (adds 1 (0xd0 ∷ 0x1f ∷ []))
game_of DecimalLine = 0x6d ∷ 0xc7 ∷ 0xac ∷ 0x00 ∷ loads 7 (0xfd ∷ 0x33 ∷ [])
game_of StoreLine = 0xac ∷ 0x00 ∷ loads 7 (0xff ∷ 0x55 ∷ [])
game_of FetchLine = 0x6d ∷ 0x00 ∷ 0xfd ∷ 0x29 ∷ loads 5 (0xff ∷ 0x65 ∷ [])
game_of OtherLine = 0x6d ∷ 0xff ∷ loads 10 (0xfd ∷ 0x29 ∷ [])
game_of StopLine = 0x6d ∷ 0x0d ∷ 0xfd ∷ 0x29 ∷ loads 7 (0xff ∷ 0x65 ∷ [])

pub bytes_of : (xs : List ℕ) → list_all (λ x. nat_lt x 256) xs ≡ true → (i : ℕ) → slice_index xs i < 256
bytes_of [] test zero = omega arith
bytes_of [] test (suc i) = omega arith
bytes_of (x ∷ xs) test zero = ltb-true x 256 (and_parts (nat_lt x 256) (list_all (λ y. nat_lt y 256) xs) test).0
bytes_of (x ∷ xs) test (suc i) = bytes_of xs (and_parts (nat_lt x 256) (list_all (λ y. nat_lt y 256) xs) test).1 i

by_game : (e : Edition) (line : Line) (k : ℕ) → list_all (λ x. nat_lt x 256) (game_of line) ≡ true → nat_le (length (game_of line)) (memory_size e) ≡ true
    → TakesAt e [] 6000 line (least e line) (slice_get (timed_run e [] 6000 (game_of line)) k)
    → IsTaken e line (least e line)
by_game e line k are fits takes =
    record {
      game = game_of line;
      small = leb-true (length (game_of line)) (memory_size e) fits;
      bytes = bytes_of (game_of line) are;
      script = [];
      limit = 6000;
      k = k;
      takes = takes;
    }

pub every_taken : EveryTaken
unfolding shown_behind windows_ended
every_taken Usual ClearLine = by_game Usual ClearLine 32 refl refl (refl, refl)
every_taken Usual DrawLine = by_game Usual DrawLine 7 refl refl (refl, refl)
every_taken Usual DecimalLine = by_game Usual DecimalLine 9 refl refl (refl, refl)
every_taken Usual StoreLine = by_game Usual StoreLine 8 refl refl (refl, refl)
every_taken Usual FetchLine = by_game Usual FetchLine 7 refl refl (refl, refl)
every_taken Usual OtherLine = by_game Usual OtherLine 11 refl refl (refl, refl)
every_taken Usual StopLine = by_game Usual StopLine 9 refl refl (refl, refl)
every_taken Tall ClearLine = by_game Tall ClearLine 32 refl refl (refl, refl)
every_taken Tall DrawLine = by_game Tall DrawLine 7 refl refl (refl, refl)
every_taken Tall DecimalLine = by_game Tall DecimalLine 9 refl refl (refl, refl)
every_taken Tall StoreLine = by_game Tall StoreLine 8 refl refl (refl, refl)
every_taken Tall FetchLine = by_game Tall FetchLine 7 refl refl (refl, refl)
every_taken Tall OtherLine = by_game Tall OtherLine 11 refl refl (refl, refl)
every_taken Tall StopLine = by_game Tall StopLine 9 refl refl (refl, refl)
