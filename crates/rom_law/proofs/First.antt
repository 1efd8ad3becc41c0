-- A game's first state lies in RAM as it is at the start.
use Rattle.std.proofs.Common.{◌≡◌, ℕ, zero, suc, ◌+◌, ◌-◌, ◌*◌, ◌/◌, ◌%◌, ◌<◌, ◌≤◌, List, [], ◌++◌, refl, sym, ◌∙◌, ap, arith, lit<, Bool, true, false, ◌⊎◌, inl, inr, ◌&&◌, slice_index, slice_range, length, drop, replicate, length-drop, get_or-drop, nat_lt}
use Rattle.std.proofs.lemmas.Bool.{cases_lt}
use Rattle.std.proofs.lemmas.Nat.Bits.{bit_at-zero}
use Rattle.std.proofs.lemmas.List.{ext_get_or, get_or_past, get_or-replicate, length-replicate, length-append, get_or_append_left, get_or-append_right}
use Rattle.machine.specs.Bank.{value, word}
use Rattle.machine.specs.Board.{Machine, start}
use Rattle.machine.specs.Keys.{Keys}
use Rattle.machine.specs.Run.{after_moves}
use Rattle.machine.specs.Ranges.{FitsMachine, FitsRom}
use Rattle.chip8_lang.specs.declared.view.Edition.{Edition}
use Rattle.chip8_lang.specs.Editions.{memory_start, memory_end, stack_top, variables, screen_start, rows_of, random_cell}
use Rattle.chip8_lang.specs.Screen.{is_set, empty}
use Rattle.chip8_lang.specs.State.{first, memory_size}
use Rattle.chip8_lang.specs.Places.{Lies, state_of, pixels, addresses}
use Rattle.machine.proofs.Fits.{move-fits, reset-fits}
use Rattle.rom_law.proofs.Places.{depth, range_get, range_length, stack_below, variables_below, screen_below, stack_room, memory_most}

-- ---- lists of zeros

abbrev zeros : ℕ → List ℕ
zeros n = replicate n 0

zeros_length : (n : ℕ) → length (zeros n) ≡ n
zeros_length n = length-replicate n zero

zeros_at : (n i : ℕ) → slice_index (zeros n) i ≡ 0
zeros_at n i = go (cases_lt i n)
  where
    go : (i < n) ⊎ (n ≤ i) → slice_index (zeros n) i ≡ 0
    go (inl l) = get_or-replicate n i zero zero l
    go (inr l) = get_or_past (zeros n) i 0 (omega (arith, l, zeros_length n))

-- a game after m zeros, in n bytes
module _ (n m : ℕ) (game : List ℕ) where
  abbrev ram : List ℕ
  ram = zeros m ++ game ++ drop (m + length game) (zeros n)

  front : length (zeros m ++ game) ≡ m + length game
  front = length-append (zeros m) game ∙ ap (λ k. k + length game) (zeros_length m)

  behind : length (drop (m + length game) (zeros n)) ≡ n - (m + length game)
  behind = length-drop (m + length game) (zeros n) ∙ ap (λ k. k - (m + length game)) (zeros_length n)

  ram_length : m + length game ≤ n → length ram ≡ n
  ram_length l = omega (arith, l, length-append (zeros m ++ game) (drop (m + length game) (zeros n)), front, behind)

  ram_before : (a : ℕ) → a < m → slice_index ram a ≡ 0
  ram_before a l =
      get_or_append_left (zeros m ++ game) (drop (m + length game) (zeros n)) 0 a (omega (arith, l, front))
      ∙ get_or_append_left (zeros m) game 0 a (omega (arith, l, zeros_length m)) ∙ zeros_at m a

  ram_inside : (a : ℕ) → m ≤ a → a < m + length game → slice_index ram a ≡ slice_index game (a - m)
  ram_inside a l k =
      get_or_append_left (zeros m ++ game) (drop (m + length game) (zeros n)) 0 a (omega (arith, k, front))
      ∙ get_or-append_right (zeros m) game m a 0 (zeros_length m) l

  ram_after : (a : ℕ) → m + length game ≤ a → slice_index ram a ≡ 0
  ram_after a l =
      get_or-append_right (zeros m ++ game) (drop (m + length game) (zeros n)) (m + length game) a 0 front l
      ∙ get_or-drop (m + length game) (zeros n) (a - (m + length game)) 0 ∙ zeros_at n _

  -- the game, and zeros after it
  ram_game : (k i : ℕ) → slice_index ram (m + i) ≡ slice_index (game ++ zeros k) i
  ram_game k i = go (cases_lt i (length game))
    where
      same : m + i - m ≡ i
      same = omega arith

      go : (i < length game) ⊎ (length game ≤ i) → slice_index ram (m + i) ≡ slice_index (game ++ zeros k) i
      go (inl l) = ram_inside (m + i) (omega arith) (omega (arith, l)) ∙ ap (slice_index game) same ∙ sym (get_or_append_left game (zeros k) 0 i l)
      go (inr l) = ram_after (m + i) (omega (arith, l)) ∙ sym (get_or-append_right game (zeros k) (length game) i 0 refl l ∙ zeros_at k _)

  ram_fits : ((i : ℕ) → slice_index game i < 256) → (a : ℕ) → slice_index ram a < 256
  ram_fits f a = go (cases_lt a m) (cases_lt a (m + length game))
    where
      go : (a < m) ⊎ (m ≤ a) → (a < m + length game) ⊎ (m + length game ≤ a) → slice_index ram a < 256
      go (inl l) k = rw (ram_before a l) (lit< tt)
      go (inr l) (inl k) = rw (ram_inside a l k) (f (a - m))
      go (inr l) (inr k) = rw (ram_after a k) (lit< tt)

range_zero : (a z : ℕ) (l : List ℕ) → z ≤ length l → ((i : ℕ) → a ≤ i → slice_index l i ≡ 0) → slice_range l a z ≡ zeros (z - a)
range_zero a z l fits h =
    ext_get_or 0 _ _ (range_length a z l fits ∙ sym (zeros_length (z - a)))
    (λ i k. range_get a z l i (omega (arith, k, range_length a z l fits)) ∙ h (a + i) (omega arith) ∙ sym (zeros_at (z - a) i))

-- no pixel is lit in a screen of zeros
dark : (rows n : ℕ) → pixels rows (zeros n) ≡ empty
dark rows n = λ i x y. off (nat_lt x 64 && nat_lt y rows) (zeros_at n (8 * y + x / 8)) (7 - x % 8) i
  where
    none : (t : Bool) → (t && false) ≡ false
    none true = refl
    none false = refl

    off : (t : Bool) {b : ℕ} → b ≡ 0 → (k : ℕ) → (t && is_set b k) ≡ false
    off t e k = rw (e, bit_at-zero k) (none t)

-- ---- the first state

module _ (e : Edition) (game : List ℕ) (room : length game ≤ memory_size e) where
  size : length (ram 0x1000 0x200 game) ≡ 0x1000
  size = ram_length 0x1000 0x200 game (omega (arith, room, memory_most e, variables_below e, screen_below e, stack_below e, stack_room e))

  beyond : (i : ℕ) → variables e ≤ i → slice_index (ram 0x1000 0x200 game) i ≡ 0
  beyond i l = ram_after 0x1000 0x200 game i (omega (arith, l, room, memory_most e, stack_below e, stack_room e))

  v_first : slice_range (ram 0x1000 0x200 game) (variables e) (variables e + 16) ≡ zeros 16
  v_first = range_zero (variables e) (variables e + 16) (ram 0x1000 0x200 game) (omega (arith, size, variables_below e, screen_below e)) beyond ∙ ap zeros same
    where
      same : variables e + 16 - variables e ≡ 16
      same = omega arith

  screen_first : pixels (rows_of e) (slice_range (ram 0x1000 0x200 game) (screen_start e) 0x1000) ≡ empty
  screen_first =
      ap (pixels (rows_of e)) (range_zero (screen_start e) 0x1000 (ram 0x1000 0x200 game) (omega (arith, size))
      (λ i l. beyond i (omega (arith, l, variables_below e)))) ∙ dark (rows_of e) (0x1000 - screen_start e)

  memory_first : slice_range (ram 0x1000 0x200 game) memory_start (memory_end e) ≡ game ++ zeros (memory_size e - length game)
  memory_first =
      ext_get_or 0 _ _ lengths (λ i k. range_get memory_start (memory_end e) (ram 0x1000 0x200 game) i (omega (arith, k, long))
      ∙ ram_game 0x1000 0x200 game (memory_size e - length game) i)
    where
      long : length (slice_range (ram 0x1000 0x200 game) memory_start (memory_end e)) ≡ memory_end e - memory_start
      long =
          range_length memory_start (memory_end e) (ram 0x1000 0x200 game)
          (omega (arith, size, variables_below e, screen_below e, stack_below e, stack_room e))

      lengths : length (slice_range (ram 0x1000 0x200 game) memory_start (memory_end e)) ≡ length (game ++ zeros (memory_size e - length game))
      lengths = omega (arith, long, length-append game (zeros (memory_size e - length game)), zeros_length (memory_size e - length game), room)

  random_first : slice_index (ram 0x1000 0x200 game) random_cell ≡ 0
  random_first = ram_before 0x1000 0x200 game random_cell (lit< tt)

  -- After boot the first state lies in the machine: RAM is as it was at the start, R5 is 0200 and R2 the top of the stack, and the
  -- timers, R9, I and Q are 0.
  pub first_lies : (b : Machine) → b.ram ≡ (start game).ram → value b.regs.r.r5 ≡ memory_start → value b.regs.r.r2 ≡ stack_top e
      → value b.regs.r.ra ≡ 0 → b.regs.r.r8 ≡ word 0 0 → value b.regs.r.r9 ≡ 0 → b.regs.q ≡ false → b.latch ≡ false → b.regs.ie ≡ true
      → b.regs.idle ≡ false → Lies e b (first e game)
  unfolding state_of
  first_lies b old pc r2 i r8 n q latch ie idle =
      record {
        is =
            λ j. record {
              v = v_is j;
              i = i j;
              pc = pc j;
              stack = stack_is j;
              memory = memory_is j;
              dt = (r8 j).hi;
              st = (r8 j).lo;
              tone = q j;
              n = n j;
              b = random_is j;
              screen = screen_is j;
            };
        stack = omega (arith, r2);
        latch = latch;
        enabled = ie;
        awake = idle;
      }
    where
      v_is : slice_range b.ram (variables e) (variables e + 16) ≡ zeros 16
      v_is = ap (λ l. slice_range l (variables e) (variables e + 16)) old ∙ v_first

      memory_is : slice_range b.ram memory_start (memory_end e) ≡ game ++ zeros (memory_size e - length game)
      memory_is = ap (λ l. slice_range l memory_start (memory_end e)) old ∙ memory_first

      random_is : slice_index b.ram random_cell ≡ 0
      random_is = ap (λ l. slice_index l random_cell) old ∙ random_first

      screen_is : pixels (rows_of e) (slice_range b.ram (screen_start e) 0x1000) ≡ empty
      screen_is = ap (λ l. pixels (rows_of e) (slice_range l (screen_start e) 0x1000)) old ∙ screen_first

      depth_is : depth e (value b.regs.r.r2) ≡ 0
      depth_is = omega (arith, r2)

      stack_is : addresses b.ram (stack_top e) (depth e (value b.regs.r.r2)) ≡ []
      stack_is = ap (addresses b.ram (stack_top e)) depth_is

-- ---- the ranges along a run

pub start_fits : (game : List ℕ) → length game ≤ 0xe00 → ((i : ℕ) → slice_index game i < 256) → FitsMachine (start game)
start_fits game room bytes =
    record {
      regs = reset-fits.regs;
      ram = ram_fits 0x1000 0x200 game bytes;
      size = ram_length 0x1000 0x200 game (omega (arith, room));
      key = reset-fits.key;
    }

pub moves_fit : (rom : List ℕ) → FitsRom rom → (held : ℕ → Keys) (b : Machine) → FitsMachine b → (n : ℕ) → FitsMachine (after_moves rom held b n)
moves_fit rom r held b f zero = f
moves_fit rom r held b f (suc n) = move-fits rom held r (after_moves rom held b n) (moves_fit rom r held b f n)
