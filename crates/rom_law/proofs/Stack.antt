-- The stack of the language is that of the 1802: a call pushes an address, and a return takes it off.
use Rattle.std.proofs.Common.{◌≡◌, ℕ, zero, suc, ◌+◌, ◌-◌, ◌*◌, ◌<◌, ◌≤◌, List, [], ◌∷◌, ◌++◌, refl, sym, ◌∙◌, ap, ap₂, subst, arith, ◌⊎◌, inl, inr, slice_set, slice_index, slice_range, length, take, length-set, get_or-set_same, get_or-set_other}
use Rattle.std.proofs.lemmas.List.{length-append}
use Rattle.machine.specs.Bank.{value, up, down}
use Rattle.machine.specs.Memory.{read, written}
use Rattle.machine.specs.Ranges.{FitsWord}
use Rattle.chip8_lang.specs.declared.view.Edition.{Edition}
use Rattle.chip8_lang.specs.Editions.{memory_start, memory_end, stack_top, variables, screen_start, rows_of, random_cell}
use Rattle.chip8_lang.specs.State.{Lang}
use Rattle.chip8_lang.specs.Places.{pixels, addresses, most_addresses}
use Rattle.rom_law.proofs.Moves.{written_is}
use Rattle.rom_law.specs.Program.{Program}
use Rattle.rom_law.proofs.Places.{changed, Places, Holding, depth, lies_in, range_past, addresses_same, addresses_length, stack_below, variables_below, screen_below, memory_above, stack_room, stack_length, stack_most, read_is}

-- one address more lies behind the others
pub addresses_more : (n low : ℕ) (ram : List ℕ) → 2 * n ≤ low
    → addresses ram low (suc n) ≡ addresses ram low n ++ (slice_index ram (low - 2 * n - 1) * 256 + slice_index ram (low - 2 * n)) ∷ []
addresses_more zero low ram room = ap₂ (λ a b. (slice_index ram a * 256 + slice_index ram b) ∷ []) high lower
  where
    high : low - 1 ≡ low - 2 * 0 - 1
    high = omega arith

    lower : low ≡ low - 2 * 0
    lower = omega arith
addresses_more (suc n) low ram room =
    ap (λ l. (slice_index ram (low - 1) * 256 + slice_index ram low) ∷ l)
    (addresses_more n (low - 2) ram (omega arith)
    ∙ ap₂ (λ a b. addresses ram (low - 2) n ++ (slice_index ram a * 256 + slice_index ram b) ∷ []) high lower)
  where
    high : low - 2 - 2 * n - 1 ≡ low - 2 * suc n - 1
    high = omega arith

    lower : low - 2 - 2 * n ≡ low - 2 * suc n
    lower = omega arith

take_all_but : (l : List ℕ) (y : ℕ) → take (length l) (l ++ y ∷ []) ≡ l
take_all_but [] y = refl
take_all_but (z ∷ l) y = ap (λ m. z ∷ m) (take_all_but l y)

last_is : (l : List ℕ) (y : ℕ) → slice_index (l ++ y ∷ []) (length l) ≡ y
last_is [] y = refl
last_is (z ∷ l) y = last_is l y

-- ---- a push: the low byte at R2, and the high byte below

module _ {x : Program} {p : Places} {s : Lang} (h : Holding x p s) (f : FitsWord p.r2) (room : length s.stack < most_addresses) (high low : ℕ) where
  abbrev e : Edition
  e = x.edition

  abbrev r2 : ℕ
  r2 = value p.r2

  abbrev d : ℕ
  d = length s.stack

  lower : value (down p.r2) ≡ r2 - 1
  lower = omega (arith, f.hi, f.lo, h.stack, stack_room e)

  lowest : value (down (down p.r2)) ≡ r2 - 2
  lowest = omega (arith, f.hi, f.lo, h.stack, stack_room e)

  above : memory_end e + 2 ≤ r2
  above = omega (arith, h.stack, stack_room e, room)

  small : r2 < 4096
  small = omega (arith, h.stack, stack_below e, variables_below e, screen_below e)

  abbrev pushed : List ℕ
  pushed = slice_set (slice_set p.ram r2 low) (r2 - 1) high

  is_pushed : written p.latch (written p.latch p.ram r2 low) (value (down p.r2)) high ≡ pushed
  is_pushed = rw (h.latch, lower, written_is p.ram r2 low small) (written_is (slice_set p.ram r2 low) (r2 - 1) high (omega (arith, small)))

  pushed_size : length pushed ≡ 0x1000
  pushed_size = length-set (slice_set p.ram r2 low) (r2 - 1) high ∙ length-set p.ram r2 low ∙ h.size

  at_low : slice_index pushed r2 ≡ low
  at_low =
      get_or-set_other (slice_set p.ram r2 low) (r2 - 1) r2 high 0 (λ k. omega (arith, k, above))
      ∙ get_or-set_same p.ram r2 low 0 (omega (arith, small, h.size))

  at_high : slice_index pushed (r2 - 1) ≡ high
  at_high = get_or-set_same (slice_set p.ram r2 low) (r2 - 1) high 0 (omega (arith, small, h.size, length-set p.ram r2 low))

  elsewhere : (a : ℕ) → (a < r2 - 1) ⊎ (r2 < a) → slice_index pushed a ≡ slice_index p.ram a
  elsewhere a k =
      get_or-set_other (slice_set p.ram r2 low) (r2 - 1) a high 0 (λ g. omega (arith, g, k, above))
      ∙ get_or-set_other p.ram r2 a low 0 (λ g. omega (arith, g, k, above))

  past : (a z : ℕ) → (r2 < a) ⊎ (z ≤ r2 - 1) → slice_range pushed a z ≡ slice_range p.ram a z
  past a z k = range_past a z (slice_set p.ram r2 low) (r2 - 1) high (first k) ∙ range_past a z p.ram r2 low (second k)
    where
      first : (r2 < a) ⊎ (z ≤ r2 - 1) → (r2 - 1 < a) ⊎ (z ≤ r2 - 1)
      first (inl l) = inl (omega (arith, l))
      first (inr l) = inr l

      second : (r2 < a) ⊎ (z ≤ r2 - 1) → (r2 < a) ⊎ (z ≤ r2)
      second (inl l) = inl l
      second (inr l) = inr (omega (arith, l))

  old_depth : depth e r2 ≡ d
  old_depth = sym (stack_length h)

  new_depth : depth e (value (down (down p.r2))) ≡ suc d
  new_depth = omega (arith, lowest, h.stack, room, above)

  stack_is : addresses pushed (stack_top e) (depth e (value (down (down p.r2)))) ≡ s.stack ++ (high * 256 + low) ∷ []
  stack_is =
      ap (addresses pushed (stack_top e)) new_depth
      ∙ addresses_more d (stack_top e) pushed (omega (arith, h.stack))
      ∙ ap₂ (λ l y. l ++ y ∷ []) (addresses_same d (stack_top e) p.ram pushed (omega (arith, h.stack))
      (λ a l m. elsewhere a (inr (omega (arith, l, h.stack)))) ∙ ap (addresses p.ram (stack_top e)) (sym old_depth)
      ∙ ap (λ (z : Lang). z.stack) h.is) entry
    where
      where_low : stack_top e - 2 * d ≡ r2
      where_low = omega (arith, h.stack)

      entry : slice_index pushed (stack_top e - 2 * d - 1) * 256 + slice_index pushed (stack_top e - 2 * d) ≡ high * 256 + low
      entry = rw (where_low, at_low, at_high) refl

  push_at : Holding x (record p { ram = pushed; r2 = down (down p.r2) }) (record s { stack = s.stack ++ (high * 256 + low) ∷ [] })
  push_at =
      changed h pushed (down (down p.r2)) p.r5 p.r8 p.ra
      ((λ i. record (lies_in e p) {
        v = past (variables e) (variables e + 16) (inl (omega (arith, h.stack, stack_below e))) i;
        stack = stack_is i;
        memory = past memory_start (memory_end e) (inr (omega (arith, above))) i;
        b = elsewhere random_cell (inl (omega (arith, above, memory_above e))) i;
        screen = pixels (rows_of e) (past (screen_start e) 0x1000 (inl (omega (arith, h.stack, stack_below e, variables_below e))) i);
      })
      ∙ ap (λ (z : Lang). record z { stack = s.stack ++ (high * 256 + low) ∷ [] }) h.is)
      (omega (arith, h.stack, lowest, above, length-append s.stack ((high * 256 + low) ∷ [])))
      pushed_size

  pub push : Holding x (record p { ram = written p.latch (written p.latch p.ram (value p.r2) low) (value (down p.r2)) high; r2 = down (down p.r2) })
      (record s { stack = s.stack ++ (high * 256 + low) ∷ [] })
  push = subst (λ r. Holding x (record p { ram = r; r2 = down (down p.r2) }) (record s { stack = s.stack ++ (high * 256 + low) ∷ [] })) (sym is_pushed) push_at

-- ---- a pop: the high byte lies above R2, and the low byte above that

module _ {x : Program} {p : Places} {s : Lang} (h : Holding x p s) (f : FitsWord p.r2) (some : 0 < length s.stack) where
  abbrev m : ℕ
  m = length s.stack - 1

  top_small : stack_top x.edition < 4096
  top_small = omega (arith, stack_below x.edition, variables_below x.edition, screen_below x.edition)

  one_up : value (up p.r2) ≡ value p.r2 + 1
  one_up = omega (arith, f.hi, f.lo, h.stack, top_small, some)

  two_up : value (up (up p.r2)) ≡ value p.r2 + 2
  two_up = omega (arith, f.hi, f.lo, h.stack, top_small, some)

  depth_is : depth x.edition (value p.r2) ≡ suc m
  depth_is = sym (stack_length h) ∙ omega (arith, some)

  abbrev rest : List ℕ
  rest = addresses p.ram (stack_top x.edition) m

  abbrev last : ℕ
  last = slice_index p.ram (stack_top x.edition - 2 * m - 1) * 256 + slice_index p.ram (stack_top x.edition - 2 * m)

  stack_is_rest : s.stack ≡ rest ++ last ∷ []
  stack_is_rest =
      sym (ap (λ (z : Lang). z.stack) h.is) ∙ ap (addresses p.ram (stack_top x.edition)) depth_is
      ∙ addresses_more m (stack_top x.edition) p.ram (omega (arith, h.stack))

  rest_length : length rest ≡ m
  rest_length = addresses_length m (stack_top x.edition) p.ram

  rest_is : rest ≡ take m s.stack
  rest_is = sym (take_all_but rest last) ∙ ap₂ take rest_length (sym stack_is_rest)

  last_on_stack : slice_index s.stack m ≡ last
  last_on_stack = ap₂ slice_index stack_is_rest (sym rest_length) ∙ last_is rest last

  place_high : stack_top x.edition - 2 * m - 1 ≡ value p.r2 + 1
  place_high = omega (arith, h.stack, some)

  place_low : stack_top x.edition - 2 * m ≡ value p.r2 + 2
  place_low = omega (arith, h.stack, some)

  -- the two bytes are those of the newest address
  pub popped : read x.interpreter.rom p.latch p.ram (value (up p.r2)) * 256 + read x.interpreter.rom p.latch p.ram (value (up (up p.r2)))
      ≡ slice_index s.stack (length s.stack - 1)
  popped =
      ap₂ (λ y z. y * 256 + z)
      (ap (read x.interpreter.rom p.latch p.ram) one_up ∙ read_is h (value p.r2 + 1) (omega (arith, h.stack, top_small, some))
      ∙ ap (slice_index p.ram) (sym place_high))
      (ap (read x.interpreter.rom p.latch p.ram) two_up ∙ read_is h (value p.r2 + 2) (omega (arith, h.stack, top_small, some))
      ∙ ap (slice_index p.ram) (sym place_low))
      ∙ sym last_on_stack

  depth_less : depth x.edition (value (up (up p.r2))) ≡ m
  depth_less = omega (arith, two_up, h.stack, some, stack_most h)

  pub pop : Holding x (record p { r2 = up (up p.r2) }) (record s { stack = take (length s.stack - 1) s.stack })
  pop =
      changed h p.ram (up (up p.r2)) p.r5 p.r8 p.ra
      ((λ i. record (lies_in x.edition p) { stack = (ap (addresses p.ram (stack_top x.edition)) depth_less ∙ rest_is) i })
      ∙ ap (λ (z : Lang). record z { stack = take m s.stack }) h.is)
      (omega (arith, two_up, h.stack, some, ap length (sym rest_is), rest_length))
      h.size
