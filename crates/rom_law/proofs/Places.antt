-- Reads and writes at the places of the language state.
use Rattle.std.proofs.Common.{◌≡◌, ℕ, zero, suc, ◌+◌, ◌-◌, ◌*◌, ◌/◌, ◌<◌, ◌≤◌, List, ◌∷◌, refl, sym, ◌∙◌, ap, ap₂, subst, arith, lit<, min, ◌⊎◌, inl, inr, slice_set, slice_index, slice_range, length, drop, get_or, length-take, length-drop, length-set, get_or-take, get_or-drop, get_or-set_same, get_or-set_other}
use Rattle.std.proofs.lemmas.List.{ext_get_or}
use Rattle.std.proofs.lemmas.Bool.{cases_eq}
use Rattle.machine.specs.Bank.{Word, value}
use Rattle.machine.specs.Memory.{read, written}
use Rattle.machine.specs.Board.{Machine}
use Rattle.chip8_lang.specs.declared.view.Edition.{Edition}
use Rattle.chip8_lang.specs.declared.view.Edition.TheVariants.{Usual, Tall}
use Rattle.chip8_lang.specs.Editions.{memory_start, memory_end, stack_top, variables, screen_start, rows_of, random_cell, sprite_work, lines_of}
use Rattle.chip8_lang.specs.State.{Lang, memory_byte, memory_size}
use Rattle.chip8_lang.specs.Places.{state_of, pixels, addresses, most_addresses}
use Rattle.rom_law.proofs.Moves.{read_ram, written_is}
use Rattle.rom_law.specs.Program.{Program, KeepsState}
pub use Rattle.rom_law.specs.Holding.{Places, places, depth, lies_in, Holding}

pub holding : (x : Program) (b : Machine) (s : Lang) → length b.ram ≡ 0x1000 → KeepsState x b s → Holding x (places b) s
unfolding state_of
holding x b s size h =
    record {
      is = h.lies.is;
      stack = h.lies.stack;
      size = size;
      latch = h.lies.latch;
      enabled = h.lies.enabled;
      awake = h.lies.awake;
      on = h.on;
      entry = h.entry;
      page = h.page;
    }

pub keeping : (x : Program) (b : Machine) (s : Lang) → Holding x (places b) s → KeepsState x b s
unfolding state_of
keeping x b s h =
    record {
      lies = record { is = h.is; stack = h.stack; latch = h.latch; enabled = h.enabled; awake = h.awake };
      on = h.on;
      entry = h.entry;
      page = h.page;
    }

-- ---- pieces of a list

pub range_get : (a z : ℕ) (l : List ℕ) (i : ℕ) → i < z - a → slice_index (slice_range l a z) i ≡ slice_index l (a + i)
range_get a z l i h = get_or-take (z - a) (drop a l) i 0 h ∙ get_or-drop a l i 0

pub range_length : (a z : ℕ) (l : List ℕ) → z ≤ length l → length (slice_range l a z) ≡ z - a
range_length a z l h = omega (arith, length-take (z - a) (drop a l), length-drop a l)

pub range_same : (a z : ℕ) (old new : List ℕ) → length new ≡ length old → ((i : ℕ) → a ≤ i → i < z → slice_index new i ≡ slice_index old i)
    → slice_range new a z ≡ slice_range old a z
range_same a z old new e h = ext_get_or 0 _ _ lengths (λ i l. go i (omega (arith, l, length-take (z - a) (drop a new))))
  where
    lengths : length (slice_range new a z) ≡ length (slice_range old a z)
    lengths = omega (arith, e, length-take (z - a) (drop a new), length-take (z - a) (drop a old), length-drop a new, length-drop a old)

    go : (i : ℕ) → i < z - a → get_or (slice_range new a z) i 0 ≡ get_or (slice_range old a z) i 0
    go i l =
        get_or-take (z - a) (drop a new) i 0 l ∙ get_or-drop a new i 0 ∙ h (a + i) (omega arith) (omega arith) ∙ sym (get_or-drop a old i 0)
        ∙ sym (get_or-take (z - a) (drop a old) i 0 l)

pub range_set : (a z : ℕ) (l : List ℕ) (x y : ℕ) → x < z - a → z ≤ length l → slice_range (slice_set l (a + x) y) a z ≡ slice_set (slice_range l a z) x y
range_set a z l x y h fits =
    ext_get_or 0 _ _ lengths (λ i k. go i (omega (arith, k, range_length a z (slice_set l (a + x) y) (omega (arith, fits, length-set l (a + x) y))))
    (cases_eq i x))
  where
    lengths : length (slice_range (slice_set l (a + x) y) a z) ≡ length (slice_set (slice_range l a z) x y)
    lengths =
        omega (
          arith,
          range_length a z (slice_set l (a + x) y) (omega
              (arith, fits, length-set l (a + x) y)),
          length-set (slice_range l a z) x y,
          range_length a z l fits,
        )

    go : (i : ℕ) → i < z - a → (i ≡ x) ⊎ (i ≡ x → ⊥)
        → slice_index (slice_range (slice_set l (a + x) y) a z) i ≡ slice_index (slice_set (slice_range l a z) x y) i
    go i k (inl e) =
        rw e (range_get a z _ x h ∙ get_or-set_same l (a + x) y 0 (omega arith)
        ∙ sym (get_or-set_same (slice_range l a z) x y 0 (omega (arith, range_length a z l fits))))
    go i k (inr e) =
        range_get a z _ i k ∙ get_or-set_other l (a + x) (a + i) y 0 (λ f. e (omega arith)) ∙ sym (range_get a z l i k)
        ∙ sym (get_or-set_other (slice_range l a z) x i y 0 e)

pub range_past : (a z : ℕ) (l : List ℕ) (j y : ℕ) → (j < a) ⊎ (z ≤ j) → slice_range (slice_set l j y) a z ≡ slice_range l a z
range_past a z l j y h = range_same a z l (slice_set l j y) (length-set l j y) (λ i f g. get_or-set_other l j i y 0 (omega (arith, h)))

-- the addresses on the stack are those of a memory that agrees there
pub addresses_same : (n low : ℕ) (old new : List ℕ) → 2 * n ≤ low → ((a : ℕ) → low < a + 2 * n → a ≤ low → slice_index new a ≡ slice_index old a)
    → addresses new low n ≡ addresses old low n
addresses_same zero low old new room h = refl
addresses_same (suc n) low old new room h =
    ap₂ (λ z y. z ∷ y) (ap₂ (λ z y. z * 256 + y) (h (low - 1) (omega arith) (omega arith)) (h low (omega arith) (omega arith)))
    (addresses_same n (low - 2) old new (omega arith) (λ a l m. h a (omega arith) (omega arith)))

pub addresses_length : (n low : ℕ) (ram : List ℕ) → length (addresses ram low n) ≡ n
addresses_length zero low ram = refl
addresses_length (suc n) low ram = ap suc (addresses_length n (low - 2) ram)

-- ---- where the places lie

pub stack_below : (e : Edition) → stack_top e < variables e
stack_below Usual = lit< tt
stack_below Tall = lit< tt

pub variables_below : (e : Edition) → variables e + 16 ≤ screen_start e
variables_below Usual = omega arith
variables_below Tall = omega arith

pub screen_below : (e : Edition) → screen_start e < 0x1000
screen_below Usual = lit< tt
screen_below Tall = lit< tt

pub memory_above : (e : Edition) → memory_start < memory_end e
memory_above Usual = lit< tt
memory_above Tall = lit< tt

-- the stack has room for its addresses above the end of game memory
pub stack_room : (e : Edition) → memory_end e + 2 * most_addresses < stack_top e
stack_room Usual = lit< tt
stack_room Tall = lit< tt

pub memory_most : (e : Edition) → memory_start + memory_size e ≡ memory_end e
memory_most Usual = refl
memory_most Tall = refl

pub work_above : (e : Edition) → stack_top e < sprite_work e
work_above Usual = lit< tt
work_above Tall = lit< tt

-- the screen ends with RAM
pub screen_ends : (e : Edition) → screen_start e + 8 * rows_of e ≡ 0x1000
screen_ends Usual = refl
screen_ends Tall = refl

pub some_rows : (e : Edition) → 0 < rows_of e
some_rows Usual = lit< tt
some_rows Tall = lit< tt

pub few_rows : (e : Edition) → rows_of e ≤ 64
few_rows Usual = omega arith
few_rows Tall = omega arith

-- each of the 128 lines of the window shows a row
pub row_inside : (e : Edition) (k : ℕ) → k < 128 → k / lines_of e < rows_of e
row_inside Usual k h = omega arith
row_inside Tall k h = omega arith

pub most : (a b : ℕ) → min a b ≤ a
most a b = omega arith

-- ---- reads and writes

module _ {x : Program} {p : Places} {s : Lang} (h : Holding x p s) where
  -- the stack's length, where R2 is, and what lies above it
  pub stack_length : length s.stack ≡ depth x.edition (value p.r2)
  stack_length = ap (λ (z : Lang). length z.stack) (sym h.is) ∙ addresses_length (depth x.edition (value p.r2)) (stack_top x.edition) p.ram

  pub stack_most : length s.stack ≤ most_addresses
  stack_most = omega (arith, stack_length, most most_addresses ((stack_top x.edition - value p.r2) / 2))

  pub pc_is : value p.r5 ≡ s.pc
  pc_is = ap (λ (z : Lang). z.pc) h.is

  pub i_is : value p.ra ≡ s.i
  i_is = ap (λ (z : Lang). z.i) h.is

  pub read_is : (a : ℕ) → a < 4096 → read x.interpreter.rom p.latch p.ram a ≡ slice_index p.ram a
  read_is a l = rw h.latch (read_ram x.interpreter.rom p.ram a l)

  write_is : (a y : ℕ) → a < 4096 → written p.latch p.ram a y ≡ slice_set p.ram a y
  write_is a y l = rw h.latch (written_is p.ram a y l)

  -- RAM, R2, R5, R8 and RA may change: what they tell is to be shown, and the rest stays
  pub changed :
      (ram : List ℕ) (r2 r5 r8 ra : Word) {z : Lang}
      → lies_in x.edition (record p { ram = ram; r2 = r2; r5 = r5; r8 = r8; ra = ra }) ≡ z
      → value r2 + 2 * length z.stack ≡ stack_top x.edition
      → length ram ≡ 0x1000
      → Holding x (record p { ram = ram; r2 = r2; r5 = r5; r8 = r8; ra = ra }) z
  changed ram r2 r5 r8 ra is stack size =
      record {
        is = is;
        stack = stack;
        size = size;
        latch = h.latch;
        enabled = h.enabled;
        awake = h.awake;
        on = h.on;
        entry = h.entry;
        page = h.page;
      }

  -- RAM is written, by which the language state changes to z
  ram_set : (a y : ℕ) (z : Lang) → a < 4096 → length z.stack ≡ length s.stack → lies_in x.edition (record p { ram = slice_set p.ram a y }) ≡ z
      → Holding x (record p { ram = written p.latch p.ram a y }) z
  ram_set a y z l st e =
      subst (λ r. Holding x (record p { ram = r }) z) (sym (write_is a y l))
      (changed (slice_set p.ram a y) p.r2 p.r5 p.r8 p.ra e (ap (λ k. value p.r2 + 2 * k) st ∙ h.stack) (length-set p.ram a y ∙ h.size))

  -- the stack is as it was after a write elsewhere
  stack_past : (a y : ℕ) → (a < memory_end x.edition) ⊎ (stack_top x.edition < a)
      → addresses (slice_set p.ram a y) (stack_top x.edition) (depth x.edition (value p.r2))
      ≡ addresses p.ram (stack_top x.edition) (depth x.edition (value p.r2))
  stack_past a y k =
      addresses_same (depth x.edition (value p.r2)) (stack_top x.edition) p.ram (slice_set p.ram a y) room
      (λ j l m. get_or-set_other p.ram a j y 0
      (λ e. omega (arith, k, l, m, e, stack_room x.edition, most most_addresses ((stack_top x.edition - value p.r2) / 2))))
    where
      room : 2 * depth x.edition (value p.r2) ≤ stack_top x.edition
      room = omega (arith, stack_room x.edition, most most_addresses ((stack_top x.edition - value p.r2) / 2))

  -- VX is written
  v_set_at : (k y : ℕ) → k < 16 → Holding x (record p { ram = written p.latch p.ram (variables x.edition + k) y }) (record s { v = slice_set s.v k y })
  v_set_at k y lt =
      ram_set (variables x.edition + k) y _ (omega (arith, variables_below x.edition, screen_below x.edition)) refl
      ((λ i. record (lies_in x.edition p) {
        v =
            range_set (variables x.edition) (variables x.edition + 16) p.ram k y (omega arith)
            (omega (arith, h.size, variables_below x.edition, screen_below x.edition)) i;
        stack = stack_past (variables x.edition + k) y (inr (omega (arith, stack_below x.edition))) i;
        memory =
            range_past memory_start (memory_end x.edition) p.ram (variables x.edition + k) y
            (inr (omega (arith, stack_below x.edition, stack_room x.edition))) i;
        b =
            get_or-set_other p.ram (variables x.edition + k) random_cell y 0
            (λ e. omega (arith, e, stack_below x.edition, stack_room x.edition, memory_above x.edition)) i;
        screen =
            pixels (rows_of x.edition) (range_past (screen_start x.edition) 0x1000 p.ram (variables x.edition + k) y
            (inl (omega (arith, variables_below x.edition))) i);
      })
      ∙ ap (λ (z : Lang). record z { v = slice_set z.v k y }) h.is)

  pub v_set : (a k y : ℕ) → a ≡ variables x.edition + k → k < 16 → Holding x (record p { ram = written p.latch p.ram a y }) (record s { v = slice_set s.v k y })
  v_set a k y e lt = subst (λ z. Holding x (record p { ram = written p.latch p.ram z y }) (record s { v = slice_set s.v k y })) (sym e) (v_set_at k y lt)

  -- VX is read
  v_get_at : (k : ℕ) → k < 16 → read x.interpreter.rom p.latch p.ram (variables x.edition + k) ≡ slice_index s.v k
  v_get_at k lt =
      read_is (variables x.edition + k) (omega (arith, variables_below x.edition, screen_below x.edition))
      ∙ sym (range_get (variables x.edition) (variables x.edition + 16) p.ram k (omega arith)) ∙ ap (λ (z : Lang). slice_index z.v k) h.is

  pub v_get : (a k : ℕ) → a ≡ variables x.edition + k → k < 16 → read x.interpreter.rom p.latch p.ram a ≡ slice_index s.v k
  v_get a k e lt = ap (read x.interpreter.rom p.latch p.ram) e ∙ v_get_at k lt

  pub v_byte : ((a : ℕ) → slice_index p.ram a < 256) → (k : ℕ) → k < 16 → slice_index s.v k < 256
  v_byte bytes k lt =
      rw (← v_get_at k lt, read_is (variables x.edition + k) (omega (arith, variables_below x.edition, screen_below x.edition)))
      (bytes (variables x.edition + k))

  -- a byte of game memory is read
  memory_room : memory_end x.edition < 4096
  memory_room = omega (arith, variables_below x.edition, screen_below x.edition, stack_below x.edition, stack_room x.edition)

  pub memory_get : (a : ℕ) → memory_start ≤ a → a < memory_end x.edition → read x.interpreter.rom p.latch p.ram a ≡ memory_byte s a
  memory_get a low high =
      read_is a (omega (arith, memory_room)) ∙ sym (ap (slice_index p.ram) (omega arith))
      ∙ sym (range_get memory_start (memory_end x.edition) p.ram (a - memory_start) (omega arith))
      ∙ ap (λ (z : Lang). slice_index z.memory (a - memory_start)) h.is

  pub memory_fits : ((a : ℕ) → slice_index p.ram a < 256) → (a : ℕ) → memory_start ≤ a → a < memory_end x.edition → memory_byte s a < 256
  memory_fits bytes a low high = rw (← memory_get a low high, read_is a (omega (arith, memory_room))) (bytes a)

  -- the number of a stop is written, below 0200: the language state stays
  pub cell_set : (a y : ℕ) → a < memory_start → (a ≡ random_cell → ⊥) → Holding x (record p { ram = written p.latch p.ram a y }) s
  cell_set a y l other =
      ram_set a y s (omega arith) refl
      ((λ i. record (lies_in x.edition p) {
        v =
            range_past (variables x.edition) (variables x.edition + 16) p.ram a y
            (inl (omega (arith, l, stack_below x.edition, stack_room x.edition, memory_above x.edition))) i;
        stack = stack_past a y (inl (omega (arith, l, memory_above x.edition))) i;
        memory = range_past memory_start (memory_end x.edition) p.ram a y (inl l) i;
        b = get_or-set_other p.ram a random_cell y 0 (λ e. other (sym e)) i;
        screen =
            pixels (rows_of x.edition) (range_past (screen_start x.edition) 0x1000 p.ram a y
            (inl (omega (arith, l, stack_below x.edition, stack_room x.edition, memory_above x.edition, variables_below x.edition))) i);
      })
      ∙ h.is)

  pub cell_is : (a y : ℕ) → a < memory_start → slice_index (written p.latch p.ram a y) a ≡ y
  cell_is a y l = ap (λ r. slice_index r a) (write_is a y (omega arith)) ∙ get_or-set_same p.ram a y 0 (omega (arith, h.size))

  -- a byte between the stack and V0 is written: the language state stays
  pub work_set : (a y : ℕ) → stack_top x.edition < a → a < variables x.edition → Holding x (record p { ram = written p.latch p.ram a y }) s
  work_set a y above below =
      ram_set a y s (omega (arith, below, variables_below x.edition, screen_below x.edition)) refl
      ((λ i. record (lies_in x.edition p) {
        v = range_past (variables x.edition) (variables x.edition + 16) p.ram a y (inl below) i;
        stack = stack_past a y (inr above) i;
        memory = range_past memory_start (memory_end x.edition) p.ram a y (inr (omega (arith, above, stack_room x.edition))) i;
        b = get_or-set_other p.ram a random_cell y 0 (λ e. omega (arith, e, above, stack_room x.edition, memory_above x.edition)) i;
        screen = pixels (rows_of x.edition) (range_past (screen_start x.edition) 0x1000 p.ram a y (inl (omega (arith, below, variables_below x.edition))) i);
      })
      ∙ h.is)

  -- and it is read again
  pub work_is : (a y : ℕ) → a < variables x.edition → slice_index (written p.latch p.ram a y) a ≡ y
  work_is a y below = ap (λ r. slice_index r a) (write_is a y small) ∙ get_or-set_same p.ram a y 0 (omega (arith, h.size, small))
    where
      small : a < 4096
      small = omega (arith, below, variables_below x.edition, screen_below x.edition)

  pub work_get : (a y : ℕ) → a < variables x.edition → read x.interpreter.rom p.latch (written p.latch p.ram a y) a ≡ y
  work_get a y below =
      subst (λ t. read x.interpreter.rom t (written p.latch p.ram a y) a ≡ slice_index (written p.latch p.ram a y) a) (sym h.latch)
      (read_ram x.interpreter.rom (written p.latch p.ram a y) a (omega (arith, below, variables_below x.edition, screen_below x.edition)))
      ∙ work_is a y below

  -- R5 is changed
  pub pc_set : (w : Word) (a : ℕ) → value w ≡ a → Holding x (record p { r5 = w }) (record s { pc = a })
  pc_set w a e =
      changed p.ram p.r2 w p.r8 p.ra ((λ i. record (lies_in x.edition p) { pc = e i }) ∙ ap (λ (z : Lang). record z { pc = a }) h.is) h.stack h.size

  -- ---- registers

  -- I is changed: RA
  pub i_set : (w : Word) (a : ℕ) → value w ≡ a → Holding x (record p { ra = w }) (record s { i = a })
  i_set w a e =
      changed p.ram p.r2 p.r5 p.r8 w ((λ j. record (lies_in x.edition p) { i = e j }) ∙ ap (λ (z : Lang). record z { i = a }) h.is) h.stack h.size

  -- the timers are changed: the halves of R8
  pub timers_set : (w : Word) → Holding x (record p { r8 = w }) (record s { dt = w.hi; st = w.lo })
  timers_set w =
      changed p.ram p.r2 p.r5 w p.ra (ap (λ (z : Lang). record z { dt = w.hi; st = w.lo }) h.is) h.stack h.size

  -- ---- RAM

  memory_set_at : (k y : ℕ) → memory_start + k < memory_end x.edition
      → Holding x (record p { ram = written p.latch p.ram (memory_start + k) y }) (record s { memory = slice_set s.memory k y })
  memory_set_at k y lt =
      ram_set (memory_start + k) y _ (omega (arith, lt, memory_room)) refl
      ((λ i. record (lies_in x.edition p) {
        v =
            range_past (variables x.edition) (variables x.edition + 16) p.ram (memory_start + k) y
            (inl (omega (arith, lt, stack_below x.edition, stack_room x.edition))) i;
        stack = stack_past (memory_start + k) y (inl lt) i;
        memory = range_set memory_start (memory_end x.edition) p.ram k y (omega (arith, lt)) (omega (arith, h.size, memory_room)) i;
        b = get_or-set_other p.ram (memory_start + k) random_cell y 0 (λ e. omega (arith, e)) i;
        screen =
            pixels (rows_of x.edition) (range_past (screen_start x.edition) 0x1000 p.ram (memory_start + k) y
            (inl (omega (arith, lt, stack_below x.edition, stack_room x.edition, variables_below x.edition))) i);
      })
      ∙ ap (λ (z : Lang). record z { memory = slice_set z.memory k y }) h.is)

  -- a byte of game memory is written
  pub memory_set : (a k y : ℕ) → a ≡ memory_start + k → memory_start + k < memory_end x.edition
      → Holding x (record p { ram = written p.latch p.ram a y }) (record s { memory = slice_set s.memory k y })
  memory_set a k y e lt =
      subst (λ z. Holding x (record p { ram = written p.latch p.ram z y }) (record s { memory = slice_set s.memory k y })) (sym e)
      (memory_set_at k y lt)

  -- the random byte is written
  pub random_set : (y : ℕ) → Holding x (record p { ram = written p.latch p.ram random_cell y }) (record s { b = y })
  random_set y =
      ram_set random_cell y _ (omega arith) refl
      ((λ i. record (lies_in x.edition p) {
        v =
            range_past (variables x.edition) (variables x.edition + 16) p.ram random_cell y
            (inl (omega (arith, stack_below x.edition, stack_room x.edition, memory_above x.edition))) i;
        stack = stack_past random_cell y (inl (omega (arith, memory_above x.edition))) i;
        memory = range_past memory_start (memory_end x.edition) p.ram random_cell y (inl (omega arith)) i;
        b = get_or-set_same p.ram random_cell y 0 (omega (arith, h.size)) i;
        screen =
            pixels (rows_of x.edition) (range_past (screen_start x.edition) 0x1000 p.ram random_cell y
            (inl (omega (arith, stack_below x.edition, stack_room x.edition, memory_above x.edition, variables_below x.edition))) i);
      })
      ∙ ap (λ (z : Lang). record z { b = y }) h.is)

  screen_set_at : (k y : ℕ) → screen_start x.edition + k < 0x1000
      → Holding x (record p { ram = written p.latch p.ram (screen_start x.edition + k) y })
      (record s { screen = pixels (rows_of x.edition) (slice_set (slice_range p.ram (screen_start x.edition) 0x1000) k y) })
  screen_set_at k y lt =
      ram_set (screen_start x.edition + k) y _ lt refl
      ((λ i. record (lies_in x.edition p) {
        v = range_past (variables x.edition) (variables x.edition + 16) p.ram (screen_start x.edition + k) y (inr (omega (arith, variables_below x.edition))) i;
        stack = stack_past (screen_start x.edition + k) y (inr (omega (arith, stack_below x.edition, variables_below x.edition))) i;
        memory =
            range_past memory_start (memory_end x.edition) p.ram (screen_start x.edition + k) y
            (inr (omega (arith, stack_below x.edition, stack_room x.edition, variables_below x.edition))) i;
        b =
            get_or-set_other p.ram (screen_start x.edition + k) random_cell y 0
            (λ e. omega (arith, e, stack_below x.edition, stack_room x.edition, memory_above x.edition, variables_below x.edition)) i;
        screen = pixels (rows_of x.edition) (range_set (screen_start x.edition) 0x1000 p.ram k y (omega (arith, lt)) (omega (arith, h.size)) i);
      })
      ∙ ap (λ (z : Lang). record z { screen = pixels (rows_of x.edition) (slice_set (slice_range p.ram (screen_start x.edition) 0x1000) k y) }) h.is)

  -- a byte of the screen is written
  pub screen_set : (a k y : ℕ) → a ≡ screen_start x.edition + k → screen_start x.edition + k < 0x1000
      → Holding x (record p { ram = written p.latch p.ram a y })
      (record s { screen = pixels (rows_of x.edition) (slice_set (slice_range p.ram (screen_start x.edition) 0x1000) k y) })
  screen_set a k y e lt =
      subst (λ z. Holding x (record p { ram = written p.latch p.ram z y })
      (record s { screen = pixels (rows_of x.edition) (slice_set (slice_range p.ram (screen_start x.edition) 0x1000) k y) })) (sym e)
      (screen_set_at k y lt)
