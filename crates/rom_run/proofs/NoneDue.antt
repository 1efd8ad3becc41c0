-- Where the limit ends a run, no next point is due by it: the board goes on to its next event, behind the limit, and the language's time says which one
-- that is. FX0A goes on so under a script that is the same up to the limit, and then has a key down for a frame and all keys up for another.
use Rattle.std.proofs.Common.{◌≡◌, ℕ, zero, suc, ◌+◌, ◌-◌, ◌*◌, ◌/◌, ◌%◌, ◌<◌, ◌≤◌, ◌⊎◌, inl, inr, refl, sym, ◌∙◌, ap, subst, subst₂, arith, le_refl, Bool, true, false, not, ◌&&◌, nat_le, List, [], ◌∷◌, ◌++◌, filter, length}
use Rattle.std.specs.Prelude.{◌==◌, slice_get, Option, Some, None, if◌then◌else◌}
use Rattle.std.specs.Option.{option_map_or}
use Rattle.std.proofs.lemmas.Bool.{cases_eq, cases_lt, le-leb, lt-leb}
use Rattle.std.proofs.lemmas.List.{length-append}
use Rattle.std.proofs.lemmas.List.Elements.{filter-append}
use Rattle.machine.specs.Opcodes.{cycles_of}
use Rattle.machine.specs.Signals.{efx_at}
use Rattle.machine.specs.Board.{Machine, Case, case_of, main_move, move, moved_in, opcode_of}
use Rattle.machine.specs.Board.Case.{Instruction}
use Rattle.machine.specs.Keys.{Event, Keys, events_before, held_at}
use Rattle.machine.proofs.Runs.{cycle-move, later-move}
use Rattle.chip8_lang.specs.declared.instr.Instr.{Instr}
use Rattle.chip8_lang.specs.declared.instr.Instr.TheVariants.{WaitKey}
use Rattle.chip8_lang.specs.declared.view.Edition.{Edition}
use Rattle.chip8_lang.specs.declared.view.Stop.{Stop}
use Rattle.chip8_lang.specs.Bounds.{Pressed, bound_of, bound_by, bound_of_instr, key_cycles}
use Rattle.chip8_lang.specs.Events.{is_dispatch, is_stop}
use Rattle.chip8_lang.specs.State.{Lang, instr_at}
use Rattle.chip8_lang.specs.Step.{stop_of}
use Rattle.chip8_lang.specs.Timed.{Next, to_interrupt, later, first_from, let_go, pressed, after_instr, by_stop, next_point}
use Rattle.chip8_lang.specs.Timed.Next.{Dispatch, Stopped, Never}
use Rattle.rom_law.specs.Language.{InTime, IsPast}
use Rattle.rom_law.specs.Rows.{Since, dispatched}
use Rattle.rom_law.specs.Runs.{state_at, carried, carried_by, Moves}
use Rattle.rom_law.specs.Runs.Moves.{Still, Arrived, Halted}
use Rattle.rom_law.proofs.Carried.{carried_from, carried_state}
use Rattle.rom_rows.specs.Rom.{image, vip}
use Rattle.rom_run.specs.Running.{Running}
use Rattle.rom_run.proofs.Keys.{KeysKnown, known_on, in_time}
use Rattle.rom_run.proofs.Moves.{board_moves}
use Rattle.rom_run.proofs.Waits.{sleeps}

-- ---- a move under another script

module _ (e : Edition) (script other : List Event) (b : Machine) (same : held_at other (b.cycle + 1) ≡ held_at script (b.cycle + 1)) where
  moved_same : (k : Case) → moved_in k (image e) (held_at other) b ≡ moved_in k (image e) (held_at script) b
  moved_same Instruction =
      ap (λ keys. record (main_move (image e) (efx_at (b.cycle + 1) b.on) keys b) { cycle = b.cycle + cycles_of (opcode_of (image e) b) }) same
  moved_same _ = refl

  pub move_same : move (image e) (held_at other) b ≡ move (image e) (held_at script) b
  move_same = moved_same (case_of b)

  carried_so : (h : Since) (k : Case) → carried_by k (image e) (held_at other) b h ≡ carried_by k (image e) (held_at script) b h
  carried_so h Instruction =
      ap (λ (keys : Keys). if b.regs.ie then record h {
        spent = h.spent + cycles_of (opcode_of (image e) b);
        keys = h.keys ++ keys ∷ [];
        moments = record { spent = h.spent; ticks = h.ticks; held = keys } ∷ h.moments;
      } else h) same
  carried_so h _ = refl

  pub carried_same : (h : Since) → carried (image e) (held_at other) b h ≡ carried (image e) (held_at script) b h
  carried_same h = carried_so h (case_of b)

-- ---- the next event

-- what comes next comes in cycle c
abbrev At : ℕ → Next → Type 0
At c (Dispatch d z) = c ≡ d
At c (Stopped d z stop) = c ≡ d
At c Never = ⊥

past_at : (c t : ℕ) (n : Next) → t < c → At c n → IsPast t n
past_at c t (Dispatch d z) l at = omega (arith, l, at)
past_at c t (Stopped d z stop) l at = omega (arith, l, at)
past_at c t Never l at = absurd at

-- what the language's time says is next, up to each limit that leaves time for it, comes in a cycle behind t
record Comes (e : Edition) (script : List Event) (t from : ℕ) (s : Lang) : Type 0 where
  cycle : ℕ
  behind : t < cycle
  at : (limit : ℕ) → cycle ≤ limit → At cycle (next_point e script limit from s)

module _ (e : Edition) (script : List Event) (t : ℕ) where
  abbrev next : Machine → Machine
  next b = move (image e) (held_at script) b

  abbrev passed : Machine → Since → Since
  passed b h = carried (image e) (held_at script) b h

  -- the board goes on to its next event, where that comes by cycle `end`
  abbrev GoesOn : ℕ → Type 0
  GoesOn fuel =
      (end : ℕ) (b : Machine) (h : Since) → Running e script b h → KeysKnown e script b.cycle h
      → ((u : ℕ) → InTime (vip e) script h.from h.state u → u ≤ end) → t < (next b).cycle → end < b.cycle + fuel → Comes e script t h.from h.state

  module _ (end : ℕ) (b : Machine) (h : Since) (r : Running e script b h) (known : KeysKnown e script b.cycle h)
      (soon : (u : ℕ) → InTime (vip e) script h.from h.state u → u ≤ end) (behind : t < (next b).cycle) where
    from_h : (passed b h).from ≡ h.from
    from_h = carried_from (image e) (held_at script) b h

    state_h : (passed b h).state ≡ h.state
    state_h = carried_state (image e) (held_at script) b h

    by_now : (next b).cycle ≤ end
    by_now = soon (next b).cycle (in_time e script b h r known)

    event : (h' : Since) → h'.from ≡ h.from → h'.state ≡ h.state
        → ((limit : ℕ) → (next b).cycle ≤ limit → At (next b).cycle (next_point e script limit h'.from h'.state)) → Comes e script t h.from h.state
    event h' f s at =
        record {
          cycle = (next b).cycle;
          behind = behind;
          at = λ limit l. subst₂ (λ a y. At (next b).cycle (next_point e script limit a y)) f s (at limit l);
        }

    goes : (fuel : ℕ) → GoesOn fuel → end < b.cycle + suc fuel → Moves (vip e) script (Running e script) (passed b h) (next b) → Comes e script t h.from h.state
    goes fuel on enough (Still d z r') =
        subst₂ (Comes e script t) from_h state_h
        (on end (next b) (passed b h) r' (known_on e script b h r known)
        (λ u. subst₂ (λ a y. InTime (vip e) script a y u → u ≤ end) (sym from_h) (sym state_h) (soon u))
        (omega (arith, behind, later-move (image e) (held_at script) (next b))) (omega (arith, enough, later-move (image e) (held_at script) b)))
    goes fuel on enough (Arrived d z i st due r') =
        event (passed b h) from_h state_h (λ limit l. subst (At (next b).cycle) (sym (due limit l)) refl)
    goes fuel on enough (Halted z i stop st due) =
        event (passed b h) from_h state_h (λ limit l. subst (At (next b).cycle) (sym (due script limit)) refl)

  comes : (fuel : ℕ) → GoesOn fuel
  comes zero end b h r known soon behind enough =
      absurd (omega (arith, enough, by_now end b h r known soon behind, later-move (image e) (held_at script) b))
  comes (suc fuel) end b h r known soon behind enough = goes end b h r known soon behind fuel (comes fuel) enough (board_moves e script b h r)

-- ---- an instruction with a bound

none_some : {bound : ℕ} → None ≡ Some bound → ⊥
none_some k = cc

some_none : {X : Type 0} {bound : ℕ} → Some bound ≡ None → X
some_none k = cc

some_same : {a b : ℕ} → Some a ≡ Some b → a ≡ b
some_same k = cc

module _ (e : Edition) (script : List Event) (t : ℕ) (s : Lang) (l m : ℕ) where
  instr_same : (i : Instr) (bound : ℕ) → bound_of_instr i ≡ Some bound → after_instr e script l i t s ≡ after_instr e script m i t s
  instr_same (WaitKey x) bound k = absurd (none_some k)
  instr_same _ bound k = refl

  stop_same : (o : Option Stop) (bound : ℕ) → bound_by o (instr_at s) ≡ Some bound → by_stop e script l o t s ≡ by_stop e script m o t s
  stop_same (Some stop) bound k = refl
  stop_same None bound k = instr_same (instr_at s) bound k

-- ---- a script that ends a wait

module _ (script : List Event) (new : Event) (t k : ℕ) where
  abbrev goes_by : Event → Bool
  goes_by ev = ev.key == k && nat_le ev.cycle t

  abbrev last_down : List Event → Bool
  last_down past = option_map_or (λ (ev : Event). ev.down) (slice_get past (length past - 1)) false

  get_at_end : (l : List Event) → slice_get (l ++ new ∷ []) (length l) ≡ Some new
  get_at_end [] = refl
  get_at_end (j ∷ l) = get_at_end l

  get_new : (l : List Event) → slice_get (l ++ new ∷ []) (length (l ++ new ∷ []) - 1) ≡ Some new
  get_new l = ap (slice_get (l ++ new ∷ [])) last ∙ get_at_end l
    where
      last : length (l ++ new ∷ []) - 1 ≡ length l
      last = omega (arith, length-append l (new ∷ []))

  parted : events_before (script ++ new ∷ []) t k ≡ events_before script t k ++ filter goes_by (new ∷ [])
  parted = filter-append goes_by script (new ∷ [])

  append_none : (l : List Event) → l ++ [] ≡ l
  append_none [] = refl
  append_none (j ∷ l) = ap (λ z. j ∷ z) (append_none l)

  held_before : goes_by new ≡ false → held_at (script ++ new ∷ []) t k ≡ held_at script t k
  held_before missed = ap last_down (parted ∙ none ∙ append_none (events_before script t k))
    where
      none : events_before script t k ++ filter goes_by (new ∷ []) ≡ events_before script t k ++ []
      none = rw missed refl

  held_new : goes_by new ≡ true → held_at (script ++ new ∷ []) t k ≡ new.down
  held_new met = ap last_down (parted ∙ one) ∙ ap (λ o. option_map_or (λ (ev : Event). ev.down) o false) (get_new (events_before script t k))
    where
      one : events_before script t k ++ filter goes_by (new ∷ []) ≡ events_before script t k ++ new ∷ []
      one = rw met refl

and_no : (b : Bool) → (b && false) ≡ false
and_no true = refl
and_no false = refl

same_key : (k : ℕ) → (k == k) ≡ true
same_key k = grind arith

other_key : (n k : ℕ) → (n ≡ k → ⊥) → (n == k) ≡ false
other_key n k d = grind (arith, d)

-- one event later than cycle t changes nothing at t
not_yet : (script : List Event) (new : Event) (t k : ℕ) → t < new.cycle → held_at (script ++ new ∷ []) t k ≡ held_at script t k
not_yet script new t k l = held_before script new t k (rw (lt-leb new.cycle t l) (and_no (new.key == k)))

-- the keys below n go up in cycle w
abbrev released : ℕ → ℕ → List Event → List Event
released w zero script = script
released w (suc n) script = released w n script ++ record { cycle = w; key = n; down = false } ∷ []

released_before : (w n : ℕ) (script : List Event) (t k : ℕ) → t < w → held_at (released w n script) t k ≡ held_at script t k
released_before w zero script t k l = refl
released_before w (suc n) script t k l =
    not_yet (released w n script) (record { cycle = w; key = n; down = false }) t k l ∙ released_before w n script t k l

released_then : (w n : ℕ) (script : List Event) (t k : ℕ) → w ≤ t → k < n → held_at (released w n script) t k ≡ false
released_then w zero script t k l m = absurd (omega (arith, m))
released_then w (suc n) script t k l m = go (cases_eq n k) (λ d. released_then w n script t k l (omega (arith, m, d)))
  where
    go : (n ≡ k) ⊎ (n ≡ k → ⊥) → ((n ≡ k → ⊥) → held_at (released w n script) t k ≡ false) → held_at (released w (suc n) script) t k ≡ false
    go (inl is) before =
        held_new (released w n script) (record { cycle = w; key = n; down = false }) t k
        (rw (le-leb w t l) (subst (λ j. ((n == j) && true) ≡ true) is (ap (λ z. z && true) (same_key n))))
    go (inr d) before = held_before (released w n script) (record { cycle = w; key = n; down = false }) t k (rw (other_key n k d) refl) ∙ before d

-- behind the limit key 0 is down for a frame, and then all keys are up
abbrev pub pressed_behind : ℕ → List Event → List Event
pressed_behind limit script =
    released (limit + 1 + key_cycles) 16 (script ++ record { cycle = limit + 1; key = 0; down = true } ∷ [])

module _ (limit : ℕ) (script : List Event) where
  abbrev w : ℕ
  w = limit + 1 + key_cycles

  abbrev down_0 : Event
  down_0 = record { cycle = limit + 1; key = 0; down = true }

  pub same_before : (t : ℕ) → t ≤ limit → held_at (pressed_behind limit script) t ≡ held_at script t
  same_before t l = λ i key. same key i
    where
      same : (key : ℕ) → held_at (pressed_behind limit script) t key ≡ held_at script t key
      same key = released_before w 16 (script ++ down_0 ∷ []) t key (omega (arith, l)) ∙ not_yet script down_0 t key (omega (arith, l))

  is_pressed : Pressed (pressed_behind limit script) (limit + 1) w
  is_pressed =
      record {
        key = 0;
        fits = omega arith;
        down = λ t l m. released_before w 16 (script ++ down_0 ∷ []) t 0 m ∙ held_new script down_0 t 0 (le-leb (limit + 1) t l);
        behind = le_refl w;
        up = λ t k l m fits. released_then w 16 (script ++ down_0 ∷ []) t k l fits;
      }

-- ---- FX0A

stop_none : (o : Option Stop) (i : Instr) → bound_by o i ≡ None → o ≡ None
stop_none None i k = refl
stop_none (Some stop) i k = some_none k

record Awaits (i : Instr) : Type 0 where
  x : ℕ
  is : i ≡ WaitKey x

awaits : (i : Instr) → bound_of_instr i ≡ None → Awaits i
awaits (WaitKey x) k = record { x = x; is = refl }
awaits _ k = some_none k

-- the first number for which a test holds is that for which another does, which is the same up to there
first_more : (n m : ℕ) (f g : ℕ → Bool) (j d : ℕ) → n ≤ m → ((i : ℕ) → i ≤ d → f i ≡ g i) → first_from n f j ≡ Some d → (first_from m g j ≡ Some d) × (j ≤ d)
unfolding first_from
first_more zero m f g j d l same is = absurd (none_some is)
first_more (suc n) zero f g j d l same is = absurd (omega (arith, l))
first_more (suc n) (suc m) f g j d l same is = go (f j) refl is (first_more n m f g (j + 1) d (omega (arith, l)) same)
  where
    go : (found : Bool) → f j ≡ found → (if found then Some j else first_from n f (j + 1)) ≡ Some d
        → (first_from n f (j + 1) ≡ Some d → (first_from m g (j + 1) ≡ Some d) × (j + 1 ≤ d))
        → ((if g j then Some j else first_from m g (j + 1)) ≡ Some d) × (j ≤ d)
    go true holds is on = (rw (sym (same j (omega (arith, some_same is))) ∙ holds) is, omega (arith, some_same is))
    go false fails is on = let o = on is in (rw (sym (same j (omega (arith, o.1))) ∙ fails) o.0, omega (arith, o.1))

fewer_interrupts : (x k m : ℕ) → k ≤ m → (1822 + k - x) / 1822 ≤ (1822 + m - x) / 1822
fewer_interrupts x k m l = omega (arith, l)

later_grows : (t k m : ℕ) → k ≤ m → later t k + (m - k) ≤ later t m
later_grows t k m l = omega (arith, l, fewer_interrupts (to_interrupt t) k m l)

-- FX0A under another script that is the same up to the limit, under which it ends in cycle c
module _ (e : Edition) (script other : List Event) (t : ℕ) (s : Lang) (limit c : ℕ) (behind : limit < c)
    (same : (k : ℕ) → k ≤ limit → held_at other k ≡ held_at script k) (at : At c (next_point e other c t s)) (runs : stop_of e s ≡ None)
    (a : Awaits (instr_at s)) where
  -- key j mod 16 is down at turn j, and up at look i
  abbrev is_down : List Event → ℕ → Bool
  is_down keys j = held_at keys (later t (114 + 14 * j) + 1) (j % 16)

  abbrev is_up : List Event → ℕ → ℕ → Bool
  is_up keys j i = not (held_at keys (later t (116 + 14 * j + 2 * i) + 1) (j % 16))

  abbrev all_cycles : ℕ → ℕ → ℕ
  all_cycles j i = 126 + 14 * j + 2 * i

  at_pressed : At c (pressed e other c a.x t s (first_from c (is_down other) 0))
  at_pressed = subst (At c) (ap (λ o. by_stop e other c o t s) runs ∙ ap (λ i. after_instr e other c i t s) a.is) at

  module _ (j i : ℕ) (down : first_from limit (is_down script) 0 ≡ Some j) (up : first_from limit (is_up script j) 0 ≡ Some i)
      (by : later t (all_cycles j i) ≤ limit) where
    down_same : (k : ℕ) → k ≤ j → is_down script k ≡ is_down other k
    down_same k l =
        ap (λ (keys : Keys). keys (k % 16))
        (sym (same (later t (114 + 14 * k) + 1) (omega (arith, l, by, later_grows t (114 + 14 * k) (all_cycles j i) (omega (arith, l))))))

    up_same : (k : ℕ) → k ≤ i → is_up script j k ≡ is_up other j k
    up_same k l =
        ap (λ (keys : Keys). not (keys (j % 16)))
        (sym (same (later t (116 + 14 * j + 2 * k) + 1)
        (omega (arith, l, by, later_grows t (116 + 14 * j + 2 * k) (all_cycles j i) (omega (arith, l))))))

    other_down : first_from c (is_down other) 0 ≡ Some j
    other_down = (first_more limit c (is_down script) (is_down other) 0 j (omega (arith, behind)) down_same down).0

    other_up : first_from c (is_up other j) 0 ≡ Some i
    other_up = (first_more limit c (is_up script j) (is_up other j) 0 i (omega (arith, behind)) up_same up).0

    ends_there : c ≡ later t (all_cycles j i)
    ends_there = subst (At c) (ap (λ o. pressed e other c a.x t s o) other_down ∙ ap (λ o. let_go e other c a.x t s j o) other_up) at_pressed

  ran_past : (j i : ℕ) → first_from limit (is_down script) 0 ≡ Some j → first_from limit (is_up script j) 0 ≡ Some i → limit < later t (all_cycles j i)
  ran_past j i down up = go (cases_lt limit (later t (all_cycles j i)))
    where
      go : (limit < later t (all_cycles j i)) ⊎ (later t (all_cycles j i) ≤ limit) → limit < later t (all_cycles j i)
      go (inl l) = l
      go (inr l) = absurd (omega (arith, behind, l, ends_there j i down up l))

  up_past : (j : ℕ) → first_from limit (is_down script) 0 ≡ Some j → (o : Option ℕ) → first_from limit (is_up script j) 0 ≡ o
      → IsPast limit (let_go e script limit a.x t s j o)
  up_past j down None up = tt
  up_past j down (Some i) up = ran_past j i down up

  down_past : (o : Option ℕ) → first_from limit (is_down script) 0 ≡ o → IsPast limit (pressed e script limit a.x t s o)
  down_past None down = tt
  down_past (Some j) down = up_past j down (first_from limit (is_up script j) 0) refl

  key_past : IsPast limit (next_point e script limit t s)
  key_past =
      subst (IsPast limit) (sym (ap (λ o. by_stop e script limit o t s) runs ∙ ap (λ i. after_instr e script limit i t s) a.is))
      (down_past (first_from limit (is_down script) 0) refl)

-- ---- what is known under every script that is the same up to now

abbrev pub SameTo : ℕ → List Event → List Event → Type 0
SameTo n script other = (t : ℕ) → t ≤ n → held_at other t ≡ held_at script t

abbrev pub UnderAny : Edition → List Event → Machine → Since → Type 0
UnderAny e script b h = (other : List Event) → SameTo b.cycle script other → Running e other b h × KeysKnown e other b.cycle h

module _ (e : Edition) (script : List Event) (b : Machine) (h : Since) (any : UnderAny e script b h) where
  abbrev c : Machine
  c = move (image e) (held_at script) b

  abbrev h' : Since
  h' = carried (image e) (held_at script) b h

  -- a move keeps it
  module _ (other : List Event) (same : SameTo c.cycle script other) where
    same_set : held_at other (b.cycle + 1) ≡ held_at script (b.cycle + 1)
    same_set = same (b.cycle + 1) (omega (arith, later-move (image e) (held_at script) b))

    here : Running e other b h × KeysKnown e other b.cycle h
    here = any other (λ t l. same t (omega (arith, l, later-move (image e) (held_at script) b)))

    moves_there : Moves (vip e) other (Running e other) h' c
    moves_there =
        subst₂ (Moves (vip e) other (Running e other)) (carried_same e script other b same_set h) (move_same e script other b same_set)
        (board_moves e other b h here.0)

    pub known_there : KeysKnown e other c.cycle h'
    known_there =
        subst₂ (KeysKnown e other) (ap (λ (z : Machine). z.cycle) (move_same e script other b same_set)) (carried_same e script other b same_set h)
        (known_on e other b h here.0 here.1)

    pub still_there : is_dispatch (vip e).interpreter c ≡ false → is_stop (vip e).interpreter c ≡ false → Running e other c h'
    still_there d z = go moves_there
      where
        go : Moves (vip e) other (Running e other) h' c → Running e other c h'
        go (Still d' z' r) = r
        go (Arrived d' z' i st due r) = absurd (sleeps (sym d' ∙ d))
        go (Halted z' i stop st due) = absurd (sleeps (sym z' ∙ z))

    pub arrived_there : is_dispatch (vip e).interpreter c ≡ true → is_stop (vip e).interpreter c ≡ false
        → Running e other c (dispatched c.cycle (state_at (vip e) c))
    arrived_there d z = go moves_there
      where
        go : Moves (vip e) other (Running e other) h' c → Running e other c (dispatched c.cycle (state_at (vip e) c))
        go (Still d' z' r) = absurd (sleeps (sym d ∙ d'))
        go (Arrived d' z' i st due r) = r
        go (Halted z' i stop st due) = absurd (sleeps (sym z' ∙ z))

  -- ---- no next point is due by the limit

  module _ (limit : ℕ) (from : h.from ≤ b.cycle) (inside : b.cycle ≤ limit) (past : limit < c.cycle) where
    bounded : (bound : ℕ) → bound_of e h.state ≡ Some bound → IsPast limit (next_point e script limit h.from h.state)
    bounded bound is =
        past_at o.cycle limit (next_point e script limit h.from h.state) o.behind
        (subst (At o.cycle) (stop_same e script h.from h.state o.cycle limit (stop_of e h.state) bound is) (o.at o.cycle (le_refl o.cycle)))
      where
        known : Running e script b h × KeysKnown e script b.cycle h
        known = any script (λ t l. refl)

        o : Comes e script limit h.from h.state
        o = comes e script limit (h.from + bound + 1) (h.from + bound) b h known.0 known.1 (λ u i. i.bound bound is) past (omega arith)

    boundless : bound_of e h.state ≡ None → IsPast limit (next_point e script limit h.from h.state)
    boundless is =
        key_past e script other h.from h.state limit o.cycle o.behind (same_before limit script) (o.at o.cycle (le_refl o.cycle)) runs
        (awaits (instr_at h.state) (subst (λ z. bound_by z (instr_at h.state) ≡ None) runs is))
      where
        other : List Event
        other = pressed_behind limit script

        known : Running e other b h × KeysKnown e other b.cycle h
        known = any other (λ t l. same_before limit script t (omega (arith, l, inside)))

        runs : stop_of e h.state ≡ None
        runs = stop_none (stop_of e h.state) (instr_at h.state) is

        end : ℕ
        end = limit + 1 + key_cycles + key_cycles

        o : Comes e other limit h.from h.state
        o =
            comes e other limit (end + 1) end b h known.0 known.1
            (λ u i. omega (arith, i.keys is (limit + 1) (limit + 1 + key_cycles) (omega (arith, from, inside)) (is_pressed limit script)))
            (omega (arith, past, cycle-move (image e) (held_at script) b, cycle-move (image e) (held_at other) b)) (omega arith)

    pub none_due : IsPast limit (next_point e script limit h.from h.state)
    none_due = go (bound_of e h.state) refl
      where
        go : (o : Option ℕ) → bound_of e h.state ≡ o → IsPast limit (next_point e script limit h.from h.state)
        go (Some bound) is = bounded bound is
        go None is = boundless is
