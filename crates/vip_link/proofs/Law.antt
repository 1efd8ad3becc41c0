-- The law of every schedule.
use Rattle.std.proofs.Common.{◌≡◌, ℕ, zero, suc, ◌+◌, ◌-◌, ◌*◌, ◌<◌, ◌≤◌, ◌⊎◌, inl, inr, refl, sym, ◌∙◌, ap, ap₂, subst, arith, List, [], ◌∷◌, ◌++◌, length, take, replicate, slice_index, append-nil}
use Rattle.std.specs.Prelude.{Option, IsSome, option_to_list}
use Rattle.std.proofs.lemmas.List.{take_more, take_all, take-take, length-take-le, get_or-take, length-replicate}
use Rattle.vip_link.specs.declared.side.Side.{Side}
use Rattle.vip_link.specs.declared.side.Side.TheVariants.{A, B}
use Rattle.vip_board.specs.Linked.{joined, linked_move}
use Rattle.vip_link.specs.Pair.{Pair, no_keys, stepped, scheduled, pairs}
use Rattle.vip_link.specs.declared.sender.TheConstants.{CODE as SENDER}
use Rattle.vip_link.specs.declared.receiver.TheConstants.{CODE as RECEIVER}
use Rattle.vip_link.specs.Roms.{sender_rom, receiver_rom}
use Rattle.vip_link.specs.Laws.{message_ram, start, Delivers, after, AlwaysDelivers, PairsDeliver, TurnsDeliver, NumbersDeliver}
use Rattle.vip_link.specs.Schedules.{schedule_by, turns}
use Rattle.vip_link.proofs.Numbers.{turns-of-number}
use Rattle.vip_link.proofs.Sending.{rom as rom_a, sends_off}
use Rattle.vip_link.proofs.Sending.Place.{Reset as ResetA}
use Rattle.vip_link.proofs.Receiving.{rom as rom_b, ram_is, receives_off, enough}
use Rattle.vip_link.proofs.Receiving.Place.{Reset as ResetB}
use Rattle.vip_link.proofs.Start.{high_is, low_is, byte_of}
use Rattle.vip_link.proofs.Both.{Wire, Holds, StepA, StepB, step_a, step_b, is_some_none}
use Rattle.vip_link.proofs.Both.Wire.{Empty, Full}
use Rattle.vip_link.proofs.Both.StepA.{GoesOnA, WaitsA}
use Rattle.vip_link.proofs.Both.StepB.{GoesOnB, WaitsB}

module _ (message : List ℕ) (room : length message ≤ 3000) where
  abbrev Held : ℕ → ℕ → ℕ → ℕ → Pair → Type 0
  Held k j a b s = Holds message (message_ram message) k j a b s

  -- with some numbers
  record Kept (s : Pair) : Type 0 where
    k : ℕ
    j : ℕ
    a : ℕ
    b : ℕ
    holds : Held k j a b s

  -- and with at most so many moves left that don't wait
  record KeptWithin (most : ℕ) (s : Pair) : Type 0 where
    k : ℕ
    j : ℕ
    a : ℕ
    b : ℕ
    holds : Held k j a b s
    left : a + b ≤ most

  at_start : Held 0 0 (8 * (length message - 0) + 15) (4 * (length message - 0) + 7) (start message)
  at_start =
      record {
        ram = replicate 0x1000 0;
        sender = record { place = ResetA; d = 0; cycle = 0; is = refl; known = refl; moves_is = refl };
        receiver = record { place = ResetB; d = 0; cycle = 0; is = refl; known = refl; moves_is = refl };
        wire = Empty refl refl;
        within = omega arith;
        alone = refl;
        sent = refl;
        received = refl;
        stored = λ i l. absurd (omega arith);
        size = length-replicate {A = ℕ} 0x1000 0;
      }

  module _ (rest_a rest_b : List ℕ) where
    abbrev step : Side → Pair → Pair
    step = stepped (rom_a rest_a) (rom_b rest_b)

    abbrev run : List Side → Pair → Pair
    run = scheduled (rom_a rest_a) (rom_b rest_b)

    abbrev AfterA : (k j a b : ℕ) (s : Pair) → Held k j a b s → Type 0
    AfterA k j a b s h = StepA message (message_ram message) k j a b s h (linked_move (rom_a rest_a) no_keys (joined s.a s.to_a s.to_b))

    abbrev AfterB : (k j a b : ℕ) (s : Pair) → Held k j a b s → Type 0
    AfterB k j a b s h = StepB message (message_ram message) k j a b s h (linked_move (rom_b rest_b) no_keys (joined s.b s.to_b s.to_a))

    by_a : (k j a b : ℕ) (s : Pair) (h : Held k j a b s) → AfterA k j a b s h
    by_a k j a b s h = step_a message (message_ram message) k j a b s h (byte_of message) rest_a room (high_is message) (low_is message)

    by_b : (k j a b : ℕ) (s : Pair) (h : Held k j a b s) → AfterB k j a b s h
    by_b k j a b s h = step_b message (message_ram message) k j a b s h rest_b room

    -- ---- every schedule

    kept_by : (side : Side) (s : Pair) → Kept s → Kept (step side s)
    kept_by A s h = go (by_a h.k h.j h.a h.b s h.holds)
      where
        go : AfterA h.k h.j h.a h.b s h.holds → Kept (step A s)
        go (GoesOnA k m l g) = record { k = k; j = h.j; a = m; b = h.b; holds = g }
        go (WaitsA g w) = record { k = h.k; j = h.j; a = h.a; b = h.b; holds = g }
    kept_by B s h = go (by_b h.k h.j h.a h.b s h.holds)
      where
        go : AfterB h.k h.j h.a h.b s h.holds → Kept (step B s)
        go (GoesOnB j m l g) = record { k = h.k; j = j; a = h.a; b = m; holds = g }
        go (WaitsB none least g) = record { k = h.k; j = h.j; a = h.a; b = h.b; holds = g }

    kept : (schedule : List Side) (s : Pair) → Kept s → Kept (run schedule s)
    kept [] s h = h
    kept (side ∷ schedule) s h = kept schedule (step side s) (kept_by side s h)

    -- ---- B right behind A

    -- A moved, and has fewer moves left than before, or so few; or B doesn't wait now, or nothing is left
    abbrev Leaves : ℕ → ℕ → ℕ → ℕ → Pair → Type 0
    Leaves most k a b s = (a + b ≤ most) ⊎ ((a + b ≤ suc most) × (IsSome s.to_b ⊎ ((k ≡ length message) × (a ≡ 0))))

    then_b : (most k j a b : ℕ) (s : Pair) → Held k j a b s → Leaves most k a b s → KeptWithin most (step B s)
    then_b most k j a b s h l = go (by_b k j a b s h) l
      where
        go : AfterB k j a b s h → Leaves most k a b s → KeptWithin most (step B s)
        go (GoesOnB j' m less g) (inl l) = record { k = k; j = j'; a = a; b = m; holds = g; left = omega (arith, less, l) }
        go (GoesOnB j' m less g) (inr w) = record { k = k; j = j'; a = a; b = m; holds = g; left = omega (arith, less, w.0) }
        go (WaitsB none least g) (inl l) = record { k = k; j = j; a = a; b = b; holds = g; left = l }
        go (WaitsB none least g) (inr (l, inl some)) = absurd (is_some_none none some)
        go (WaitsB none least g) (inr (l, inr w)) = record { k = k; j = j; a = a; b = b; holds = g; left = omega (arith, least, w.0, w.1) }

    pair_moves : (most : ℕ) (s : Pair) → KeptWithin (suc most) s → KeptWithin most (step B (step A s))
    pair_moves most s h = go (by_a h.k h.j h.a h.b s h.holds)
      where
        go : AfterA h.k h.j h.a h.b s h.holds → KeptWithin most (step B (step A s))
        go (GoesOnA k m less g) = then_b most k h.j m h.b (step A s) g (inl (omega (arith, less, h.left)))
        go (WaitsA g w) = then_b most h.k h.j h.a h.b (step A s) g (inr (h.left, w))

    -- no move makes more of them
    within_by : (most : ℕ) (side : Side) (s : Pair) → KeptWithin most s → KeptWithin most (step side s)
    within_by most A s h = go (by_a h.k h.j h.a h.b s h.holds)
      where
        go : AfterA h.k h.j h.a h.b s h.holds → KeptWithin most (step A s)
        go (GoesOnA k m less g) = record { k = k; j = h.j; a = m; b = h.b; holds = g; left = omega (arith, less, h.left) }
        go (WaitsA g w) = record { k = h.k; j = h.j; a = h.a; b = h.b; holds = g; left = h.left }
    within_by most B s h = go (by_b h.k h.j h.a h.b s h.holds)
      where
        go : AfterB h.k h.j h.a h.b s h.holds → KeptWithin most (step B s)
        go (GoesOnB j m less g) = record { k = h.k; j = j; a = h.a; b = m; holds = g; left = omega (arith, less, h.left) }
        go (WaitsB none least g) = record { k = h.k; j = h.j; a = h.a; b = h.b; holds = g; left = h.left }

    -- B right behind A
    turned : (most : ℕ) (s : Pair) → KeptWithin most s → KeptWithin (most - 1) (step B (step A s))
    turned zero s h = within_by zero B (step A s) (within_by zero A s h)
    turned (suc most) s h = subst (λ n. KeptWithin n (step B (step A s))) (omega arith) (pair_moves most s h)

    all_turns : (schedule : List Side) (most : ℕ) (s : Pair) → most ≤ turns schedule → KeptWithin most s → KeptWithin 0 (run schedule s)
    all_turns [] most s l h = record { k = h.k; j = h.j; a = h.a; b = h.b; holds = h.holds; left = omega (arith, l, h.left) }
    all_turns (B ∷ schedule) most s l h = all_turns schedule most (step B s) l (within_by most B s h)
    all_turns (A ∷ []) most s l h = all_turns [] most (step A s) l (within_by most A s h)
    all_turns (A ∷ A ∷ schedule) most s l h = all_turns (A ∷ schedule) most (step A s) l (within_by most A s h)
    all_turns (A ∷ B ∷ schedule) most s l h = all_turns schedule (most - 1) (step B (step A s)) (omega (arith, l)) (turned most s h)

  -- ---- what follows

  on_wire : (k j : ℕ) (w : Option ℕ) → k ≤ length message → Wire message k j w → take k message ≡ take j message ++ option_to_list w
  on_wire k j w l (Empty e f) = ap (λ x. take x message) f ∙ sym (append-nil (take j message)) ∙ ap (λ x. take j message ++ option_to_list x) (sym e)
  on_wire k j w l (Full e f) =
      ap (λ x. take x message) f
      ∙ take_more message j 0 (omega (arith, f, l))
      ∙ ap (λ x. take j message ++ option_to_list x) (sym e)

  close : (k j : ℕ) (w : Option ℕ) → Wire message k j w → (j ≤ k) × (k ≤ j + 1)
  close k j w (Empty e f) = (omega (arith, f), omega (arith, f))
  close k j w (Full e f) = (omega (arith, f), omega (arith, f))

  delivers : (s : Pair) → Kept s → Delivers message s
  delivers s h =
      record {
        sent = ap (λ x. take (length x) message) g.sent ∙ ap (λ x. take x message) sent_long ∙ sym g.sent;
        received =
            ap₂ (λ x y. take (length x) y) g.received g.sent
            ∙ ap (λ x. take x (take h.k message)) received_long
            ∙ take-take h.j h.k message near.0
            ∙ sym g.received;
        close = omega (arith, near.1, ap length g.sent, ap length g.received, sent_long, received_long);
        on_wire = g.sent ∙ on_wire h.k h.j s.to_b g.within g.wire ∙ ap (λ x. x ++ option_to_list s.to_b) (sym g.received);
        stored = λ i l. there i (omega (arith, l, ap length g.received, received_long));
        displays = (
          sends_off (length message) (message_ram message) h.k s.to_b h.a s.a g.sender,
          receives_off (length message) g.ram h.j s.to_b h.b s.b g.receiver,
        );
      }
    where
      g : Held h.k h.j h.a h.b s
      g = h.holds

      near : (h.j ≤ h.k) × (h.k ≤ h.j + 1)
      near = close h.k h.j s.to_b h.holds.wire

      sent_long : length (take h.k message) ≡ h.k
      sent_long = length-take-le h.k message h.holds.within

      received_long : length (take h.j message) ≡ h.j
      received_long = length-take-le h.j message (omega (arith, near.0, h.holds.within))

      there : (i : ℕ) → i < h.j → slice_index s.b.ram (0x200 + i) ≡ slice_index s.received i
      there i l =
          ap (λ r. slice_index r (0x200 + i)) (ram_is (length message) h.holds.ram h.j s.to_b h.b s.b h.holds.receiver)
          ∙ h.holds.stored i l
          ∙ sym (get_or-take h.j message i 0 l)
          ∙ ap (λ r. slice_index r i) (sym h.holds.received)

  -- nothing is left to move, so all was received
  all_received : (s : Pair) → KeptWithin 0 s → s.received ≡ message
  all_received s h = h.holds.received ∙ take_all h.j message (omega (arith, h.left, enough (length message) h.holds.ram h.j s.to_b h.b s.b h.holds.receiver))

  first_kept : Kept (start message)
  first_kept = record { k = 0; j = 0; a = 8 * (length message - 0) + 15; b = 4 * (length message - 0) + 7; holds = at_start }

  first_within : (most : ℕ) → 40 * (length message + 2) ≤ most → KeptWithin most (start message)
  first_within most l =
      record { k = 0; j = 0; a = 8 * (length message - 0) + 15; b = 4 * (length message - 0) + 7; holds = at_start; left = omega (arith, l) }

-- what each ROM has behind its code
abbrev zeros_behind : List ℕ → List ℕ
zeros_behind code = replicate (0x800 - length code) 0

pub always_delivers : AlwaysDelivers
unfolding sender_rom receiver_rom
always_delivers message schedule room =
    delivers message room (after schedule message)
    (kept message room (zeros_behind SENDER) (zeros_behind RECEIVER) schedule (start message) (first_kept message room))

pub turns_deliver : TurnsDeliver
unfolding sender_rom receiver_rom
turns_deliver message schedule room l =
    all_received message room (after schedule message)
    (all_turns message room (zeros_behind SENDER) (zeros_behind RECEIVER) schedule (40 * (length message + 2)) (start message) l
    (first_within message room (40 * (length message + 2)) (omega arith)))

turns_of_pairs : (n : ℕ) → turns (pairs n) ≡ n
turns_of_pairs zero = refl
turns_of_pairs (suc n) = ap suc (turns_of_pairs n)

pub pairs_deliver : PairsDeliver
pairs_deliver message n room l = turns_deliver message (pairs n) room (omega (arith, l, turns_of_pairs n))

pub numbers_deliver : NumbersDeliver
numbers_deliver message number moves room l =
    turns_deliver message (schedule_by number moves) room (turns-of-number number (40 * (length message + 2)) moves (omega (arith, l)))
