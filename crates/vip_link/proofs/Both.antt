-- Both machines: what holds of the pair, and what a move of A, a move of B and a pair of moves make of that.
use Rattle.std.proofs.Common.{◌≡◌, ℕ, ◌+◌, ◌-◌, ◌*◌, ◌/◌, ◌%◌, ◌<◌, ◌≤◌, ◌⊎◌, inl, inr, refl, sym, ◌∙◌, ap, ap₂, subst, arith, List, [], ◌∷◌, ◌++◌, length, take, slice_index, slice_set, get_or-set_same, get_or-set_other, length-set, append-nil}
use Rattle.std.specs.Prelude.{Option, Some, None, is_some, IsSome}
use Rattle.std.proofs.lemmas.Bool.{cases_eq}
use Rattle.std.proofs.lemmas.List.{take_more}
use Rattle.machine.specs.Board.{Machine}
use Rattle.vip_board.specs.Linked.{Joined, joined, linked_move}
use Rattle.vip_link.specs.Pair.{Pair, no_keys, entered, left, after_a, after_b}
use Rattle.vip_link.proofs.Sending.{Sends, sender_moves, sends_taken, rom as rom_a, Makes as SenderMakes}
use Rattle.vip_link.proofs.Sending.Makes.{GoesOn as SenderGoesOn, Waits as SenderWaits, Puts}
use Rattle.vip_link.proofs.Receiving.{Receives, receiver_moves, receives_sent, rom as rom_b, Makes as ReceiverMakes}
use Rattle.vip_link.proofs.Receiving.Makes.{GoesOn as ReceiverGoesOn, Waits as ReceiverWaits, Takes}

-- k bytes of the message were sent and j received: all of them, or all but the one on the wire
pub data Wire (message : List ℕ) (k j : ℕ) (w : Option ℕ) : Type 0 where
  Empty : w ≡ None → k ≡ j → Wire message k j w
  Full : w ≡ Some (slice_index message j) → k ≡ j + 1 → Wire message k j w

none_or_some : {byte : ℕ} {w : Option ℕ} → w ≡ None → w ≡ Some byte → ⊥
none_or_some e f = cc

some_same : {x y : ℕ} {w : Option ℕ} → w ≡ Some x → w ≡ Some y → x ≡ y
some_same e f = cc

pub is_some_none : {w : Option ℕ} → w ≡ None → IsSome w → ⊥
is_some_none e h = cc

module _ (message : List ℕ) (k j : ℕ) (w : Option ℕ) where
  wire_empty : Wire message k j w → w ≡ None → k ≡ j
  wire_empty (Empty e f) h = f
  wire_empty (Full e f) h = absurd (none_or_some h e)

  wire_full : Wire message k j w → IsSome w → k ≡ j + 1
  wire_full (Empty e f) h = absurd (is_some_none e h)
  wire_full (Full e f) h = f

  wire_byte : (byte : ℕ) → Wire message k j w → w ≡ Some byte → byte ≡ slice_index message j
  wire_byte byte (Empty e f) h = absurd (none_or_some e h)
  wire_byte byte (Full e f) h = some_same h e

-- a wire that stays as it is
same_entered : (w : Option ℕ) → entered w w ≡ []
same_entered None = refl
same_entered (Some byte) = refl

same_left : (w : Option ℕ) → left w w ≡ []
same_left None = refl
same_left (Some byte) = refl

nothing_more : (l m more : List ℕ) → more ≡ [] → l ≡ m → l ++ more ≡ m
nothing_more l m more e f = ap (λ x. l ++ x) e ∙ append-nil l ∙ f

-- one byte more of the message
one_more : (message l : List ℕ) (k byte : ℕ) → k < length message → l ≡ take k message
    → byte ≡ slice_index message k → l ++ byte ∷ [] ≡ take (k + 1) message
one_more message l k byte less e f = ap₂ (λ x y. x ++ y ∷ []) e f ∙ sym (take_more message k 0 less)

-- What holds of a pair where k bytes were sent and j received, A has `a` moves left that don't wait, and B has `b`.
pub record Holds (message ram_a : List ℕ) (k j a b : ℕ) (s : Pair) : Type 0 where
  pub ram : List ℕ
  pub sender : Sends (length message) ram_a k s.to_b a s.a
  pub receiver : Receives (length message) ram j s.to_b b s.b
  pub wire : Wire message k j s.to_b
  pub within : k ≤ length message
  pub alone : s.to_a ≡ None
  pub sent : s.sent ≡ take k message
  pub received : s.received ≡ take j message
  pub stored : (i : ℕ) → i < j → slice_index ram (0x200 + i) ≡ slice_index message i
  pub size : length ram ≡ 0x1000

module _ (message ram_a : List ℕ) (k j a b : ℕ) (s : Pair) (h : Holds message ram_a k j a b s) where
  -- ---- a move of A

  -- it goes on, or waits: for the wire, or since all is sent
  pub data StepA (l : Joined) : Type 0 where
    GoesOnA : (k' m : ℕ) → m < a → Holds message ram_a k' j m b (after_a l s) → StepA l
    WaitsA : Holds message ram_a k j a b (after_a l s) → IsSome l.outgoing ⊎ ((k ≡ length message) × (a ≡ 0)) → StepA l

  a_leaves : (m : ℕ) (c : Machine) → Sends (length message) ram_a k s.to_b m c → Holds message ram_a k j m b (after_a (joined c None s.to_b) s)
  a_leaves m c sends =
      record {
        ram = h.ram;
        sender = sends;
        receiver = h.receiver;
        wire = h.wire;
        within = h.within;
        alone = refl;
        sent = nothing_more s.sent (take k message) (entered s.to_b s.to_b) (same_entered s.to_b) h.sent;
        received = h.received;
        stored = h.stored;
        size = h.size;
      }

  a_puts : (m byte : ℕ) (c : Machine) → s.to_b ≡ None → k < length message → byte ≡ slice_index message k
      → Sends (length message) ram_a (k + 1) (Some byte) m c → Holds message ram_a (k + 1) j m b (after_a (joined c None (Some byte)) s)
  a_puts m byte c e less is sends =
      record {
        ram = h.ram;
        sender = sends;
        receiver = receives_sent (length message) h.ram j byte b s.b (subst (λ w. Receives (length message) h.ram j w b s.b) e h.receiver);
        wire = Full (ap (λ x. Some x) (is ∙ ap (slice_index message) same)) (ap (λ x. x + 1) same);
        within = omega (arith, less);
        alone = refl;
        sent = ap (λ w. s.sent ++ entered w (Some byte)) e ∙ one_more message s.sent k byte less h.sent is;
        received = h.received;
        stored = h.stored;
        size = h.size;
      }
    where
      same : k ≡ j
      same = wire_empty message k j s.to_b h.wire e

  module _ (text : (i : ℕ) → i < length message → slice_index ram_a (0x200 + i) ≡ slice_index message i) where
    a_makes : (l : Joined) → SenderMakes (length message) ram_a k s.to_b a l → StepA l
    a_makes l (SenderGoesOn c m e sends less) = subst StepA (sym e) (GoesOnA k m less (a_leaves m c sends))
    a_makes l (SenderWaits c e sends w) = subst StepA (sym e) (WaitsA (a_leaves a c sends) w)
    a_makes l (Puts c m e less is sends fewer) =
        subst StepA (sym is) (GoesOnA (k + 1) m fewer (a_puts m (slice_index ram_a (0x200 + k)) c e less (text k less) sends))

    pub step_a : (rest : List ℕ) → length message ≤ 3000
        → slice_index ram_a 0x1fe ≡ length message / 256 → slice_index ram_a 0x1ff ≡ length message % 256
        → StepA (linked_move (rom_a rest) no_keys (joined s.a s.to_a s.to_b))
    step_a rest room high low =
        subst (λ w. StepA (linked_move (rom_a rest) no_keys (joined s.a w s.to_b))) (sym h.alone)
        (a_makes (linked_move (rom_a rest) no_keys (joined s.a None s.to_b))
        (sender_moves rest no_keys (length message) ram_a room high low k s.to_b a s.a h.sender))

  -- ---- a move of B

  -- it goes on, or waits for the wire
  pub data StepB (l : Joined) : Type 0 where
    GoesOnB : (j' m : ℕ) → m < b → Holds message ram_a k j' a m (after_b l s) → StepB l
    WaitsB : s.to_b ≡ None → b ≡ 4 * (length message - k) → Holds message ram_a k j a b (after_b l s) → StepB l

  b_leaves : (m : ℕ) (c : Machine) → Receives (length message) h.ram j s.to_b m c → Holds message ram_a k j a m (after_b (joined c s.to_b None) s)
  b_leaves m c receives =
      record {
        ram = h.ram;
        sender = h.sender;
        receiver = receives;
        wire = h.wire;
        within = h.within;
        alone = refl;
        sent = h.sent;
        received = nothing_more s.received (take j message) (left s.to_b s.to_b) (same_left s.to_b) h.received;
        stored = h.stored;
        size = h.size;
      }

  -- the byte lies behind those that were stored before
  stored_too : (byte : ℕ) → byte ≡ slice_index message j → j < length message → length message ≤ 3000
      → (i : ℕ) → i < j + 1 → slice_index (slice_set h.ram (0x200 + j) byte) (0x200 + i) ≡ slice_index message i
  stored_too byte is less room i l = go (cases_eq i j)
    where
      go : (i ≡ j) ⊎ (i ≡ j → ⊥) → slice_index (slice_set h.ram (0x200 + j) byte) (0x200 + i) ≡ slice_index message i
      go (inl e) = rw e (get_or-set_same h.ram (0x200 + j) byte 0 (omega (arith, h.size)) ∙ is)
      go (inr n) = get_or-set_other h.ram (0x200 + j) (0x200 + i) byte 0 (λ e. n (omega (arith, e))) ∙ h.stored i (omega (arith, n))

  b_takes : (m byte : ℕ) (c : Machine) → s.to_b ≡ Some byte → j < length message → length message ≤ 3000
      → Receives (length message) (slice_set h.ram (0x200 + j) byte) (j + 1) None m c → Holds message ram_a k (j + 1) a m (after_b (joined c None None) s)
  b_takes m byte c e less room receives =
      record {
        ram = slice_set h.ram (0x200 + j) byte;
        sender = sends_taken (length message) ram_a k s.to_b a s.a h.sender;
        receiver = receives;
        wire = Empty refl (wire_full message k j s.to_b h.wire (ap (λ w. is_some w) e));
        within = h.within;
        alone = refl;
        sent = h.sent;
        received = ap (λ w. s.received ++ left w None) e ∙ one_more message s.received j byte less h.received is;
        stored = stored_too byte is less room;
        size = length-set h.ram (0x200 + j) byte ∙ h.size;
      }
    where
      is : byte ≡ slice_index message j
      is = wire_byte message k j s.to_b byte h.wire e

  b_makes : (l : Joined) → length message ≤ 3000 → ReceiverMakes (length message) h.ram j s.to_b b l → StepB l
  b_makes l room (ReceiverGoesOn c m e receives less) = subst StepB (sym e) (GoesOnB j m less (b_leaves m c receives))
  b_makes l room (ReceiverWaits c none e receives least) =
      let same : k ≡ j = wire_empty message k j s.to_b h.wire none in
      subst StepB (sym e) (WaitsB none (least ∙ ap (λ x. 4 * (length message - x)) (sym same)) (b_leaves b c receives))
  b_makes l room (Takes byte c m full less e receives fewer) = subst StepB (sym e) (GoesOnB (j + 1) m fewer (b_takes m byte c full less room receives))

  pub step_b : (rest : List ℕ) → length message ≤ 3000 → StepB (linked_move (rom_b rest) no_keys (joined s.b s.to_b s.to_a))
  step_b rest room =
      subst (λ w. StepB (linked_move (rom_b rest) no_keys (joined s.b s.to_b w))) (sym h.alone)
      (b_makes (linked_move (rom_b rest) no_keys (joined s.b s.to_b None)) room
      (receiver_moves rest no_keys (length message) room h.ram j s.to_b b s.b
      (λ some. omega (arith, h.within, wire_full message k j s.to_b h.wire some)) h.receiver))
