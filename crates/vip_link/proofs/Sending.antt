-- SENDER, instruction by instruction: what is known before each one, and what its move makes of that.
use Rattle.std.proofs.Common.{◌≡◌, ℕ, ◌+◌, ◌-◌, ◌*◌, ◌/◌, ◌%◌, ◌<◌, ◌≤◌, ◌⊎◌, inl, inr, refl, sym, ◌∙◌, ap, subst, arith, Bool, true, false, not, cond, List, ◌++◌, slice_index}
use Rattle.std.specs.Prelude.{Option, Some, None, IsSome}
use Rattle.std.proofs.lemmas.Bool.{cases_eq, ne_eqb, eq-eqb}
use Rattle.machine.specs.Bank.{Word, word, word_of, up, zeros}
use Rattle.machine.specs.Memory.{read}
use Rattle.machine.specs.Board.{Machine}
use Rattle.machine.specs.Keys.{Keys}
use Rattle.vip_board.specs.Linked.{Joined, joined, linked_move}
use Rattle.vip_link.specs.declared.sender.TheConstants.{CODE}
use Rattle.vip_link.proofs.Words.{up_is, down_is, byte_is}

-- its instructions, in the order of their addresses
pub data Place : Type 0 where
  -- boot: LBR, OUT 4, and R1 and R2 are set
  Reset : Place
  Unlatch : Place
  PageOfLength : Place
  PutPage : Place
  PlaceOfLength : Place
  PutPlace : Place
  ReadHigh : Place
  PutHigh : Place
  ReadLow : Place
  PutLow : Place
  Point : Place
  -- next
  TestHigh : Place
  BranchHigh : Place
  TestLow : Place
  BranchLow : Place
  -- wait
  Wait : Place
  Send : Place
  Count : Place
  Again : Place
  -- done
  Done : Place

-- the most moves from there to the end that don't wait, where r bytes are left
abbrev pub moves_left : Place → ℕ → ℕ
moves_left Reset r = 8 * r + 15
moves_left Unlatch r = 8 * r + 14
moves_left PageOfLength r = 8 * r + 13
moves_left PutPage r = 8 * r + 12
moves_left PlaceOfLength r = 8 * r + 11
moves_left PutPlace r = 8 * r + 10
moves_left ReadHigh r = 8 * r + 9
moves_left PutHigh r = 8 * r + 8
moves_left ReadLow r = 8 * r + 7
moves_left PutLow r = 8 * r + 6
moves_left Point r = 8 * r + 5
moves_left TestHigh r = 8 * r + 4
moves_left BranchHigh r = 8 * r + 3
moves_left TestLow r = 8 * r + 2
moves_left BranchLow r = 8 * r + 1
moves_left Wait r = 8 * r
moves_left Send r = 8 * r - 1
moves_left Count r = 8 * r + 6
moves_left Again r = 8 * r + 5
moves_left Done r = 0

-- any ROM that begins with the code
abbrev pub rom : List ℕ → List ℕ
rom rest = CODE ++ rest

-- for a message of n bytes, with this RAM
module _ (n : ℕ) (ram : List ℕ) where
  abbrev pub at : Bool → Word → Word → Word → ℕ → ℕ → ℕ → Machine
  at latch pc r1 r2 d x cycle =
      record {
        regs = record { r = record zeros { r0 = pc; r1 = r1; r2 = r2 }; d = d; df = 0; p = 0; x = x; t = 0; q = false; ie = true; idle = false };
        ram = ram;
        latch = latch;
        on = false;
        key = 0;
        cycle = cycle;
      }

  -- in the loop, where k bytes were sent and so many are counted as left
  abbrev pub looping : ℕ → ℕ → ℕ → ℕ → ℕ → Machine
  looping pc k remain d cycle = at false (word 0x80 pc) (word_of (0x200 + k)) (word_of remain) d 1 cycle

  -- behind a branch, at one of two addresses
  abbrev pub forked : Bool → ℕ → ℕ → ℕ → ℕ → ℕ → Machine
  forked taken there here k d cycle = at false (cond taken (word 0x80 there) (word 0x80 here)) (word_of (0x200 + k)) (word_of (n - k)) d 1 cycle

  -- the machine before each instruction
  abbrev pub row : Place → ℕ → ℕ → ℕ → Machine
  row Reset k d c = at true (word 0 0) (word 0 0) (word 0 0) 0 0 c
  row Unlatch k d c = at true (word 0x80 0x03) (word 0 0) (word 0 0) 0 0 c
  row PageOfLength k d c = at false (word 0x80 0x05) (word 0 0) (word 0 0) 0 0 c
  row PutPage k d c = at false (word 0x80 0x07) (word 0 0) (word 0 0) 0x01 0 c
  row PlaceOfLength k d c = at false (word 0x80 0x08) (word 0x01 0) (word 0 0) 0x01 0 c
  row PutPlace k d c = at false (word 0x80 0x0a) (word 0x01 0) (word 0 0) 0xfe 0 c
  row ReadHigh k d c = at false (word 0x80 0x0b) (word 0x01 0xfe) (word 0 0) 0xfe 0 c
  row PutHigh k d c = at false (word 0x80 0x0c) (word 0x01 0xff) (word 0 0) (n / 256) 0 c
  row ReadLow k d c = at false (word 0x80 0x0d) (word 0x01 0xff) (word (n / 256) 0) (n / 256) 0 c
  row PutLow k d c = at false (word 0x80 0x0e) (word 0x02 0) (word (n / 256) 0) (n % 256) 0 c
  row Point k d c = at false (word 0x80 0x0f) (word 0x02 0) (word (n / 256) (n % 256)) (n % 256) 0 c
  row TestHigh k d c = looping 0x10 k (n - k) d c
  row BranchHigh k d c = looping 0x11 k (n - k) d c
  row TestLow k d c = looping 0x13 k (n - k) d c
  row BranchLow k d c = looping 0x14 k (n - k) d c
  row Wait k d c = looping 0x16 k (n - k) d c
  row Send k d c = looping 0x18 k (n - k) d c
  row Count k d c = looping 0x19 k (n - k + 1) d c
  row Again k d c = looping 0x1a k (n - k) d c
  row Done k d c = looping 0x1c k (n - k) d c

  -- what else is known, with the outgoing wire
  abbrev pub Known : Place → ℕ → ℕ → Option ℕ → Type 0
  Known TestHigh k d w = k ≤ n
  Known BranchHigh k d w = (k ≤ n) × (d ≡ (n - k) / 256)
  Known TestLow k d w = (k ≤ n) × (n - k < 256)
  Known BranchLow k d w = (k ≤ n) × (n - k < 256) × (d ≡ (n - k) % 256)
  Known Wait k d w = k < n
  Known Send k d w = (k < n) × (w ≡ None)
  Known Count k d w = k ≤ n
  Known Again k d w = k ≤ n
  Known Done k d w = k ≡ n
  Known _ k d w = k ≡ 0

  -- the machine b is at some instruction, with k bytes sent, w on the outgoing wire, and so many moves left
  pub record Sends (k : ℕ) (w : Option ℕ) (moves : ℕ) (b : Machine) : Type 0 where
    pub place : Place
    pub d : ℕ
    pub cycle : ℕ
    pub is : b ≡ row place k d cycle
    pub known : Known place k d w
    pub moves_is : moves ≡ moves_left place (n - k)

  -- What a move makes: the machine goes on and leaves the wires; it waits, for the wire or for ever; or the next byte of the message enters the
  -- wire, which was empty.
  pub data Makes (k : ℕ) (w : Option ℕ) (moves : ℕ) (j : Joined) : Type 0 where
    GoesOn : (b : Machine) (m : ℕ) → j ≡ joined b None w → Sends k w m b → m < moves → Makes k w moves j
    Waits : (b : Machine) → j ≡ joined b None w → Sends k w moves b → IsSome w ⊎ ((k ≡ n) × (moves ≡ 0)) → Makes k w moves j
    Puts : (b : Machine) (m : ℕ)
        → w ≡ None
        → k < n
        → j ≡ joined b None (Some (slice_index ram (0x200 + k)))
        → Sends (k + 1) (Some (slice_index ram (0x200 + k))) m b
        → m < moves
        → Makes k w moves j

  pub to : (p : Place) (k d c moves : ℕ) (w : Option ℕ) (j : Joined)
      → j ≡ joined (row p k d c) None w → Known p k d w → moves_left p (n - k) < moves → Makes k w moves j
  to p k d c moves w j e h l =
      GoesOn (row p k d c) (moves_left p (n - k)) e (record { place = p; d = d; cycle = c; is = refl; known = h; moves_is = refl }) l

  pub stays : (p : Place) (k d c : ℕ) (w : Option ℕ) (j : Joined)
      → j ≡ joined (row p k d c) None w → Known p k d w → IsSome w ⊎ ((k ≡ n) × (moves_left p (n - k) ≡ 0))
      → Makes k w (moves_left p (n - k)) j
  stays p k d c w j e h s =
      Waits (row p k d c) e (record { place = p; d = d; cycle = c; is = refl; known = h; moves_is = refl }) s

  -- the display is off before each instruction
  pub sends_off : (k : ℕ) (w : Option ℕ) (m : ℕ) (b : Machine) → Sends k w m b → b.on ≡ false
  sends_off k w m b s = ap (λ (z : Machine). z.on) s.is ∙ off s.place
    where
      off : (p : Place) → (row p k s.d s.cycle).on ≡ false
      off Reset = refl
      off Unlatch = refl
      off PageOfLength = refl
      off PutPage = refl
      off PlaceOfLength = refl
      off PutPlace = refl
      off ReadHigh = refl
      off PutHigh = refl
      off ReadLow = refl
      off PutLow = refl
      off Point = refl
      off TestHigh = refl
      off BranchHigh = refl
      off TestLow = refl
      off BranchLow = refl
      off Wait = refl
      off Send = refl
      off Count = refl
      off Again = refl
      off Done = refl

  -- when the byte is taken off the wire, it stays there
  known_taken : (p : Place) (k d : ℕ) (w : Option ℕ) → Known p k d w → Known p k d None
  known_taken Send k d w h = (h.0, refl)
  known_taken _ k d w h = h

  pub sends_taken : (k : ℕ) (w : Option ℕ) (m : ℕ) (b : Machine) → Sends k w m b → Sends k None m b
  sends_taken k w m b s =
      record { place = s.place; d = s.d; cycle = s.cycle; is = s.is; known = known_taken s.place k s.d w s.known; moves_is = s.moves_is }

-- whatever keys are held down, with the message's length in RAM
module _ (rest : List ℕ) (held : ℕ → Keys) (n : ℕ) (ram : List ℕ) (room : n ≤ 3000)
    (high : slice_index ram 0x1fe ≡ n / 256) (low : slice_index ram 0x1ff ≡ n % 256) where
  abbrev After : Place → ℕ → ℕ → ℕ → Option ℕ → Type 0
  After p k d c w = Makes n ram k w (moves_left p (n - k)) (linked_move (rom rest) held (joined (row n ram p k d c) None w))

  -- the branches at next go by what is left
  branch_high : (k d c : ℕ) (w : Option ℕ) → Known n ram BranchHigh k d w → (d ≡ 0) ⊎ (d ≡ 0 → ⊥) → After BranchHigh k d c w
  unfolding read
  branch_high k d c w h (inl e) =
      to n ram TestLow k d (c + 2) _ w _
      (ap (λ t. joined (forked n ram (not t) 0x16 0x13 k d (c + 2)) None w) (eq-eqb d 0 e))
      (h.0, omega (arith, h.1, e)) (omega arith)
  branch_high k d c w h (inr e) =
      to n ram Wait k d (c + 2) _ w _ (ap (λ t. joined (forked n ram (not t) 0x16 0x13 k d (c + 2)) None w) (ne_eqb d 0 e)) some (omega arith)
    where
      some : k < n
      some = omega (arith, h.1, e)

  branch_low : (k d c : ℕ) (w : Option ℕ) → Known n ram BranchLow k d w → (d ≡ 0) ⊎ (d ≡ 0 → ⊥) → After BranchLow k d c w
  unfolding read
  branch_low k d c w h (inl e) =
      to n ram Done k d (c + 2) _ w _ (ap (λ t. joined (forked n ram t 0x1c 0x16 k d (c + 2)) None w) (eq-eqb d 0 e)) none (omega arith)
    where
      none : k ≡ n
      none = omega (arith, h.0, h.1, h.2, e)
  branch_low k d c w h (inr e) =
      to n ram Wait k d (c + 2) _ w _ (ap (λ t. joined (forked n ram t 0x1c 0x16 k d (c + 2)) None w) (ne_eqb d 0 e)) some (omega arith)
    where
      some : k < n
      some = omega (arith, h.0, h.1, h.2, e)

  -- the byte that is sent
  sends : (k d c : ℕ) → k < n → After Send k d c None
  unfolding read
  sends k d c l =
      Puts (row n ram Count (k + 1) d (c + 2)) (8 * (n - (k + 1)) + 6) refl l
      (λ i. joined (at n ram false (word 0x80 0x19) (next i) (word_of (count i)) d 1 (c + 2)) None (Some (byte_is (rom rest) ram (0x200 + k) (omega arith) i)))
      (record { place = Count; d = d; cycle = c + 2; is = refl; known = omega arith; moves_is = refl }) (omega arith)
    where
      next : up (word_of (0x200 + k)) ≡ word_of (0x200 + (k + 1))
      next = up_is (0x200 + k) (0x200 + (k + 1)) (omega arith) (omega arith)

      count : n - k ≡ n - (k + 1) + 1
      count = omega arith

  moves : (p : Place) (k d c : ℕ) (w : Option ℕ) → Known n ram p k d w → After p k d c w
  unfolding read
  moves Reset k d c w h = to n ram Unlatch k 0 (c + 3) _ w _ refl h (omega arith)
  moves Unlatch k d c w h = to n ram PageOfLength k 0 (c + 2) _ w _ refl h (omega arith)
  moves PageOfLength k d c w h = to n ram PutPage k 0 (c + 2) _ w _ refl h (omega arith)
  moves PutPage k d c w h = to n ram PlaceOfLength k 0 (c + 2) _ w _ refl h (omega arith)
  moves PlaceOfLength k d c w h = to n ram PutPlace k 0 (c + 2) _ w _ refl h (omega arith)
  moves PutPlace k d c w h = to n ram ReadHigh k 0 (c + 2) _ w _ refl h (omega arith)
  moves ReadHigh k d c w h =
      to n ram PutHigh k 0 (c + 2) _ w _
      (ap (λ z. joined (at n ram false (word 0x80 0x0c) (word 0x01 0xff) (word 0 0) z 0 (c + 2)) None w) high) h (omega arith)
  moves PutHigh k d c w h = to n ram ReadLow k 0 (c + 2) _ w _ refl h (omega arith)
  moves ReadLow k d c w h =
      to n ram PutLow k 0 (c + 2) _ w _
      (ap (λ z. joined (at n ram false (word 0x80 0x0e) (word 0x02 0) (word (n / 256) 0) z 0 (c + 2)) None w) low) h (omega arith)
  moves PutLow k d c w h = to n ram Point k 0 (c + 2) _ w _ refl h (omega arith)
  moves Point k d c w h =
      to n ram TestHigh k (n % 256) (c + 2) _ w _
      (λ i. joined (at n ram false (word 0x80 0x10) (word_of (first i)) (word_of (all i)) (n % 256) 1 (c + 2)) None w)
      (omega (arith, h)) (omega arith)
    where
      first : 0x200 ≡ 0x200 + k
      first = omega (arith, h)

      all : n ≡ n - k
      all = omega (arith, h)
  moves TestHigh k d c w h = to n ram BranchHigh k ((n - k) / 256) (c + 2) _ w _ refl (h, refl) (omega arith)
  moves BranchHigh k d c w h = branch_high k d c w h (cases_eq d 0)
  moves TestLow k d c w h = to n ram BranchLow k ((n - k) % 256) (c + 2) _ w _ refl (h.0, h.1, refl) (omega arith)
  moves BranchLow k d c w h = branch_low k d c w h (cases_eq d 0)
  moves Wait k d c None h = to n ram Send k d (c + 2) _ None _ refl (h, refl) (omega (arith, h))
  moves Wait k d c (Some byte) h = stays n ram Wait k d (c + 2) (Some byte) _ refl h (inl refl)
  moves Send k d c None h = sends k d c h.0
  moves Send k d c (Some byte) h = let e : Some byte ≡ None = h.1 in cc
  moves Count k d c w h =
      to n ram Again k d (c + 2) _ w _
      (ap (λ r. joined (at n ram false (word 0x80 0x1a) (word_of (0x200 + k)) r d 1 (c + 2)) None w) (down_is (n - k + 1) (n - k) refl (omega arith)))
      h (omega arith)
  moves Again k d c w h = to n ram TestHigh k d (c + 2) _ w _ refl h (omega arith)
  moves Done k d c w h = stays n ram Done k d (c + 2) w _ refl h (inr (h, refl))

  -- a machine that is at some instruction makes its move
  pub sender_moves : (k : ℕ) (w : Option ℕ) (m : ℕ) (b : Machine) → Sends n ram k w m b
      → Makes n ram k w m (linked_move (rom rest) held (joined b None w))
  sender_moves k w m b s =
      let After : ℕ → Machine → Type 0 = λ m b. Makes n ram k w m (linked_move (rom rest) held (joined b None w)) in
      subst (After m) (sym s.is) (subst (λ m. After m (row n ram s.place k s.d s.cycle)) (sym s.moves_is) (moves s.place k s.d s.cycle w s.known))
