-- RECEIVER, instruction by instruction: what is known before each one, and what its move makes of that.
use Rattle.std.proofs.Common.{◌≡◌, ℕ, ◌+◌, ◌-◌, ◌*◌, ◌<◌, ◌≤◌, refl, sym, ◌∙◌, ap, subst, arith, Bool, true, false, List, ◌++◌, slice_set}
use Rattle.std.specs.Prelude.{Option, Some, None, IsSome}
use Rattle.machine.specs.Bank.{Word, word, word_of, zeros}
use Rattle.machine.specs.Memory.{read}
use Rattle.machine.specs.Board.{Machine}
use Rattle.machine.specs.Keys.{Keys}
use Rattle.vip_board.specs.Linked.{Joined, joined, linked_move}
use Rattle.vip_link.specs.declared.receiver.TheConstants.{CODE}
use Rattle.vip_link.proofs.Words.{up_is, written_at}

-- its instructions, in the order of their addresses
pub data Place : Type 0 where
  -- boot: LBR, OUT 4, and R1 is set
  Reset : Place
  Unlatch : Place
  PageOfStore : Place
  PutPage : Place
  PlaceOfStore : Place
  PutPlace : Place
  Point : Place
  -- wait
  Wait : Place
  Take : Place
  Step : Place
  Again : Place

-- the most moves from there on that don't wait, where r bytes are still to come
abbrev pub moves_left : Place → ℕ → ℕ
moves_left Reset r = 4 * r + 7
moves_left Unlatch r = 4 * r + 6
moves_left PageOfStore r = 4 * r + 5
moves_left PutPage r = 4 * r + 4
moves_left PlaceOfStore r = 4 * r + 3
moves_left PutPlace r = 4 * r + 2
moves_left Point r = 4 * r + 1
moves_left Wait r = 4 * r
moves_left Take r = 4 * r - 1
moves_left Step r = 4 * r + 2
moves_left Again r = 4 * r + 1

-- any ROM that begins with the code
abbrev pub rom : List ℕ → List ℕ
rom rest = CODE ++ rest

-- for a message of n bytes
module _ (n : ℕ) where
  abbrev pub at : List ℕ → Bool → ℕ → Word → ℕ → ℕ → ℕ → ℕ → Machine
  at ram latch page r1 pc d x cycle =
      record {
        regs = record { r = record zeros { r0 = word page pc; r1 = r1 }; d = d; df = 0; p = 0; x = x; t = 0; q = false; ie = true; idle = false };
        ram = ram;
        latch = latch;
        on = false;
        key = 0;
        cycle = cycle;
      }

  -- the machine before each instruction, where j bytes were taken
  abbrev pub row : Place → List ℕ → ℕ → ℕ → ℕ → Machine
  row Reset ram j d c = at ram true 0 (word 0 0) 0 0 0 c
  row Unlatch ram j d c = at ram true 0x80 (word 0 0) 0x03 0 0 c
  row PageOfStore ram j d c = at ram false 0x80 (word 0 0) 0x05 0 0 c
  row PutPage ram j d c = at ram false 0x80 (word 0 0) 0x07 0x02 0 c
  row PlaceOfStore ram j d c = at ram false 0x80 (word 0x02 0) 0x08 0x02 0 c
  row PutPlace ram j d c = at ram false 0x80 (word 0x02 0) 0x0a 0x00 0 c
  row Point ram j d c = at ram false 0x80 (word 0x02 0) 0x0b 0x00 0 c
  row Wait ram j d c = at ram false 0x80 (word_of (0x200 + j)) 0x0c d 1 c
  row Take ram j d c = at ram false 0x80 (word_of (0x200 + j)) 0x0e d 1 c
  row Step ram j d c = at ram false 0x80 (word_of (0x1ff + j)) 0x0f d 1 c
  row Again ram j d c = at ram false 0x80 (word_of (0x200 + j)) 0x10 d 1 c

  -- what else is known, with the incoming wire
  abbrev pub Known : Place → ℕ → Option ℕ → Type 0
  Known Wait j w = j ≤ n
  Known Take j w = (j < n) × IsSome w
  Known Step j w = (1 ≤ j) × (j ≤ n)
  Known Again j w = j ≤ n
  Known _ j w = j ≡ 0

  -- the machine b with this RAM is at some instruction, with j bytes taken, w on the incoming wire, and so many moves left
  pub record Receives (ram : List ℕ) (j : ℕ) (w : Option ℕ) (moves : ℕ) (b : Machine) : Type 0 where
    pub place : Place
    pub d : ℕ
    pub cycle : ℕ
    pub is : b ≡ row place ram j d cycle
    pub known : Known place j w
    pub moves_is : moves ≡ moves_left place (n - j)

  -- What a move makes: the machine goes on and leaves the wires; it waits for the wire; or it takes the byte from the wire and stores it.
  pub data Makes (ram : List ℕ) (j : ℕ) (w : Option ℕ) (moves : ℕ) (l : Joined) : Type 0 where
    GoesOn : (b : Machine) (m : ℕ) → l ≡ joined b w None → Receives ram j w m b → m < moves → Makes ram j w moves l
    Waits : (b : Machine) → w ≡ None → l ≡ joined b w None → Receives ram j w moves b → moves ≡ 4 * (n - j) → Makes ram j w moves l
    Takes : (byte : ℕ) (b : Machine) (m : ℕ)
        → w ≡ Some byte
        → j < n
        → l ≡ joined b None None
        → Receives (slice_set ram (0x200 + j) byte) (j + 1) None m b
        → m < moves
        → Makes ram j w moves l

  pub to : (p : Place) (ram : List ℕ) (j d c moves : ℕ) (w : Option ℕ) (l : Joined)
      → l ≡ joined (row p ram j d c) w None → Known p j w → moves_left p (n - j) < moves → Makes ram j w moves l
  to p ram j d c moves w l e h s =
      GoesOn (row p ram j d c) (moves_left p (n - j)) e (record { place = p; d = d; cycle = c; is = refl; known = h; moves_is = refl }) s

  -- when a byte comes onto the wire, it stays there
  known_sent : (p : Place) (j byte : ℕ) → Known p j None → Known p j (Some byte)
  known_sent Take j byte h = (h.0, refl)
  known_sent _ j byte h = h

  pub receives_sent : (ram : List ℕ) (j byte m : ℕ) (b : Machine) → Receives ram j None m b → Receives ram j (Some byte) m b
  receives_sent ram j byte m b s =
      record { place = s.place; d = s.d; cycle = s.cycle; is = s.is; known = known_sent s.place j byte s.known; moves_is = s.moves_is }

  pub ram_is : (ram : List ℕ) (j : ℕ) (w : Option ℕ) (m : ℕ) (b : Machine) → Receives ram j w m b → b.ram ≡ ram
  ram_is ram j w m b s = ap (λ (z : Machine). z.ram) s.is ∙ same s.place
    where
      same : (p : Place) → (row p ram j s.d s.cycle).ram ≡ ram
      same Reset = refl
      same Unlatch = refl
      same PageOfStore = refl
      same PutPage = refl
      same PlaceOfStore = refl
      same PutPlace = refl
      same Point = refl
      same Wait = refl
      same Take = refl
      same Step = refl
      same Again = refl

  -- the display is off before each instruction
  pub receives_off : (ram : List ℕ) (j : ℕ) (w : Option ℕ) (m : ℕ) (b : Machine) → Receives ram j w m b → b.on ≡ false
  receives_off ram j w m b s = ap (λ (z : Machine). z.on) s.is ∙ off s.place
    where
      off : (p : Place) → (row p ram j s.d s.cycle).on ≡ false
      off Reset = refl
      off Unlatch = refl
      off PageOfStore = refl
      off PutPage = refl
      off PlaceOfStore = refl
      off PutPlace = refl
      off Point = refl
      off Wait = refl
      off Take = refl
      off Step = refl
      off Again = refl

  -- as many moves are left as bytes are to come, and no fewer
  pub enough : (ram : List ℕ) (j : ℕ) (w : Option ℕ) (m : ℕ) (b : Machine) → Receives ram j w m b → n - j ≤ m
  enough ram j w m b s = rw s.moves_is (at_least s.place s.known)
    where
      at_least : (p : Place) → Known p j w → n - j ≤ moves_left p (n - j)
      at_least Take h = omega (arith, h.0)
      at_least Reset h = omega arith
      at_least Unlatch h = omega arith
      at_least PageOfStore h = omega arith
      at_least PutPage h = omega arith
      at_least PlaceOfStore h = omega arith
      at_least PutPlace h = omega arith
      at_least Point h = omega arith
      at_least Wait h = omega arith
      at_least Step h = omega arith
      at_least Again h = omega arith

-- whatever keys are held down
module _ (rest : List ℕ) (held : ℕ → Keys) (n : ℕ) (room : n ≤ 3000) where
  abbrev After : Place → List ℕ → ℕ → ℕ → ℕ → Option ℕ → Type 0
  After p ram j d c w = Makes n ram j w (moves_left p (n - j)) (linked_move (rom rest) held (joined (row n p ram j d c) w None))

  -- the byte that is taken
  takes : (ram : List ℕ) (j d c byte : ℕ) → j < n → After Take ram j d c (Some byte)
  unfolding read
  takes ram j d c byte h =
      Takes byte (row n Step (slice_set ram (0x200 + j) byte) (j + 1) byte (c + 2)) (4 * (n - (j + 1)) + 2) refl h
      (λ i. joined (at n (written_at ram (0x200 + j) byte (omega arith) i) false 0x80 (word_of (next i)) 0x0f byte 1 (c + 2)) None None)
      (record { place = Step; d = byte; cycle = c + 2; is = refl; known = (omega arith, omega arith); moves_is = refl }) (omega arith)
    where
      next : 0x200 + j ≡ 0x1ff + (j + 1)
      next = omega arith

  -- where a byte comes, one is still to come
  abbrev More : ℕ → Option ℕ → Type 0
  More j w = IsSome w → j < n

  moves : (p : Place) (ram : List ℕ) (j d c : ℕ) (w : Option ℕ) → More j w → Known n p j w → After p ram j d c w
  unfolding read
  moves Reset ram j d c w f h = to n Unlatch ram j 0 (c + 3) _ w _ refl h (omega arith)
  moves Unlatch ram j d c w f h = to n PageOfStore ram j 0 (c + 2) _ w _ refl h (omega arith)
  moves PageOfStore ram j d c w f h = to n PutPage ram j 0 (c + 2) _ w _ refl h (omega arith)
  moves PutPage ram j d c w f h = to n PlaceOfStore ram j 0 (c + 2) _ w _ refl h (omega arith)
  moves PlaceOfStore ram j d c w f h = to n PutPlace ram j 0 (c + 2) _ w _ refl h (omega arith)
  moves PutPlace ram j d c w f h = to n Point ram j 0 (c + 2) _ w _ refl h (omega arith)
  moves Point ram j d c w f h =
      to n Wait ram j 0 (c + 2) _ w _ (ap (λ a. joined (at n ram false 0x80 (word_of a) 0x0c 0 1 (c + 2)) w None) first) (omega (arith, h)) (omega arith)
    where
      first : 0x200 ≡ 0x200 + j
      first = omega (arith, h)
  moves Wait ram j d c None f h =
      Waits (row n Wait ram j d (c + 2)) refl refl (record { place = Wait; d = d; cycle = c + 2; is = refl; known = h; moves_is = refl }) refl
  moves Wait ram j d c (Some byte) f h = to n Take ram j d (c + 2) _ (Some byte) _ refl (f refl, refl) (omega (arith, f refl))
  moves Take ram j d c None f h = let e : false ≡ true = h.1 in cc
  moves Take ram j d c (Some byte) f h = takes ram j d c byte h.0
  moves Step ram j d c w f h =
      to n Again ram j d (c + 2) _ w _
      (ap (λ r. joined (at n ram false 0x80 r 0x10 d 1 (c + 2)) w None) (up_is (0x1ff + j) (0x200 + j) (omega arith) (omega (arith, h.1))))
      h.1 (omega arith)
  moves Again ram j d c w f h = to n Wait ram j d (c + 2) _ w _ refl h (omega arith)

  -- a machine that is at some instruction makes its move
  pub receiver_moves : (ram : List ℕ) (j : ℕ) (w : Option ℕ) (m : ℕ) (b : Machine) → More j w → Receives n ram j w m b
      → Makes n ram j w m (linked_move (rom rest) held (joined b w None))
  receiver_moves ram j w m b f s =
      let After : ℕ → Machine → Type 0 = λ m b. Makes n ram j w m (linked_move (rom rest) held (joined b w None)) in
      subst (After m) (sym s.is) (subst (λ m. After m (row n s.place ram j s.d s.cycle)) (sym s.moves_is) (moves s.place ram j s.d s.cycle w f s.known))
