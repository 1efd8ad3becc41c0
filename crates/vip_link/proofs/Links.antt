-- What a link needs of its runs: the RAM that it loads, one move more of a schedule, and the cycles of so many moves.
use Rattle.std.proofs.Common.{◌≡◌, ℕ, ◌+◌, ◌*◌, ◌/◌, ◌%◌, ◌≤◌, refl, sym, ◌∙◌, ap, ap₂, subst, arith, Bool, true, false, cond, List, [], ◌∷◌, ◌++◌, length, take, drop, replicate}
use Rattle.std.specs.Prelude.{Option, None, Vec, vec_capacity, ◌==◌}
use Rattle.std.proofs.lemmas.List.{length-append, length-replicate, length-take-le, length_push, take_at, drop_at, drop-drop, take-replicate}
use Rattle.machine.specs.Board.{Case, Machine, case_of, opcode_of, after_reset}
use Rattle.machine.specs.Board.Case.{Dma, Interrupt, Idle, Instruction}
use Rattle.std.proofs.Transfers.{starts_with_length}
use Rattle.machine.specs.Keys.{Keys, held_at}
use Rattle.vip_memory.specs.Contents.{loaded}
use Rattle.vip_board.specs.Seen.{Seen}
use Rattle.vip_board.specs.Linked.{Joined, joined, linked_in, linked_move}
use Rattle.vip_board.specs.Joins.{linked, linked_moved}
use Rattle.std.specs.Global.{Global}
use Rattle.vip_link.specs.declared.side.Side.{Side}
use Rattle.vip_link.specs.declared.side.Side.TheVariants.{A, B}
use Rattle.vip_link.specs.Pair.{Pair, no_keys, entered, left, stepped, scheduled}
use Rattle.vip_link.specs.Roms.{sender_rom, receiver_rom}
use Rattle.vip_link.specs.Laws.{most_bytes, message_ram, start, after, Delivers}
use Rattle.vip_link.specs.Links.{Linking, started}
use Rattle.vip_link.specs.Kept.{Runs, AtStart, Reached, IsKept, pair_of, linking_of}
use Rattle.vip_link.specs.declared.link.Link.TheInside.{Inside}
use Rattle.vip_link.proofs.Law.{always_delivers}

-- ---- the message in A's RAM

module _ (zeros message : List ℕ) (h l : ℕ) (long : length zeros ≡ 0x1000) where
  abbrev head : List ℕ
  head = take 0x1fe zeros ++ (h ∷ l ∷ [])

  abbrev inner : List ℕ
  inner = loaded zeros 0x1fe (h ∷ l ∷ [])

  head_long : length head ≡ 0x200
  head_long = length-append (take 0x1fe zeros) (h ∷ l ∷ []) ∙ ap (λ n. n + 2) (length-take-le 0x1fe zeros (omega (arith, long)))

  loads : loaded inner 0x200 message ≡ head ++ message ++ drop (0x200 + length message) zeros
  loads =
      ap₂ (λ x y. x ++ message ++ y) (take_at head (drop 0x200 zeros) 0x200 head_long)
      (sym (drop-drop (length message) 0x200 inner)
      ∙ ap (drop (length message)) (drop_at head (drop 0x200 zeros) 0x200 head_long)
      ∙ drop-drop (length message) 0x200 zeros)

abbrev zeros_of_ram : List ℕ
zeros_of_ram = replicate 0x1000 0

-- the two bytes of a message's length
abbrev length_bytes : List ℕ → List ℕ
length_bytes message = (length message / 256) ∷ (length message % 256) ∷ []

pub loads-message : (message : List ℕ) → loaded (loaded zeros_of_ram 0x1fe (length_bytes message)) 0x200 message ≡ message_ram message
loads-message message =
    loads zeros_of_ram message (length message / 256) (length message % 256) (length-replicate {A = ℕ} 0x1000 0)
    ∙ ap (λ x. x ++ length_bytes message ++ message ++ drop (0x200 + length message) zeros_of_ram)
    (take-replicate {X = ℕ} 0x1fe 0x1000 0 (omega arith))

-- ---- one move more

pub scheduled-push : (a b : List ℕ) (schedule : List Side) (side : Side) (s : Pair)
    → scheduled a b (schedule ++ side ∷ []) s ≡ stepped a b side (scheduled a b schedule s)
scheduled-push a b [] side s = refl
scheduled-push a b (x ∷ schedule) side s = scheduled-push a b schedule side (stepped a b x s)

-- ---- cycles

two_or_three : (t : Bool) → cond t 3 2 ≤ 3
two_or_three true = omega arith
two_or_three false = omega arith

module _ (rom : List ℕ) (held : ℕ → Keys) (j : Joined) where
  cycle_in : (k : Case) → (linked_in k rom held j).machine.cycle ≤ j.machine.cycle + 3
  cycle_in Dma = omega arith
  cycle_in Interrupt = omega arith
  cycle_in Idle = omega arith
  cycle_in Instruction = omega (arith, two_or_three (opcode_of rom j.machine / 16 == 12))

  cycle_more : (linked_move rom held j).machine.cycle ≤ j.machine.cycle + 3
  cycle_more = cycle_in (case_of j.machine)

-- both machines are at or before a cycle
pub record Within (n : ℕ) (s : Pair) : Type 0 where
  pub a : s.a.cycle ≤ n
  pub b : s.b.cycle ≤ n

module _ (rom_a rom_b : List ℕ) where
  within_step : (n : ℕ) (side : Side) (s : Pair) → Within n s → Within (n + 3) (stepped rom_a rom_b side s)
  within_step n A s h = record { a = omega (arith, h.a, cycle_more rom_a no_keys (joined s.a s.to_a s.to_b)); b = omega (arith, h.b) }
  within_step n B s h = record { a = omega (arith, h.a); b = omega (arith, h.b, cycle_more rom_b no_keys (joined s.b s.to_b s.to_a)) }

  within_all : (schedule : List Side) (n : ℕ) (s : Pair) → Within n s → Within (n + 3 * length schedule) (scheduled rom_a rom_b schedule s)
  within_all [] n s h = record { a = omega (arith, h.a); b = omega (arith, h.b) }
  within_all (side ∷ schedule) n s h =
      let f = within_all schedule (n + 3) (stepped rom_a rom_b side s) (within_step n side s h) in
      record { a = omega (arith, f.a); b = omega (arith, f.b) }

pub after-within : (schedule : List Side) (message : List ℕ) → Within (3 * length schedule) (after schedule message)
after-within schedule message =
    let f = within_all sender_rom receiver_rom schedule 0 (start message) (record { a = omega arith; b = omega arith }) in
    record { a = omega (arith, f.a); b = omega (arith, f.b) }

-- ---- a step of a link

-- the link after a move of a side
abbrev pub moved_by : Side → Linking → Linking
moved_by side l = record l { pair = stepped sender_rom receiver_rom side l.pair; moves = l.moves + 1 }

module _ (l : Linking) (r : Reached l) (side : Side) where
  one_more : stepped sender_rom receiver_rom side l.pair ≡ after (r.schedule ++ side ∷ []) l.message
  one_more = ap (stepped sender_rom receiver_rom side) r.pair ∙ sym (scheduled-push sender_rom receiver_rom r.schedule side (start l.message))

  pub next-reached : Reached (moved_by side l)
  next-reached = record { schedule = r.schedule ++ side ∷ []; long = length_push r.schedule side ∙ ap (λ n. n + 1) r.long; pair = one_more }

  pub next-delivers : length l.message ≤ most_bytes → Delivers l.message (stepped sender_rom receiver_rom side l.pair)
  next-delivers short = subst (Delivers l.message) (sym one_more) (always_delivers l.message (r.schedule ++ side ∷ []) short)

pub reached-within : (l : Linking) → Reached l → Within (3 * l.moves) l.pair
reached-within l r =
    subst (Within (3 * l.moves)) (sym r.pair)
    (subst (λ n. Within (3 * n) (after r.schedule l.message)) r.long (after-within r.schedule l.message))

-- ---- a board of a link

module _ (rom : List ℕ) (s v : Seen) (incoming outgoing : Option ℕ) (r : Runs rom s) (e : v ≡ linked_moved s incoming outgoing) where
  pub board-runs : Runs rom v
  board-runs =
      record {
        rests = ap (λ (x : Seen). x.phase) e ∙ r.rests;
        rom_is = ap (λ (x : Seen). x.rom) e ∙ r.rom_is;
        script = ap (λ (x : Seen). x.script) e ∙ r.script;
      }

  pub board-moves : linked s incoming outgoing ≡ linked_move rom no_keys (joined s.machine incoming outgoing)
  board-moves = ap₂ (λ x y. linked_move x (held_at y) (joined s.machine incoming outgoing)) r.rom_is r.script

  pub board-machine : v.machine ≡ (linked_move rom no_keys (joined s.machine incoming outgoing)).machine
  board-machine = ap (λ (x : Seen). x.machine) e ∙ ap (λ (j : Joined). j.machine) board-moves

-- ---- the fields of a link after a move

-- what is counted more of a list
count-more : (message more : List ℕ) (sent : ℕ) → sent ≤ length message → length (take sent message ++ more) ≡ sent + length more
count-more message more sent h = length-append (take sent message) more ∙ ap (λ n. n + length more) (length-take-le sent message h)

module _ (l : Inside) (k : IsKept l) (a' : Seen) (to_a' to_b' : Option ℕ) (sent' : ℕ)
    (moved : a' ≡ linked_moved l.a l.to_a l.to_b) (incoming : to_a' ≡ (linked l.a l.to_a l.to_b).incoming)
    (outgoing : to_b' ≡ (linked l.a l.to_a l.to_b).outgoing)
    (sent : sent' ≡ l.sent + length (entered l.to_b to_b')) where
  abbrev message_a : List ℕ
  message_a = l.message.items

  abbrev after_of_a : Joined
  after_of_a = linked_move sender_rom no_keys (joined l.a.machine l.to_a l.to_b)

  abbrev pair_a : Pair
  pair_a = stepped sender_rom receiver_rom A (pair_of l)

  -- the fields after the move
  abbrev pub fields_a : Inside
  fields_a = record l { a = a'; to_a = to_a'; to_b = to_b'; sent = sent'; moves = l.moves + 1 }

  moves_a : linked l.a l.to_a l.to_b ≡ after_of_a
  moves_a = board-moves sender_rom l.a a' l.to_a l.to_b k.a moved

  delivers_a : Delivers message_a pair_a
  delivers_a = next-delivers (linking_of l) k.reached A k.short

  sent_long : length pair_a.sent ≡ sent'
  sent_long =
      count-more message_a (entered l.to_b after_of_a.outgoing) l.sent k.counted
      ∙ ap (λ w. l.sent + length (entered l.to_b w)) (sym (outgoing ∙ ap (λ (j : Joined). j.outgoing) moves_a))
      ∙ sym sent

  is_a : pair_of fields_a ≡ pair_a
  is_a =
      λ i. record {
        a = board-machine sender_rom l.a a' l.to_a l.to_b k.a moved i;
        b = l.b.machine;
        to_b = (outgoing ∙ ap (λ (j : Joined). j.outgoing) moves_a) i;
        to_a = (incoming ∙ ap (λ (j : Joined). j.incoming) moves_a) i;
        sent = (ap (λ n. take n message_a) (sym sent_long) ∙ delivers_a.sent) i;
        received = l.received.items;
      }

  pub stepped-a : linking_of fields_a ≡ moved_by A (linking_of l)
  stepped-a = ap (λ s. record { pair = s; message = message_a; moves = l.moves + 1 }) is_a

  pub kept-a : IsKept fields_a
  kept-a =
      record {
        a = board-runs sender_rom l.a a' l.to_a l.to_b k.a moved;
        b = k.b;
        short = k.short;
        counted = omega (arith, starts_with_length message_a pair_a.sent delivers_a.sent, sent_long);
        room = k.room;
        reached = subst Reached (sym stepped-a) (next-reached (linking_of l) k.reached A);
        delivers = subst (Delivers message_a) (sym is_a) delivers_a;
      }

module _ (l : Inside) (k : IsKept l) (b' : Seen) (to_b' : Option ℕ) (moved : b' ≡ linked_moved l.b l.to_b l.to_a)
    (incoming : to_b' ≡ (linked l.b l.to_b l.to_a).incoming) where
  abbrev taking : Joined
  taking = linked_move receiver_rom no_keys (joined l.b.machine l.to_b l.to_a)

  abbrev pair_taken : Pair
  pair_taken = stepped sender_rom receiver_rom B (pair_of l)

  delivers_taken : Delivers l.message.items pair_taken
  delivers_taken = next-delivers (linking_of l) k.reached B k.short

  same_wire : to_b' ≡ taking.incoming
  same_wire = incoming ∙ ap (λ (j : Joined). j.incoming) (board-moves receiver_rom l.b b' l.to_b l.to_a k.b moved)

  more_long : length (l.received.items ++ left l.to_b to_b') ≤ length l.message.items
  more_long =
      let same = ap (λ w. length (l.received.items ++ left l.to_b w)) same_wire in
      let received = starts_with_length pair_taken.sent pair_taken.received delivers_taken.received in
      let sent = starts_with_length l.message.items pair_taken.sent delivers_taken.sent in
      omega (arith, same, received, sent)

  -- there is room for what is received
  pub room-b : length l.received.items + length (left l.to_b to_b') ≤ vec_capacity l.received
  room-b = omega (arith, more_long, length-append l.received.items (left l.to_b to_b'), k.short, k.room)

module _ (l : Inside) (k : IsKept l) (b' : Seen) (to_a' to_b' : Option ℕ) (received' : Vec ℕ Global)
    (moved : b' ≡ linked_moved l.b l.to_b l.to_a) (incoming : to_b' ≡ (linked l.b l.to_b l.to_a).incoming)
    (outgoing : to_a' ≡ (linked l.b l.to_b l.to_a).outgoing)
    (received : received'.items ≡ l.received.items ++ left l.to_b to_b') (room : vec_capacity l.received ≤ vec_capacity received') where
  abbrev after_of_b : Joined
  after_of_b = linked_move receiver_rom no_keys (joined l.b.machine l.to_b l.to_a)

  abbrev pair_b : Pair
  pair_b = stepped sender_rom receiver_rom B (pair_of l)

  abbrev pub fields_b : Inside
  fields_b = record l { b = b'; to_a = to_a'; to_b = to_b'; received = received'; moves = l.moves + 1 }

  moves_b : linked l.b l.to_b l.to_a ≡ after_of_b
  moves_b = board-moves receiver_rom l.b b' l.to_b l.to_a k.b moved

  is_b : pair_of fields_b ≡ pair_b
  is_b =
      λ i. record {
        a = l.a.machine;
        b = board-machine receiver_rom l.b b' l.to_b l.to_a k.b moved i;
        to_b = (incoming ∙ ap (λ (j : Joined). j.incoming) moves_b) i;
        to_a = (outgoing ∙ ap (λ (j : Joined). j.outgoing) moves_b) i;
        sent = take l.sent l.message.items;
        received = (received ∙ ap (λ w. l.received.items ++ left l.to_b w) (incoming ∙ ap (λ (j : Joined). j.incoming) moves_b)) i;
      }

  pub stepped-b : linking_of fields_b ≡ moved_by B (linking_of l)
  stepped-b = ap (λ s. record { pair = s; message = l.message.items; moves = l.moves + 1 }) is_b

  pub kept-b : IsKept fields_b
  kept-b =
      record {
        a = k.a;
        b = board-runs receiver_rom l.b b' l.to_b l.to_a k.b moved;
        short = k.short;
        counted = k.counted;
        room = omega (arith, k.room, room);
        reached = subst Reached (sym stepped-b) (next-reached (linking_of l) k.reached B);
        delivers = subst (Delivers l.message.items) (sym is_b) (next-delivers (linking_of l) k.reached B k.short);
      }

-- ---- the fields of a link at its start

module _ (l : Inside) (a : AtStart sender_rom (start l.message.items).a l.a) (b : AtStart receiver_rom after_reset l.b)
    (short : length l.message.items ≤ most_bytes) (to_b : l.to_b ≡ None) (to_a : l.to_a ≡ None) (received : l.received.items ≡ [])
    (sent : l.sent ≡ 0) (moves : l.moves ≡ 0) (room : most_bytes ≤ vec_capacity l.received) where
  is_start : pair_of l ≡ start l.message.items
  is_start =
      λ i. record {
        a = a.machine_is i;
        b = b.machine_is i;
        to_b = to_b i;
        to_a = to_a i;
        sent = ap (λ n. take n l.message.items) sent i;
        received = received i;
      }

  pub is-started : linking_of l ≡ started l.message.items
  is-started = λ i. record { pair = is_start i; message = l.message.items; moves = moves i }

  pub kept-at-start : IsKept l
  kept-at-start =
      record {
        a = a.runs;
        b = b.runs;
        short = short;
        counted = omega (arith, sent);
        room = room;
        reached = record { schedule = []; long = sym moves; pair = is_start };
        delivers = subst (Delivers l.message.items) (sym is_start) (always_delivers l.message.items [] short);
      }

-- a board with bytes loaded into its RAM
abbrev pub with_loaded : ℕ → List ℕ → Seen → Seen
with_loaded address bytes s = record s { machine = record s.machine { ram = loaded s.machine.ram address bytes } }

module _ (rom message : List ℕ) (s u v : Seen) (reset : AtStart rom after_reset s)
    (f : u ≡ with_loaded 0x1fe (length_bytes message) s) (g : v ≡ with_loaded 0x200 message u) where
  loaded_is : v ≡ with_loaded 0x200 message (with_loaded 0x1fe (length_bytes message) s)
  loaded_is = g ∙ ap (with_loaded 0x200 message) f

  pub at-start-loaded : AtStart rom (start message).a v
  at-start-loaded =
      record {
        runs =
            record {
              rests = ap (λ (x : Seen). x.phase) loaded_is ∙ reset.runs.rests;
              rom_is = ap (λ (x : Seen). x.rom) loaded_is ∙ reset.runs.rom_is;
              script = ap (λ (x : Seen). x.script) loaded_is ∙ reset.runs.script;
            };
        machine_is =
            ap (λ (x : Seen). x.machine) loaded_is
            ∙ ap (λ (m : Machine). record m { ram = loaded (loaded m.ram 0x1fe (length_bytes message)) 0x200 message }) reset.machine_is
            ∙ ap (λ ram. record after_reset { ram = ram }) (loads-message message);
      }
