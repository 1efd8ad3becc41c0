-- The law of every schedule of the two ROMs.
use Rattle.std.specs.Prelude.{◌≡◌, ℕ, ◌+◌, ◌*◌, ◌/◌, ◌%◌, ◌≤◌, List, [], ◌∷◌, ◌++◌, length, drop, replicate, slice_index, EachIndex, None, option_to_list, false}
use Rattle.std.specs.Io.{StartsWith}
use Rattle.machine.specs.Board.{after_reset}
use Rattle.vip_link.specs.declared.side.Side.{Side}
use Rattle.vip_link.specs.Pair.{Pair, scheduled, pairs}
use Rattle.vip_link.specs.Roms.{sender_rom, receiver_rom}
use Rattle.vip_link.specs.Schedules.{schedule_by, turns}

-- the longest message
abbrev pub most_bytes : ℕ
most_bytes = 3000

-- RAM after reset, with a message at 0200 and its length at 01FE, the high byte first
abbrev pub message_ram : List ℕ → List ℕ
message_ram message =
    replicate 0x1fe 0 ++ ((length message / 256) ∷ (length message % 256) ∷ []) ++ message ++ drop (0x200 + length message) (replicate 0x1000 0)

-- both machines at reset, A with a message in its RAM, and both wires empty
abbrev pub start : List ℕ → Pair
start message =
    record { a = record after_reset { ram = message_ram message }; b = after_reset; to_b = None; to_a = None; sent = []; received = [] }

-- what always holds
pub record Delivers (message : List ℕ) (s : Pair) : Type 0 where
  -- what was sent is a prefix of the message, and what was received a prefix of that
  pub sent : StartsWith message s.sent
  pub received : StartsWith s.sent s.received
  pub close : length s.sent ≤ length s.received + 1
  -- what was sent and isn't received yet is on the wire
  pub on_wire : s.sent ≡ s.received ++ option_to_list s.to_b
  -- B's RAM holds what was received
  pub stored : EachIndex s.received (λ k. slice_index s.b.ram (0x200 + k) ≡ slice_index s.received k)
  -- both displays are off, so neither board makes a DMA or an interrupt cycle
  pub displays : (s.a.on ≡ false) × (s.b.on ≡ false)

-- after a schedule
abbrev pub after : List Side → List ℕ → Pair
after schedule message = scheduled sender_rom receiver_rom schedule (start message)

abbrev pub AlwaysDelivers : Type 0
AlwaysDelivers = (message : List ℕ) (schedule : List Side) → length message ≤ most_bytes → Delivers message (after schedule message)

-- where B moves right behind A 40 times for each byte and 80 times more, all is received, whatever moves lie between
abbrev pub TurnsDeliver : Type 0
TurnsDeliver =
    (message : List ℕ) (schedule : List Side)
    → length message ≤ most_bytes
    → 40 * (length message + 2) ≤ turns schedule
    → (after schedule message).received ≡ message

-- so 40 pairs A, B for each byte and 80 more are enough
abbrev pub PairsDeliver : Type 0
PairsDeliver =
    (message : List ℕ) (n : ℕ) → length message ≤ most_bytes → 40 * (length message + 2) ≤ n → (after (pairs n) message).received ≡ message

-- and so are as many moves of any number's schedule as have so many of B right behind A: there is one in any 33 of them
abbrev pub NumbersDeliver : Type 0
NumbersDeliver =
    (message : List ℕ) (number moves : ℕ)
    → length message ≤ most_bytes
    → 1320 * (length message + 2) ≤ moves
    → (after (schedule_by number moves) message).received ≡ message
