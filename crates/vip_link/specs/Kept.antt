-- What the fields of a link mean, and what holds of them.
use Rattle.std.specs.Prelude.{◌≡◌, ℕ, ◌≤◌, List, [], length, take, vec_capacity}
use Rattle.machine.specs.Board.{Machine}
use Rattle.vip_link.specs.declared.side.Side.{Side}
use Rattle.vip_link.specs.Pair.{Pair}
use Rattle.vip_link.specs.Roms.{sender_rom, receiver_rom}
use Rattle.vip_link.specs.Laws.{most_bytes, after, Delivers}
use Rattle.vip_board.specs.Seen.{Seen}
use Rattle.vip_cpu.specs.declared.cpu.Phase.TheVariants.{Boundary}
use Rattle.vip_link.specs.Links.{Linking}
use Rattle.vip_link.specs.declared.link.Link.TheInside.{Inside}

-- what was sent are as many first bytes of the message as were counted
abbrev pub pair_of : Inside → Pair
pair_of l =
    record { a = l.a.machine; b = l.b.machine; to_b = l.to_b; to_a = l.to_a; sent = take l.sent l.message.items; received = l.received.items }

abbrev pub linking_of : Inside → Linking
linking_of l = record { pair = pair_of l; message = l.message.items; moves = l.moves }

-- a board at a boundary, with its ROM and no key held down
pub record Runs (rom : List ℕ) (s : Seen) : Type 0 where
  pub rests : s.phase ≡ Boundary
  pub rom_is : s.rom ≡ rom
  pub script : s.script ≡ []

-- such a board whose machine is this one
pub record AtStart (rom : List ℕ) (machine : Machine) (s : Seen) : Type 0 where
  pub runs : Runs rom s
  pub machine_is : s.machine ≡ machine

-- the pair is where some schedule brings it, in as many moves
pub record Reached (l : Linking) : Type 0 where
  pub schedule : List Side
  pub long : length schedule ≡ l.moves
  pub pair : l.pair ≡ after schedule l.message

pub record IsKept (l : Inside) : Type 0 where
  pub a : Runs sender_rom l.a
  pub b : Runs receiver_rom l.b
  pub short : length l.message.items ≤ most_bytes
  pub counted : l.sent ≤ length l.message.items
  pub room : most_bytes ≤ vec_capacity l.received
  pub reached : Reached (linking_of l)
  -- so what was sent is a prefix of the message, and what was received a prefix of that, which lies in B's RAM; and both displays are off
  pub delivers : Delivers l.message.items (pair_of l)
