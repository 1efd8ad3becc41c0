-- What an answer says of the events that are left: which one is next, or that there is none.
use Rattle.std.proofs.Common.{◌≡◌, ℕ, List, [], ◌∷◌, length, refl, arith}
use Rattle.std.specs.Prelude.{◌<◌}
use Rattle.machine.specs.Board.{Machine}
use Rattle.chip8_lang.specs.declared.view.StopRecord.{StopRecord}
use Rattle.chip8_lang.specs.Events.{Event}
use Rattle.chip8_lang.specs.Events.Event.{Picture, Dispatch, Stopped}
use Rattle.vip_relation.specs.Meets.{MeetsNext, MeetsPicture, MeetsDispatch, MeetsStop, Ends}
use Rattle.vip_relation.specs.State.{VipState, events_left}
use Rattle.vip_relation.specs.declared.run.Met.TheVariants as met

pub record Dispatched (limit : ℕ) (v v' : VipState) (left : List Event) : Type 0 where
  pub b : Machine
  pub rest : List Event
  pub split : left ≡ Dispatch b ∷ rest
  pub meets : MeetsDispatch limit v v' b rest

pub at_dispatch : (limit : ℕ) (v v' : VipState) (left : List Event) → MeetsNext limit v v' left met.Dispatch → Dispatched limit v v' left
at_dispatch limit v v' [] m = absurd m
at_dispatch limit v v' (Picture k ∷ rest) m = absurd m
at_dispatch limit v v' (Dispatch b ∷ rest) m = record { b = b; rest = rest; split = refl; meets = m }
at_dispatch limit v v' (Stopped b ∷ rest) m = absurd m

pub record Pictured (limit : ℕ) (v v' : VipState) (left : List Event) : Type 0 where
  pub m : ℕ
  pub rest : List Event
  pub split : left ≡ Picture m ∷ rest
  pub meets : MeetsPicture limit v v' m rest

pub at_picture : (limit : ℕ) (v v' : VipState) (left : List Event) → MeetsNext limit v v' left met.Picture → Pictured limit v v' left
at_picture limit v v' [] m = absurd m
at_picture limit v v' (Picture k ∷ rest) m = record { m = k; rest = rest; split = refl; meets = m }
at_picture limit v v' (Dispatch b ∷ rest) m = absurd m
at_picture limit v v' (Stopped b ∷ rest) m = absurd m

pub record Halted (limit : ℕ) (v v' : VipState) (left : List Event) (stop : StopRecord) : Type 0 where
  pub b : Machine
  pub rest : List Event
  pub split : left ≡ Stopped b ∷ rest
  pub meets : MeetsStop limit v v' b rest stop

pub at_stop : (limit : ℕ) (v v' : VipState) (left : List Event) (stop : StopRecord) → MeetsNext limit v v' left (met.Stopped stop) → Halted limit v v' left stop
at_stop limit v v' [] stop m = absurd m
at_stop limit v v' (Picture k ∷ rest) stop m = absurd m
at_stop limit v v' (Dispatch b ∷ rest) stop m = absurd m
at_stop limit v v' (Stopped b ∷ rest) stop m = record { b = b; rest = rest; split = refl; meets = m }

pub record Ended (limit : ℕ) (v v' : VipState) (left : List Event) : Type 0 where
  pub none : left ≡ []
  pub ends : Ends limit v v'

pub at_end : (limit : ℕ) (v v' : VipState) (left : List Event) → MeetsNext limit v v' left met.End → Ended limit v v' left
at_end limit v v' [] m = record { none = refl; ends = m }
at_end limit v v' (Picture k ∷ rest) m = absurd m
at_end limit v v' (Dispatch b ∷ rest) m = absurd m
at_end limit v v' (Stopped b ∷ rest) m = absurd m

-- ---- the events left become fewer

pub fewer-dispatch : (limit : ℕ) (v v' : VipState) (d : Dispatched limit v v' (events_left v limit))
    → length (events_left v' limit) < length (events_left v limit)
fewer-dispatch limit v v' d = rw (d.split, d.meets.one.left) (omega arith)

pub fewer-picture : (limit : ℕ) (v v' : VipState) (d : Pictured limit v v' (events_left v limit)) → length (events_left v' limit) < length (events_left v limit)
fewer-picture limit v v' d = rw (d.split, d.meets.one.left) (omega arith)
