-- A sink in memory, and exactly what it does.
use Rattle.std.specs.Prelude.{ℕ, ◌-◌, ◌^◌, ◌==◌, min, Bool, not, ◌&&◌, ◌||◌, List, [], ◌++◌, Option, Some, if◌then◌else◌, is_some, unwrap_or, option_map, find, length, take, nat_lt}
use Rattle.vip_outside.specs.Count.{raised}
use Rattle.vip_outside.specs.Sink.{SinkMeaning}

-- named: the calls that are named to fail, by their numbers from 0, each with the bytes of its piece that it keeps
pub record SinkInMemory : Type 0 where
  pub held : List ℕ
  pub room : ℕ
  pub named : List (ℕ × ℕ)
  pub calls : ℕ
  pub faults : ℕ

-- it tells all that it holds
abbrev pub meaning_of : SinkInMemory → SinkMeaning
meaning_of s = record { held = Some s.held; faults = s.faults; calls = Some s.calls }

-- a new sink, with room for so many bytes
abbrev pub empty_sink : ℕ → SinkInMemory
empty_sink room = record { held = []; room = room; named = []; calls = 0; faults = 0 }

-- how many bytes there is room for
abbrev pub room_left : SinkInMemory → ℕ
room_left s = s.room - length s.held

-- how many bytes the next call keeps, where it is named
abbrev pub named_kept : SinkInMemory → Option ℕ
named_kept s = option_map (λ entry. entry.1) (find (λ entry. entry.0 == s.calls) s.named)

-- whether no further call can be counted
abbrev pub is_spent : SinkInMemory → Bool
is_spent s = s.calls == 2 ^ 32 - 1

-- whether the next put of a piece is a fault: the calls are spent, or the piece isn't empty and the call is named or the piece doesn't fit
abbrev pub is_fault : SinkInMemory → List ℕ → Bool
is_fault s piece = is_spent s || (not (length piece == 0) && (is_some (named_kept s) || nat_lt (room_left s) (length piece)))

-- the most bytes of a piece that the next put keeps
abbrev pub most_kept : SinkInMemory → ℕ
most_kept s = if is_spent s then 0 else min (unwrap_or (named_kept s) (room_left s)) (room_left s)

-- the sink after a put of a piece
abbrev pub after_put : SinkInMemory → List ℕ → SinkInMemory
after_put s piece =
    record s {
      held = s.held ++ take (most_kept s) piece;
      calls = raised (2 ^ 32) s.calls;
      faults = if is_fault s piece then raised (2 ^ 64) s.faults else s.faults;
    }
