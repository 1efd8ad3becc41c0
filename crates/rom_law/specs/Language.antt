-- The law of a run: its events are those of a run of the language. It is one fold over the events, which carries the last dispatch point and the
-- frame whose picture comes next.
use Rattle.std.specs.Prelude.{◌≡◌, ℕ, ◌+◌, ◌<◌, ◌≤◌, List, [], ◌∷◌, Some, None}
use Rattle.machine.specs.Board.{Machine}
use Rattle.machine.specs.Keys.{Event as KeyEvent}
use Rattle.machine.specs.Pictures.{picture_of, windows_ended}
use Rattle.chip8_lang.specs.declared.view.Stop.{Stop}
use Rattle.chip8_lang.specs.Between.{Between, keys_between}
use Rattle.chip8_lang.specs.Bounds.{IsInTime, boot_bound}
use Rattle.chip8_lang.specs.Events.{Event}
use Rattle.chip8_lang.specs.Events.Event.{Picture, Dispatch, Stopped}
use Rattle.chip8_lang.specs.State.{Lang, first}
use Rattle.chip8_lang.specs.Ticks.{ticks}
use Rattle.chip8_lang.specs.Timed.{Next}
use Rattle.chip8_lang.specs.Timed.Next.{Dispatch as NextDispatch, Stopped as NextStopped, Never}
use Rattle.rom_law.specs.Pictures.{ShowsScreen}
use Rattle.rom_law.specs.Program.{Program, Dispatches, Halts}
use Rattle.rom_law.specs.Runs.{state_at}

-- ---- the next point behind a dispatch point

-- One step lies between the dispatch points b and c, with the timer ticks and the sets of keys of the cycles between: the state at b has no stop,
-- c stands for the state after the step, and it is what comes next by the language's time: its cycle, and its state.
pub record IsStep (x : Program) (script : List KeyEvent) (b c : Machine) : Type 0 where
  pub runs : x.stop_of (state_at x b) ≡ None
  pub between : Between x.edition (state_at x b) (x.ticks_between b.cycle c.cycle) (keys_between script b.cycle c.cycle) (state_at x c)
  pub next : (limit : ℕ) → c.cycle ≤ limit → x.next script limit b.cycle (state_at x b) ≡ NextDispatch c.cycle (state_at x c)
  pub stands : Dispatches x c (state_at x c)

-- c is the stop point behind the dispatch point b: the stop is that of the state at b, which lies there after the ticks of the cycles between, and
-- it is what comes next by the language's time
pub record IsStop (x : Program) (b c : Machine) : Type 0 where
  pub stop : Stop
  pub fits : x.stop_of (state_at x b) ≡ Some stop
  pub next : (script : List KeyEvent) (limit : ℕ)
      → x.next script limit b.cycle (state_at x b)
      ≡ NextStopped c.cycle (ticks (x.ticks_between b.cycle c.cycle) (state_at x b)) stop
  pub halts : Halts x c (ticks (x.ticks_between b.cycle c.cycle) (state_at x b)) stop

-- cycle t isn't too late for the next point behind a dispatch of s in cycle `from`
abbrev pub InTime : Program → List KeyEvent → ℕ → Lang → ℕ → Type 0
InTime x script from s t = IsInTime (x.bound_of s) script from t

-- The next point behind the dispatch point b is in cycle t: that is later, in time and within the limit, and the frames whose window has ended by
-- then are those below k, whose pictures have come.
pub record NextAt (x : Program) (script : List KeyEvent) (limit k : ℕ) (b : Machine) (t : ℕ) : Type 0 where
  pub later : b.cycle < t
  pub within : t ≤ limit
  pub soon : InTime x script b.cycle (state_at x b) t
  pub shown : windows_ended t ≡ k

-- ---- the end of a run

-- what comes next is behind cycle t, or nothing comes
abbrev pub IsPast : ℕ → Next → Type 0
IsPast t (NextDispatch c s) = t < c
IsPast t (NextStopped c s stop) = t < c
IsPast t Never = Unit {0}

-- What a reader of the law adds to it: where the limit ends the run, and where the stop point c behind the dispatch point b does.
pub record Also : Type 1 where
  pub at_limit : Type 0
  pub at_stop : (b c : Machine) → Stop → Type 0

abbrev pub nothing_else : Also
nothing_else = record { at_limit = Unit {0}; at_stop = λ b c stop. Unit {0} }

-- ---- the events

module _ (x : Program) (script : List KeyEvent) (limit : ℕ) (run : List Machine) (also : Also) where
  -- No next point comes up to the limit: one cycle later wouldn't be too late, and by the language's time none is due. The frames whose window has
  -- ended by the limit are those below k. (A run that begins behind its limit has no pictures.)
  pub record Lasts (k : ℕ) (b : Machine) : Type 0 where
    pub soon : InTime x script b.cycle (state_at x b) (limit + 1)
    pub none_due : b.cycle ≤ limit → IsPast limit (x.next script limit b.cycle (state_at x b))
    pub shown : b.cycle ≤ limit → windows_ended limit ≡ k
    pub also_is : also.at_limit

  -- the run stops in c
  pub record Halted (k : ℕ) (b c : Machine) (events : List Event) : Type 0 where
    pub comes : NextAt x script limit k b c.cycle
    pub stop : IsStop x b c
    pub also_is : also.at_stop b c stop.stop
    pub last : events ≡ []

  -- The events behind the dispatch point b, of which the first picture is that of frame k. Pictures come frame by frame, and each shows the screen of
  -- the language state at the last dispatch point before it.
  abbrev pub GoesOn : ℕ → Machine → List Event → Type 0
  GoesOn k b [] = Lasts k b
  GoesOn k b (Picture m ∷ events) = (m ≡ k) × ShowsScreen x.edition (picture_of x.interpreter.rom run m) (state_at x b).screen × GoesOn (k + 1) b events
  GoesOn k b (Dispatch c ∷ events) = NextAt x script limit k b c.cycle × IsStep x script b c × GoesOn k c events
  GoesOn k b (Stopped c ∷ events) = Halted k b c events

  -- The events from reset on: the first one is a dispatch point, where the board stands for the game's first state, and comes within the bound of
  -- boot, if the limit leaves time for it. The pictures are those of the frames 0, 1, 2 and so on.
  abbrev pub Begins : List ℕ → List Event → Type 0
  Begins game [] = (limit < boot_bound) × also.at_limit
  Begins game (Picture m ∷ events) = ⊥
  Begins game (Dispatch b ∷ events) = Dispatches x b (first x.edition game) × (b.cycle ≤ boot_bound) × (b.cycle ≤ limit) × GoesOn 0 b events
  Begins game (Stopped b ∷ events) = ⊥

-- ---- the frames with a picture

-- the frames whose pictures are among events, in order
abbrev pub frames_of : List Event → List ℕ
frames_of [] = []
frames_of (Picture m ∷ events) = m ∷ frames_of events
frames_of (Dispatch b ∷ events) = frames_of events
frames_of (Stopped b ∷ events) = frames_of events

-- the cycle in which the run has stopped by these events, or else its limit
abbrev pub end_cycle : ℕ → List Event → ℕ
end_cycle limit [] = limit
end_cycle limit (Picture m ∷ events) = end_cycle limit events
end_cycle limit (Dispatch b ∷ events) = end_cycle limit events
end_cycle limit (Stopped b ∷ events) = b.cycle
