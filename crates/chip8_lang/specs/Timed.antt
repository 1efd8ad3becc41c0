-- Time: how many machine cycles each instruction and each stop takes, and the run of a game that follows from it. Main cycles are those of the
-- interpreter's main code: all but the cycles of each interrupt's routine and those in which 00E0 and DXYN wait for the display. This project's
-- profile.
use Rattle.std.specs.Prelude.{min, ℕ, zero, suc, ◌+◌, ◌-◌, ◌*◌, ◌/◌, ◌%◌, ◌==◌, ◌||◌, if◌then◌else◌, Bool, not, nat_lt, nat_le, List, [], ◌∷◌, ◌++◌, map, Option, Some, None}
use Rattle.machine.specs.Keys.{Event, Keys, held_at}
use Rattle.machine.specs.Pictures.{frame, place, interrupt_place, windows_ended}
use Rattle.chip8_lang.specs.declared.instr.Instr.{Instr}
use Rattle.chip8_lang.specs.declared.instr.Instr.TheVariants.{Clear, Return, Machine, Jump, Call, SkipEq, SkipNe, SkipSame, Load, Add, Copy, Or, And, Xor, Index, JumpPlus, Random, Draw, SkipDiffer, SkipDown, SkipUp, GetDelay, WaitKey, SetDelay, SetSound, AddIndex, Font, Decimal, Store, Fetch, Unknown}
use Rattle.chip8_lang.specs.declared.view.Edition.{Edition}
use Rattle.chip8_lang.specs.declared.view.Stop.{Stop}
use Rattle.chip8_lang.specs.Editions.{memory_start, rows_of}
use Rattle.chip8_lang.specs.Events.{numbers_from}
use Rattle.chip8_lang.specs.Screen.{Pixels}
use Rattle.chip8_lang.specs.State.{Lang, first, memory_byte, variable, instr_at, is_in_memory, is_fetchable}
use Rattle.chip8_lang.specs.Step.{KeyInput, is_held, stop_of, step}
use Rattle.chip8_lang.specs.Step.KeyInput.{Nothing, Held, Chosen}
use Rattle.chip8_lang.specs.Ticks.{ticks}

-- ---- cycles

-- the cycles of an interrupt's routine, and the main cycles between two of them
abbrev pub routine_cycles : ℕ
routine_cycles = 1846

abbrev pub between_routines : ℕ
between_routines = frame - routine_cycles

-- from a cycle on, how many there are up to the next interrupt: none where it is that of one
abbrev pub to_interrupt : ℕ → ℕ
to_interrupt t = (frame + interrupt_place - place t) % frame

-- how many interrupts come before main code, which goes on in cycle t, has made k main cycles and goes on
abbrev pub interrupts : ℕ → ℕ → ℕ
interrupts t k = (between_routines + k - to_interrupt t) / between_routines

-- the cycle in which it goes on then
abbrev pub later : ℕ → ℕ → ℕ
later t k = t + k + routine_cycles * interrupts t k

-- the cycle in which these k main cycles, one at least, are over, also where an interrupt comes right then
abbrev pub ended : ℕ → ℕ → ℕ
ended t k = later t (k - 1) + 1

-- the cycle in which main code goes on that waits for an interrupt from cycle t on
abbrev pub woken : ℕ → ℕ
woken t = t + to_interrupt t + routine_cycles

-- ---- instructions

-- where I is in the font, the range check of n bytes takes 14 more
abbrev pub check_cycles : Edition → Lang → ℕ → ℕ
check_cycles e s n = if is_in_memory e s.i n then 0 else 14

-- DXYN at column x0 and row y0: its rows above the bottom edge, the cycles to prepare a row, those for its range check, and those at the edge
abbrev pub rows_shown : Edition → ℕ → ℕ → ℕ
rows_shown e y0 n = min n (rows_of e - y0)

abbrev pub row_cycles : ℕ → ℕ
row_cycles x0 = 40 + 12 * (x0 % 8) - (if x0 / 8 == 7 then 2 else 0)

abbrev pub asked_cycles : Edition → Lang → ℕ → ℕ
asked_cycles e s n = if n == 0 then 0 else 50 + check_cycles e s n

abbrev pub edge_cycles : Edition → ℕ → ℕ → ℕ
edge_cycles e y0 n = if nat_lt n (rows_of e - y0) then 0 else 8

-- 00E0 and DXYN wait for the display: their main cycles before the wait, and behind it
abbrev pub before_wait : Edition → Instr → Lang → ℕ
before_wait e (Draw x y n) s =
    let x0 = variable s x % 64 in
    let y0 = variable s y % rows_of e in
    222 + asked_cycles e s n + edge_cycles e y0 n + rows_shown e y0 n * row_cycles x0
before_wait e _ s = 102

abbrev pub behind_wait : Edition → Instr → Lang → ℕ
behind_wait e (Draw x y n) s = 24 + 58 * rows_shown e (variable s y % rows_of e) n
behind_wait e _ s = 2 + 24 * rows_of e

-- a test, and four more where it skips
abbrev pub skip_cycles : ℕ → Bool → ℕ
skip_cycles n skips = if skips then n + 4 else n

-- The main cycles of an instruction. FX0A takes so many where key 0 is down as it looks at first, and up as it looks again.
abbrev pub cycles : Edition → Instr → KeyInput → Lang → ℕ
cycles e Clear key s = before_wait e Clear s + behind_wait e Clear s  -- 00E0
cycles e (Draw x y n) key s = before_wait e (Draw x y n) s + behind_wait e (Draw x y n) s  -- DXYN
cycles e (SkipEq x k) key s = skip_cycles 90 (variable s x == k)  -- 3XKK
cycles e (SkipNe x k) key s = skip_cycles 90 (not (variable s x == k))  -- 4XKK
cycles e (SkipSame x y) key s = skip_cycles 96 (variable s x == variable s y)  -- 5XY0
cycles e (SkipDiffer x y) key s = skip_cycles 96 (not (variable s x == variable s y))  -- 9XY0
cycles e (SkipDown x) key s = skip_cycles 94 (is_held key)  -- EX9E
cycles e (SkipUp x) key s = skip_cycles 100 (not (is_held key))  -- EXA1
cycles e (WaitKey x) key s = 126  -- FX0A
cycles e (Decimal x) key s = 230 + 6 * (variable s x / 100 + variable s x / 10 % 10)  -- FX33
cycles e (Store x) key s = 206 + 12 * x  -- FX55
cycles e (Fetch x) key s = 214 + 12 * x + check_cycles e s (x + 1)  -- FX65
cycles e Return key s = 126  -- 00EE
cycles e (Jump a) key s = 92  -- 1MMM
cycles e (Call a) key s = 108  -- 2MMM
cycles e (Load x k) key s = 86  -- 6XKK
cycles e (Add x k) key s = 90  -- 7XKK
cycles e (Copy x y) key s = 100  -- 8XY0
cycles e (Or x y) key s = 120  -- 8XY1
cycles e (And x y) key s = 120  -- 8XY2
cycles e (Xor x y) key s = 120  -- 8XY3
cycles e (Index a) key s = 92  -- AMMM
cycles e (JumpPlus a) key s = 106  -- BMMM
cycles e (Random x k) key s = 114  -- CXKK
cycles e (GetDelay x) key s = 92  -- FX07
cycles e (SetDelay x) key s = 104  -- FX15
cycles e (SetSound x) key s = 110  -- FX18
cycles e (AddIndex x) key s = 126  -- FX1E
cycles e (Font x) key s = 146  -- FX29
cycles e _ key s = 118  -- 8XY4 to 8XY7, 8XYE

-- How many of the interrupts come before the step. The four instructions that use the timers or the count of ticks do so in the main cycle before
-- this one; the other ones that don't wait change nothing that a tick does.
abbrev pub ticks_first : Instr → ℕ → ℕ
ticks_first (Random x k) t = interrupts t 91
ticks_first (GetDelay x) t = interrupts t 87
ticks_first (SetDelay x) t = interrupts t 101
ticks_first (SetSound x) t = interrupts t 107
ticks_first _ t = 0

-- ---- stops

-- the range check, where it finds I in neither place
abbrev pub outside_cycles : ℕ → ℕ
outside_cycles i = if nat_lt i memory_start then 0 else if i / 256 == 0x87 then 26 else 18

-- an opcode that is none, by its first digit
abbrev pub unknown_cycles : ℕ → ℕ
unknown_cycles digit = if digit == 5 || digit == 9 then 112 else if digit == 15 then 160 else 120

-- the first byte of the opcode tells 00KK from other 0MMM, and which of these it is
abbrev pub stopped_cycles : Instr → Lang → ℕ
stopped_cycles (Machine a) s = if memory_byte s s.pc == 0 then 122 else 110
stopped_cycles (Unknown opcode) s = unknown_cycles (memory_byte s s.pc / 16)
stopped_cycles (Call a) s = 112
stopped_cycles Return s = 128
stopped_cycles (Decimal x) s = 188 + outside_cycles s.i
stopped_cycles (Store x) s = 198 + outside_cycles s.i
stopped_cycles (Fetch x) s = 206 + outside_cycles s.i
stopped_cycles (Draw x y n) s = 152 + outside_cycles s.i
stopped_cycles _ s = 0

-- the main cycles from a state that stops to its stop point
abbrev pub stop_cycles : Edition → Lang → ℕ
stop_cycles e s = if is_fetchable e s then stopped_cycles (instr_at s) s else if nat_lt s.pc memory_start then 32 else 42

-- ---- the next point

-- the first of n numbers from j on for which the test holds
unfoldable pub first_from : ℕ → (ℕ → Bool) → ℕ → Option ℕ
first_from zero f j = None
first_from (suc n) f j = if f j then Some j else first_from n f (j + 1)

-- the next dispatch point or the stop point, in a cycle; or FX0A waits for its key up to the limit
pub data Next : Type 0 where
  Dispatch : (cycle : ℕ) (s : Lang) → Next
  Stopped : (cycle : ℕ) (s : Lang) (stop : Stop) → Next
  Never : Next

module _ (e : Edition) (script : List Event) (limit : ℕ) where
  -- the keys as an instruction looks at them that begins k main cycles behind cycle t
  abbrev pub keys_seen : ℕ → ℕ → Keys
  keys_seen t k = held_at script (later t k + 1)

  -- an instruction that doesn't wait for the display, of k main cycles
  abbrev pub ran : ℕ → Lang → KeyInput → ℕ → Next
  ran t s key k =
      let before = ticks_first (instr_at s) t in
      Dispatch (later t k) (ticks (interrupts t k - before) (step e key (ticks before s)))

  -- one that does: all ticks come before it, and the last one ends the wait
  abbrev pub waited : ℕ → Lang → Next
  waited t s =
      let k = before_wait e (instr_at s) s in
      Dispatch (later (woken (ended t k)) (behind_wait e (instr_at s) s)) (step e Nothing (ticks (interrupts t (k - 1) + 1) s))

  -- FX0A: key j mod 16 was down as it was looked at j turns of 14 main cycles later than the first, and up i looks later
  abbrev pub let_go : ℕ → ℕ → Lang → ℕ → Option ℕ → Next
  let_go x t s j None = Never
  let_go x t s j (Some i) = let key = Chosen (j % 16) in ran t s key (cycles e (WaitKey x) key s + 14 * j + 2 * i)

  abbrev pub pressed : ℕ → ℕ → Lang → Option ℕ → Next
  pressed x t s None = Never
  pressed x t s (Some j) = let_go x t s j (first_from limit (λ i. not (keys_seen t (116 + 14 * j + 2 * i) (j % 16))) 0)

  abbrev pub after_instr : Instr → ℕ → Lang → Next
  after_instr Clear t s = waited t s
  after_instr (Draw x y n) t s = waited t s
  after_instr (SkipDown x) t s = let key = Held (keys_seen t 90 (variable s x % 16)) in ran t s key (cycles e (SkipDown x) key s)
  after_instr (SkipUp x) t s = let key = Held (keys_seen t 96 (variable s x % 16)) in ran t s key (cycles e (SkipUp x) key s)
  after_instr (WaitKey x) t s = pressed x t s (first_from limit (λ j. keys_seen t (114 + 14 * j) (j % 16)) 0)
  after_instr i t s = ran t s Nothing (cycles e i Nothing s)

  abbrev pub by_stop : Option Stop → ℕ → Lang → Next
  by_stop (Some stop) t s = let k = stop_cycles e s in Stopped (later t k) (ticks (interrupts t k) s) stop
  by_stop None t s = after_instr (instr_at s) t s

  -- what follows a dispatch point in cycle t with state s
  abbrev pub next_point : ℕ → Lang → Next
  next_point t s = by_stop (stop_of e s) t s

-- ---- a run

-- the cycle of the first dispatch point of a game
abbrev pub boot_cycle : ℕ
boot_cycle = 56

-- what a run shows: the picture of a frame, a dispatch point and the stop point
pub data Shown : Type 0 where
  Picture : (m : ℕ) (screen : Pixels) → Shown
  Point : (cycle : ℕ) (s : Lang) → Shown
  End : (cycle : ℕ) (s : Lang) (stop : Stop) → Shown

-- the pictures of the frames from k on whose window has ended by cycle t
abbrev pub pictures_to : ℕ → ℕ → Pixels → List Shown
pictures_to k t screen = map (λ m. Picture m screen) (numbers_from k (windows_ended t - k))

module _ (e : Edition) (script : List Event) (limit : ℕ) where
  -- what a state shows up to cycle c, where the frames below k have been shown, and what comes then; or up to the limit, where that is behind it
  abbrev pub shown_to : ℕ → ℕ → Pixels → List Shown → List Shown
  shown_to k c screen more = if nat_le c limit then pictures_to k c screen ++ more else pictures_to k limit screen

  abbrev pub shown_by : ℕ → Pixels → (ℕ → Lang → List Shown) → Next → List Shown
  shown_by k screen behind (Dispatch c z) = shown_to k c screen (Point c z ∷ behind c z)
  shown_by k screen behind (Stopped c z stop) = shown_to k c screen (End c z stop ∷ [])
  shown_by k screen behind Never = pictures_to k limit screen

  -- what follows a dispatch point in cycle t with state s: n points at most
  unfoldable pub shown_behind : ℕ → ℕ → ℕ → Lang → List Shown
  shown_behind zero k t s = pictures_to k limit s.screen
  shown_behind (suc n) k t s = shown_by k s.screen (λ c z. shown_behind n (windows_ended c) c z) (next_point e script limit t s)

  -- the run of a game, from its first state on, where the limit leaves time for that
  abbrev pub timed_run : List ℕ → List Shown
  timed_run game =
      if nat_le boot_cycle limit then Point boot_cycle (first e game) ∷ shown_behind limit 0 boot_cycle (first e game) else []
