-- What is written of a game's run, as a transcript of CHIP-8: points of the language under a key script, and their texts. No machine is spoken of.
use Rattle.std.specs.Prelude.{◌≡◌, ℕ, ◌+◌, ◌<◌, ◌≤◌, if◌then◌else◌, List, [], ◌∷◌, ◌++◌, length, map, Option, Some, None, codes}
use Rattle.std.specs.List.{last_or, range_with_len}
use Rattle.machine.specs.Keys.{Event}
use Rattle.chip8_lang.specs.declared.view.Edition.{Edition}
use Rattle.chip8_lang.specs.declared.view.Stop.{Stop}
use Rattle.chip8_lang.specs.Between.{Between, keys_between, ticks_between}
use Rattle.chip8_lang.specs.Bounds.{IsInTime, bound_of}
use Rattle.chip8_lang.specs.Editions.{rows_of}
use Rattle.chip8_lang.specs.Screen.{Pixels}
use Rattle.chip8_lang.specs.State.{Lang, first}
use Rattle.chip8_lang.specs.Step.{stop_of}
use Rattle.chip8_lang.specs.Timed.{Shown, boot_cycle}
use Rattle.chip8_lang.specs.Timed.Shown.{Picture, Point as PointAt, End}
use Rattle.chip8_lang.specs.View.{opcode_at, view_of}
use Rattle.rom_law.specs.Pictures.{ShowsScreen}
use Rattle.vip_byte.specs.Text.{newline}
use Rattle.vip_text.specs.Endings.{Ending}
use Rattle.vip_text.specs.Endings.Ending.{AtLimit, AtStop}
use Rattle.vip_text.specs.Screens.{picture_file, screen_lines}
use Rattle.vip_text.specs.Stops.{stop_line}
use Rattle.vip_text.specs.Summaries.{summary_line}
use Rattle.asm_core.specs.Origins.{Origins}
use Rattle.vip_text.specs.Traces.{told_line}
use Rattle.vip_text.specs.declared.trace.TraceColumns.{TraceColumns}
use Rattle.vip_show.specs.Output.{lit_in_rows}
use Rattle.vip_show.specs.Profile.{profile_text}

-- ---- the transcript

-- a point at which the next instruction is about to be fetched: its machine cycle and the language state
pub record Point : Type 0 where
  pub cycle : ℕ
  pub state : Lang

module _ (e : Edition) (script : List Event) (limit : ℕ) where
  -- cycle t isn't too late for what comes next behind p
  abbrev pub InTime : Point → ℕ → Type 0
  InTime p t = IsInTime (bound_of e p.state) script p.cycle t

  -- what comes next behind p comes in cycle t
  pub record NextAt (p : Point) (t : ℕ) : Type 0 where
    pub later : p.cycle < t
    pub within : t ≤ limit
    pub in_time : InTime p t

  -- one step lies between p and q, with the timer ticks and the sets of keys of the cycles between
  pub record StepsTo (p q : Point) : Type 0 where
    pub comes : NextAt p q.cycle
    pub between : Between e p.state (ticks_between p.cycle q.cycle) (keys_between script p.cycle q.cycle) q.state

  -- the stop of p's state comes next, in cycle t, and is named with the state's pc and opcode
  pub record StopsAt (p : Point) (stop : Stop) (pc : ℕ) (opcode : Option ℕ) (t : ℕ) : Type 0 where
    pub fits : stop_of e p.state ≡ Some stop
    pub comes : NextAt p t
    pub pc_is : pc ≡ p.state.pc
    pub opcode_is : opcode ≡ opcode_at e p.state

  -- p is the last point of a run that is over in cycle t: at its limit, by when nothing else was due, or at the stop
  abbrev pub Ends : Point → Ending → ℕ → Type 0
  Ends p AtLimit t = (t ≡ limit) × InTime p (limit + 1)
  Ends p (AtStop stop pc opcode) t = StopsAt p stop pc opcode t

  -- these are the points behind p, and the run ends so in cycle t
  abbrev pub GoesOn : Point → List Point → Ending → ℕ → Type 0
  GoesOn p [] ending t = Ends p ending t
  GoesOn p (q ∷ qs) ending t = StepsTo p q × GoesOn q qs ending t

  -- these are the points of the game's run: there are none only where the limit is below the cycle of the first
  abbrev pub Begins : List ℕ → List Point → Ending → ℕ → Type 0
  Begins game [] ending t = (limit < boot_cycle) × (ending ≡ AtLimit) × (t ≡ limit)
  Begins game (p ∷ ps) ending t = (p.state ≡ first e game) × (p.cycle ≡ boot_cycle) × (p.cycle ≤ limit) × GoesOn p ps ending t

  -- These are the points that a run in the language's time shows, in their cycles, and it ends so: at its limit, where it shows no stop, or at the stop,
  -- which is named with pc and opcode of its state.
  abbrev pub Shows : List Shown → List Point → Ending → ℕ → Type 0
  Shows [] [] ending t = (ending ≡ AtLimit) × (t ≡ limit)
  Shows (Picture m screen ∷ shown) points ending t = Shows shown points ending t
  Shows (PointAt c s ∷ shown) (p ∷ ps) ending t = (p.cycle ≡ c) × (p.state ≡ s) × Shows shown ps ending t
  Shows (End c s stop ∷ shown) [] ending t = (ending ≡ AtStop stop s.pc (opcode_at e s)) × (t ≡ c)
  Shows _ _ ending t = ⊥

-- the last of some points
abbrev pub last_point : List Point → Option Point
last_point = last_or None

-- ---- what is written

module _ (e : Edition) where
  -- the line of a point, with the source's line that gave the opcode, where it is told
  abbrev pub traced : Origins → TraceColumns → Point → List ℕ
  traced origins columns p = told_line origins columns (view_of e p.state p.cycle)

  abbrev pub screen : Point → List ℕ
  screen p = screen_lines p.state.screen (rows_of e)

  -- the file of a picture of this screen
  pub record IsPictureOf (pixels : Pixels) (file : List ℕ) : Type 0 where
    pub picture : List (List ℕ)
    pub shows : ShowsScreen e picture pixels
    pub is : file ≡ picture_file picture

  abbrev pub last_screen : Option Point → List (List ℕ)
  last_screen None = []
  last_screen (Some p) = screen p ∷ []

  abbrev pub lit : Option Point → ℕ
  lit None = 0
  lit (Some p) = lit_in_rows p.state.screen (range_with_len 0 (rows_of e))

  -- `trace`: the lines of the points, and then the screen at the last one, if there is one
  abbrev pub trace_text : Origins → TraceColumns → List Point → Option Point → List (List ℕ)
  trace_text origins columns points last = map (traced origins columns) points ++ (if columns.screen then last_screen last else [])

  -- `demo`: the counts of points and of n pictures, and the lit pixels at the last point
  abbrev pub summary_text : ℕ → ℕ → List Point → Option Point → List (List ℕ)
  summary_text number n points last = summary_line number (length points) n (lit last) ∷ []

  -- `profile`: where the time of the points goes, as they are seen, by what a source gave
  abbrev pub profile_of : Origins → List Point → List (List ℕ)
  profile_of origins points = profile_text origins (map (λ p. view_of e p.state p.cycle) points) ∷ []

  -- `play`: the pictures that a run shows, in order
  abbrev pub ShowsPictures : List Shown → List (List ℕ) → Type 0
  ShowsPictures [] [] = Unit {0}
  ShowsPictures (Picture m pixels ∷ shown) (file ∷ files) = IsPictureOf pixels file × ShowsPictures shown files
  ShowsPictures (PointAt c s ∷ shown) files = ShowsPictures shown files
  ShowsPictures (End c s stop ∷ shown) files = ShowsPictures shown files
  ShowsPictures _ _ = ⊥

-- the end of a run, as the debugger's commands name it
abbrev pub end_line : Ending → List ℕ
end_line AtLimit = codes "end" ++ newline
end_line (AtStop stop pc opcode) = stop_line stop pc opcode
