-- The commands of the debugger over the points of a run, in the language's terms. Where a run stands between two commands is a cycle: the points up to it are
-- met, with the stop where that has come, and the others are ahead. `step`, `at` and `watch` speak of the machine: behind them it is some cycle that isn't
-- before. Behind a command that comes to a point, and in any other cycle of a point, it stands at that point.
use Rattle.std.specs.Prelude.{◌≡◌, ℕ, ◌+◌, ◌-◌, ◌*◌, ◌==◌, ◌≤◌, nat_le, nat_lt, max, min, if◌then◌else◌, Bool, true, false, List, [], ◌∷◌, ◌++◌, filter, find, slice_get, Option, Some, None, codes}
use Rattle.chip8_lang.specs.declared.view.Edition.{Edition}
use Rattle.chip8_lang.specs.Editions.{memory_end, memory_start, rows_of}
use Rattle.chip8_lang.specs.Screen.{empty}
use Rattle.chip8_lang.specs.State.{memory_byte}
use Rattle.vip_byte.specs.Text.{newline}
use Rattle.vip_text.specs.Endings.{Ending}
use Rattle.vip_text.specs.Endings.Ending.{AtLimit, AtStop}
use Rattle.vip_text.specs.Screens.{screen_lines}
use Rattle.std.specs.Option.{option_to_list}
use Rattle.vip_words.specs.Spoken.{Spoken}
use Rattle.vip_words.specs.declared.debug_commands.Command.{Command}
use Rattle.vip_words.specs.declared.debug_commands.Command.TheVariants.{Runs, Seeks, Shows, Tells}
use Rattle.vip_words.specs.declared.debug_commands.Running.TheVariants.{To}
use Rattle.vip_words.specs.declared.debug_commands.Seeking.{Seeking}
use Rattle.vip_words.specs.declared.debug_commands.Seeking.TheVariants.{Next, Break}
use Rattle.vip_words.specs.declared.debug_commands.Telling.TheVariants.{Code, Screen, State}
use Rattle.vip_debug.specs.Code.{code_lines}
use Rattle.vip_debug.specs.declared.looks.Looks.{Looks}
use Rattle.vip_call.specs.Transcript.{Point, end_line, last_point, screen, traced}

-- of the points of a run up to a limit, which ends so in cycle `over`; they are shown so
module _ (e : Edition) (looks : Looks) (limit : ℕ) (points : List Point) (ending : Ending) (over : ℕ) where
  -- the last point met, the points ahead, and whether the stop is met
  abbrev pub last_met : ℕ → Option Point
  last_met t = last_point (filter (λ p. nat_le p.cycle t) points)

  abbrev pub ahead : ℕ → List Point
  ahead t = filter (λ p. nat_lt t p.cycle) points

  abbrev pub stops_by : Ending → ℕ → Bool
  stops_by AtLimit t = false
  stops_by (AtStop stop pc opcode) t = nat_le over t

  -- `next` and `break` look for a point ahead: the n-th one, or the first with this pc
  abbrev pub sought : Seeking → ℕ → Option Point
  sought (Next n) t = slice_get (ahead t) (n - 1)
  sought (Break pc) t = find (λ p. p.state.pc == pc) (ahead t)

  -- they go to it, and write its line; where there is none they go to the limit, and name the end
  abbrev pub place_at : ℕ → Option Point → ℕ
  place_at t None = max t limit
  place_at t (Some p) = p.cycle

  abbrev pub found_line : Option Point → List ℕ
  found_line None = end_line ending
  found_line (Some p) = traced e looks.origins looks.columns p

  -- `state` and `screen`, of the last point met
  abbrev pub state_text : Option Point → List ℕ
  state_text None = codes "none" ++ newline
  state_text (Some p) = traced e looks.origins (record looks.columns { time = true }) p

  abbrev pub screen_text : Option Point → List ℕ
  screen_text None = screen_lines empty (rows_of e)
  screen_text (Some p) = screen e p

  -- `code` in the cycle of a point: lines of two bytes each that lie in game memory are those of its state
  abbrev pub ShowsCode : ℕ → ℕ → Option Point → ℕ → List (List ℕ) → Type 0
  ShowsCode address count None t pieces = Unit {0}
  ShowsCode address count (Some p) t pieces =
      p.cycle ≡ t → memory_start ≤ address → address + 2 * count ≤ memory_end e → pieces ≡ code_lines (memory_byte p.state) looks.origins address count

  -- a command that runs the board names the stop, where that is met
  abbrev pub NamesStop : ℕ → List (List ℕ) → Type 0
  NamesStop t pieces = stops_by ending t ≡ true → pieces ≡ end_line ending ∷ []

  -- where the run stands in cycle t, a command writes these pieces, and leaves it in cycle u
  abbrev pub Answers : Command → ℕ → ℕ → List (List ℕ) → Type 0
  Answers (Seeks seeking) t u pieces = (u ≡ place_at t (sought seeking t)) × (pieces ≡ found_line (sought seeking t) ∷ [])
  Answers (Tells State) t u pieces = (u ≡ t) × (pieces ≡ state_text (last_met t) ∷ [])
  Answers (Tells Screen) t u pieces = (u ≡ t) × (pieces ≡ screen_text (last_met t) ∷ [])
  Answers (Tells (Code address count)) t u pieces = (u ≡ t) × ShowsCode address count (last_met t) t pieces
  Answers (Runs (To cycle)) t u pieces = (u ≡ max t (min cycle limit)) × NamesStop u pieces
  Answers (Runs running) t u pieces = (t ≤ u) × (u ≤ max t limit) × NamesStop u pieces
  Answers (Shows showing) t u pieces = u ≡ t

  -- the echo of a command, if it has one, its pieces, and then those of the others
  pub record Answered (spoken : Spoken) (Rest : ℕ → List (List ℕ) → Type 0) (t : ℕ) (pieces : List (List ℕ)) : Type 0 where
    pub place : ℕ
    pub here : List (List ℕ)
    pub rest : List (List ℕ)
    pub split : pieces ≡ (option_to_list spoken.echo ++ here) ++ rest
    pub answers : Answers spoken.command t place here
    pub others : Rest place rest

  -- what all of them write from cycle t on; the end that is reported is the stop, where that is met behind them, and else as at the limit
  abbrev pub AllAnswered : Ending → List Spoken → ℕ → List (List ℕ) → Type 0
  AllAnswered reported [] t pieces = (pieces ≡ []) × (reported ≡ (if stops_by ending t then ending else AtLimit))
  AllAnswered reported (spoken ∷ commands) t pieces = Answered spoken (AllAnswered reported commands) t pieces
