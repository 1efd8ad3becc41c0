-- What a command comes to.
use Rattle.std.specs.Prelude.{◌≡◌, ℕ, List, [], ◌∷◌, Option, None, Some, Result, Ok}
use Rattle.machine.specs.Keys.{Event as KeyEvent}
use Rattle.chip8_lang.specs.declared.view.Edition.{Edition}
use Rattle.chip8_lang.specs.declared.view.Edition.TheVariants.{Usual, Tall}
use Rattle.chip8_source.specs.Texts.{usual_text, tall_text}
use Rattle.vip_text.specs.Bounds.{bounds_table}
use Rattle.vip_keypad.specs.KeyScript.{script_of}
use Rattle.vip_keypad.specs.declared.script.ScriptFault.{ScriptFault}
use Rattle.vip_tools.specs.declared.status.Status.{Status}
use Rattle.vip_tools.specs.declared.status.Status.TheVariants.{Done}
use Rattle.vip_tools.specs.Judged.{Judged, Verdict}
use Rattle.vip_tools.specs.Judged.Verdict.{Given}

-- output, piece by piece, with the status and the report of its end
pub record Output : Type 0 where
  pub pieces : List (List ℕ)
  pub status : Status
  pub report : List ℕ

abbrev pub Outcome : Type 0
Outcome = Verdict Output

abbrev pub Shown : List (List ℕ) → Status → List ℕ → Outcome
Shown pieces status report = Given (record { pieces = pieces; status = status; report = report })

-- this outcome, and no other
abbrev pub Ends : Outcome → Judged Output
Ends outcome o = o ≡ outcome

-- the events of a script file, where there is one, or its first fault
abbrev pub script_in : Option (List ℕ) → Result (List KeyEvent) ScriptFault
script_in None = Ok []
script_in (Some text) = script_of text

-- one text, all of the output
abbrev pub Writes : List ℕ → Judged Output
Writes text = Ends (Shown (text ∷ []) Done [])

-- ---- nothing

-- the built-in source of an edition's ROM
abbrev pub rom_text : Edition → List ℕ
rom_text Usual = usual_text
rom_text Tall = tall_text

abbrev pub TextComes : Edition → Judged Output
TextComes e = Writes (rom_text e)

abbrev pub BoundsComes : Judged Output
BoundsComes = Writes bounds_table
