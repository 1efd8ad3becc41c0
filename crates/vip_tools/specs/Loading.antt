-- What the reading of the parts of a request answers.
use Rattle.std.specs.Prelude.{◌≡◌, ℕ, [], ◌∷◌, Option, option_map, Result, Vec}
use Rattle.vip_outside.specs.Files.{FilesMeaning}
use Rattle.vip_words.specs.Request.{map_board_show, map_code, map_program, map_program_show, map_resumed, map_run, map_show, map_start}
use Rattle.vip_words.specs.Rules.{Word}
use Rattle.vip_words.specs.declared.request.BoardShow.{BoardShow}
use Rattle.vip_words.specs.declared.request.Code.{Code}
use Rattle.vip_words.specs.declared.request.ProgramRequest.{ProgramRequest}
use Rattle.vip_words.specs.declared.request.ProgramShow.{ProgramShow}
use Rattle.vip_words.specs.declared.request.Request.TheVariants as request
use Rattle.vip_words.specs.declared.request.ResumedRequest.{ResumedRequest}
use Rattle.vip_words.specs.declared.request.RunRequest.{RunRequest}
use Rattle.vip_words.specs.declared.request.Show.{Show}
use Rattle.vip_words.specs.declared.request.Start.{Start}
use Rattle.vip_tools.specs.Files.{Needed, PartAnswers, board_show_files, needed, program_show_files, script_files, show_files, start_files}
use Rattle.vip_tools.specs.declared.refusal.Refusal.{Refusal}

-- a part without its files
module _ {N : Type 0} where
  abbrev pub code_shape : Code N → Code (Unit {0})
  code_shape = map_code (λ _. tt)

  abbrev pub start_shape : Start N → Start (Unit {0})
  start_shape = map_start (λ _. tt)

  abbrev pub show_shape : Show N → Show (Unit {0})
  show_shape = map_show (λ _. tt)

  abbrev pub board_show_shape : BoardShow N → BoardShow (Unit {0})
  board_show_shape = map_board_show (λ _. tt)

  abbrev pub program_show_shape : ProgramShow N → ProgramShow (Unit {0})
  program_show_shape = map_program_show (λ _. tt)

  abbrev pub keys_shape : Option N → Option (Unit {0})
  keys_shape = option_map (λ _. tt)

  abbrev pub run_shape : RunRequest N → RunRequest (Unit {0})
  run_shape = map_run (λ _. tt)

  abbrev pub program_shape : ProgramRequest N → ProgramRequest (Unit {0})
  program_shape = map_program (λ _. tt)

  abbrev pub resumed_shape : ResumedRequest N → ResumedRequest (Unit {0})
  resumed_shape = map_resumed (λ _. tt)

module _ {Z : Type 0} (old new : FilesMeaning) where
  abbrev pub StartLoads : Start Word → Result (Start (Vec ℕ Z)) Refusal → Type 0
  StartLoads asked =
      PartAnswers (λ s. start_files (map_start (λ v. v.items) s)) (λ s. start_shape asked ≡ start_shape (map_start (λ v. v.items) s)) old new (start_files asked)

  abbrev pub ShowLoads : Show Word → Result (Show (Vec ℕ Z)) Refusal → Type 0
  ShowLoads asked = PartAnswers (λ s. show_files (map_show (λ v. v.items) s)) (λ s. show_shape asked ≡ show_shape (map_show (λ v. v.items) s)) old new (show_files asked)

  abbrev pub BoardShowLoads : BoardShow Word → Result (BoardShow (Vec ℕ Z)) Refusal → Type 0
  BoardShowLoads asked =
      PartAnswers (λ s. board_show_files (map_board_show (λ v. v.items) s)) (λ s. board_show_shape asked ≡ board_show_shape (map_board_show (λ v. v.items) s)) old new
      (board_show_files asked)

  abbrev pub ProgramShowLoads : ProgramShow Word → Result (ProgramShow (Vec ℕ Z)) Refusal → Type 0
  ProgramShowLoads asked =
      PartAnswers (λ s. program_show_files (map_program_show (λ v. v.items) s)) (λ s. program_show_shape asked ≡ program_show_shape (map_program_show (λ v. v.items) s)) old new
      (program_show_files asked)

  abbrev pub KeysLoad : Option Word → Result (Option (Vec ℕ Z)) Refusal → Type 0
  KeysLoad asked =
      PartAnswers (λ k. script_files (option_map (λ (v : Vec ℕ Z). v.items) k)) (λ k. keys_shape asked ≡ keys_shape (option_map (λ (v : Vec ℕ Z). v.items) k)) old new (script_files asked)

  abbrev pub RunLoads : RunRequest Word → Result (RunRequest (Vec ℕ Z)) Refusal → Type 0
  RunLoads asked =
      PartAnswers (λ r. needed (request.Run (map_run (λ v. v.items) r))) (λ r. run_shape asked ≡ run_shape (map_run (λ v. v.items) r)) old new (needed (request.Run asked))

  abbrev pub ProgramLoads : ProgramRequest Word → Result (ProgramRequest (Vec ℕ Z)) Refusal → Type 0
  ProgramLoads asked =
      PartAnswers (λ r. needed (request.Program (map_program (λ v. v.items) r))) (λ r. program_shape asked ≡ program_shape (map_program (λ v. v.items) r)) old new
      (needed (request.Program asked))

  abbrev pub ResumedLoads : ResumedRequest Word → Result (ResumedRequest (Vec ℕ Z)) Refusal → Type 0
  ResumedLoads asked =
      PartAnswers (λ r. needed (request.Resumed (map_resumed (λ v. v.items) r))) (λ r. resumed_shape asked ≡ resumed_shape (map_resumed (λ v. v.items) r)) old new
      (needed (request.Resumed asked))

  -- two files
  abbrev pub PairLoads : Needed Word → Needed Word → Result (Vec ℕ Z × Vec ℕ Z) Refusal → Type 0
  PairLoads first second =
      PartAnswers
      (λ p. record first { file = p.0.items } ∷ record second { file = p.1.items } ∷ []) (λ p. Unit {0}) old new (first ∷ second ∷ [])
