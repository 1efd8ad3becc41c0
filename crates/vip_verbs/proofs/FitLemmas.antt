-- The files of a request of which all fit.
use Rattle.std.proofs.Common.{ℕ, List, [], ◌∷◌, ◌++◌}
use Rattle.vip_words.specs.declared.request.RunRequest.{RunRequest}
use Rattle.vip_words.specs.declared.request.Request.TheVariants as request
use Rattle.vip_words.specs.declared.request.ProgramRequest.{ProgramRequest}
use Rattle.vip_words.specs.declared.request.ResumedRequest.{ResumedRequest}
use Rattle.vip_tools.specs.Files.{Needed, AreFit, IsFit, board_show_files, needed, program_code, program_show_files, script_files, show_files, start_files}

fit-first : (xs ys : List (Needed (List ℕ))) → AreFit (xs ++ ys) → AreFit xs
fit-first [] ys fit = tt
fit-first (x ∷ xs) ys fit = (fit.0, fit-first xs ys fit.1)

fit-rest : (xs ys : List (Needed (List ℕ))) → AreFit (xs ++ ys) → AreFit ys
fit-rest [] ys fit = fit
fit-rest (x ∷ xs) ys fit = fit-rest xs ys fit.1

-- a run's start, what is shown of it, and its key script
module _ (run : RunRequest (List ℕ)) (fit : AreFit (needed (request.Run run))) where
  pub start-fits : AreFit (start_files run.start)
  start-fits = fit-first (start_files run.start) _ fit

  shown-fits : AreFit (show_files run.show ++ script_files run.keys)
  shown-fits = fit-rest (start_files run.start) _ fit

  pub show-fits : AreFit (show_files run.show)
  show-fits = fit-first (show_files run.show) _ shown-fits

  pub keys-fit : AreFit (script_files run.keys)
  keys-fit = fit-rest (show_files run.show) _ shown-fits

-- a program, what is shown of its run, and its key script
module _ (run : ProgramRequest (List ℕ)) (fit : AreFit (needed (request.Program run))) where
  pub program-fits : IsFit (program_code run.memory run.code)
  program-fits = fit.0

  pub program-show-fits : AreFit (program_show_files run.show)
  program-show-fits = fit-first (program_show_files run.show) _ fit.1

  pub program-keys-fit : AreFit (script_files run.keys)
  program-keys-fit = fit-rest (program_show_files run.show) _ fit.1

-- one from a saved state
module _ (run : ResumedRequest (List ℕ)) (fit : AreFit (needed (request.Resumed run))) where
  pub resumed-show-fits : AreFit (board_show_files run.show)
  resumed-show-fits = fit-first (board_show_files run.show) _ fit.1

  pub resumed-keys-fit : AreFit (script_files run.keys)
  resumed-keys-fit = fit-rest (board_show_files run.show) _ fit.1
