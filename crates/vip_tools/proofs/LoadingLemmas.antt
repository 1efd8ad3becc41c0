-- The parts of a request, read one after another.
use Rattle.std.proofs.Common.{Global, ◌≡◌, ℕ, List, [], ◌∷◌, ◌++◌, refl, Option, Ok, Err, Vec}
use Rattle.vip_outside.specs.Files.{FilesMeaning}
use Rattle.vip_words.specs.Request.{map_code}
use Rattle.vip_words.specs.Rules.{Word}
use Rattle.vip_words.specs.declared.request.BoardShow.{BoardShow}
use Rattle.vip_words.specs.declared.request.Code.{Code}
use Rattle.vip_words.specs.declared.request.Code.TheVariants.{Bytes, Source}
use Rattle.vip_words.specs.declared.request.ProgramRequest.{ProgramRequest}
use Rattle.vip_words.specs.declared.request.ProgramShow.{ProgramShow}
use Rattle.vip_words.specs.declared.request.ResumedRequest.{ResumedRequest}
use Rattle.vip_words.specs.declared.request.RunRequest.{RunRequest}
use Rattle.vip_words.specs.declared.request.Show.{Show}
use Rattle.vip_words.specs.declared.request.Start.{Start}
use Rattle.vip_tools.specs.declared.refusal.Kind.{Kind}
use Rattle.vip_tools.specs.declared.refusal.Refusal.{Refusal}
use Rattle.vip_tools.specs.Files.{FileAnswers, FilesRefused, Loads, Needed, board_show_files, code_file, program_code, program_kind, program_show_files, program_size, program_state_file, script_files, show_files, start_files, with_file}
use Rattle.vip_tools.specs.Loading.{code_shape, BoardShowLoads, KeysLoad, PairLoads, ProgramLoads, ProgramShowLoads, ResumedLoads, RunLoads, ShowLoads, StartLoads}
use Rattle.vip_tools.proofs.FilesLemmas.{loads-one, loads-then, refused-before, refused-one, refused-then}

-- two files by their names
module _ (old new : FilesMeaning) (m m' n n' : Needed Word) (is : m ≡ n) (is' : m' ≡ n') where
  pub refused-pair : (refusal : Refusal) → PairLoads {Z = Global} old new m m' (Err refusal) → FilesRefused old new (n ∷ n' ∷ []) refusal
  refused-pair refusal at = rw (← is, ← is') at

  pub loads-pair : (p : Vec ℕ Global × Vec ℕ Global) → PairLoads old new m m' (Ok p)
      → Loads old new (n ∷ n' ∷ []) (record n { file = p.0.items } ∷ record n' { file = p.1.items } ∷ [])
  loads-pair p at = rw (← is, ← is') at.1

-- ---- the file of code

module _ (kind : Kind) (most : ℕ) where
  code-file : (code : Code Word) (content : List ℕ) → code_file kind most (with_file code content) ≡ record (code_file kind most code) { file = content }
  code-file (Bytes name) content = refl
  code-file (Source name told) content = refl

  -- it was read
  pub loads-code : (old new : FilesMeaning) (n : Needed Word) (code : Code Word) → n ≡ code_file kind most code → (bytes : Vec ℕ Global) → FileAnswers old new n (Ok bytes)
      → (held : Code (List ℕ)) → held ≡ with_file code bytes.items → Loads old new (code_file kind most code ∷ []) (code_file kind most held ∷ [])
  loads-code old new n code is bytes answer held holds =
      rw (holds, code-file code bytes.items) (loads-one old new n (code_file kind most code) is bytes answer)

  -- so was another one behind it
  pub loads-code-and : (old new : FilesMeaning) (m n m' : Needed Word) (code : Code Word) → n ≡ code_file kind most code → m ≡ m' → (p : Vec ℕ Global × Vec ℕ Global)
      → PairLoads old new n m (Ok p) → (held : Code (List ℕ)) → held ≡ with_file code p.0.items
      → Loads old new (code_file kind most code ∷ m' ∷ []) (code_file kind most held ∷ record m' { file = p.1.items } ∷ [])
  loads-code-and old new m n m' code is is' p answer held holds =
      rw (holds, code-file code p.0.items) (loads-pair old new n m (code_file kind most code) m' is is' p answer)

pub code-shape : (code : Code Word) (content : List ℕ) (held : Code (List ℕ)) → held ≡ with_file code content → code_shape code ≡ code_shape held
code-shape (Bytes name) content held holds = rw holds refl
code-shape (Source name told) content held holds = rw holds refl

-- a run of the language
module _ (old there here : FilesMeaning) (asked : RunRequest Word) where
  pub run-loads : (new : FilesMeaning) (start : Start (Vec ℕ Global)) (show : Show (Vec ℕ Global)) (keys : Option (Vec ℕ Global))
      → StartLoads old there asked.start (Ok start) → ShowLoads there here asked.show (Ok show) → KeysLoad here new asked.keys (Ok keys)
      → RunLoads {Z = Global} old new asked (Ok (record { start = start; keys = keys; limit = asked.limit; show = show }))
  run-loads new start show keys first second third = (
    rw (first.0, second.0, third.0) refl,
    loads-then _ _ _ _ _ _ _ first.1 (loads-then _ _ _ _ _ _ _ second.1 third.1),
  )

  pub run-start : (refusal : Refusal) → StartLoads {Z = Global} old there asked.start (Err refusal) → RunLoads {Z = Global} old there asked (Err refusal)
  run-start refusal at = refused-before _ _ _ _ refusal at

  pub run-show : (start : Start (Vec ℕ Global)) (refusal : Refusal) → StartLoads old there asked.start (Ok start)
      → ShowLoads {Z = Global} there here asked.show (Err refusal) → RunLoads {Z = Global} old here asked (Err refusal)
  run-show start refusal first at =
      refused-then _ _ _ (start_files asked.start) _ _ refusal first.1
      (refused-before _ _ (show_files asked.show) (script_files asked.keys) refusal at)

  pub run-keys : (new : FilesMeaning) (start : Start (Vec ℕ Global)) (show : Show (Vec ℕ Global)) (refusal : Refusal) → StartLoads old there asked.start (Ok start)
      → ShowLoads there here asked.show (Ok show) → KeysLoad {Z = Global} here new asked.keys (Err refusal) → RunLoads {Z = Global} old new asked (Err refusal)
  run-keys new start show refusal first second at =
      refused-then _ _ _ (start_files asked.start) _ _ refusal first.1 (refused-then _ _ _ (show_files asked.show) _ _ refusal second.1 at)

-- a run of a program
module _ (old there here : FilesMeaning) (asked : ProgramRequest Word) (n : Needed Word) (is : n ≡ program_code asked.memory asked.code) where
  module _ (bytes : Vec ℕ Global) (first : FileAnswers old there n (Ok bytes)) where
    pub program-loads : (new : FilesMeaning) (code : Code (Vec ℕ Global)) (show : ProgramShow (Vec ℕ Global)) (keys : Option (Vec ℕ Global))
        → map_code (λ v. v.items) code ≡ with_file asked.code bytes.items → ProgramShowLoads there here asked.show (Ok show) → KeysLoad here new asked.keys (Ok keys)
        → ProgramLoads {Z = Global} old new asked
        (Ok (record { code = code; memory = asked.memory; keys = keys; limit = asked.limit; show = show }))
    program-loads new code show keys holds second third = (
      rw (code-shape asked.code bytes.items (map_code (λ v. v.items) code) holds, second.0, third.0) refl,
      loads-then _ _ _ _ _ _ _ (loads-code (program_kind asked.memory) (program_size asked.memory) _ _ n asked.code is bytes first _ holds)
          (loads-then _ _ _ _ _ _ _ second.1 third.1),
    )

    pub program-show : (refusal : Refusal) → ProgramShowLoads {Z = Global} there here asked.show (Err refusal) → ProgramLoads {Z = Global} old here asked (Err refusal)
    program-show refusal at =
        refused-then _ _ _ _ _ _ refusal (loads-one _ _ n _ is bytes first)
        (refused-before _ _ (program_show_files asked.show) (script_files asked.keys) refusal at)

    pub program-keys : (new : FilesMeaning) (show : ProgramShow (Vec ℕ Global)) (refusal : Refusal) → ProgramShowLoads there here asked.show (Ok show)
        → KeysLoad {Z = Global} here new asked.keys (Err refusal) → ProgramLoads {Z = Global} old new asked (Err refusal)
    program-keys new show refusal second at =
        refused-then _ _ _ _ _ _ refusal (loads-one _ _ n _ is bytes first)
        (refused-then _ _ _ (program_show_files asked.show) _ _ refusal second.1 at)

  pub program-file : (refusal : Refusal) → FileAnswers {Z = Global} old there n (Err refusal) → ProgramLoads {Z = Global} old there asked (Err refusal)
  program-file refusal at =
      refused-before _ _ (program_code asked.memory asked.code ∷ []) (program_show_files asked.show ++ script_files asked.keys) refusal
      (refused-one _ _ n _ is refusal at)

-- a run of a program from a saved state
module _ (old there here : FilesMeaning) (asked : ResumedRequest Word) (n : Needed Word) (is : n ≡ program_state_file asked.state) where
  module _ (bytes : Vec ℕ Global) (first : FileAnswers old there n (Ok bytes)) where
    pub resumed-loads : (new : FilesMeaning) (show : BoardShow (Vec ℕ Global)) (keys : Option (Vec ℕ Global))
        → BoardShowLoads there here asked.show (Ok show) → KeysLoad here new asked.keys (Ok keys)
        → ResumedLoads {Z = Global} old new asked (Ok (record { state = bytes; keys = keys; limit = asked.limit; show = show }))
    resumed-loads new show keys second third = (
      rw (second.0, third.0) refl,
      loads-then _ _ _ _ _ _ _ (loads-one _ _ n _ is bytes first) (loads-then _ _ _ _ _ _ _ second.1 third.1),
    )

    pub resumed-show : (refusal : Refusal) → BoardShowLoads {Z = Global} there here asked.show (Err refusal) → ResumedLoads {Z = Global} old here asked (Err refusal)
    resumed-show refusal at =
        refused-then _ _ _ _ _ _ refusal (loads-one _ _ n _ is bytes first)
        (refused-before _ _ (board_show_files asked.show) (script_files asked.keys) refusal at)

    pub resumed-keys : (new : FilesMeaning) (show : BoardShow (Vec ℕ Global)) (refusal : Refusal) → BoardShowLoads there here asked.show (Ok show)
        → KeysLoad {Z = Global} here new asked.keys (Err refusal) → ResumedLoads {Z = Global} old new asked (Err refusal)
    resumed-keys new show refusal second at =
        refused-then _ _ _ _ _ _ refusal (loads-one _ _ n _ is bytes first)
        (refused-then _ _ _ (board_show_files asked.show) _ _ refusal second.1 at)

  pub resumed-file : (refusal : Refusal) → FileAnswers {Z = Global} old there n (Err refusal) → ResumedLoads {Z = Global} old there asked (Err refusal)
  resumed-file refusal at =
      refused-before _ _ (program_state_file asked.state ∷ []) (board_show_files asked.show ++ script_files asked.keys) refusal
      (refused-one _ _ n _ is refusal at)

-- two files
module _ (old there : FilesMeaning) (first second : Needed Word) where
  pub pair-loads : (new : FilesMeaning) (one two : Vec ℕ Global) → FileAnswers old there first (Ok one) → FileAnswers there new second (Ok two)
      → PairLoads {Z = Global} old new first second (Ok (one, two))
  pair-loads new one two read read' =
      (tt, loads-then _ _ _ _ _ _ _ (loads-one _ _ first _ refl one read) (loads-one _ _ second _ refl two read'))

  pub pair-first : (refusal : Refusal) → FileAnswers {Z = Global} old there first (Err refusal) → PairLoads {Z = Global} old there first second (Err refusal)
  pair-first refusal at = refused-before _ _ (first ∷ []) (second ∷ []) refusal (refused-one _ _ first _ refl refusal at)

  pub pair-second : (new : FilesMeaning) (one : Vec ℕ Global) (refusal : Refusal) → FileAnswers old there first (Ok one)
      → FileAnswers {Z = Global} there new second (Err refusal) → PairLoads {Z = Global} old new first second (Err refusal)
  pair-second new one refusal read at =
      refused-then _ _ _ _ _ _ refusal (loads-one _ _ first _ refl one read) (refused-one _ _ second _ refl refusal at)
