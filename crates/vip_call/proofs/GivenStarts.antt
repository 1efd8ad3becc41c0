-- Where a run begins that was loaded, its game fits into its edition's memory, and its file is accepted.
use Rattle.std.proofs.Common.{◌≤◌, ◌<◌, ℕ, List, ◌++◌, length, slice_index, sym, subst}
use Rattle.chip8_lang.specs.State.{memory_size}
use Rattle.chip8_lang.specs.declared.view.Edition.{Edition}
use Rattle.vip_relation.specs.Follows.{Fits}
use Rattle.vip_relation.specs.State.{Start}
use Rattle.vip_words.specs.declared.request.Code.{Code}
use Rattle.vip_words.specs.declared.request.Code.TheVariants.{Bytes, Source}
use Rattle.vip_words.specs.declared.request.Start as asked
use Rattle.vip_words.specs.declared.request.Start.TheVariants as beginning
use Rattle.vip_tools.specs.Code.{GameComes}
use Rattle.vip_tools.specs.Files.{Needed, game_code, start_files}
use Rattle.vip_tools.specs.Judged.{bind}
use Rattle.vip_tools.specs.Judged.Verdict.{Given}
use Rattle.vip_tools.specs.Outcome.{Output}
use Rattle.vip_tools.specs.Judged.{Judged}
use Rattle.vip_tools.proofs.DemoLemmas.{made-bytes, made-fits}
use Rattle.vip_verbs.specs.Outcome.{OfRun, RunStart, StartComes}
use Rattle.vip_call.specs.Transcribed.{From}
use Rattle.vip_call.proofs.FilledLemmas.{AreGiven, IsGiven}

-- a game of bytes that fits
pub record FitsGame (e : Edition) (game : List ℕ) : Type 0 where
  pub fits : length game ≤ memory_size e
  pub bytes : (i : ℕ) → slice_index game i < 256

pub game_fits : (e : Edition) (code : Code (List ℕ)) → IsGiven (game_code e code) → (game : List ℕ) → GameComes e code (Given game) → FitsGame e game
game_fits e (Bytes file) given game comes = subst (FitsGame e) (sym comes) (record { fits = given.fits; bytes = given.bytes })
game_fits e (Source text told) given game comes = record { fits = comes.here.fits; bytes = comes.here.raw.bytes }

pub start_fits : (start : asked.Start (List ℕ)) (others : List (Needed (List ℕ))) → AreGiven (start_files start ++ others) → (s : RunStart)
    → StartComes start (Given s) → Fits s.edition s.start
start_fits (beginning.Game code edition) others given s comes =
    let game = game_fits edition code given.0 comes.value comes.gives in
    subst (λ s. Fits s.edition s.start) (sym comes.here) (record { bytes = game.bytes; fits = game.fits })
start_fits (beginning.State file) others given s comes =
    subst (Fits s.edition) (sym comes.saved) (record { bytes = given.0.bytes; accepted = comes.accepted })
start_fits (beginning.Made made) others given s comes =
    subst (λ s. Fits s.edition s.start) (sym comes) (record { bytes = made-bytes made; fits = made-fits made })

-- what was shown of a run was shown of its edition and its start
pub begun_so :
    (output : Output) (Here : Edition → Start → Judged Output) (There : Edition → Start → Type 0)
    → ((e : Edition) (s : Start) → Fits e s → Here e s (Given output) → There e s)
    → (start : asked.Start (List ℕ)) (others : List (Needed (List ℕ))) → AreGiven (start_files start ++ others)
    → bind (StartComes start) (λ s. Here s.edition s.start) (Given output) → OfRun start There
begun_so output Here There goes start others given comes = record {
  value = comes.value;
  gives = comes.gives;
  here = goes comes.value.edition comes.value.start (start_fits start others given comes.value comes.gives) comes.here;
}

-- byte 5 of an accepted file names its edition
pub from_start : (Here : Edition → Start → Type 0) (start : asked.Start (List ℕ)) → OfRun start Here → From start Here
from_start Here (beginning.Game code edition) of =
    record { value = of.gives.value; gives = of.gives.gives; here = subst (λ s. Here s.edition s.start) of.gives.here of.here }
from_start Here (beginning.State file) of =
    record { edition = of.value.edition; named = of.gives.accepted.edition; here = subst (Here of.value.edition) of.gives.saved of.here }
from_start Here (beginning.Made made) of = subst (λ s. Here s.edition s.start) of.gives of.here
