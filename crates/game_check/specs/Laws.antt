-- What a certificate shows of its game.
use Rattle.std.specs.Prelude.{◌≡◌, ℕ, ◌<◌, List, slice_index, None}
use Rattle.machine.specs.Keys.{Keys}
use Rattle.chip8_lang.specs.declared.view.Edition.{Edition}
use Rattle.chip8_lang.specs.Between.{Between}
use Rattle.chip8_lang.specs.State.{Lang}
use Rattle.chip8_lang.specs.Step.{stop_of}
use Rattle.game_check.specs.Grammar.{claims_of}
use Rattle.game_check.specs.Proof.{IsAccepted}
use Rattle.game_check.specs.States.{IsCertified, NeverStops}

-- No stop fits a state that is certified, and each state that may follow is certified: after any number of ticks, with any keys.
pub record StepsOn (e : Edition) (game : List ℕ) (text : List ℕ) (s : Lang) : Type 0 where
  pub runs : stop_of e s ≡ None
  pub next : (n : ℕ) (sets : List Keys) (s' : Lang) → Between e s n sets s' → IsCertified game (claims_of text) s'

-- the step law, of every certificate without a fault and every state that its claims stand for, whatever its random byte is
abbrev pub EveryStep : Type 0
EveryStep =
    (e : Edition) (game text : List ℕ)
    → IsAccepted e game text
    → (s : Lang) → IsCertified game (claims_of text) s
    → StepsOn e game text s

-- so a game of bytes with such a certificate never stops
abbrev pub CertifiedGames : Type 0
CertifiedGames =
    (e : Edition) (game text : List ℕ)
    → ((k : ℕ) → slice_index game k < 256)
    → IsAccepted e game text
    → NeverStops e game
