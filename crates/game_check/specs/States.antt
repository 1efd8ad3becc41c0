-- The states that claims stand for, and the runs of a game.
use Rattle.std.specs.Prelude.{◌≡◌, ℕ, ◌+◌, ◌<◌, ◌≤◌, List, [], ◌∷◌, None}
use Rattle.std.specs.List.{All, Any}
use Rattle.machine.specs.Keys.{Keys}
use Rattle.chip8_lang.specs.declared.view.Edition.{Edition}
use Rattle.chip8_lang.specs.Between.{Between}
use Rattle.chip8_lang.specs.State.{Lang, first, memory_byte}
use Rattle.chip8_lang.specs.Step.{stop_of}
use Rattle.game_check.specs.declared.claim.Claim.{Claim}
use Rattle.game_check.specs.Closed.{game_byte}

-- ---- states

-- a claim stands for the states at its pc with exactly its stack, and I in its range
pub record StandsFor (c : Claim) (s : Lang) : Type 0 where
  pub pc : s.pc ≡ c.point.pc
  pub stack : s.stack ≡ c.point.stack.items
  pub low : c.low ≤ s.i
  pub high : s.i ≤ c.high

-- the opcode of a claim is still that of the game
pub record HasOpcode (game : List ℕ) (s : Lang) (c : Claim) : Type 0 where
  pub high : memory_byte s c.point.pc ≡ game_byte game c.point.pc
  pub low : memory_byte s (c.point.pc + 1) ≡ game_byte game (c.point.pc + 1)

-- a number of 8 bits
abbrev pub IsByte : ℕ → Type 0
IsByte n = n < 256

-- what is a byte in each state: a variable, what game memory holds, the delay timer
pub record HasBytes (s : Lang) : Type 0 where
  pub variables : All IsByte s.v
  pub memory : All IsByte s.memory
  pub delay : IsByte s.dt

-- a state for which one of the claims stands, with the game's bytes in the code
pub record IsCertified (game : List ℕ) (claims : List Claim) (s : Lang) : Type 0 where
  pub bytes : HasBytes s
  pub stands : Any (λ c. StandsFor c s) claims
  pub code : All (HasOpcode game s) claims

-- ---- runs

-- s' comes from s in an interval with some number of ticks and some sets of keys
pub record Follows (e : Edition) (s s' : Lang) : Type 0 where
  pub ticks : ℕ
  pub sets : List Keys
  pub between : Between e s ticks sets s'

-- each of the states follows on the one before, the first on s
abbrev pub IsRunFrom : Edition → Lang → List Lang → Type 0
IsRunFrom e s [] = Unit {0}
IsRunFrom e s (s' ∷ states) = Follows e s s' × IsRunFrom e s' states

-- the last state of a run
abbrev pub last_of : Lang → List Lang → Lang
last_of s [] = s
last_of s (s' ∷ states) = last_of s' states

-- no stop fits any state of any run of the game: whenever ticks come, whatever keys are held down
abbrev pub NeverStops : Edition → List ℕ → Type 0
NeverStops e game = (states : List Lang) → IsRunFrom e (first e game) states → stop_of e (last_of (first e game) states) ≡ None
