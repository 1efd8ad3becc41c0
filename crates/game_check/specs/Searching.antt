-- What is kept while the least family is made.
use Rattle.std.specs.Prelude.{◌≡◌, ℕ, ◌+◌, ◌-◌, ◌<◌, ◌≤◌, min, Bool, true, false, if◌then◌else◌, List, length, map, slice_index_or}
use Rattle.std.specs.List.{All, sum_by}
use Rattle.std.specs.declared.cmp.Ordering.TheVariants.{Less, Equal, Greater}
use Rattle.chip8_lang.specs.declared.view.Edition.{Edition}
use Rattle.game_check.specs.declared.claim.Claim.{Claim}
use Rattle.game_check.specs.declared.claim.Point.{Point}
use Rattle.game_check.specs.declared.least.Family.{Family}
use Rattle.game_check.specs.declared.least.search.Search.{Search}
use Rattle.game_check.specs.Closed.{instr_in, next_points}
use Rattle.game_check.specs.Grammar.{order}
use Rattle.game_check.specs.Least.{IsClosed, IsCovered, IsLeast, IsMet, above, claim_of, last_address, left_by, line_bytes, most_bytes}
use Rattle.game_check.specs.Order.{IsAscending}

-- what a claim leaves at each of its next points
abbrev pub ways_of : List ℕ → Claim → List Claim
ways_of game c = map (left_by (instr_in game c.point.pc) c) (next_points (instr_in game c.point.pc) c.point)

-- In each closed family I may be at q all that it may be at p, and more where it rises.
abbrev pub IsAhead : Edition → List ℕ → Point → Point → Bool → Type 0
IsAhead e game p q rises = (family : List Claim) → IsClosed e game family → (high : ℕ) → IsCovered family (claim_of p last_address high)
    → IsCovered family (claim_of q last_address (min above (high + (if rises then 1 else 0))))

-- a range that isn't empty, in the bounds of a family
pub record IsProper (c : Claim) : Type 0 where
  pub rises : c.low ≤ c.high
  pub low : c.low ≤ last_address
  pub high : c.high ≤ above

-- each closed family has a claim around each of them
pub record AreFound (e : Edition) (game : List ℕ) (claims : List Claim) : Type 0 where
  pub met : All (IsMet e game) claims
  pub proper : All IsProper claims

abbrev pub HasFound : Search → Type 0
HasFound s = AreFound s.edition s.game.now s.claims.items

-- of the same game, more may be found
pub record IsFoundOn (old new : Search) : Type 0 where
  pub edition : new.edition ≡ old.edition
  pub game : new.game.now ≡ old.game.now
  pub found : HasFound new

-- what is noted of the claims may differ
pub record IsMarked (old new : Search) : Type 0 where
  pub edition : new.edition ≡ old.edition
  pub game : new.game ≡ old.game
  pub claims : new.claims ≡ old.claims

-- and they are in order
pub record AreMet (e : Edition) (game : List ℕ) (claims : List Claim) : Type 0 where
  pub in_order : IsAscending claims
  pub met : All (IsMet e game) claims
  pub proper : All IsProper claims

abbrev pub HasMet : Family → Type 0
HasMet s = AreMet s.edition s.game.now s.claims.items

-- the family of a game
pub record IsStarted (e : Edition) (bytes : List ℕ) (s : Family) : Type 0 where
  pub edition : s.edition ≡ e
  pub game : s.game.now ≡ bytes
  pub kept : HasMet s

-- where the claim of a point stands
pub record IsPlace (claims : List Claim) (p : Point) (place : ℕ) : Type 0 where
  pub within : place < length claims
  pub here : (d : Claim) → order (slice_index_or claims place d).point p ≡ Equal

-- where it would stand, if there is none
pub record IsNoPlace (claims : List Claim) (p : Point) (place : ℕ) : Type 0 where
  pub within : place ≤ length claims
  pub before : (k : ℕ) (d : Claim) → k < place → order (slice_index_or claims k d).point p ≡ Less
  pub behind : (k : ℕ) (d : Claim) → place ≤ k → k < length claims → order (slice_index_or claims k d).point p ≡ Greater

-- a number that grows with each claim and with each range
abbrev pub weight : Claim → ℕ
weight c = 1 + (last_address - c.low) + c.high

abbrev pub weights : List Claim → ℕ
weights = sum_by weight

-- the claims stay, or more is met
pub record HasGrown (old new : Family) (grew : Bool) : Type 0 where
  pub edition : new.edition ≡ old.edition
  pub game : new.game.now ≡ old.game.now
  pub kept : HasMet new
  pub more : grew ≡ true → weights old.claims.items < weights new.claims.items
  pub same : grew ≡ false → new.claims.items ≡ old.claims.items

-- the least family, which a certificate has room for
pub record IsSettled (e : Edition) (game : List ℕ) (family : List Claim) : Type 0 where
  pub least : IsLeast e game family
  pub proper : All IsProper family
  pub fits : sum_by line_bytes family ≤ most_bytes

-- ---- what is written

-- a number of 16 bits
abbrev pub IsWord : ℕ → Type 0
IsWord n = n < 0x10000

-- the words of a line
pub record AreWords (c : Claim) : Type 0 where
  pub pc : IsWord c.point.pc
  pub stack : All IsWord c.point.stack.items
  pub depth : length c.point.stack.items ≤ 12

-- a range that a line can say
pub record IsWritable (c : Claim) : Type 0 where
  pub rises : c.low ≤ c.high
  pub high : c.high ≤ last_address
