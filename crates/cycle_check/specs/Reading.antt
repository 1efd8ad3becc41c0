-- A certificate as it is read, line by line.
use Rattle.std.specs.Prelude.{◌≡◌, ℕ, ◌<◌, true, List, [], ◌∷◌, ◌++◌, length, slice_index_or, Option, Some, None, Ok}
use Rattle.std.specs.List.Sorted.{IsNonDecreasingBy}
use Rattle.vip_byte.specs.Reading.{read}
use Rattle.cycle_check.specs.declared.grammar.Line.{Line}
use Rattle.cycle_check.specs.declared.grammar.Statement.{Statement}
use Rattle.cycle_check.specs.declared.grammar.Statement.TheVariants.{Within, At}
use Rattle.cycle_check.specs.Certificate.{Certificate, certificate_of, certificate_format, is_behind}

-- the addresses don't fall
abbrev pub AreRising : List Line → Type 0
AreRising lines = IsNonDecreasingBy (λ line. line.address) lines

-- each is above those before it
abbrev pub AreStrict : List Line → Type 0
AreStrict lines = (i j : ℕ) (d : Line) → i < j → j < length lines → (slice_index_or lines i d).address < (slice_index_or lines j d).address

-- the certificate with what a line says
abbrev pub extended : Certificate → Option Statement → Certificate
extended before None = before
extended before (Some (Within bound)) = record before { bound = Some bound }
extended before (Some (At line)) = record before { lines = before.lines ++ line ∷ [] }

-- the line of an address comes behind those before it
abbrev pub FollowsIn : List Line → Option Statement → Type 0
FollowsIn lines None = Unit {0}
FollowsIn lines (Some (Within bound)) = Unit {0}
FollowsIn lines (Some (At line)) = is_behind lines line.address ≡ true

-- all lines of a text are read, and say this
pub record IsRead (text : List ℕ) (draft : Certificate) : Type 0 where
  pub statements : List (List (List ℕ))
  pub says : read certificate_format text ≡ Ok statements
  pub is : draft ≡ certificate_of statements
