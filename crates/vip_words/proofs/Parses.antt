-- What an answer of `clap` says of the words.
use Rattle.std.proofs.Common.{◌≡◌, ◌≢◌, ◌∙◌, ap, sym, subst, inl, inr, refl, ℕ, zero, suc, List, [], true, Ok, Err}
use Rattle.clap.specs.Kinds.{FailsBy, IsAmong}
use Rattle.clap.specs.Values.{kind_of}
use Rattle.clap.specs.Faults.{fault_of, is_simple_and_free}
use Rattle.clap.specs.Matches.{found_of}
use Rattle.clap.specs.Simple.{App, HasMatchesOf, is_simple, matches_of}
use Rattle.clap.specs.Walk.{Text, rows_of}
use Rattle.clap.specs.declared.error.Error.{Error}
use Rattle.clap.specs.declared.error.kind.ErrorKind.TheVariants.{OutOfMemory}
use Rattle.clap.specs.declared.parser.matches.ArgMatches.{ArgMatches}
use Rattle.vip_words.specs.Command.{command_app, command_faults, command_rows}

-- the command uses nothing but plain options and positional words
simple_and_free : (name : Text) (places : ℕ) → is_simple_and_free (command_app name places) ≡ true
simple_and_free name zero = refl
simple_and_free name (suc zero) = refl
simple_and_free name (suc (suc zero)) = refl
simple_and_free name (suc (suc (suc zero))) = refl
simple_and_free name (suc (suc (suc (suc zero)))) = refl
simple_and_free name (suc (suc (suc (suc (suc places))))) = refl

simple : (name : Text) (places : ℕ) → is_simple (command_app name places) ≡ true
simple name zero = refl
simple name (suc zero) = refl
simple name (suc (suc zero)) = refl
simple name (suc (suc (suc zero))) = refl
simple name (suc (suc (suc (suc zero)))) = refl
simple name (suc (suc (suc (suc (suc places))))) = refl

-- an `Ok` has no fault
pub faultless : (m : ArgMatches) (app : App) (name : Text) (places : ℕ) (words : List Text) → app ≡ command_app name places
    → (is_simple_and_free app ≡ true → FailsBy (fault_of app words) (Ok m)) → command_faults name places words ≡ []
unfolding command_faults
faultless m app name places words is fails = ap (λ a. fault_of a words) (sym is) ∙ fails (rw is (simple_and_free name places))

-- and the rows of the words
pub rows_found : (m : ArgMatches) (app : App) (name : Text) (places : ℕ) (words : List Text) → app ≡ command_app name places
    → HasMatchesOf app words m → rows_of (found_of m) ≡ command_rows name places words
unfolding command_rows
rows_found m app name places words is matches = (matches (rw is (simple name places))).0 ∙ ap (λ a. matches_of a words) is

-- an `Err` has a fault, unless memory ran out
pub faulty : (e : Error) (app : App) (name : Text) (places : ℕ) (words : List Text) → app ≡ command_app name places
    → (is_simple_and_free app ≡ true → FailsBy {T = ArgMatches} (fault_of app words) (Err e)) → kind_of e ≢ OutOfMemory
    → command_faults name places words ≢ []
unfolding command_faults
faulty e app name places words is fails other none = elim (fails (rw is (simple_and_free name places))) [
  | inl memory ↦ other memory
  | inr among ↦ subst (λ kinds. IsAmong (kind_of e) kinds) (ap (λ a. fault_of a words) is ∙ none) among
]
