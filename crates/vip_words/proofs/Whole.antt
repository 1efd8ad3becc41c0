-- A parse as a walk over the words: its faults and its rows, word by word.
use Rattle.std.proofs.Common.{◌≡◌, refl, ℕ, List, [], ◌∷◌, false, Some, None, fold}
use Rattle.std.specs.Prelude.{is_some}
use Rattle.clap.specs.Faults.{check_fault, defaults_fault, entered_fault, fault_of, settle_fault, turn_fault, walk_fault}
use Rattle.clap.specs.Kinds.{Kinds, or_else}
use Rattle.clap.specs.Simple.{built, entered, matches_of}
use Rattle.clap.specs.Walk.{Held, Row, Text, Waiting, Walk, finished, idle, nothing_held, settled, walk, walked}
use Rattle.vip_words.specs.Command.{command_app}
use Rattle.vip_words.proofs.Steps.{Pending, arguments, held, shape, stand}

-- where the walk ends, and the faults that are looked for there
abbrev at_end : ℕ → Walk → List Text → Held
at_end count w words = (fold (walked (arguments count) []) w words).held

abbrev pub ends_with : Text → ℕ → Held → Kinds
ends_with name count end =
    or_else (settle_fault (arguments count) false end)
    (or_else (defaults_fault (settled (arguments count) end).rows (arguments count))
    (check_fault (shape name count) (finished (arguments count) end) false))

-- the faults of a parse from here on
pub faults_from : Text → ℕ → Walk → List Text → Kinds
faults_from name count w words =
    or_else (walk_fault (shape name count) [] w words) (or_else [] (ends_with name count (at_end count w words)))

-- its rows, with the defaults
pub rows_from : ℕ → Walk → List Text → List Row
rows_from count w words = finished (arguments count) (at_end count w words)

or_else_assoc : (a b d : Kinds) → or_else (or_else a b) d ≡ or_else a (or_else b d)
or_else_assoc [] b d = refl
or_else_assoc (k ∷ ks) b d = refl

-- ---- one word more, and none

pub faults_step : (name : Text) (count : ℕ) (w : Walk) (word : Text) (words : List Text)
    → faults_from name count w (word ∷ words)
    ≡ or_else (turn_fault (shape name count) [] w word) (faults_from name count (walked (arguments count) [] w word) words)
unfolding walk_fault faults_from
faults_step name count w word words =
    let after : Walk = walked (arguments count) [] w word in
    or_else_assoc (turn_fault (shape name count) [] w word) (walk_fault (shape name count) [] after words)
    (or_else [] (ends_with name count (at_end count after words)))

pub rows_step : (count : ℕ) (w : Walk) (word : Text) (words : List Text)
    → rows_from count w (word ∷ words) ≡ rows_from count (walked (arguments count) [] w word) words
unfolding rows_from
rows_step count w word words = refl

pub faults_end : (name : Text) (count : ℕ) (rows : List Row) (pending : Pending) (waiting : Waiting) (position : ℕ)
    → faults_from name count (stand rows pending waiting position) [] ≡ ends_with name count (held rows pending)
unfolding faults_from walk_fault
faults_end name count rows pending waiting position = refl

pub rows_end : (count : ℕ) (rows : List Row) (pending : Pending) (waiting : Waiting) (position : ℕ)
    → rows_from count (stand rows pending waiting position) [] ≡ finished (arguments count) (held rows pending)
unfolding rows_from
rows_end count rows pending waiting position = refl

-- ---- all the words, the verb first

-- no subcommand is met
not_entered : (name : Text) (count : ℕ) (stop : Pending) → is_some (entered (built (command_app name count)) stop) ≡ false
not_entered name count None = refl
not_entered name count (Some p) = refl

no_entered_fault : (name : Text) (count : ℕ) (stop : Pending) → entered_fault (built (command_app name count)) stop ≡ []
no_entered_fault name count None = refl
no_entered_fault name count (Some p) = refl

pub whole_faults : (name : Text) (count : ℕ) (verb : Text) (words : List Text)
    → fault_of (command_app name count) (verb ∷ words) ≡ faults_from name count (stand [] None idle 1) words
unfolding faults_from
whole_faults name count verb words =
    let stop : Pending = (walk (arguments count) [] nothing_held words).stopped in
    rw (not_entered name count stop, no_entered_fault name count stop) refl

pub whole_rows : (name : Text) (count : ℕ) (verb : Text) (words : List Text)
    → matches_of (command_app name count) (verb ∷ words) ≡ rows_from count (stand [] None idle 1) words
unfolding rows_from
whole_rows name count verb words = refl
