-- What the walk of `clap` does at each word, where the command is the one for so many positional words.
use Rattle.std.proofs.Common.{◌≡◌, refl, arith, ◌<◌, ◌≤◌, ◌+◌, ℕ, zero, suc, List, [], ◌∷◌, Bool, true, false, not, Option, Some, None, take, codes}
use Rattle.std.specs.List.{list_all, list_any}
use Rattle.std.specs.Prelude.{◌==◌, ◌&&◌}
use Rattle.clap.specs.Faults.{check_fault, settle_fault, stray_fault, turn_fault, use_fault}
use Rattle.clap.specs.Kinds.{Kinds, check_kinds, or_else}
use Rattle.clap.specs.Simple.{Shape, built, filled, with_index}
use Rattle.clap.specs.Takes.{is_given}
use Rattle.clap.specs.Walk.{Held, Row, Rule, Text, Waiting, Walk, arg_by_id, arg_by_index, idle, is_pending, option, settled_rows, used, walked}
use Rattle.vip_words.specs.Command.{command_app, flag_rule, place_rule, place_names}
use Rattle.vip_words.specs.Rules.{flag_option}
use Rattle.vip_words.specs.declared.flag.Flag.{Flag}
use Rattle.vip_words.specs.declared.flag.Flag.TheVariants.{At}
use Rattle.vip_words.proofs.Rows.{is_quiet}

-- the places of the positional words
pub data Place : Type 0 where
  First : Place
  Second : Place
  Third : Place
  Fourth : Place

abbrev pub place_name : Place → Text
place_name First = codes "first"
place_name Second = codes "second"
place_name Third = codes "third"
place_name Fourth = codes "fourth"

abbrev pub place_at : Place → ℕ
place_at First = 0
place_at Second = 1
place_at Third = 2
place_at Fourth = 3

-- ---- the arguments of the command

abbrev pub shape : Text → ℕ → Shape
shape name count = (built (command_app name count)).top

abbrev pub arguments : ℕ → List Rule
arguments count = (shape [] count).rules

abbrev pub flag_argument : Flag → Rule
flag_argument flag = filled (flag_rule flag)

abbrev pub place_argument : Place → Rule
place_argument place = with_index (place_at place + 1) (filled (place_rule (place_name place)))

pub place_by_index : (count : ℕ) (place : Place) → count ≤ 4 → place_at place < count
    → arg_by_index (arguments count) (place_at place + 1) ≡ Some (place_argument place)
place_by_index zero place few within = absurd (omega arith)
place_by_index (suc zero) First few within = refl
place_by_index (suc zero) Second few within = absurd (omega arith)
place_by_index (suc zero) Third few within = absurd (omega arith)
place_by_index (suc zero) Fourth few within = absurd (omega arith)
place_by_index (suc (suc zero)) First few within = refl
place_by_index (suc (suc zero)) Second few within = refl
place_by_index (suc (suc zero)) Third few within = absurd (omega arith)
place_by_index (suc (suc zero)) Fourth few within = absurd (omega arith)
place_by_index (suc (suc (suc zero))) First few within = refl
place_by_index (suc (suc (suc zero))) Second few within = refl
place_by_index (suc (suc (suc zero))) Third few within = refl
place_by_index (suc (suc (suc zero))) Fourth few within = absurd (omega arith)
place_by_index (suc (suc (suc (suc zero)))) First few within = refl
place_by_index (suc (suc (suc (suc zero)))) Second few within = refl
place_by_index (suc (suc (suc (suc zero)))) Third few within = refl
place_by_index (suc (suc (suc (suc zero)))) Fourth few within = refl
place_by_index (suc (suc (suc (suc (suc count))))) place few within = absurd (omega arith)

pub place_by_id : (count : ℕ) (place : Place) → count ≤ 4 → place_at place < count
    → arg_by_id (arguments count) (place_name place) ≡ Some (place_argument place)
place_by_id zero place few within = absurd (omega arith)
place_by_id (suc zero) First few within = refl
place_by_id (suc zero) Second few within = absurd (omega arith)
place_by_id (suc zero) Third few within = absurd (omega arith)
place_by_id (suc zero) Fourth few within = absurd (omega arith)
place_by_id (suc (suc zero)) First few within = refl
place_by_id (suc (suc zero)) Second few within = refl
place_by_id (suc (suc zero)) Third few within = absurd (omega arith)
place_by_id (suc (suc zero)) Fourth few within = absurd (omega arith)
place_by_id (suc (suc (suc zero))) First few within = refl
place_by_id (suc (suc (suc zero))) Second few within = refl
place_by_id (suc (suc (suc zero))) Third few within = refl
place_by_id (suc (suc (suc zero))) Fourth few within = absurd (omega arith)
place_by_id (suc (suc (suc (suc zero)))) First few within = refl
place_by_id (suc (suc (suc (suc zero)))) Second few within = refl
place_by_id (suc (suc (suc (suc zero)))) Third few within = refl
place_by_id (suc (suc (suc (suc zero)))) Fourth few within = refl
place_by_id (suc (suc (suc (suc (suc count))))) place few within = absurd (omega arith)

pub no_more_places : (count : ℕ) → count ≤ 4 → arg_by_index (arguments count) (count + 1) ≡ None
no_more_places zero few = refl
no_more_places (suc zero) few = refl
no_more_places (suc (suc zero)) few = refl
no_more_places (suc (suc (suc zero))) few = refl
no_more_places (suc (suc (suc (suc zero)))) few = refl
no_more_places (suc (suc (suc (suc (suc count))))) few = absurd (omega arith)

pub all_quiet : (count : ℕ) → count ≤ 4 → list_all is_quiet (arguments count) ≡ true
all_quiet zero few = refl
all_quiet (suc zero) few = refl
all_quiet (suc (suc zero)) few = refl
all_quiet (suc (suc (suc zero))) few = refl
all_quiet (suc (suc (suc (suc zero)))) few = refl
all_quiet (suc (suc (suc (suc (suc count))))) few = absurd (omega arith)

-- the argument of a place that stands empty is missing, and no other argument can be
pub missing_places : (name : Text) (count : ℕ) (rows : List Row)
    → check_fault (shape name count) rows false
    ≡ check_kinds false false (list_any (λ id. not (is_given id rows)) (take count place_names))
missing_places name zero rows = refl
missing_places name (suc zero) rows = refl
missing_places name (suc (suc zero)) rows = refl
missing_places name (suc (suc (suc zero))) rows = refl
missing_places name (suc (suc (suc (suc zero)))) rows = refl
missing_places name (suc (suc (suc (suc (suc count))))) rows = refl

-- ---- the state between two words

abbrev pub Pending : Type 0
Pending = Option (Text × List Text)

abbrev pub held : List Row → Pending → Held
held rows pending = record { rows = rows; pending = pending; skip = 0 }

abbrev pub stand : List Row → Pending → Waiting → ℕ → Walk
stand rows pending waiting position = record {
  held = held rows pending;
  waiting = waiting;
  position = position;
  is_trailing = false;
  stopped = None;
}

abbrev pub settled_after : ℕ → Pending → List Row → List Row
settled_after count pending rows = settled_rows (arguments count) pending rows

abbrev pub settles : ℕ → List Row → Pending → Kinds
settles count rows pending = settle_fault (arguments count) false (held rows pending)

-- `--keys` waits for its value
abbrev pub keys_pending : Pending
keys_pending = Some (codes "keys", [])

abbrev pub keys_waiting : Waiting
keys_waiting = option (codes "keys")

pub and_never : (b : Bool) → (b && false) ≡ false
and_never true = refl
and_never false = refl

-- ---- one word more: where the walk stands after it, and its faults

pub flag_step : (count : ℕ) (flag : Flag) (rows : List Row) (pending : Pending) (position : ℕ)
    → walked (arguments count) [] (stand rows pending idle position) (flag_option flag)
    ≡ stand (used (flag_argument flag) [] (settled_after count pending rows)) None idle position
unfolding walked
flag_step count At rows pending position = refl
flag_step count _ rows pending position = refl

pub flag_turn : (name : Text) (count : ℕ) (flag : Flag) (rows : List Row) (pending : Pending) (position : ℕ)
    → turn_fault (shape name count) [] (stand rows pending idle position) (flag_option flag)
    ≡ or_else (or_else (settles count rows pending) (use_fault false (flag_argument flag) [] (settled_after count pending rows))) []
flag_turn name count At rows pending position = refl
flag_turn name count _ rows pending position = refl

pub keys_step : (count : ℕ) (rows : List Row) (pending : Pending) (position : ℕ)
    → walked (arguments count) [] (stand rows pending idle position) (codes "--keys")
    ≡ stand (settled_after count pending rows) keys_pending keys_waiting position
unfolding walked
keys_step count rows pending position = refl

pub keys_turn : (name : Text) (count : ℕ) (rows : List Row) (pending : Pending) (position : ℕ)
    → turn_fault (shape name count) [] (stand rows pending idle position) (codes "--keys") ≡ or_else (settles count rows pending) []
keys_turn name count rows pending position = refl

-- an option where `--keys` waits
pub asking_flag_turn : (name : Text) (count : ℕ) (flag : Flag) (rows : List Row) (position : ℕ)
    → turn_fault (shape name count) [] (stand rows keys_pending keys_waiting position) (flag_option flag)
    ≡ or_else (or_else (settles count rows keys_pending) (use_fault false (flag_argument flag) [] (settled_after count keys_pending rows))) []
asking_flag_turn name count At rows position = refl
asking_flag_turn name count _ rows position = refl

pub asking_keys_turn : (name : Text) (count : ℕ) (rows : List Row) (position : ℕ)
    → turn_fault (shape name count) [] (stand rows keys_pending keys_waiting position) (codes "--keys")
    ≡ or_else (settles count rows keys_pending) []
asking_keys_turn name count rows position = refl

-- a plain word where `--keys` waits is its value
pub value_step : (count : ℕ) (rows : List Row) (position c : ℕ) (cs : Text) → (c == 45) ≡ false
    → walked (arguments count) [] (stand rows keys_pending keys_waiting position) (c ∷ cs)
    ≡ stand rows (Some (codes "keys", (c ∷ cs) ∷ [])) idle position
unfolding walked
value_step count rows position c cs plain = rw (plain, plain) refl

pub value_turn : (name : Text) (count : ℕ) (rows : List Row) (position c : ℕ) (cs : Text) → (c == 45) ≡ false
    → turn_fault (shape name count) [] (stand rows keys_pending keys_waiting position) (c ∷ cs) ≡ []
value_turn name count rows position c cs plain = rw (plain, plain) refl

-- where nothing waits it goes to the next place
pub place_step : (count : ℕ) (place : Place) → count ≤ 4 → place_at place < count
    → (rows : List Row) (pending : Pending) (c : ℕ) (cs : Text) → (c == 45) ≡ false
    → walked (arguments count) [] (stand rows pending idle (place_at place + 1)) (c ∷ cs)
    ≡ stand (settled_after count pending rows) (Some (place_name place, (c ∷ cs) ∷ [])) idle (place_at place + 1 + 1)
unfolding walked
place_step count First few within rows pending c cs plain =
    rw (plain, plain, place_by_index count First few within, and_never (is_pending (place_argument First) pending)) refl
place_step count Second few within rows pending c cs plain =
    rw (plain, plain, place_by_index count Second few within, and_never (is_pending (place_argument Second) pending)) refl
place_step count Third few within rows pending c cs plain =
    rw (plain, plain, place_by_index count Third few within, and_never (is_pending (place_argument Third) pending)) refl
place_step count Fourth few within rows pending c cs plain =
    rw (plain, plain, place_by_index count Fourth few within, and_never (is_pending (place_argument Fourth) pending)) refl

pub place_turn : (name : Text) (count : ℕ) (place : Place) → count ≤ 4 → place_at place < count
    → (rows : List Row) (pending : Pending) (c : ℕ) (cs : Text) → (c == 45) ≡ false
    → turn_fault (shape name count) [] (stand rows pending idle (place_at place + 1)) (c ∷ cs) ≡ settles count rows pending
place_turn name count place few within rows pending c cs plain =
    rw (plain, plain, place_by_index count place few within, and_never (is_pending (place_argument place) pending)) refl

-- or no place is left for it
pub stray_turn : (name : Text) (count : ℕ) → count ≤ 4
    → (rows : List Row) (pending : Pending) (c : ℕ) (cs : Text) → (c == 45) ≡ false
    → turn_fault (shape name count) [] (stand rows pending idle (count + 1)) (c ∷ cs) ≡ stray_fault (shape name count)
stray_turn name count few rows pending c cs plain = rw (plain, plain, no_more_places count few) refl
