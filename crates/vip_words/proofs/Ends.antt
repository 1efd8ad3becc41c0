-- What the rows show at the end of the words, with the defaults, and when an argument is missing.
use Rattle.std.proofs.Common.{◌≡◌, ◌∙◌, ap, refl, arith, ◌≤◌, ℕ, zero, suc, List, [], ◌∷◌, Bool, true, false, not, Option, Some, None, fold, length, map, take, codes}
use Rattle.std.specs.List.{list_all, list_any}
use Rattle.std.specs.Option.{option_map_or}
use Rattle.std.specs.Prelude.{◌==◌, is_some, slice_get}
use Rattle.clap.specs.Kinds.{check_kinds}
use Rattle.clap.specs.Simple.{filled_from}
use Rattle.clap.specs.Takes.{is_given as is_given_in}
use Rattle.clap.specs.Walk.{Row, Rule, Text, finished, with_default}
use Rattle.clap.specs.declared.builder.value_parser.Reading.TheVariants.{AsWritten}
use Rattle.vip_words.specs.Command.{place_names, place_rule}
use Rattle.vip_words.proofs.Rows.{Seen, after_default, defaults-look, is_given-look, is_nil, look, no_default, or_first, or_first-none, quiet_defaults}
use Rattle.vip_words.specs.Rules.{flag_name}
use Rattle.vip_words.specs.declared.flag.Flag.{Flag}
use Rattle.vip_words.specs.declared.flag.Flag.TheVariants.{At}
use Rattle.vip_words.proofs.Steps.{First, Fourth, Pending, Place, Second, Third, all_quiet, arguments, held, missing_places, place_at, place_name, settled_after}
use Rattle.vip_words.specs.Rules.{Given}
use Rattle.vip_words.proofs.Shown.{Facts, Idle, flag_seen, word_seen}
use Rattle.vip_words.proofs.Whole.{ends_with}

-- a flag in its row, with its default
abbrev pub flag_end : Bool → Option Seen
flag_end true = Some (codes "true" ∷ [], true, AsWritten)
flag_end false = Some (codes "false" ∷ [], false, AsWritten)

-- the rows at the end show what is given
pub record EndsGiven (rows : List Row) (given : Given) : Type 0 where
  pub places : (place : Place) → look (place_name place) rows ≡ word_seen (slice_get given.positional (place_at place))
  pub keys_is : look (codes "keys") rows ≡ word_seen given.keys
  pub flags_are : (flag : Flag) → look (flag_name flag) rows ≡ flag_end (given.has flag)

-- ---- the defaults are those of the flags

abbrev place_arguments : ℕ → List Rule
place_arguments count = filled_from 1 (map place_rule (take count place_names))

no_place_default : (count : ℕ) → list_all (λ a. is_nil a.defaults) (place_arguments count) ≡ true
no_place_default zero = refl
no_place_default (suc zero) = refl
no_place_default (suc (suc zero)) = refl
no_place_default (suc (suc (suc zero))) = refl
no_place_default (suc (suc (suc (suc zero)))) = refl
no_place_default (suc (suc (suc (suc (suc count))))) = refl

place_defaults : (count : ℕ) (place : Place) (o : Option Seen) → fold (after_default (place_name place)) o (arguments count) ≡ o
place_defaults count First o = no_default (codes "first") o (place_arguments count) (no_place_default count)
place_defaults count Second o = no_default (codes "second") o (place_arguments count) (no_place_default count)
place_defaults count Third o = no_default (codes "third") o (place_arguments count) (no_place_default count)
place_defaults count Fourth o = no_default (codes "fourth") o (place_arguments count) (no_place_default count)

keys_default : (count : ℕ) (o : Option Seen) → fold (after_default (codes "keys")) o (arguments count) ≡ o
keys_default count o = no_default (codes "keys") (or_first o None) (place_arguments count) (no_place_default count) ∙ or_first-none o

flag_default : (count : ℕ) (flag : Flag) (b : Bool) → fold (after_default (flag_name flag)) (flag_seen b) (arguments count) ≡ flag_end b
flag_default count At true = no_default (flag_name At) (flag_end true) (place_arguments count) (no_place_default count)
flag_default count At false = no_default (flag_name At) (flag_end false) (place_arguments count) (no_place_default count)
flag_default count flag true = no_default (flag_name flag) (flag_end true) (place_arguments count) (no_place_default count)
flag_default count flag false = no_default (flag_name flag) (flag_end false) (place_arguments count) (no_place_default count)

pub shows_end : (count : ℕ) (rows : List Row) (given : Given) → Facts rows given → EndsGiven (fold with_default rows (arguments count)) given
shows_end count rows given facts = record {
  places = λ place.
      defaults-look (place_name place) rows (arguments count)
      ∙ (place_defaults count place (look (place_name place) rows) ∙ facts.places place);
  keys_is =
      defaults-look (codes "keys") rows (arguments count) ∙ (keys_default count (look (codes "keys") rows) ∙ facts.keys_is);
  flags_are = λ flag.
      defaults-look (flag_name flag) rows (arguments count)
      ∙ rw (facts.flags_are flag) (flag_default count flag (given.has flag));
}

-- ---- a place that stands empty

abbrev is_empty_place : List Text → Place → Bool
is_empty_place words place = not (is_some (slice_get words (place_at place)))

place_empty : (rows : List Row) (given : Given) → EndsGiven rows given → (place : Place)
    → not (is_given_in (place_name place) rows) ≡ is_empty_place given.positional place
place_empty rows given shows place =
    rw (is_given-look (place_name place) rows, shows.places place) (empty (slice_get given.positional (place_at place)))
  where
    empty : (o : Option Text) → not (option_map_or (λ (seen : Seen). seen.1) (word_seen o) false) ≡ not (is_some o)
    empty None = refl
    empty (Some word) = refl

-- a place stands empty exactly where there are fewer words
places_filled : (count : ℕ) (words : List Text) (rows : List Row) → count ≤ 4 → length words ≤ count
    → ((place : Place) → not (is_given_in (place_name place) rows) ≡ is_empty_place words place)
    → list_any (λ id. not (is_given_in id rows)) (take count place_names) ≡ not (length words == count)
places_filled zero [] rows few within empty = refl
places_filled zero (a ∷ words) rows few within empty = absurd (omega arith)
places_filled (suc zero) [] rows few within empty = rw (empty First) refl
places_filled (suc zero) (a ∷ []) rows few within empty = rw (empty First) refl
places_filled (suc zero) (a ∷ b ∷ words) rows few within empty = absurd (omega arith)
places_filled (suc (suc zero)) [] rows few within empty = rw (empty First) refl
places_filled (suc (suc zero)) (a ∷ []) rows few within empty = rw (empty First, empty Second) refl
places_filled (suc (suc zero)) (a ∷ b ∷ []) rows few within empty = rw (empty First, empty Second) refl
places_filled (suc (suc zero)) (a ∷ b ∷ d ∷ words) rows few within empty = absurd (omega arith)
places_filled (suc (suc (suc zero))) [] rows few within empty = rw (empty First) refl
places_filled (suc (suc (suc zero))) (a ∷ []) rows few within empty = rw (empty First, empty Second) refl
places_filled (suc (suc (suc zero))) (a ∷ b ∷ []) rows few within empty = rw (empty First, empty Second, empty Third) refl
places_filled (suc (suc (suc zero))) (a ∷ b ∷ d ∷ []) rows few within empty = rw (empty First, empty Second, empty Third) refl
places_filled (suc (suc (suc zero))) (a ∷ b ∷ d ∷ e ∷ words) rows few within empty = absurd (omega arith)
places_filled (suc (suc (suc (suc zero)))) [] rows few within empty = rw (empty First) refl
places_filled (suc (suc (suc (suc zero)))) (a ∷ []) rows few within empty = rw (empty First, empty Second) refl
places_filled (suc (suc (suc (suc zero)))) (a ∷ b ∷ []) rows few within empty = rw (empty First, empty Second, empty Third) refl
places_filled (suc (suc (suc (suc zero)))) (a ∷ b ∷ d ∷ []) rows few within empty = rw (empty First, empty Second, empty Third, empty Fourth) refl
places_filled (suc (suc (suc (suc zero)))) (a ∷ b ∷ d ∷ e ∷ []) rows few within empty = rw (empty First, empty Second, empty Third, empty Fourth) refl
places_filled (suc (suc (suc (suc zero)))) (a ∷ b ∷ d ∷ e ∷ f ∷ words) rows few within empty = absurd (omega arith)
places_filled (suc (suc (suc (suc (suc count))))) words rows few within empty = absurd (omega arith)

-- once the pending word is settled, the one fault left is an argument that is missing
pub ends_checked : (name : Text) (count : ℕ) → count ≤ 4 → (rows : List Row) (pending : Pending) (given : Given)
    → length given.positional ≤ count → Idle count rows pending given
    → ends_with name count (held rows pending) ≡ check_kinds false false (not (length given.positional == count))
ends_checked name count few rows pending given within idles =
    let end : List Row = finished (arguments count) (held rows pending) in
    let shows : EndsGiven end given = shows_end count (settled_after count pending rows) given idles.facts in
    rw (
      idles.settled_well,
      quiet_defaults (settled_after count pending rows) (arguments count) (all_quiet count few),
      missing_places name count end,
    ) (ap (λ b. check_kinds false false b) (places_filled count given.positional end few within (place_empty end given shows)))
