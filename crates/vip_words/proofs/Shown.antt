-- What the rows show between two words: what the words up to there give.
use Rattle.std.proofs.Common.{◌≡◌, ◌∙◌, ap, refl, arith, ◌<◌, ◌≤◌, ℕ, List, [], ◌∷◌, ◌++◌, Bool, true, false, Option, Some, None, length, codes}
use Rattle.std.proofs.lemmas.Option.{slice_get_past}
use Rattle.std.specs.Prelude.{◌||◌, bytes_eq, if◌then◌else◌, slice_get}
use Rattle.clap.specs.Faults.{use_fault}
use Rattle.clap.specs.Walk.{Row, Text, used}
use Rattle.clap.specs.declared.builder.value_parser.Reading.TheVariants.{AsWritten}
use Rattle.clap.specs.declared.parser.matches.ValueSource.TheVariants.{CommandLine}
use Rattle.vip_words.proofs.Rows.{Seen, has_row-look, look, look-other, look-use, new_row, or_first, shown_by}
use Rattle.vip_words.specs.Rules.{flag_name}
use Rattle.vip_words.specs.declared.flag.Flag.{Flag}
use Rattle.vip_words.proofs.Flags.{is_flag, no_flag}
use Rattle.vip_words.proofs.Steps.{First, Fourth, Pending, Place, Second, Third, flag_argument, place_at, place_by_id, place_name, settled_after, settles}
use Rattle.vip_words.specs.Rules.{Given}

-- the flag is given too
abbrev pub with_flag : Flag → Given → Given
with_flag new given = record given { has = λ flag. is_flag new flag || given.has flag }

abbrev pub with_word : Text → Given → Given
with_word word given = record given { positional = given.positional ++ word ∷ [] }

abbrev pub with_keys : Text → Given → Given
with_keys word given = record given { keys = Some word }

-- a word in its row
abbrev pub word_seen : Option Text → Option Seen
word_seen None = None
word_seen (Some word) = Some (word ∷ [], true, AsWritten)

-- a flag that was met in its row
abbrev pub flag_seen : Bool → Option Seen
flag_seen false = None
flag_seen true = Some (codes "true" ∷ [], true, AsWritten)

-- the rows show what was given
pub record Facts (rows : List Row) (given : Given) : Type 0 where
  pub places : (place : Place) → look (place_name place) rows ≡ word_seen (slice_get given.positional (place_at place))
  pub keys_is : look (codes "keys") rows ≡ word_seen given.keys
  pub flags_are : (flag : Flag) → look (flag_name flag) rows ≡ flag_seen (given.has flag)

-- so they do once the pending word is settled, which is no fault
pub record Idle (count : ℕ) (rows : List Row) (pending : Pending) (given : Given) : Type 0 where
  pub settled_well : settles count rows pending ≡ []
  pub facts : Facts (settled_after count pending rows) given

-- ---- no two arguments have one name

place_differs_keys : (place : Place) → bytes_eq (place_name place) (codes "keys") ≡ false
place_differs_keys First = refl
place_differs_keys Second = refl
place_differs_keys Third = refl
place_differs_keys Fourth = refl

place_differs_flag : (place : Place) (flag : Flag) → bytes_eq (place_name place) (flag_name flag) ≡ false
place_differs_flag First flag = no_flag (λ f. bytes_eq (codes "first") (flag_name f)) refl flag
place_differs_flag Second flag = no_flag (λ f. bytes_eq (codes "second") (flag_name f)) refl flag
place_differs_flag Third flag = no_flag (λ f. bytes_eq (codes "third") (flag_name f)) refl flag
place_differs_flag Fourth flag = no_flag (λ f. bytes_eq (codes "fourth") (flag_name f)) refl flag

keys_differs_place : (place : Place) → bytes_eq (codes "keys") (place_name place) ≡ false
keys_differs_place First = refl
keys_differs_place Second = refl
keys_differs_place Third = refl
keys_differs_place Fourth = refl

keys_differs_flag : (flag : Flag) → bytes_eq (codes "keys") (flag_name flag) ≡ false
keys_differs_flag flag = no_flag (λ f. bytes_eq (codes "keys") (flag_name f)) refl flag

flag_differs_place : (flag : Flag) (place : Place) → bytes_eq (flag_name flag) (place_name place) ≡ false
flag_differs_place flag First = no_flag (λ f. bytes_eq (flag_name f) (codes "first")) refl flag
flag_differs_place flag Second = no_flag (λ f. bytes_eq (flag_name f) (codes "second")) refl flag
flag_differs_place flag Third = no_flag (λ f. bytes_eq (flag_name f) (codes "third")) refl flag
flag_differs_place flag Fourth = no_flag (λ f. bytes_eq (flag_name f) (codes "fourth")) refl flag

flag_differs_keys : (flag : Flag) → bytes_eq (flag_name flag) (codes "keys") ≡ false
flag_differs_keys flag = no_flag (λ f. bytes_eq (flag_name f) (codes "keys")) refl flag

-- ---- a positional word

abbrev pub one_word : Text → Text → Pending
one_word id word = Some (id, word ∷ [])

-- the word is shown at its place, and no other place changes
word_at_place : (place shows : Place) (words : List Text) (word : Text) → length words ≡ place_at place
    → or_first (word_seen (slice_get words (place_at shows)))
    (shown_by (place_name shows) (new_row (place_name place) AsWritten CommandLine (word ∷ [])))
    ≡ word_seen (slice_get (words ++ word ∷ []) (place_at shows))
word_at_place First First [] word is = refl
word_at_place First Second [] word is = refl
word_at_place First Third [] word is = refl
word_at_place First Fourth [] word is = refl
word_at_place First shows (a ∷ rest) word is = absurd (omega arith)
word_at_place Second shows [] word is = absurd (omega arith)
word_at_place Second First (a ∷ []) word is = refl
word_at_place Second Second (a ∷ []) word is = refl
word_at_place Second Third (a ∷ []) word is = refl
word_at_place Second Fourth (a ∷ []) word is = refl
word_at_place Second shows (a ∷ b ∷ rest) word is = absurd (omega arith)
word_at_place Third shows [] word is = absurd (omega arith)
word_at_place Third shows (a ∷ []) word is = absurd (omega arith)
word_at_place Third First (a ∷ b ∷ []) word is = refl
word_at_place Third Second (a ∷ b ∷ []) word is = refl
word_at_place Third Third (a ∷ b ∷ []) word is = refl
word_at_place Third Fourth (a ∷ b ∷ []) word is = refl
word_at_place Third shows (a ∷ b ∷ d ∷ rest) word is = absurd (omega arith)
word_at_place Fourth shows [] word is = absurd (omega arith)
word_at_place Fourth shows (a ∷ []) word is = absurd (omega arith)
word_at_place Fourth shows (a ∷ b ∷ []) word is = absurd (omega arith)
word_at_place Fourth First (a ∷ b ∷ d ∷ []) word is = refl
word_at_place Fourth Second (a ∷ b ∷ d ∷ []) word is = refl
word_at_place Fourth Third (a ∷ b ∷ d ∷ []) word is = refl
word_at_place Fourth Fourth (a ∷ b ∷ d ∷ []) word is = refl
word_at_place Fourth shows (a ∷ b ∷ d ∷ e ∷ rest) word is = absurd (omega arith)

pub place_idle : (count : ℕ) (place : Place) → count ≤ 4 → place_at place < count → (rows : List Row) (given : Given) (word : Text)
    → length given.positional ≡ place_at place → Facts rows given → Idle count rows (one_word (place_name place) word)
    (with_word word given)
place_idle count place few within rows given word is facts =
    let absent : look (place_name place) rows ≡ None =
    facts.places place ∙ ap word_seen (slice_get_past given.positional (place_at place) (omega arith)) in
    let other : (id : Text) → bytes_eq (place_name place) id ≡ false
    → look id (settled_after count (one_word (place_name place) word) rows) ≡ look id rows =
    λ id differs. rw (place_by_id count place few within)
    (look-other (place_name place) id AsWritten CommandLine (word ∷ []) rows absent differs) in
    record {
      settled_well = rw (place_by_id count place few within, has_row-look (place_name place) rows, absent) refl;
      facts = record {
        places = λ shows. rw (
          place_by_id count place few within,
          look-use (place_name place) (place_name shows) AsWritten CommandLine (word ∷ []) rows absent,
          facts.places shows,
        ) (word_at_place place shows given.positional word is);
        keys_is = other (codes "keys") (place_differs_keys place) ∙ facts.keys_is;
        flags_are = λ flag. other (flag_name flag) (place_differs_flag place flag) ∙ facts.flags_are flag;
      };
    }

-- ---- a value of `--keys`

pub keys_idle : (count : ℕ) (rows : List Row) (given : Given) (word : Text) → given.keys ≡ None → Facts rows given
    → Idle count rows (one_word (codes "keys") word) (with_keys word given)
keys_idle count rows given word none facts =
    let absent : look (codes "keys") rows ≡ None = facts.keys_is ∙ ap word_seen none in
    let other : (id : Text) → bytes_eq (codes "keys") id ≡ false
    → look id (settled_after count (one_word (codes "keys") word) rows) ≡ look id rows =
    λ id differs. look-other (codes "keys") id AsWritten CommandLine (word ∷ []) rows absent differs in
    record {
      settled_well = rw (has_row-look (codes "keys") rows, absent) refl;
      facts = record {
        places = λ place. other (place_name place) (keys_differs_place place) ∙ facts.places place;
        keys_is = look-use (codes "keys") (codes "keys") AsWritten CommandLine (word ∷ []) rows absent ∙ rw absent refl;
        flags_are = λ flag. other (flag_name flag) (keys_differs_flag flag) ∙ facts.flags_are flag;
      };
    }

-- a second value is a fault
pub keys_again : (count : ℕ) (rows : List Row) (word : Text) (x : Seen) → look (codes "keys") rows ≡ Some x
    → settles count rows (one_word (codes "keys") word) ≡ [] → ⊥
keys_again count rows word x there = rw (has_row-look (codes "keys") rows, there) (λ e. cc)

-- ---- a flag

-- the flag is shown, and no other flag changes
flag_shown : (new flag : Flag) (given : Given)
    → or_first (flag_seen (given.has flag)) (shown_by (flag_name flag) (new_row (flag_name new) AsWritten CommandLine (codes "true" ∷ [])))
    ≡ flag_seen ((with_flag new given).has flag)
flag_shown new flag given = by_both (is_flag new flag) (given.has flag)
  where
    by_both : (same on : Bool) → or_first (flag_seen on) (if same then flag_seen true else None) ≡ flag_seen (same || on)
    by_both true true = refl
    by_both true false = refl
    by_both false true = refl
    by_both false false = refl

pub flag_idle : (count : ℕ) (new : Flag) (rows : List Row) (given : Given) → given.has new ≡ false → Facts rows given
    → Idle count (used (flag_argument new) [] rows) None (with_flag new given)
flag_idle count new rows given off facts =
    let absent : look (flag_name new) rows ≡ None = facts.flags_are new ∙ ap flag_seen off in
    let other : (id : Text) → bytes_eq (flag_name new) id ≡ false → look id (used (flag_argument new) [] rows) ≡ look id rows =
    λ id differs. look-other (flag_name new) id AsWritten CommandLine (codes "true" ∷ []) rows absent differs in
    record {
      settled_well = refl;
      facts = record {
        places = λ place. other (place_name place) (flag_differs_place new place) ∙ facts.places place;
        keys_is = other (codes "keys") (flag_differs_keys new) ∙ facts.keys_is;
        flags_are = λ flag. rw (
          look-use (flag_name new) (flag_name flag) AsWritten CommandLine (codes "true" ∷ []) rows absent,
          facts.flags_are flag,
        ) (flag_shown new flag given);
      };
    }

pub flag_use : (new : Flag) (rows : List Row) → look (flag_name new) rows ≡ None → use_fault false (flag_argument new) [] rows ≡ []
flag_use new rows absent = rw (has_row-look (flag_name new) rows, absent) refl

-- a second use is a fault
pub flag_again : (new : Flag) (rows : List Row) (x : Seen) → look (flag_name new) rows ≡ Some x
    → use_fault false (flag_argument new) [] rows ≡ [] → ⊥
flag_again new rows x there = rw (has_row-look (flag_name new) rows, there) (λ e. cc)

-- ---- the start

abbrev pub nothing_given : Given
nothing_given = record {
  positional = [];
  keys = None;
  has = λ _. false;
}

pub no_rows : Facts [] nothing_given
no_rows = record {
  places = λ place. elim place as (λ p. look (place_name p) [] ≡ word_seen (slice_get [] (place_at p))) [
    | First ↦ refl
    | Second ↦ refl
    | Third ↦ refl
    | Fourth ↦ refl
  ];
  keys_is = refl;
  flags_are = λ flag. refl;
}
