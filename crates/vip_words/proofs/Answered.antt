-- What is read from the matches is what the rules give.
use Rattle.std.proofs.Math.Path.{fun_ext}
use Rattle.std.proofs.Common.{◌≡◌, ◌≢◌, ◌∙◌, ap, sym, subst, refl, arith, ◌<◌, ◌≤◌, ℕ, List, [], ◌∷◌, Bool, true, false, Option, Some, None, String, ◌-◌, drop, length, length-drop, take, map, string_bytes, codes}
use Rattle.std.proofs.lemmas.Bool.{eqb-true}
use Rattle.std.proofs.lemmas.List.{take_all}
use Rattle.std.specs.List.{list_all}
use Rattle.std.specs.Prelude.{if◌then◌else◌, option_and_then, slice_get}
use Rattle.clap.specs.Kinds.{Kinds}
use Rattle.clap.specs.Matches.{first_value}
use Rattle.clap.specs.Walk.{Row, Text, rows_of}
use Rattle.clap.specs.declared.parser.matches.Found.{Found}
use Rattle.clap.proofs.WalkLemmas.{first_value-rows}
use Rattle.vip_words.specs.Command.{command_faults, command_rows}
use Rattle.vip_words.specs.Given.{given_of, is_told, words_in}
use Rattle.vip_words.specs.Rules.{Given, Word, flag_name, given_by, is_known, positional_words}
use Rattle.vip_words.specs.declared.table.Usage.{Usage}
use Rattle.vip_words.proofs.Ends.{EndsGiven, flag_end}
use Rattle.vip_words.proofs.Known.{known_of_all, strings_known}
use Rattle.vip_words.proofs.Rows.{Seen, both_true, first_of-look, look}
use Rattle.vip_words.proofs.Shown.{word_seen}
use Rattle.vip_words.specs.declared.flag.Flag.{Flag}
use Rattle.vip_words.proofs.Steps.{First, Fourth, Second, Third}
use Rattle.vip_words.proofs.Walks.{Agrees, all_given, command_agrees, is_well_formed}

-- the options of a usage, and whether it knows the words
abbrev options_of : Usage → List Word
options_of usage = map (λ option. option.now) usage.options.now

abbrev are_known : {Z : Type 0} → Usage → List (String Z) → Bool
are_known usage words = list_all (λ word. is_known (options_of usage) (string_bytes word)) words

-- all the words after the first
pub after_first : {T : Type 0} (words : List T) → take (length words - 1) (drop 1 words) ≡ drop 1 words
after_first words = take_all (length words - 1) (drop 1 words) (simp length-drop (omega arith))

-- ---- words that are refused

-- words that the verb doesn't know give nothing
pub unknown_give_none : {Z : Type 0} (usage : Usage) (words : List (String Z)) → are_known usage words ≡ false
    → given_of usage (map string_bytes words) ≡ None
unknown_give_none usage words unknown = rw (sym (strings_known (options_of usage) words) ∙ unknown) refl

given_known : (count : ℕ) (options words : List Word) → list_all (is_known options) words ≡ true
    → given_by count options words ≡ (if is_well_formed count words then Some (all_given words) else None)
given_known count options words known = rw known refl

refused_test : (b : Bool) (faults : Kinds) (rows : List Row) (given : Given) → Agrees b faults rows given → faults ≢ [] → b ≡ false
refused_test true faults rows given agrees bad = absurd (bad agrees.0)
refused_test false faults rows given agrees bad = refl

-- nor do words that the command refuses
pub refused_give_none : {Z : Type 0} (usage : Usage) (name : Text) (words : List (String Z)) → 0 < length words
    → are_known usage (drop 1 words) ≡ true → command_faults name usage.places (map string_bytes words) ≢ []
    → given_of usage (map string_bytes (drop 1 words)) ≡ None
refused_give_none usage name [] some known bad = absurd (omega arith)
refused_give_none usage name (verb ∷ rest) some known bad =
    let words : List Word = map string_bytes rest in
    let own : list_all (is_known (options_of usage)) words ≡ true = sym (strings_known (options_of usage) rest) ∙ known in
    let all = known_of_all usage.options.now usage.known_options words own in
    let agrees = command_agrees name usage.places usage.few_places (string_bytes verb) words all in
    given_known usage.places (options_of usage) words own ∙ rw (refused_test _ _ _ _ agrees bad) refl

-- ---- words that are taken

-- what is read from the matches
pub record ReadFrom (found : Found) (given : Given) : Type 0 where
  pub positional : given.positional
      ≡ words_in (first_value found (codes "first")) (first_value found (codes "second")) (first_value found (codes "third")) (first_value found (codes "fourth"))
  pub keys : given.keys ≡ first_value found (codes "keys")
  pub has : (flag : Flag) → given.has flag ≡ is_told (first_value found (flag_name flag))

-- the word in a row
abbrev word_of : Option Seen → Option Text
word_of = option_and_then (λ seen. slice_get seen.0 0)

word_of-seen : (o : Option Text) → word_of (word_seen o) ≡ o
word_of-seen None = refl
word_of-seen (Some word) = refl

word_read : (found : Found) (id : Text) (o : Option Text) → look id (rows_of found) ≡ word_seen o → first_value found id ≡ o
word_read found id o is = first_value-rows found id ∙ (first_of-look id (rows_of found) ∙ (ap word_of is ∙ word_of-seen o))

flag_read : (found : Found) (given : Given) (flag : Flag) → EndsGiven (rows_of found) given → given.has flag ≡ is_told (first_value found (flag_name flag))
flag_read found given flag shows =
    sym (ap is_told (first_value-rows found (flag_name flag) ∙ (first_of-look (flag_name flag) (rows_of found) ∙ ap word_of (shows.flags_are flag)))
    ∙ told (given.has flag))
  where
    told : (b : Bool) → is_told (word_of (flag_end b)) ≡ b
    told true = refl
    told false = refl

-- a few words are the words in their places
words_in_places : (words : List Text) → length words ≤ 4 → words_in (slice_get words 0) (slice_get words 1) (slice_get words 2) (slice_get words 3) ≡ words
words_in_places [] few = refl
words_in_places (a ∷ []) few = refl
words_in_places (a ∷ b ∷ []) few = refl
words_in_places (a ∷ b ∷ d ∷ []) few = refl
words_in_places (a ∷ b ∷ d ∷ e ∷ []) few = refl
words_in_places (a ∷ b ∷ d ∷ e ∷ f ∷ words) few = absurd (omega arith)

words_read : (found : Found) (given : Given) → length given.positional ≤ 4 → EndsGiven (rows_of found) given
    → words_in (first_value found (codes "first")) (first_value found (codes "second")) (first_value found (codes "third")) (first_value found (codes "fourth")) ≡
    given.positional
words_read found given few shows =
    rw (
      word_read found (codes "first") (slice_get given.positional 0) (shows.places First),
      word_read found (codes "second") (slice_get given.positional 1) (shows.places Second),
      word_read found (codes "third") (slice_get given.positional 2) (shows.places Third),
      word_read found (codes "fourth") (slice_get given.positional 3) (shows.places Fourth),
    ) (words_in_places given.positional few)

same_given : (given given' : Given) → given.positional ≡ given'.positional → given.keys ≡ given'.keys
    → ((flag : Flag) → given.has flag ≡ given'.has flag) → given ≡ given'
same_given given given' positional keys flags =
    ap (λ x. record given { positional = x }) positional
    ∙ (ap (λ x. record given { positional = given'.positional; keys = x }) keys ∙ ap (λ x. record given' { has = x }) (fun_ext flags))

-- what is read is what the rows show
read_shown : (found : Found) (given given' : Given) → length given.positional ≤ 4 → EndsGiven (rows_of found) given → ReadFrom found given'
    → given ≡ given'
read_shown found given given' few shows reads =
    same_given given given'
    (sym (reads.positional ∙ words_read found given few shows))
    (sym (reads.keys ∙ word_read found (codes "keys") given.keys shows.keys_is))
    (λ flag. flag_read found given flag shows ∙ sym (reads.has flag))

count_of : (count : ℕ) (words : List Word) → is_well_formed count words ≡ true → length (positional_words false words) ≡ count
count_of count words fit = eqb-true (length (positional_words false words)) count (both_true _ _ (both_true _ _ fit).1).1

taken_test : (b : Bool) (faults : Kinds) (rows : List Row) (given : Given) → Agrees b faults rows given → faults ≡ []
    → (b ≡ true) × EndsGiven rows given
taken_test true faults rows given agrees quiet = (refl, agrees.1)
taken_test false faults rows given agrees quiet = absurd (agrees quiet)

-- words that the command takes give what is read from the matches
pub taken_give : {Z : Type 0} (usage : Usage) (name : Text) (words : List (String Z)) (found : Found) (given : Given) → 0 < length words
    → are_known usage (drop 1 words) ≡ true → command_faults name usage.places (map string_bytes words) ≡ []
    → rows_of found ≡ command_rows name usage.places (map string_bytes words) → ReadFrom found given
    → given_of usage (map string_bytes (drop 1 words)) ≡ Some given
taken_give usage name [] found given some known quiet rows reads = absurd (omega arith)
taken_give usage name (verb ∷ rest) found given some known quiet rows reads =
    let words : List Word = map string_bytes rest in
    let own : list_all (is_known (options_of usage)) words ≡ true = sym (strings_known (options_of usage) rest) ∙ known in
    let all = known_of_all usage.options.now usage.known_options words own in
    let taken = taken_test _ _ _ _ (command_agrees name usage.places usage.few_places (string_bytes verb) words all) quiet in
    let shows : EndsGiven (rows_of found) (all_given words) = subst (λ rs. EndsGiven rs (all_given words)) (sym rows) taken.1 in
    let few : length (positional_words false words) ≤ 4 =
    let count = count_of usage.places words taken.0 in let most = usage.few_places in omega arith in
    given_known usage.places (options_of usage) words own
    ∙ (ap (λ b. if b then Some (all_given words) else None) taken.0
    ∙ ap (λ g. Some g) (read_shown found (all_given words) given few shows reads))
