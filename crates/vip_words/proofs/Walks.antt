-- The command of so many positional words takes exactly the words that the rules accept, and its rows show what they give.
use Rattle.std.proofs.Math.Path.{fun_ext}
use Rattle.std.proofs.Common.{◌≡◌, ◌∙◌, ap, sym, subst, refl, arith, add-zero, zero-add, append-nil, ◌⊎◌, inl, inr, ◌<◌, ◌≤◌, ◌+◌, ℕ, zero, suc, List, [], ◌∷◌, ◌++◌, append_assoc, Bool, true, false, not, Option, Some, None, length, length-append, codes}
use Rattle.std.proofs.lemmas.Bool.{ne_eqb}
use Rattle.std.specs.List.{list_all, list_any}
use Rattle.std.specs.Prelude.{◌==◌, ◌&&◌, ◌||◌, bytes_eq, is_some, if◌then◌else◌, slice_get}
use Rattle.clap.specs.Faults.{turn_fault, use_fault}
use Rattle.clap.specs.Kinds.{Kinds, check_kinds, or_else}
use Rattle.clap.specs.Walk.{Row, Text, Waiting, Walk, finished, idle, used, walked}
use Rattle.vip_words.specs.Command.{command_faults, command_rows}
use Rattle.vip_words.specs.Rules.{every_flag, every_option, flag_option, has_values, is_given, is_keys, is_known, is_once, keys_value, positional_words}
use Rattle.vip_words.proofs.Rows.{Seen, both_true, look, or_first, or_first-none, same_bytes}
use Rattle.vip_words.specs.declared.flag.Flag.{Flag}
use Rattle.vip_words.specs.declared.flag.Flag.TheVariants.{At}
use Rattle.vip_words.proofs.Flags.{flag_among, is_flag, no_flag, one_flag_fails, same_flag}
use Rattle.vip_words.proofs.Steps.{and_never, asking_flag_turn, asking_keys_turn, First, Fourth, Pending, Place, Second, Third, arguments, keys_pending, keys_waiting, flag_argument, flag_step, flag_turn, held, keys_step, keys_turn, place_at, place_name, place_step, place_turn, settled_after, settles, shape, stand, stray_turn, value_step, value_turn}
use Rattle.vip_words.specs.Rules.{Given, Word}
use Rattle.vip_words.proofs.Ends.{EndsGiven, ends_checked, shows_end}
use Rattle.vip_words.proofs.Shown.{Facts, Idle, flag_again, flag_idle, flag_seen, word_seen, flag_use, keys_again, keys_idle, no_rows, nothing_given, one_word, place_idle, with_flag, with_keys, with_word}
use Rattle.vip_words.proofs.Whole.{faults_end, faults_from, faults_step, rows_end, rows_from, rows_step, whole_faults, whole_rows}

-- ---- the rules, from a word on

-- the option is given once at most, where it was given before the words or not
abbrev once : Bool → Text → List Text → Bool
once before option words = if before then not (is_given option words) else is_once words option

-- so is each flag; a name that doesn't unfold, so that no goal has a copy for each of them
unfoldable flags_once : (Flag → Bool) → List Text → Bool
flags_once has words = list_all (λ flag. once (has flag) (flag_option flag) words) every_flag

abbrev all_once : Bool → Given → List Text → Bool
all_once keys given words = once keys (codes "--keys") words && flags_once given.has words

-- the rules accept the words, after so many positional words and what was given; `after` says that `--keys` waits for its value
abbrev passes : ℕ → ℕ → Bool → Bool → Given → List Text → Bool
passes count before after keys given words =
    has_values after words && (all_once keys given words && (before + length (positional_words after words) == count))

-- what is given after the words too
abbrev then_given : Given → List Text → Given
then_given given words = record {
  positional = given.positional ++ positional_words false words;
  keys = or_first given.keys (keys_value words);
  has = λ flag. given.has flag || is_given (flag_option flag) words;
}

-- the same where `--keys` waits for its value
abbrev then_valued : Given → List Text → Given
then_valued given words = record {
  positional = given.positional ++ positional_words true words;
  keys = slice_get words 0;
  has = λ flag. given.has flag || is_given (flag_option flag) words;
}

-- ---- each flag once, with one word more

all_same : (test test' : Flag → Bool) → ((flag : Flag) → test flag ≡ test' flag) → (flags : List Flag) → list_all test flags ≡ list_all test' flags
all_same test test' same [] = refl
all_same test test' same (flag ∷ flags) = rw (same flag) (ap (λ b. test' flag && b) (all_same test test' same flags))

-- a word that is no flag changes nothing
flags_once-other : (has : Flag → Bool) (word : Text) (words : List Text) → ((flag : Flag) → bytes_eq word (flag_option flag) ≡ false)
    → flags_once has (word ∷ words) ≡ flags_once has words
unfolding flags_once
flags_once-other has word words other =
    all_same (λ flag. once (has flag) (flag_option flag) (word ∷ words)) (λ flag. once (has flag) (flag_option flag) words)
    (λ flag. rw (other flag) refl) every_flag

plain_is_no_flag : (c : ℕ) (cs : Text) → (c == 45) ≡ false → (flag : Flag) → bytes_eq (c ∷ cs) (flag_option flag) ≡ false
plain_is_no_flag c cs plain flag = rw plain refl

keys_is_no_flag : (flag : Flag) → bytes_eq (codes "--keys") (flag_option flag) ≡ false
keys_is_no_flag flag = no_flag (λ f. bytes_eq (codes "--keys") (flag_option f)) refl flag

-- a flag that wasn't given before is given then
flags_once-with : (given : Given) (new : Flag) (words : List Text) → given.has new ≡ false
    → flags_once given.has (flag_option new ∷ words) ≡ flags_once (with_flag new given).has words
unfolding flags_once
flags_once-with given new words off =
    all_same (λ flag. once (given.has flag) (flag_option flag) (flag_option new ∷ words))
    (λ flag. once (is_flag new flag || given.has flag) (flag_option flag) words)
    (λ flag. by_both (is_flag new flag) (given.has flag) (is_given (flag_option flag) words) (is_once words (flag_option flag))
    (λ same. ap given.has (same_flag new flag same) ∙ off)) every_flag
  where
    by_both : (same on later last : Bool) → (same ≡ true → on ≡ false)
        → (if on then not (same || later) else (if same then not later else last)) ≡ (if same || on then not later else last)
    by_both true true later last off = let h : true ≡ false = off refl in cc
    by_both true false later last off = refl
    by_both false true later last off = refl
    by_both false false later last off = refl

flag_again_is_twice : (new : Flag) (words : List Text) → once true (flag_option new) (flag_option new ∷ words) ≡ false
flag_again_is_twice At words = refl
flag_again_is_twice _ words = refl

-- and one that was is given twice
flags_once-twice : (has : Flag → Bool) (new : Flag) (words : List Text) → has new ≡ true → flags_once has (flag_option new ∷ words) ≡ false
unfolding flags_once
flags_once-twice has new words on =
    one_flag_fails (λ flag. once (has flag) (flag_option flag) (flag_option new ∷ words)) new (rw on (flag_again_is_twice new words))

flags_once-none : (has : Flag → Bool) → flags_once has [] ≡ true
unfolding flags_once
flags_once-none has = all_hold (λ flag. once (has flag) (flag_option flag) []) (λ flag. same_if (has flag)) every_flag
  where
    same_if : (b : Bool) → (if b then true else true) ≡ true
    same_if true = refl
    same_if false = refl

    all_hold : (test : Flag → Bool) → ((flag : Flag) → test flag ≡ true) → (flags : List Flag) → list_all test flags ≡ true
    all_hold test holds [] = refl
    all_hold test holds (flag ∷ flags) = rw (holds flag) (all_hold test holds flags)

-- what is given changes in its flags alone
with_has : (given : Given) (words : List Text) (has : Flag → Bool) → ((flag : Flag) → (given.has flag || is_given (flag_option flag) words) ≡ has flag)
    → then_given given words ≡ record (then_given given words) { has = has }
with_has given words has same = ap (λ h. record (then_given given words) { has = h }) (fun_ext same)

-- ---- the rules and the parse agree

-- the words are taken, and the rows show what they give, or they are refused
abbrev pub Agrees : Bool → Kinds → List Row → Given → Type 0
Agrees true faults rows given = (faults ≡ []) × EndsGiven rows given
Agrees false faults rows given = faults ≡ [] → ⊥

abbrev AgreesFrom : Text → ℕ → Walk → List Text → Bool → Given → Type 0
AgreesFrom name count w words test given = Agrees test (faults_from name count w words) (rows_from count w words) given

-- where nothing waits, with so many positional words before
abbrev IdleAgrees : Text → ℕ → List Text → Type 0
IdleAgrees name count words = (rows : List Row) (pending : Pending) (before : ℕ) (given : Given)
    → length given.positional ≡ before → before ≤ count → Idle count rows pending given
    → AgreesFrom name count (stand rows pending idle (before + 1)) words
    (passes count before false (is_some given.keys) given words) (then_given given words)

-- where `--keys` waits for its value
abbrev AskingAgrees : Text → ℕ → List Text → Type 0
AskingAgrees name count words = (rows : List Row) (before : ℕ) (given : Given)
    → length given.positional ≡ before → before ≤ count → given.keys ≡ None → Facts rows given
    → AgreesFrom name count (stand rows keys_pending keys_waiting (before + 1)) words (passes count before true true given words)
    (then_valued given words)

abbrev IsFault : Kinds → Type 0
IsFault faults = faults ≡ [] → ⊥

-- a pending word that can't be settled is a fault, whatever follows
abbrev IsDoomed : Text → ℕ → List Text → Type 0
IsDoomed name count words = (rows : List Row) (pending : Pending) (before : ℕ) → before ≤ count → IsFault (settles count rows pending)
    → IsFault (faults_from name count (stand rows pending idle (before + 1)) words)

-- a second `--keys` is a fault, whatever follows
abbrev IsTwice : Text → ℕ → List Text → Type 0
IsTwice name count words = (rows : List Row) (before : ℕ) (x : Seen) → before ≤ count → look (codes "keys") rows ≡ Some x
    → IsFault (faults_from name count (stand rows keys_pending keys_waiting (before + 1)) words)

record AllAgree (name : Text) (count : ℕ) (words : List Text) : Type 0 where
  when_idle : IdleAgrees name count words
  when_asking : AskingAgrees name count words
  doomed : IsDoomed name count words
  twice : IsTwice name count words

-- ---- steps

-- a fault that comes first is one of the whole, and so is one that comes second
first_fault : (a b : Kinds) → IsFault a → IsFault (or_else a b)
first_fault [] b bad = λ _. bad refl
first_fault (k ∷ ks) b bad = bad

second_fault : (a b : Kinds) → IsFault b → IsFault (or_else a b)
second_fault [] b bad = bad
second_fault (k ∷ ks) b bad = λ e. cc

-- a word that is refused at once
step_bad : (name : Text) (count : ℕ) (w : Walk) (word : Text) (words : List Text) (test : Bool) (given : Given)
    → test ≡ false → IsFault (turn_fault (shape name count) [] w word) → AgreesFrom name count w (word ∷ words) test given
step_bad name count w word words test given refused bad =
    rw (refused, faults_step name count w word words)
    (first_fault (turn_fault (shape name count) [] w word) (faults_from name count (walked (arguments count) [] w word) words) bad)

-- a word that is taken, or refused later
step_ok : (name : Text) (count : ℕ) (w after : Walk) (word : Text) (words : List Text) (test test' : Bool) (given given' : Given)
    → test ≡ test' → given ≡ given' → turn_fault (shape name count) [] w word ≡ [] → walked (arguments count) [] w word ≡ after
    → AgreesFrom name count after words test' given' → AgreesFrom name count w (word ∷ words) test given
step_ok name count w after word words test test' given given' same_test same_given quiet goes rest =
    rw (same_test, same_given, faults_step name count w word words, rows_step count w word words, quiet, goes) rest

-- ---- what a known word is

data WordKind (word : Text) : Type 0 where
  plain_word : (c : ℕ) (cs : Text) → word ≡ c ∷ cs → (c == 45) ≡ false → WordKind word
  keys_word : word ≡ codes "--keys" → WordKind word
  one_flag : (flag : Flag) → word ≡ flag_option flag → WordKind word

option_kind : (word : Text) (keys : Bool) → bytes_eq word (codes "--keys") ≡ keys
    → (keys || list_any (λ flag. bytes_eq word (flag_option flag)) every_flag) ≡ true → WordKind word
option_kind word true is known = keys_word (same_bytes word (codes "--keys") is)
option_kind word false is known = let found = flag_among word every_flag known in one_flag found.0 found.1

first_kind : (c : ℕ) (cs : Text) (b : Bool)
    → (c == 45) ≡ b → (not b || list_any (bytes_eq (c ∷ cs)) every_option) ≡ true → WordKind (c ∷ cs)
first_kind c cs false first known = plain_word c cs refl first
first_kind c cs true first known = option_kind (c ∷ cs) _ refl known

kind_of_word : (word : Text) → is_known every_option word ≡ true → WordKind word
kind_of_word [] known = cc
kind_of_word (c ∷ cs) known = first_kind c cs (c == 45) refl known

-- ---- a plain word where nothing waits

lt_or_same : (a b : ℕ) → a ≤ b → (a < b) ⊎ (a ≡ b)
lt_or_same a b h = grind arith

place_of : (before : ℕ) → before < 4 → (place : Place) × (place_at place ≡ before)
place_of zero few = (First, refl)
place_of (suc zero) few = (Second, refl)
place_of (suc (suc zero)) few = (Third, refl)
place_of (suc (suc (suc zero))) few = (Fourth, refl)
place_of (suc (suc (suc (suc before)))) few = absurd (omega arith)

never_and : (a b : Bool) → (a && (b && false)) ≡ false
never_and true b = and_never b
never_and false b = refl

-- it goes to the next place
idle_place : (name : Text) (count : ℕ) → count ≤ 4 → (words : List Text) (c : ℕ) (cs : Text) → (c == 45) ≡ false
    → AllAgree name count words → (place : Place) → place_at place < count → (rows : List Row) (pending : Pending) (given : Given)
    → length given.positional ≡ place_at place → Idle count rows pending given
    → AgreesFrom name count (stand rows pending idle (place_at place + 1)) ((c ∷ cs) ∷ words)
    (passes count (place_at place) false (is_some given.keys) given ((c ∷ cs) ∷ words)) (then_given given ((c ∷ cs) ∷ words))
idle_place name count few words c cs plain rest place within rows pending given is idles =
    let word : Text = c ∷ cs in
    let later : List Text = positional_words false words in
    let one_more : place_at place + length (word ∷ later) ≡ place_at place + 1 + length later = omega arith in
    step_ok name count (stand rows pending idle (place_at place + 1))
    (stand (settled_after count pending rows) (one_word (place_name place) word) idle (place_at place + 1 + 1)) word words
    (passes count (place_at place) false (is_some given.keys) given (word ∷ words))
    (passes count (place_at place + 1) false (is_some given.keys) given words)
    (then_given given (word ∷ words)) (then_given (with_word word given) words)
    (rw (plain, flags_once-other given.has (c ∷ cs) words (plain_is_no_flag c cs plain))
    (ap (λ n. has_values false words && (all_once (is_some given.keys) given words && (n == count))) one_more))
    (rw (plain, append_assoc given.positional (word ∷ []) later) refl)
    (place_turn name count place few within rows pending c cs plain ∙ idles.settled_well)
    (place_step count place few within rows pending c cs plain)
    (rest.when_idle (settled_after count pending rows) (one_word (place_name place) word) (place_at place + 1) (with_word word given)
    (length-append given.positional (word ∷ []) ∙ ap (λ n. n + 1) is) (omega arith)
    (place_idle count place few within (settled_after count pending rows) given word is idles.facts))

-- or no place is left
idle_plain : (name : Text) (count : ℕ) → count ≤ 4 → (words : List Text) (c : ℕ) (cs : Text) → (c == 45) ≡ false
    → AllAgree name count words → IdleAgrees name count ((c ∷ cs) ∷ words)
idle_plain name count few words c cs plain rest rows pending before given is within idles = elim (lt_or_same before count within) [
  | inl below ↦
      let at : (place : Place) × (place_at place ≡ before) = place_of before (omega arith) in
      let Goal : ℕ → Type 0 = λ n.
      AgreesFrom name count (stand rows pending idle (n + 1)) ((c ∷ cs) ∷ words)
      (passes count n false (is_some given.keys) given ((c ∷ cs) ∷ words)) (then_given given ((c ∷ cs) ∷ words)) in
      subst Goal at.1 (idle_place name count few words c cs plain rest at.0 (omega arith) rows pending given (is ∙ sym at.1) idles)
  | inr full ↦
      let later : List Text = positional_words false words in
      let more : (before + length ((c ∷ cs) ∷ later) == count) ≡ false = ne_eqb (before + length ((c ∷ cs) ∷ later)) count
      (λ e. omega arith) in
      step_bad name count (stand rows pending idle (before + 1)) (c ∷ cs) words
      (passes count before false (is_some given.keys) given ((c ∷ cs) ∷ words)) (then_given given ((c ∷ cs) ∷ words))
      (rw (plain, more) (never_and (has_values false words) _))
      (rw (full, stray_turn name count few rows pending c cs plain) (λ e. cc))
]

-- ---- `--keys` where nothing waits

keys_given : (given : Given) (words : List Text) → given.keys ≡ None → then_given given (codes "--keys" ∷ words) ≡ then_valued given words
keys_given given words none =
    with_has given (codes "--keys" ∷ words) (then_valued given words).has
    (λ flag. ap (λ b. given.has flag || (b || is_given (flag_option flag) words)) (keys_is_no_flag flag))
    ∙ rw none refl

-- a first one waits for its value, and a second is a fault
idle_keys : (name : Text) (count : ℕ) (words : List Text) → AllAgree name count words → IdleAgrees name count (codes "--keys" ∷ words)
idle_keys name count words rest rows pending before given is within idles = by_keys given.keys refl
  where
    by_keys : (keys : Option Text) → given.keys ≡ keys
        → AgreesFrom name count (stand rows pending idle (before + 1)) (codes "--keys" ∷ words)
        (passes count before false (is_some given.keys) given (codes "--keys" ∷ words)) (then_given given (codes "--keys" ∷ words))
    by_keys None none =
        step_ok name count (stand rows pending idle (before + 1)) (stand (settled_after count pending rows) keys_pending keys_waiting (before + 1))
        (codes "--keys") words (passes count before false (is_some given.keys) given (codes "--keys" ∷ words))
        (passes count before true true given words) (then_given given (codes "--keys" ∷ words)) (then_valued given words)
        (rw (none, flags_once-other given.has (codes "--keys") words keys_is_no_flag) refl) (keys_given given words none)
        (rw (keys_turn name count rows pending (before + 1), idles.settled_well) refl) (keys_step count rows pending (before + 1))
        (rest.when_asking (settled_after count pending rows) before given is within none idles.facts)
    by_keys (Some value) there =
        rw (
          there,
          and_never (has_values true words),
          faults_step name count (stand rows pending idle (before + 1)) (codes "--keys") words,
          keys_turn name count rows pending (before + 1),
          idles.settled_well,
          keys_step count rows pending (before + 1),
        ) (rest.twice (settled_after count pending rows) before _ within (idles.facts.keys_is ∙ ap word_seen there))

-- ---- a flag where nothing waits

-- the rules where nothing waits, by whether each flag comes once
abbrev passes_if : ℕ → ℕ → Bool → List Text → Bool → Bool
passes_if count before keys words flags =
    has_values false words && ((once keys (codes "--keys") words && flags) && (before + length (positional_words false words) == count))

flag_passes : (count before : ℕ) (given : Given) (new : Flag) (words : List Text) → given.has new ≡ false
    → passes count before false (is_some given.keys) given (flag_option new ∷ words)
    ≡ passes count before false (is_some (with_flag new given).keys) (with_flag new given) words
flag_passes count before given At words off = ap (passes_if count before (is_some given.keys) words) (flags_once-with given At words off)
flag_passes count before given new words off = ap (passes_if count before (is_some given.keys) words) (flags_once-with given new words off)

flag_is_no_keys : (flag : Flag) → is_keys (flag_option flag) ≡ false
flag_is_no_keys flag = no_flag (λ f. is_keys (flag_option f)) refl flag

by_three : (a b d : Bool) → (a || (b || d)) ≡ ((b || a) || d)
by_three true true d = refl
by_three true false d = refl
by_three false true d = refl
by_three false false d = refl

flag_given : (given : Given) (new : Flag) (words : List Text) → then_given given (flag_option new ∷ words) ≡ then_given (with_flag new given) words
flag_given given new words =
    with_has given (flag_option new ∷ words) (then_given (with_flag new given) words).has
    (λ f. by_three (given.has f) (is_flag new f) (is_given (flag_option f) words))
    ∙ rw (flag_is_no_keys new) refl

-- where a test in the middle fails
never_all : (a b d : Bool) → b ≡ false → (a && (b && d)) ≡ false
never_all a b d fails = rw fails (and_never a)

flag_refused : (count before : ℕ) (given : Given) (new : Flag) (words : List Text) → given.has new ≡ true
    → passes count before false (is_some given.keys) given (flag_option new ∷ words) ≡ false
flag_refused count before given new words on =
    never_all (has_values false (flag_option new ∷ words)) (all_once (is_some given.keys) given (flag_option new ∷ words)) _
    (rw (flags_once-twice given.has new words on) (and_never (once (is_some given.keys) (codes "--keys") (flag_option new ∷ words))))

-- it is given once
idle_flag : (name : Text) (count : ℕ) (words : List Text) (new : Flag) → AllAgree name count words
    → IdleAgrees name count (flag_option new ∷ words)
idle_flag name count words new rest rows pending before given is within idles = by_use (given.has new) refl
  where
    by_use : (b : Bool) → given.has new ≡ b
        → AgreesFrom name count (stand rows pending idle (before + 1)) (flag_option new ∷ words)
        (passes count before false (is_some given.keys) given (flag_option new ∷ words)) (then_given given (flag_option new ∷ words))
    by_use true on =
        step_bad name count (stand rows pending idle (before + 1)) (flag_option new) words
        (passes count before false (is_some given.keys) given (flag_option new ∷ words)) (then_given given (flag_option new ∷ words))
        (flag_refused count before given new words on)
        (rw (flag_turn name count new rows pending (before + 1)) (first_fault _ _ (second_fault _ _
        (flag_again new (settled_after count pending rows) _ (idles.facts.flags_are new ∙ ap flag_seen on)))))
    by_use false off =
        step_ok name count (stand rows pending idle (before + 1))
        (stand (used (flag_argument new) [] (settled_after count pending rows)) None idle (before + 1)) (flag_option new) words
        (passes count before false (is_some given.keys) given (flag_option new ∷ words))
        (passes count before false (is_some (with_flag new given).keys) (with_flag new given) words)
        (then_given given (flag_option new ∷ words)) (then_given (with_flag new given) words)
        (flag_passes count before given new words off) (flag_given given new words)
        (rw (
          flag_turn name count new rows pending (before + 1),
          idles.settled_well,
          flag_use new (settled_after count pending rows) (idles.facts.flags_are new ∙ ap flag_seen off),
        ) refl) (flag_step count new rows pending (before + 1))
        (rest.when_idle (used (flag_argument new) [] (settled_after count pending rows)) None before (with_flag new given)
        is within
        (flag_idle count new (settled_after count pending rows) given off idles.facts))

-- ---- a word where `--keys` waits

asking_plain : (name : Text) (count : ℕ) (words : List Text) (c : ℕ) (cs : Text) → (c == 45) ≡ false → AllAgree name count words
    → AskingAgrees name count ((c ∷ cs) ∷ words)
asking_plain name count words c cs plain rest rows before given is within none facts =
    step_ok name count (stand rows keys_pending keys_waiting (before + 1)) (stand rows (one_word (codes "keys") (c ∷ cs)) idle (before + 1)) (c ∷ cs)
    words
    (passes count before true true given ((c ∷ cs) ∷ words)) (passes count before false true given words)
    (then_valued given ((c ∷ cs) ∷ words)) (then_given (with_keys (c ∷ cs) given) words)
    (rw (plain, flags_once-other given.has (c ∷ cs) words (plain_is_no_flag c cs plain)) refl) (rw plain refl)
    (value_turn name count rows (before + 1) c cs plain) (value_step count rows (before + 1) c cs plain)
    (rest.when_idle rows (one_word (codes "keys") (c ∷ cs)) before (with_keys (c ∷ cs) given) is within
    (keys_idle count rows given (c ∷ cs) none facts))

-- `--keys` waits, which is a fault unless a value comes
unsettled : (count : ℕ) (rows : List Row) → IsFault (settles count rows keys_pending)
unsettled count rows = λ e. cc

-- an option can't stand in the place of a value
abbrev IsOption : Text → Type 0
IsOption word = (word ≡ codes "--keys") ⊎ ((flag : Flag) × (word ≡ flag_option flag))

option_turn : (name : Text) (count : ℕ) (rows : List Row) (position : ℕ) (word : Text) → IsOption word
    → IsFault (turn_fault (shape name count) [] (stand rows keys_pending keys_waiting position) word)
option_turn name count rows position word (inl is) =
    rw (is, asking_keys_turn name count rows position) (first_fault (settles count rows keys_pending) [] (unsettled count rows))
option_turn name count rows position word (inr (flag, is)) =
    let again : Kinds = use_fault false (flag_argument flag) [] (settled_after count keys_pending rows) in
    rw (is, asking_flag_turn name count flag rows position)
    (first_fault (or_else (settles count rows keys_pending) again) []
    (first_fault (settles count rows keys_pending) again (unsettled count rows)))

option_refused : (count before : ℕ) (given : Given) (word : Text) (words : List Text) → IsOption word
    → passes count before true true given (word ∷ words) ≡ false
option_refused count before given word words (inl is) = rw is refl
option_refused count before given word words (inr (flag, is)) = rw is refl

asking_option : (name : Text) (count : ℕ) (words : List Text) (word : Text) → IsOption word → AskingAgrees name count (word ∷ words)
asking_option name count words word is rows before given long within none facts =
    step_bad name count (stand rows keys_pending keys_waiting (before + 1)) word words (passes count before true true given (word ∷ words))
    (then_valued given (word ∷ words)) (option_refused count before given word words is) (option_turn name count rows (before + 1) word is)

-- ---- faults that come later

settle_bad_end : (name : Text) (count : ℕ) (rows : List Row) (pending : Pending) (waiting : Waiting) (position : ℕ)
    → IsFault (settles count rows pending) → IsFault (faults_from name count (stand rows pending waiting position) [])
settle_bad_end name count rows pending waiting position bad =
    rw (faults_end name count rows pending waiting position) (first_fault _ _ bad)

-- where the pending word can't be settled, each word is a fault
doomed_turn : (name : Text) (count : ℕ) → count ≤ 4 → (rows : List Row) (pending : Pending) (before : ℕ) (word : Text) → before ≤ count
    → WordKind word → IsFault (settles count rows pending)
    → IsFault (turn_fault (shape name count) [] (stand rows pending idle (before + 1)) word)
doomed_turn name count few rows pending before word within (plain_word c cs is plain) bad = elim (lt_or_same before count within) [
  | inl below ↦
      let at : (place : Place) × (place_at place ≡ before) = place_of before (omega arith) in
      rw is (subst (λ (n : ℕ). IsFault (turn_fault (shape name count) [] (stand rows pending idle (n + 1)) (c ∷ cs))) at.1
      (rw (place_turn name count at.0 few (omega arith) rows pending c cs plain) bad))
  | inr full ↦ rw (is, full, stray_turn name count few rows pending c cs plain) (λ e. cc)
]
doomed_turn name count few rows pending before word within (keys_word is) bad =
    rw (is, keys_turn name count rows pending (before + 1)) (first_fault _ _ bad)
doomed_turn name count few rows pending before word within (one_flag flag is) bad =
    rw (is, flag_turn name count flag rows pending (before + 1)) (first_fault _ _ (first_fault _ _ bad))

doomed_word : (name : Text) (count : ℕ) → count ≤ 4 → (words : List Text) (word : Text) → WordKind word → IsDoomed name count (word ∷ words)
doomed_word name count few words word kind rows pending before within bad =
    rw (faults_step name count (stand rows pending idle (before + 1)) word words)
    (first_fault _ _ (doomed_turn name count few rows pending before word within kind bad))

twice_option : (name : Text) (count : ℕ) (words : List Text) (word : Text) → IsOption word → IsTwice name count (word ∷ words)
twice_option name count words word is rows before x within there =
    rw (faults_step name count (stand rows keys_pending keys_waiting (before + 1)) word words)
    (first_fault _ _ (option_turn name count rows (before + 1) word is))

twice_word : (name : Text) (count : ℕ) (words : List Text) (word : Text) → WordKind word → AllAgree name count words
    → IsTwice name count (word ∷ words)
twice_word name count words word (plain_word c cs is plain) rest rows before x within there =
    rw (
      is,
      faults_step name count (stand rows keys_pending keys_waiting (before + 1)) (c ∷ cs) words,
      value_turn name count rows (before + 1) c cs plain,
      value_step count rows (before + 1) c cs plain,
    ) (rest.doomed rows (one_word (codes "keys") (c ∷ cs)) before within (keys_again count rows (c ∷ cs) x there))
twice_word name count words word (keys_word is) rest rows before x within there =
    twice_option name count words word (inl is) rows before x within there
twice_word name count words word (one_flag flag is) rest rows before x within there =
    twice_option name count words word (inr (flag, is)) rows before x within there

-- ---- the end of the words

none_once : (keys : Bool) (given : Given) → all_once keys given [] ≡ true
none_once keys given = rw (same_if keys, flags_once-none given.has) refl
  where
    same_if : (b : Bool) → (if b then true else true) ≡ true
    same_if true = refl
    same_if false = refl

or_nothing : (b : Bool) → (b || false) ≡ b
or_nothing true = refl
or_nothing false = refl

no_more_given : (given : Given) → then_given given [] ≡ given
no_more_given given =
    with_has given [] given.has (λ flag. or_nothing (given.has flag))
    ∙ rw (append-nil given.positional, or_first-none given.keys) refl

idle_end : (name : Text) (count : ℕ) → count ≤ 4 → IdleAgrees name count []
idle_end name count few rows pending before given is within idles =
    rw (
      add-zero,
      none_once (is_some given.keys) given,
      no_more_given given,
      faults_end name count rows pending idle (before + 1),
      ends_checked name count few rows pending given (omega arith) idles,
      is,
      rows_end count rows pending idle (before + 1),
    ) (by_count (before == count))
  where
    by_count : (b : Bool) → Agrees b (check_kinds false false (not b)) (finished (arguments count) (held rows pending)) given
    by_count true = (refl, shows_end count (settled_after count pending rows) given idles.facts)
    by_count false = λ e. cc

asking_end : (name : Text) (count : ℕ) → AskingAgrees name count []
asking_end name count rows before given is within none facts =
    settle_bad_end name count rows keys_pending keys_waiting (before + 1) (unsettled count rows)

-- ---- all the words

no_words_agree : (name : Text) (count : ℕ) → count ≤ 4 → AllAgree name count []
no_words_agree name count few = record {
  when_idle = idle_end name count few;
  when_asking = asking_end name count;
  doomed = λ rows pending before within bad. settle_bad_end name count rows pending idle (before + 1) bad;
  twice = λ rows before x within there. settle_bad_end name count rows keys_pending keys_waiting (before + 1) (unsettled count rows);
}

one_more_agrees : (name : Text) (count : ℕ) → count ≤ 4 → (words : List Text) (word : Text) → WordKind word → AllAgree name count words
    → AllAgree name count (word ∷ words)
one_more_agrees name count few words word kind rest = record {
  when_idle = idle_word kind;
  when_asking = asking_word kind;
  doomed = doomed_word name count few words word kind;
  twice = twice_word name count words word kind rest;
}
  where
    idle_word : WordKind word → IdleAgrees name count (word ∷ words)
    idle_word (plain_word c cs is plain) = rw is (idle_plain name count few words c cs plain rest)
    idle_word (keys_word is) = rw is (idle_keys name count words rest)
    idle_word (one_flag flag is) = rw is (idle_flag name count words flag rest)

    asking_word : WordKind word → AskingAgrees name count (word ∷ words)
    asking_word (plain_word c cs is plain) = rw is (asking_plain name count words c cs plain rest)
    asking_word (keys_word is) = asking_option name count words word (inl is)
    asking_word (one_flag flag is) = asking_option name count words word (inr (flag, is))

all_agree : (name : Text) (count : ℕ) → count ≤ 4 → (words : List Text) → list_all (is_known every_option) words ≡ true
    → AllAgree name count words
all_agree name count few [] known = no_words_agree name count few
all_agree name count few (word ∷ words) known =
    let parts = both_true (is_known every_option word) (list_all (is_known every_option) words) known in
    one_more_agrees name count few words word (kind_of_word word parts.0) (all_agree name count few words parts.1)

-- the rules accept words that are known
abbrev pub is_well_formed : ℕ → List Word → Bool
is_well_formed count words =
    has_values false words && (list_all (is_once words) every_option && (length (positional_words false words) == count))

-- what the words give
abbrev pub all_given : List Word → Given
all_given words = record {
  positional = positional_words false words;
  keys = keys_value words;
  has = λ flag. is_given (flag_option flag) words;
}

-- the rules and the command agree on known words
pub command_agrees : (name : Text) (count : ℕ) → count ≤ 4 → (verb : Text) (words : List Text)
    → list_all (is_known every_option) words ≡ true
    → Agrees (is_well_formed count words) (command_faults name count (verb ∷ words)) (command_rows name count (verb ∷ words))
    (all_given words)
unfolding command_faults command_rows flags_once
command_agrees name count few verb words known =
    rw (whole_faults name count verb words, whole_rows name count verb words, ← zero-add (length (positional_words false words)))
    ((all_agree name count few words known).when_idle [] None 0 nothing_given refl (omega arith)
    (record { settled_well = refl; facts = no_rows }))
