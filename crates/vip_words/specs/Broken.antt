-- The rules by which words are refused, and the first of them that words break: those of the form of any verb's words, in this order, and then, where the words
-- keep them all, those of the verb: each of its words is what it takes there, and its options go together. `first_broken` names a rule exactly where the words
-- are refused (`RefusedByRule`).
use Rattle.std.specs.Prelude.{◌≡◌, ℕ, List, [], ◌∷◌, Bool, true, false, not, ◌&&◌, ◌==◌, if◌then◌else◌, is_none, is_some, Option, Some, None, option_map, bytes_eq, codes, find}
use Rattle.std.specs.Option.{option_or}
use Rattle.asm_lex.specs.declared.shape.Isa.{Isa}
use Rattle.vip_words.specs.Asked.{asked_by, cycles_of, entry_of, isa_by, lacks_source, moves_of, place_of, register_of, seed_of}
use Rattle.vip_words.specs.Rules.{Given, Word, every_option, given_by, has_values, is_known, is_once, positional_words}
use Rattle.vip_words.specs.Table.{Row, is_alone, is_why, places_of, row, verb_of}
use Rattle.vip_words.specs.declared.broken.Broken.{Broken}
use Rattle.vip_words.specs.declared.broken.Broken.TheVariants as broken
use Rattle.vip_words.specs.declared.broken.Due.{Due}
use Rattle.vip_words.specs.declared.broken.Due.TheVariants as due
use Rattle.vip_words.specs.declared.broken.Rule.{Rule}
use Rattle.vip_words.specs.declared.broken.Rule.TheVariants as rule
use Rattle.vip_words.specs.declared.flag.Flag.{Flag}
use Rattle.vip_words.specs.declared.flag.Flag.TheVariants as flag
use Rattle.vip_words.specs.declared.table.Verb.{Verb}
use Rattle.vip_words.specs.declared.table.Verb.TheVariants as verb

-- ---- the form of the words behind a verb

-- a word that the verb doesn't know
abbrev pub unknown : Word → Rule Word
unknown [] = rule.Empty
unknown (c ∷ cs) = if bytes_eq (c ∷ cs) (codes "--") then rule.Ends else rule.NoOption (c ∷ cs)

-- the names of the words that are due
abbrev pub names_of : Row → Bool → List Word
names_of r alone = if alone && r.may_stand_alone then [] else r.words

-- the first name that lacks its word, or the first word without a name
abbrev pub miscounted : List Word → List Word → Option (Rule Word)
miscounted [] [] = None
miscounted [] (word ∷ words) = Some (rule.TooMany word)
miscounted (name ∷ names) [] = Some (rule.Lacks name)
miscounted (name ∷ names) (word ∷ words) = miscounted names words

abbrev pub broken_form : List Word → List Word → List Word → Option (Rule Word)
broken_form options names words =
    option_or (option_map unknown (find (λ word. not (is_known options word)) words))
    (option_or (if has_values false words then None else Some rule.NoFile)
    (option_or (option_map rule.Twice (find (λ option. not (is_once words option)) every_option)) (miscounted names (positional_words false words))))

-- ---- what the words of a verb are

-- a word is what is due there
abbrev pub is_due : Due → Word → Bool
is_due due.File word = true
is_due due.Cycles word = is_some (cycles_of word)
is_due due.Number word = is_some (seed_of word)
is_due due.Moves word = is_some (moves_of word)
is_due (due.At isa) word = is_some (place_of isa word)
is_due due.Entry word = is_some (entry_of word)
is_due due.P word = is_some (register_of word)
is_due due.K word = is_some (register_of word)
is_due due.Verb word = is_some (verb_of word)

-- what is due behind a verb, in order; the addresses are those of an instruction set
abbrev pub dues : Verb → Isa → List Due
dues verb.Trace isa = due.File ∷ due.Cycles ∷ []
dues verb.Play isa = due.File ∷ due.Cycles ∷ []
dues verb.Debug isa = due.File ∷ due.Cycles ∷ due.File ∷ []
dues verb.Save isa = due.File ∷ due.Cycles ∷ []
dues verb.Profile isa = due.File ∷ due.Cycles ∷ []
dues verb.Resume isa = due.File ∷ due.Cycles ∷ []
dues verb.Demo isa = due.Number ∷ due.Cycles ∷ []
dues verb.Digest isa = due.File ∷ due.Cycles ∷ []
dues verb.Link isa = due.File ∷ due.Moves ∷ due.Number ∷ []
dues verb.Dis isa = due.File ∷ due.At isa ∷ []
dues verb.Timing isa = due.File ∷ due.Entry ∷ due.P ∷ due.K ∷ []
dues verb.Help isa = due.Verb ∷ []
dues _ isa = []

-- the first word that isn't what is due there
abbrev pub misread : List Due → List Word → Option (Rule Word)
misread ds [] = None
misread [] (word ∷ words) = None
misread (d ∷ ds) (word ∷ words) = if is_due d word then misread ds words else Some (rule.Misread d word)

-- ---- what doesn't go together

-- A program has one memory, and is no game; a saved state has its own edition, and is no source.
abbrev pub run_pairs : List (Flag × Flag)
run_pairs =
    (flag.Rom, flag.Ram) ∷ (flag.Rom, flag.State) ∷ (flag.Rom, flag.Tall) ∷ (flag.Rom, flag.Screen) ∷ (flag.Rom, flag.Words) ∷ (flag.Rom, flag.At)
    ∷ (flag.Ram, flag.State) ∷ (flag.Ram, flag.Tall) ∷ (flag.Ram, flag.Screen) ∷ (flag.Ram, flag.Words) ∷ (flag.Ram, flag.At)
    ∷ (flag.State, flag.Tall) ∷ (flag.State, flag.Asm) ∷ []

-- of a program's saved state the board alone is shown
abbrev pub board_pairs : List (Flag × Flag)
board_pairs =
    (flag.Rom, flag.Ram) ∷ (flag.Rom, flag.Tall) ∷ (flag.Rom, flag.Screen) ∷ (flag.Rom, flag.Words) ∷ (flag.Rom, flag.At)
    ∷ (flag.Ram, flag.Tall) ∷ (flag.Ram, flag.Screen) ∷ (flag.Ram, flag.Words) ∷ (flag.Ram, flag.At)
    ∷ (flag.State, flag.Tall) ∷ (flag.State, flag.Asm) ∷ []

-- the pairs of a verb's options that don't go together
abbrev pub pairs : Verb → List (Flag × Flag)
pairs verb.Trace = run_pairs
pairs verb.Play = run_pairs
pairs verb.Debug = board_pairs
pairs verb.Save = board_pairs
pairs verb.Profile = run_pairs
pairs verb.Source = (flag.Sender, flag.Receiver) ∷ (flag.Sender, flag.Tall) ∷ (flag.Receiver, flag.Tall) ∷ []
pairs _ = []

abbrev pub both_given : Given → Flag × Flag → Bool
both_given given pair = given.has pair.0 && given.has pair.1

abbrev pub apart : Flag × Flag → Rule Word
apart pair = rule.Apart pair.0 pair.1

-- the program counter and the counter of a routine are two registers
abbrev pub same_number : Word → Option ℕ → Option ℕ → Option (Rule Word)
same_number word (Some p) (Some k) = if p == k then Some (rule.Same word) else None
same_number word p k = None

abbrev pub same_register : Verb → List Word → Option (Rule Word)
same_register verb.Timing (file ∷ entry ∷ p ∷ k ∷ []) = same_number k (register_of p) (register_of k)
same_register v words = None

-- lines of a source are told where there is one
abbrev pub needs_source : Given → Option (Rule Word)
needs_source given = if lacks_source given then Some (rule.Needs flag.Source flag.Asm) else None

-- an option of a verb that stands without the one that it needs
abbrev pub alone : Verb → Given → Option (Rule Word)
alone verb.Trace given = needs_source given
alone verb.Play given = needs_source given
alone verb.Debug given = needs_source given
alone verb.Save given = needs_source given
alone verb.Profile given = needs_source given
alone _ given = None

abbrev pub broken_given : Verb → Given → Option (Rule Word)
broken_given v given =
    option_or (misread (dues v (isa_by (given.has flag.Chip8))) given.positional)
    (option_or (same_register v given.positional) (option_or (alone v given) (option_map apart (find (both_given given) (pairs v)))))

-- ---- the first rule that is broken

abbrev pub broken_behind : Verb → List Word → Option Given → Option (Rule Word)
broken_behind v words None = broken_form (row v).options (names_of (row v) (is_alone words)) words
broken_behind v words (Some given) = broken_given v given

-- by the words behind a verb
abbrev pub broken_words : Verb → List Word → Option (Rule Word)
broken_words v words = broken_behind v words (given_by (places_of (row v) (is_alone words)) (row v).options words)

-- what stands behind `why` is only explained
abbrev pub broken_of_verb : Verb → List Word → Option (Broken Word)
broken_of_verb v words = if is_why v then None else option_map (broken.Of v) (broken_words v words)

abbrev pub broken_after : Word → List Word → Option Verb → Option (Broken Word)
broken_after word words None = Some (broken.NoSuchVerb word)
broken_after word words (Some v) = broken_of_verb v words

abbrev pub first_broken : List Word → Option (Broken Word)
first_broken [] = Some broken.NoVerb
first_broken (word ∷ words) = broken_after word words (verb_of word)

-- words are refused exactly where a rule is named
abbrev pub RefusedByRule : Type 0
RefusedByRule = (words : List Word) → is_some (first_broken words) ≡ is_none (asked_by words)

-- ---- with references in the places of the words

module _ {A B : Type 0} (f : A → B) where
  abbrev pub map_rule : Rule A → Rule B
  map_rule rule.Empty = rule.Empty
  map_rule rule.Ends = rule.Ends
  map_rule (rule.NoOption word) = rule.NoOption (f word)
  map_rule rule.NoFile = rule.NoFile
  map_rule (rule.Twice option) = rule.Twice (f option)
  map_rule (rule.Lacks name) = rule.Lacks (f name)
  map_rule (rule.TooMany word) = rule.TooMany (f word)
  map_rule (rule.Misread d word) = rule.Misread d (f word)
  map_rule (rule.Same word) = rule.Same (f word)
  map_rule (rule.Needs first second) = rule.Needs first second
  map_rule (rule.Apart first second) = rule.Apart first second

  abbrev pub map_broken : Broken A → Broken B
  map_broken broken.NoVerb = broken.NoVerb
  map_broken (broken.NoSuchVerb word) = broken.NoSuchVerb (f word)
  map_broken (broken.Of v rule) = broken.Of v (map_rule rule)
