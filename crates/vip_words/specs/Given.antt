-- What the program holds of what the words after a verb give.
use Rattle.std.specs.Prelude.{List, [], ◌∷◌, Bool, false, Option, Some, None, bytes_eq, codes, map, option_map}
use Rattle.clap.specs.Words.{first_value, found_of}
use Rattle.vip_words.specs.Rules as rules
use Rattle.vip_words.specs.declared.given.Given.{Given}
use Rattle.vip_words.specs.declared.given.Positional.{Positional}
use Rattle.vip_words.specs.declared.given.Positional.TheVariants.{Empty, One, Two, Three, Four}
use Rattle.vip_words.specs.declared.table.Usage.{Usage}

abbrev pub positional_of : Positional → List rules.Word
positional_of Empty = []
positional_of (One first) = first.now ∷ []
positional_of (Two first second) = first.now ∷ second.now ∷ []
positional_of (Three first second third) = first.now ∷ second.now ∷ third.now ∷ []
positional_of (Four first second third fourth) = first.now ∷ second.now ∷ third.now ∷ fourth.now ∷ []

-- the text of a flag's value is that it was given
abbrev pub is_told : Option rules.Word → Bool
is_told None = false
is_told (Some text) = bytes_eq text (codes "true")

abbrev pub seen_given : Given → rules.Given
seen_given given = record {
  positional = positional_of given.positional;
  keys = option_map (λ word. word.now) given.keys;
  has = λ flag. is_told (first_value (found_of given.matches) (rules.flag_name flag));
}

-- what the words after a verb with this usage give, or nothing where they are refused
abbrev pub given_of : Usage → List rules.Word → Option rules.Given
given_of usage words = rules.given_by usage.places (map (λ option. option.now) usage.options.now) words

-- the words up to the first place that stands empty
abbrev pub words_in : Option rules.Word → Option rules.Word → Option rules.Word → Option rules.Word → List rules.Word
words_in None second third fourth = []
words_in (Some first) None third fourth = first ∷ []
words_in (Some first) (Some second) None fourth = first ∷ second ∷ []
words_in (Some first) (Some second) (Some third) None = first ∷ second ∷ third ∷ []
words_in (Some first) (Some second) (Some third) (Some fourth) = first ∷ second ∷ third ∷ fourth ∷ []
