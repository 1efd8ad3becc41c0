-- The pages of the verbs, made of their table, and the version of the program.
use Rattle.std.specs.Prelude.{ℕ, List, ◌++◌, Bool, true, codes, drop, flat_map, if◌then◌else◌, length, min, Option, Some, None}
use Rattle.vip_byte.specs.Text.{newline}
use Rattle.vip_tools.specs.Judged.{Judged}
use Rattle.vip_tools.specs.Outcome.{Output, Writes}
use Rattle.vip_words.specs.Rules.{Word}
use Rattle.vip_words.specs.Table.{Row, about, every_verb, notes, row, with_value}
use Rattle.vip_words.specs.Why.{why_line}
use Rattle.vip_words.specs.declared.table.Verb.{Verb}

-- a text that is filled up with blanks to a column
abbrev pub padded : List ℕ → List ℕ → List ℕ
padded text column = text ++ drop (min (length text) (length column)) column

-- a word behind a verb, in brackets where it may be left out
abbrev pub word_text : Bool → Word → List ℕ
word_text may_be_left_out word = if may_be_left_out then codes " [" ++ (word ++ codes "]") else codes " " ++ word

abbrev pub with_words : Row → List ℕ
with_words r = r.name ++ flat_map (word_text r.may_stand_alone) r.words

-- ---- the page of all verbs: each with its words, and what it writes

abbrev pub verb_column : List ℕ
verb_column = codes "                            "

abbrev pub verb_line : Row → List ℕ
verb_line r = padded (with_words r) verb_column ++ (r.writes ++ newline)

unfoldable pub verbs_page : List ℕ
verbs_page = flat_map (λ v. verb_line (row v)) every_verb

-- ---- the page of one verb: its words and options, what it writes, what each option is, what is said of its files, an example, and where its texts are
-- explained

abbrev pub option_text : Word → List ℕ
option_text option = word_text true (with_value option)

abbrev pub option_column : List ℕ
option_column = codes "             "

abbrev pub option_line : Word → List ℕ
option_line option = codes "  " ++ (padded (with_value option) option_column ++ (about option ++ newline))

abbrev pub note_line : List ℕ → List ℕ
note_line note = note ++ newline

unfoldable pub verb_page : Row → List (List ℕ) → List ℕ
verb_page r notes =
    codes "vip " ++ (with_words r ++ (flat_map option_text r.options ++ (newline ++ (r.writes ++ (newline ++ (flat_map option_line r.options
    ++ (flat_map note_line notes
    ++ (codes "for instance: " ++ (r.example ++ (newline ++ (codes "explained in: " ++ (r.texts ++ newline))))))))))))

abbrev pub help_text : Option Verb → List ℕ
help_text None = verbs_page
help_text (Some verb) = verb_page (row verb) (notes verb)

abbrev pub HelpComes : Option Verb → Judged Output
HelpComes verb = Writes (help_text verb)

-- ---- the version

abbrev pub version_text : List ℕ
version_text = codes "vip 2.0" ++ newline

abbrev pub VersionComes : Judged Output
VersionComes = Writes version_text

-- ---- what is made of words

abbrev pub WhyComes : List Word → Judged Output
WhyComes words = Writes (why_line words)
