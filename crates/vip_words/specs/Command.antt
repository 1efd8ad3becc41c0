-- The command that `clap` gets for a verb with so many positional words, as `clap` reads it.
use Rattle.std.specs.Prelude.{ℕ, List, [], ◌∷◌, ◌++◌, map, take, Some, true, codes}
use Rattle.clap.specs.Faults.{fault_of}
use Rattle.clap.specs.Kinds.{Kinds}
use Rattle.clap.specs.Simple.{App, matches_of, new_rule, new_shape}
use Rattle.clap.specs.Walk.{Row, Rule, Text}
use Rattle.clap.specs.declared.builder.action.ArgAction.TheVariants.{Set, SetTrue}
use Rattle.vip_words.specs.Rules.{every_flag, flag_name}
use Rattle.vip_words.specs.declared.flag.Flag.{Flag}

-- the names of the positional words, in order
abbrev pub place_names : List Text
place_names = codes "first" ∷ codes "second" ∷ codes "third" ∷ codes "fourth" ∷ []

abbrev pub place_rule : Text → Rule
place_rule name = record (new_rule name) { required = true; action = Some Set }

abbrev pub keys_rule : Rule
keys_rule = record (new_rule (codes "keys")) { long = Some (codes "keys"); action = Some Set }

-- of an option that takes no word
abbrev pub switch_rule : Text → Rule
switch_rule name = record (new_rule name) { long = Some name; action = Some SetTrue }

abbrev pub flag_rule : Flag → Rule
flag_rule flag = switch_rule (flag_name flag)

-- a command with these arguments: no help flag, no version flag, no subcommand
abbrev pub app_with : Text → List Rule → App
app_with verb rules = record {
  top = record (new_shape verb) { disable_help_flag = true; disable_version_flag = true; rules = rules };
  subs = [];
}

-- every option of the program, and so many positional words
abbrev pub command_app : Text → ℕ → App
command_app verb places = app_with verb (keys_rule ∷ map flag_rule every_flag ++ map place_rule (take places place_names))

-- the faults that the command finds in the words, the verb first: none where it takes them
unfoldable pub command_faults : Text → ℕ → List Text → Kinds
command_faults verb places words = fault_of (command_app verb places) words

-- what it finds in words that it takes
unfoldable pub command_rows : Text → ℕ → List Text → List Row
command_rows verb places words = matches_of (command_app verb places) words
