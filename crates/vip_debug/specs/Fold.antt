-- Commands one after another: a fold whose state is a place. The echo of a command, if it has one, is put before its answer.
use Rattle.std.specs.Prelude.{ℕ, List, [], ◌∷◌, ◌++◌}
use Rattle.std.specs.Option.{option_to_list}
use Rattle.vip_words.specs.declared.debug_commands.Command.{Command}
use Rattle.vip_words.specs.Spoken.{Spoken}

-- the echo, and then the answer
abbrev pub echoed : Spoken → List (List ℕ) → List (List ℕ)
echoed spoken answer = option_to_list spoken.echo ++ answer

module _ {P : Type 0} (after : Command → P → P) where
  -- the place after some commands, by the place after one
  abbrev pub after_all : List Spoken → P → P
  after_all [] p = p
  after_all (spoken ∷ others) p = after_all others (after spoken.command p)

  -- what they write, by what one answers
  abbrev pub all_pieces : (Command → P → List (List ℕ)) → List Spoken → P → List (List ℕ)
  all_pieces pieces [] p = []
  all_pieces pieces (spoken ∷ others) p = echoed spoken (pieces spoken.command p) ++ all_pieces pieces others (after spoken.command p)
