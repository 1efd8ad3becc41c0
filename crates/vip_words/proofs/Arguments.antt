-- The command with one argument more.
use Rattle.std.proofs.Common.{◌≡◌, ◌∙◌, sym, ap, subst, refl, arith, ◌<◌, ◌≤◌, ◌+◌, ℕ, zero, suc, List, [], ◌∷◌, ◌++◌, length, get_or, map, take}
use Rattle.std.proofs.lemmas.List.{get_or-map, get_or-take, length-map, length-take, take_more}
use Rattle.clap.specs.Words.{Rule, Text, with_rule}
use Rattle.vip_words.specs.Arguments.{argument_rule}
use Rattle.vip_words.specs.Command.{app_with, command_app, flag_rule, keys_rule, place_names, place_rule}
use Rattle.vip_words.specs.Rules.{every_flag}
use Rattle.vip_words.specs.declared.command.Argument.{Argument}
use Rattle.vip_words.specs.declared.command.TheConstants.{OPTIONS}

-- every option of the program, and every positional word
abbrev pub every_rule : List Rule
every_rule = keys_rule ∷ map flag_rule every_flag ++ map place_rule place_names

-- the next argument is added to a command that has those before it
pub next_argument : (name : Text) (arguments : List Argument) (count i : ℕ) (d : Argument) → map argument_rule arguments ≡ every_rule
    → i < length (take count arguments)
    → with_rule (app_with name (take i every_rule)) (argument_rule (get_or (take count arguments) i d)) ≡ app_with name (take (i + 1) every_rule)
next_argument name arguments count i d are within =
    let counted = length-take count arguments in
    let before : i < count = omega (arith, within, counted) in
    let inside : i < length arguments = omega (arith, within, counted) in
    let among : i < length every_rule = subst (λ n. i < n) (sym (length-map arguments argument_rule) ∙ ap length are) inside in
    let is = ap argument_rule (get_or-take count arguments i d before)
    ∙ (sym (get_or-map argument_rule arguments i d (argument_rule d) inside) ∙ ap (λ rules. get_or rules i (argument_rule d)) are) in
    ap (λ rule. app_with name (take i every_rule ++ rule ∷ [])) is
    ∙ ap (app_with name) (sym (take_more every_rule i (argument_rule d) among))

-- all options, and so many positional words
as_many : (places : ℕ) → places ≤ 4 → take (OPTIONS + places) every_rule ≡ keys_rule ∷ map flag_rule every_flag ++ map place_rule (take places place_names)
as_many zero few = refl
as_many (suc zero) few = refl
as_many (suc (suc zero)) few = refl
as_many (suc (suc (suc zero))) few = refl
as_many (suc (suc (suc (suc zero)))) few = refl
as_many (suc (suc (suc (suc (suc places))))) few = absurd (omega arith)

-- all the arguments were gone through
pub all_arguments : (name : Text) (arguments : List Argument) (places i : ℕ) → places ≤ 4 → OPTIONS + places ≤ length arguments
    → length (take (OPTIONS + places) arguments) ≤ i → i ≤ length (take (OPTIONS + places) arguments)
    → app_with name (take i every_rule) ≡ command_app name places
all_arguments name arguments places i few fits from upto =
    let counted = length-take (OPTIONS + places) arguments in
    let all : i ≡ OPTIONS + places = omega (arith, counted, fits, from, upto) in
    ap (λ n. app_with name (take n every_rule)) all ∙ ap (app_with name) (as_many places few)
