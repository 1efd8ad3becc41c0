-- Words are refused exactly where a rule is named.
use Rattle.std.proofs.Common.{◌≡◌, ◌∙◌, ap, ap₂, sym, refl, ℕ, suc, List, [], ◌∷◌, Bool, true, false, Option, Some, None, arith, length, find}
use Rattle.std.specs.List.{list_all, list_any}
use Rattle.std.specs.Option.{option_or}
use Rattle.std.specs.Prelude.{not, ◌&&◌, ◌||◌, ◌==◌, if◌then◌else◌, is_none, is_some, option_and_then, option_map}
use Rattle.std.proofs.lemmas.Bool.{eq-eqb, eqb-false, eqb-true, ne_eqb}
use Rattle.vip_words.specs.Asked.{any_by, asked_behind, asked_of_verb, bounds_by, check_by, code_by, columns_by, cycles_of, debug_by, demo_by, digest_by, dis_by, edition_by, either_by, entry_of, file_by, help_by, is_mixed, is_mixed_state, is_program, isa_by, lacks_source, link_by, moves_of, place_of, play_by, profile_by, program_by, register_of, resume_by, resumed_by, run_by, safe_by, save_by, seed_of, source_by, start_by, timing_by, trace_by, two_registers, version_by, within_by}
use Rattle.vip_words.specs.Broken.{RefusedByRule, alone, apart, board_pairs, both_given, broken_after, broken_behind, broken_form, broken_given, dues, miscounted, misread, names_of, needs_source, pairs, run_pairs, same_number, same_register, unknown}
use Rattle.vip_words.specs.Request.{Asked}
use Rattle.vip_words.specs.Rules.{Given, Word, every_option, flag_option, given_by, has_values, is_accepted, is_given, is_known, is_once, keys_value, positional_words}
use Rattle.vip_words.specs.Table.{Row, is_alone, is_why, places_of, row, verb_of}
use Rattle.vip_words.specs.declared.broken.Rule.{Rule}
use Rattle.vip_words.specs.declared.broken.Rule.TheVariants as rule
use Rattle.vip_words.specs.declared.broken.Due.TheVariants as due
use Rattle.vip_words.specs.declared.flag.Flag.{Flag}
use Rattle.vip_words.specs.declared.flag.Flag.TheVariants as flag
use Rattle.vip_words.specs.declared.broken.Broken.TheVariants as broken
use Rattle.vip_words.specs.declared.request.Entry.{Entry}
use Rattle.vip_words.specs.declared.request.OwnText.TheVariants as own
use Rattle.vip_words.specs.declared.request.PlainShow.TheVariants.{Trace, Pictures, State, Profile}
use Rattle.vip_words.specs.declared.request.BoardShow.{BoardShow}
use Rattle.vip_words.specs.declared.request.BoardShow.TheVariants as board
use Rattle.vip_words.specs.declared.request.ProgramShow.{ProgramShow}
use Rattle.vip_words.specs.declared.request.ProgramShow.TheVariants as program
use Rattle.vip_words.specs.declared.request.Request.TheVariants as request
use Rattle.vip_words.specs.declared.request.Show.{Show}
use Rattle.vip_words.specs.declared.request.Show.TheVariants as show
use Rattle.vip_words.specs.declared.request.TextVerb.TheVariants as text
use Rattle.vip_words.specs.declared.table.Verb.{Verb}
use Rattle.vip_words.specs.declared.table.Verb.TheVariants as verb
use Rattle.vip_words.proofs.Rows.{both_true}

-- ---- options

some_or : {T : Type 0} (a b : Option T) → is_some (option_or a b) ≡ (is_some a || is_some b)
some_or None b = refl
some_or (Some x) b = refl

some_map : {T U : Type 0} (f : T → U) (a : Option T) → is_some (option_map f a) ≡ is_some a
some_map f None = refl
some_map f (Some x) = refl

none_map : {T U : Type 0} (f : T → U) (a : Option T) → is_none (option_map f a) ≡ not (is_some a)
none_map f None = refl
none_map f (Some x) = refl

-- where something is found not all keep the rule
found : {T : Type 0} (p : T → Bool) (xs : List T) → is_some (find (λ x. not (p x)) xs) ≡ not (list_all p xs)
found p [] = refl
found p (x ∷ xs) = by (found p xs) (p x) refl
  where
    by : is_some (find (λ y. not (p y)) xs) ≡ not (list_all p xs) → (b : Bool) → p x ≡ b
        → is_some (find (λ y. not (p y)) (x ∷ xs)) ≡ not (list_all p (x ∷ xs))
    by rest true is = rw is rest
    by rest false is = rw is refl

-- ---- the form

suc_eq : (n m : ℕ) → (suc n == suc m) ≡ (n == m)
suc_eq n m = elim (n == m) as (λ b. (n == m) ≡ b → (suc n == suc m) ≡ b) [
  | true ↦ λ same. eq-eqb (suc n) (suc m) (omega (arith, eqb-true n m same))
  | false ↦ λ differ. ne_eqb (suc n) (suc m) (λ same. omega (arith, same, eqb-false n m differ))
] refl

counted : (names words : List Word) → is_some (miscounted names words) ≡ not (length words == length names)
counted [] [] = refl
counted [] (word ∷ words) = ap not (sym (ne_eqb (suc (length words)) 0 (λ same. omega arith)))
counted (name ∷ names) [] = ap not (sym (ne_eqb 0 (suc (length names)) (λ same. omega arith)))
counted (name ∷ names) (word ∷ words) = counted names words ∙ ap not (sym (suc_eq (length words) (length names)))

as_many : (r : Row) (alone : Bool) → length (names_of r alone) ≡ places_of r alone
as_many r alone = by (alone && r.may_stand_alone)
  where
    by : (b : Bool) → length (if b then [] else r.words) ≡ (if b then 0 else length r.words)
    by true = refl
    by false = refl

four : (a b c d : Bool) → (not a || (not b || (not c || not d))) ≡ not (a && (b && (c && d)))
four true true true d = refl
four true true false d = refl
four true false c d = refl
four false b c d = refl

lacks_value : (b : Bool) → is_some {T = Rule Word} (if b then None else Some rule.NoFile) ≡ not b
lacks_value true = refl
lacks_value false = refl

pub form_refused : (options names words : List Word) → is_some (broken_form options names words) ≡ not (is_accepted (length names) options words)
form_refused options names words =
    let unknown_word = option_map unknown (find (λ word. not (is_known options word)) words) in
    let no_file : Option (Rule Word) = if has_values false words then None else Some rule.NoFile in
    let twice : Option (Rule Word) = option_map rule.Twice (find (λ option. not (is_once words option)) every_option) in
    let count = miscounted names (positional_words false words) in
    some_or unknown_word (option_or no_file (option_or twice count))
    ∙ (ap₂ (λ a b. a || b) (some_map unknown (find (λ word. not (is_known options word)) words) ∙ found (is_known options) words)
    (some_or no_file (option_or twice count)
    ∙ ap₂ (λ a b. a || b) (lacks_value (has_values false words))
    (some_or twice count
    ∙ ap₂ (λ a b. a || b) (some_map rule.Twice (find (λ option. not (is_once words option)) every_option) ∙ found (is_once words) every_option)
    (counted names (positional_words false words))))
    ∙ four (list_all (is_known options) words) (has_values false words) (list_all (is_once words) every_option) (length (positional_words false words) == length names))

-- ---- each verb

-- what a verb refuses of what its words give, whose positional ones are as many as it takes
abbrev Refuses : Verb → Given → Type 0
Refuses v given = is_some (broken_given v given) ≡ is_none (asked_of_verb v given)

-- the same for these positional words
abbrev broken_by : Verb → List Word → Given → Option (Rule Word)
broken_by v words given =
    option_or (misread (dues v (isa_by (given.has flag.Chip8))) words)
    (option_or (same_register v words) (option_or (alone v given) (option_map apart (find (both_given given) (pairs v)))))

-- lists of a few words
none : (P : List Word → Type 0) → P [] → (words : List Word) → length words ≡ 0 → P words
none P p [] n = p
none P p (a ∷ words) n = absurd (omega arith)

one : (P : List Word → Type 0) → ((a : Word) → P (a ∷ [])) → (words : List Word) → length words ≡ 1 → P words
one P p [] n = absurd (omega arith)
one P p (a ∷ []) n = p a
one P p (a ∷ b ∷ words) n = absurd (omega arith)

two : (P : List Word → Type 0) → ((a b : Word) → P (a ∷ b ∷ [])) → (words : List Word) → length words ≡ 2 → P words
two P p [] n = absurd (omega arith)
two P p (a ∷ []) n = absurd (omega arith)
two P p (a ∷ b ∷ []) n = p a b
two P p (a ∷ b ∷ d ∷ words) n = absurd (omega arith)

three : (P : List Word → Type 0) → ((a b d : Word) → P (a ∷ b ∷ d ∷ [])) → (words : List Word) → length words ≡ 3 → P words
three P p [] n = absurd (omega arith)
three P p (a ∷ []) n = absurd (omega arith)
three P p (a ∷ b ∷ []) n = absurd (omega arith)
three P p (a ∷ b ∷ d ∷ []) n = p a b d
three P p (a ∷ b ∷ d ∷ e ∷ words) n = absurd (omega arith)

all_four : (P : List Word → Type 0) → ((a b d e : Word) → P (a ∷ b ∷ d ∷ e ∷ [])) → (words : List Word) → length words ≡ 4 → P words
all_four P p [] n = absurd (omega arith)
all_four P p (a ∷ []) n = absurd (omega arith)
all_four P p (a ∷ b ∷ []) n = absurd (omega arith)
all_four P p (a ∷ b ∷ d ∷ []) n = absurd (omega arith)
all_four P p (a ∷ b ∷ d ∷ e ∷ []) n = p a b d e
all_four P p (a ∷ b ∷ d ∷ e ∷ f ∷ words) n = absurd (omega arith)

-- a word that is read, or two, and pairs of options
one_read : {T : Type 0} (a : Option T) (f : T → Asked) (r : Rule Word)
    → is_some (option_or (if is_some a then None else Some r) None) ≡ is_none (option_map f a)
one_read None f r = refl
one_read (Some x) f r = refl

two_read : {T U : Type 0} (a : Option T) (b : Option U) (f : T → U → Asked) (q r : Rule Word)
    → is_some (option_or (if is_some a then (if is_some b then None else Some r) else Some q) None) ≡ is_none (option_and_then (λ x. option_map (f x) b) a)
two_read None b f q r = refl
two_read (Some x) None f q r = refl
two_read (Some x) (Some y) f q r = refl

found_pair : (given : Given) (ps : List (Flag × Flag)) → is_some (option_map apart (find (both_given given) ps)) ≡ list_any (both_given given) ps
found_pair given [] = refl
found_pair given (p ∷ ps) = by (found_pair given ps) (both_given given p) refl
  where
    by : is_some (option_map apart (find (both_given given) ps)) ≡ list_any (both_given given) ps → (b : Bool) → both_given given p ≡ b
        → is_some (option_map apart (find (both_given given) (p ∷ ps))) ≡ list_any (both_given given) (p ∷ ps)
    by rest true is = rw is refl
    by rest false is = rw is rest

read_or_pair : (b : Bool) (r : Rule Word) (p : Option (Rule Word)) → is_some (option_or (if b then None else Some r) p) ≡ (is_some p || not b)
read_or_pair true r None = refl
read_or_pair true r (Some x) = refl
read_or_pair false r None = refl
read_or_pair false r (Some x) = refl

-- a run of a program, or of the language
program_none : (mixed : Bool) (f : ℕ → Asked) (c : Option ℕ) → is_none (if mixed then None else option_map f c) ≡ (mixed || not (is_some c))
program_none true f c = refl
program_none false f None = refl
program_none false f (Some n) = refl

run_none : {S : Type 0} (s : Option S) (f : S → ℕ → Asked) (c : Option ℕ)
    → is_none (option_and_then (λ x. option_map (f x) c) s) ≡ (not (is_some s) || not (is_some c))
run_none None f c = refl
run_none (Some x) f None = refl
run_none (Some x) f (Some n) = refl

started : {S : Type 0} (state tall asm : Bool) (x y : S)
    → not (is_some (if state then (if tall || asm then None else Some x) else Some y)) ≡ ((state && tall) || ((state && asm) || false))
started true true asm x y = refl
started true false true x y = refl
started true false false x y = refl
started false tall asm x y = refl

either_none : (is_program mixed started last : Bool) (a b : Option Asked) → is_none a ≡ (mixed || last) → is_none b ≡ (started || last)
    → is_none (if is_program then a else b) ≡ ((if is_program then mixed else started) || last)
either_none true mixed started last a b here there = here
either_none false mixed started last a b here there = there

-- a saved state beside an edition or a source
abbrev is_mixed_start : Given → Bool
is_mixed_start given = (given.has flag.State && given.has flag.Tall) || ((given.has flag.State && given.has flag.Asm) || false)

program_or_run : (file cycles : Word) (given : Given) (shown : Show Word) (program_shown : ProgramShow Word)
    → is_none (if is_program given then program_by file cycles given program_shown else run_by file cycles given shown)
    ≡ ((if is_program given then is_mixed given else is_mixed_start given) || not (is_some (cycles_of cycles)))
program_or_run file cycles given shown program_shown =
    either_none (is_program given) (is_mixed given) (is_mixed_start given) (not (is_some (cycles_of cycles))) _ _ (program_none (is_mixed given) _ (cycles_of cycles))
    (run_none (start_by file given) _ (cycles_of cycles)
    ∙ ap (λ b. b || not (is_some (cycles_of cycles))) (started (given.has flag.State) (given.has flag.Tall) (given.has flag.Asm) _ _))

-- the rule that the words of a run break, whose options refuse each other by these pairs
abbrev run_broken : List (Flag × Flag) → Word → Given → Rule Word → Option (Rule Word)
run_broken ps cycles given r =
    option_or (if is_some (cycles_of cycles) then None else Some r) (option_or (needs_source given) (option_map apart (find (both_given given) ps)))

-- They break one exactly where they ask for nothing; what they ask for counts where no source is lacking.
run_refused : (ps : List (Flag × Flag)) (cycles : Word) (given : Given) (r : Rule Word) (asked : Bool → Option Asked) (mixed : Bool)
    → is_none (asked false) ≡ (mixed || not (is_some (cycles_of cycles))) → list_any (both_given given) ps ≡ mixed
    → is_some (run_broken ps cycles given r) ≡ is_none (if lacks_source given then None else asked (lacks_source given))
run_refused ps cycles given r asked mixed none pairs_are = by (lacks_source given)
  where
    by : (b : Bool)
        → is_some (option_or (if is_some (cycles_of cycles) then None else Some r)
        (option_or (if b then Some (rule.Needs flag.Source flag.Asm) else None) (option_map apart (find (both_given given) ps))))
        ≡ is_none (if b then None else asked b)
    by true = read_or_pair (is_some (cycles_of cycles)) r _
    by false =
        read_or_pair (is_some (cycles_of cycles)) r _ ∙ (ap (λ b. b || not (is_some (cycles_of cycles))) (found_pair given ps ∙ pairs_are) ∙ sym none)

-- of a program, or of the language
run_mixed : (given : Given) (rom ram state : Bool) → given.has flag.Rom ≡ rom → given.has flag.Ram ≡ ram → given.has flag.State ≡ state
    → list_any (both_given given) run_pairs ≡ (if is_program given then is_mixed given else is_mixed_start given)
run_mixed given true true state r m s = rw (r, m) refl
run_mixed given true false true r m s = rw (r, m, s) refl
run_mixed given true false false r m s = rw (r, m, s) refl
run_mixed given false true true r m s = rw (r, m, s) refl
run_mixed given false true false r m s = rw (r, m, s) refl
run_mixed given false false state r m s = rw (r, m) refl

either_refused : (file cycles : Word) (given : Given) (shown : Show Word) (program_shown : ProgramShow Word) (r : Rule Word)
    → is_some (run_broken run_pairs cycles given r) ≡ is_none (either_by file cycles given shown program_shown)
either_refused file cycles given shown program_shown r =
    run_refused run_pairs cycles given r (λ lacks. if is_program given then program_by file cycles given program_shown else run_by file cycles given shown) _
    (program_or_run file cycles given shown program_shown) (run_mixed given _ _ _ refl refl refl)

-- of a program's saved state, of a program, or of the language
board_mixed : (given : Given) (rom ram state tall : Bool) → given.has flag.Rom ≡ rom → given.has flag.Ram ≡ ram → given.has flag.State ≡ state
    → given.has flag.Tall ≡ tall
    → list_any (both_given given) board_pairs
    ≡ (if is_program given && given.has flag.State then is_mixed_state given else if is_program given then is_mixed given else is_mixed_start given)
board_mixed given true true true tall r m s t = rw (r, m, s) refl
board_mixed given true true false tall r m s t = rw (r, m, s) refl
board_mixed given true false true true r m s t = rw (r, m, s, t) refl
board_mixed given true false true false r m s t = rw (r, m, s, t) refl
board_mixed given true false false tall r m s t = rw (r, m, s) refl
board_mixed given false true true true r m s t = rw (r, m, s, t) refl
board_mixed given false true true false r m s t = rw (r, m, s, t) refl
board_mixed given false true false tall r m s t = rw (r, m, s) refl
board_mixed given false false state tall r m s t = rw (r, m) refl

any_refused : (file cycles : Word) (given : Given) (shown : Show Word) (board_shown : BoardShow Word) (r : Rule Word)
    → is_some (run_broken board_pairs cycles given r) ≡ is_none (any_by file cycles given shown board_shown)
any_refused file cycles given shown board_shown r =
    run_refused board_pairs cycles given r
    (λ lacks. if is_program given && given.has flag.State then resumed_by file cycles given board_shown
    else if lacks then None else if is_program given then program_by file cycles given (program.Board board_shown) else run_by file cycles given shown) _
    (either_none (is_program given && given.has flag.State) (is_mixed_state given) _ _ _ _ (program_none (is_mixed_state given) _ (cycles_of cycles))
    (program_or_run file cycles given shown (program.Board board_shown)))
    (board_mixed given _ _ _ _ refl refl refl refl)

-- the sources that the program has in it
built_in_pairs : {S : Type 0} (sender receiver tall : Bool) (x y z : S) (f : S → Asked)
    → ((sender && receiver) || ((sender && tall) || ((receiver && tall) || false)))
    ≡ is_none (option_map f (if sender then (if receiver || tall then None else Some x) else if receiver then (if tall then None else Some y) else Some z))
built_in_pairs true true tall x y z f = refl
built_in_pairs true false true x y z f = refl
built_in_pairs true false false x y z f = refl
built_in_pairs false true true x y z f = refl
built_in_pairs false true false x y z f = refl
built_in_pairs false false tall x y z f = refl

-- two registers
registers_refused : (file : Word) (e : Entry) (word : Word) (p k : ℕ)
    → is_some (option_or (same_number word (Some p) (Some k)) None) ≡ is_none (two_registers file e p k)
registers_refused file e word p k = by (p == k)
  where
    by : (b : Bool) → is_some (option_or (if b then Some (rule.Same word) else None) None) ≡ is_none (if b then None else Some (request.Text (text.Timing e p k) file))
    by true = refl
    by false = refl

routine_refused : (file : Word) (e : Option Entry) (word : Word) (p k : Option ℕ) (q r s : Rule Word)
    → is_some (option_or (if is_some e then (if is_some p then (if is_some k then None else Some s) else Some r) else Some q) (option_or (same_number word p k) None))
    ≡ is_none (option_and_then (λ e. option_and_then (λ m. option_and_then (λ n. two_registers file e m n) k) p) e)
routine_refused file None word p k q r s = refl
routine_refused file (Some e) word None k q r s = refl
routine_refused file (Some e) word (Some p) None q r s = refl
routine_refused file (Some e) word (Some p) (Some k) q r s = registers_refused file e word p k

-- a verb that doesn't stand alone takes as many words in any case
always : (alone : Bool) (n : ℕ) → (if alone && false then 0 else n) ≡ n
always true n = refl
always false n = refl

help_refused : (alone : Bool) (given : Given) → length given.positional ≡ places_of (row verb.Help) alone → Refuses verb.Help given
help_refused true given n = none (λ ws. is_some (broken_by verb.Help ws given) ≡ is_none (help_by ws)) refl given.positional n
help_refused false given n = one (λ ws. is_some (broken_by verb.Help ws given) ≡ is_none (help_by ws)) (λ word. one_read (verb_of word) _ _) given.positional n

verb_refused : (v : Verb) (alone : Bool) (given : Given) → is_why v ≡ false → length given.positional ≡ places_of (row v) alone → Refuses v given
verb_refused verb.Trace alone given named n =
    two (λ ws. is_some (broken_by verb.Trace ws given) ≡ is_none (trace_by ws given))
    (λ file cycles. either_refused file cycles given (show.Plain (Trace (columns_by given))) program.Trace (rule.Misread due.Cycles cycles)) given.positional (n ∙ always alone 2)
verb_refused verb.Play alone given named n =
    two (λ ws. is_some (broken_by verb.Play ws given) ≡ is_none (play_by ws given))
    (λ file cycles. either_refused file cycles given (show.Plain Pictures) program.Pictures (rule.Misread due.Cycles cycles)) given.positional (n ∙ always alone 2)
verb_refused verb.Debug alone given named n =
    three (λ ws. is_some (broken_by verb.Debug ws given) ≡ is_none (debug_by ws given)) (λ file cycles commands.
    any_refused file cycles given (show.Commands commands (given.has flag.Echo) (columns_by given)) (board.Commands commands (given.has flag.Echo))
    (rule.Misread due.Cycles cycles)) given.positional
    (n ∙ always alone 3)
verb_refused verb.Save alone given named n =
    two (λ ws. is_some (broken_by verb.Save ws given) ≡ is_none (save_by ws given))
    (λ file cycles. any_refused file cycles given (show.Plain State) board.State (rule.Misread due.Cycles cycles)) given.positional
    (n ∙ always alone 2)
verb_refused verb.Profile alone given named n =
    two (λ ws. is_some (broken_by verb.Profile ws given) ≡ is_none (profile_by ws given))
    (λ file cycles. either_refused file cycles given (show.Plain Profile) program.Profile (rule.Misread due.Cycles cycles))
    given.positional (n ∙ always alone 2)
verb_refused verb.Resume alone given named n =
    two (λ ws. is_some (broken_by verb.Resume ws given) ≡ is_none (resume_by ws given)) (λ file cycles. one_read (cycles_of cycles) _ _) given.positional (n ∙ always alone 2)
verb_refused verb.Demo alone given named n =
    two (λ ws. is_some (broken_by verb.Demo ws given) ≡ is_none (demo_by ws)) (λ number cycles. two_read (seed_of number) (cycles_of cycles) _ _ _) given.positional
    (n ∙ always alone 2)
verb_refused verb.Digest alone given named n =
    two (λ ws. is_some (broken_by verb.Digest ws given) ≡ is_none (digest_by ws)) (λ file cycles. one_read (cycles_of cycles) _ _) given.positional (n ∙ always alone 2)
verb_refused verb.Link alone given named n =
    three (λ ws. is_some (broken_by verb.Link ws given) ≡ is_none (link_by ws)) (λ file moves number. two_read (moves_of moves) (seed_of number) _ _ _) given.positional
    (n ∙ always alone 3)
verb_refused verb.Asm alone given named n =
    one (λ ws. is_some (broken_by verb.Asm ws given)
    ≡ is_none (option_map (λ file. request.Text (text.Asm (isa_by (given.has flag.Chip8)) (given.has flag.Raw)) file) (file_by ws))) (λ file. refl) given.positional
    (n ∙ always alone 1)
verb_refused verb.Check alone given named n =
    one (λ ws. is_some (broken_by verb.Check ws given) ≡ is_none (check_by (isa_by (given.has flag.Chip8)) ws)) (λ file. refl) given.positional (n ∙ always alone 1)
verb_refused verb.List alone given named n =
    one (λ ws. is_some (broken_by verb.List ws given) ≡ is_none (option_map (λ file. request.Text (text.List (isa_by (given.has flag.Chip8))) file) (file_by ws)))
    (λ file. refl) given.positional (n ∙ always alone 1)
verb_refused verb.Dis alone given named n =
    two (λ ws. is_some (broken_by verb.Dis ws given) ≡ is_none (dis_by (isa_by (given.has flag.Chip8)) ws))
    (λ file at. one_read (place_of (isa_by (given.has flag.Chip8)) at) _ _) given.positional (n ∙ always alone 2)
verb_refused verb.Source alone given named n =
    none (λ ws. is_some (broken_by verb.Source ws given) ≡ is_none (source_by ws given))
    (found_pair given (pairs verb.Source) ∙ built_in_pairs (given.has flag.Sender) (given.has flag.Receiver) (given.has flag.Tall) _ _ _ _) given.positional
    (n ∙ always alone 0)
verb_refused verb.Bounds alone given named n =
    none (λ ws. is_some (broken_by verb.Bounds ws given) ≡ is_none (bounds_by ws)) refl given.positional (n ∙ always alone 0)
verb_refused verb.Cycles alone given named n =
    two (λ ws. is_some (broken_by verb.Cycles ws given) ≡ is_none (within_by ws given)) (λ file certificate. refl) given.positional (n ∙ always alone 2)
verb_refused verb.Timing alone given named n =
    all_four (λ ws. is_some (broken_by verb.Timing ws given) ≡ is_none (timing_by ws))
    (λ file entry p k. routine_refused file (entry_of entry) k (register_of p) (register_of k) _ _ _) given.positional (n ∙ always alone 4)
verb_refused verb.Safe alone given named n =
    two (λ ws. is_some (broken_by verb.Safe ws given) ≡ is_none (safe_by ws given)) (λ game certificate. refl) given.positional (n ∙ always alone 2)
verb_refused verb.Certify alone given named n =
    one (λ ws. is_some (broken_by verb.Certify ws given)
    ≡ is_none (option_map (λ game. request.Certify (code_by (given.has flag.Asm) false game) (edition_by (given.has flag.Tall))) (file_by ws))) (λ game. refl)
    given.positional (n ∙ always alone 1)
verb_refused verb.Help alone given named n = help_refused alone given n
verb_refused verb.Version alone given named n =
    none (λ ws. is_some (broken_by verb.Version ws given) ≡ is_none (version_by ws)) refl given.positional (n ∙ always alone 0)
verb_refused verb.Why alone given named n = absurd (cc)

-- ---- the words

abbrev gives : Verb → List Word → Option Given
gives v words = given_by (places_of (row v) (is_alone words)) (row v).options words

abbrev whole : List Word → Given
whole words = record { positional = positional_words false words; keys = keys_value words; has = λ flag. is_given (flag_option flag) words }

count : (places : ℕ) (options words : List Word) → is_accepted places options words ≡ true → length (positional_words false words) ≡ places
count places options words fit =
    let known = list_all (is_known options) words in
    let values = has_values false words in
    let once = list_all (is_once words) every_option in
    let counted = length (positional_words false words) == places in
    eqb-true (length (positional_words false words)) places
    (both_true once counted (both_true values (once && counted) (both_true known (values && (once && counted)) fit).1).1).1

behind_by : (v : Verb) (words : List Word) → is_why v ≡ false → (b : Bool) → is_accepted (places_of (row v) (is_alone words)) (row v).options words ≡ b
    → is_some (broken_behind v words (if b then Some (whole words) else None)) ≡ is_none (option_and_then (asked_of_verb v) (if b then Some (whole words) else None))
behind_by v words named true fit =
    verb_refused v (is_alone words) (whole words) named (count (places_of (row v) (is_alone words)) (row v).options words fit)
behind_by v words named false fit =
    form_refused (row v).options (names_of (row v) (is_alone words)) words
    ∙ ap not (ap (λ n. is_accepted n (row v).options words) (as_many (row v) (is_alone words)) ∙ fit)

behind_refused : (v : Verb) (words : List Word) → is_why v ≡ false
    → is_some (broken_behind v words (gives v words)) ≡ is_none (option_and_then (asked_of_verb v) (gives v words))
behind_refused v words named = behind_by v words named (is_accepted (places_of (row v) (is_alone words)) (row v).options words) refl

after_refused : (word : Word) (words : List Word) (v : Option Verb)
    → is_some (broken_after word words v) ≡ is_none (option_and_then (asked_behind words) v)
after_refused word words None = refl
after_refused word words (Some v) = by (is_why v) refl
  where
    by : (b : Bool) → is_why v ≡ b
        → is_some (if b then None else option_map (broken.Of v) (broken_behind v words (gives v words)))
        ≡ is_none (if b then Some (request.Own (own.Why words)) else option_and_then (asked_of_verb v) (gives v words))
    by true is = refl
    by false is = some_map (broken.Of v) (broken_behind v words (gives v words)) ∙ behind_refused v words is

pub each_refused_by_rule : RefusedByRule
each_refused_by_rule [] = refl
each_refused_by_rule (word ∷ words) = after_refused word words (verb_of word)
