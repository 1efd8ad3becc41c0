-- Words ask for a run of at most as many cycles as a run may have.
use Rattle.std.proofs.Common.{◌≡◌, ℕ, ◌≤◌, Bool, true, false, List, [], ◌∷◌, Option, Some, None, length, refl, subst}
use Rattle.std.specs.Prelude.{◌&&◌, ◌==◌, if◌then◌else◌, nat_lt, not, option_and_then, option_map, Result, Ok, Err}
use Rattle.std.specs.Result.{result_ok}
use Rattle.std.specs.Str.Parse.{digits_value}
use Rattle.std.proofs.lemmas.Bool.{ltb-false}
use Rattle.asm_lex.specs.declared.shape.Isa.{Isa}
use Rattle.vip_byte.specs.Number.{are_digits, decimal_number, most_cycles, number}
use Rattle.vip_byte.specs.declared.number.NumFault.{NumFault}
use Rattle.vip_byte.specs.declared.number.NumFault.TheVariants.{Empty, BadDigit, TooLarge}
use Rattle.vip_words.specs.Asked.{any_by, asked_behind, asked_by, asked_of_verb, bounds_by, built_in_by, cycles_of, debug_by, demo_by, digest_by, dis_by, either_by, entry_of, file_by, help_by, is_mixed, is_mixed_state, is_program, lacks_source, link_by, moves_of, place_of, play_by, profile_by, program_by, register_of, resume_by, run_by, safe_by, save_by, seed_of, source_by, start_by, timing_by, trace_by, two_registers, version_by, why_of, within_by}
use Rattle.vip_words.specs.Request.{Asked}
use Rattle.vip_words.specs.Rules.{Given, Word, given_by}
use Rattle.vip_words.specs.Table.{is_alone, is_why, places_of, row, verb_of}
use Rattle.vip_words.specs.declared.request.Entry.{Entry}
use Rattle.vip_words.specs.declared.flag.Flag.TheVariants.{State}
use Rattle.vip_words.specs.declared.request.BoardShow.{BoardShow}
use Rattle.vip_words.specs.declared.request.ProgramShow.{ProgramShow}
use Rattle.vip_words.specs.declared.request.ProgramShow.TheVariants.{Board}
use Rattle.vip_words.specs.declared.request.Request.{Request}
use Rattle.vip_words.specs.declared.request.Request.TheVariants.{Program, Resumed, Run}
use Rattle.vip_words.specs.declared.request.Show.{Show}
use Rattle.vip_words.specs.declared.table.Verb.{Verb}
use Rattle.vip_words.specs.declared.table.Verb.TheVariants as verb
use Rattle.vip_tools.specs.Files.{shape_of}

-- the limit of a run, where one is asked for
abbrev pub IsLimited : Request (Unit {0}) → Type 0
IsLimited (Run run) = run.limit ≤ most_cycles
IsLimited (Program run) = run.limit ≤ most_cycles
IsLimited (Resumed run) = run.limit ≤ most_cycles
IsLimited _ = Unit {0}

-- ---- parts of what is asked for

abbrev Limited : Option Asked → Type 0
Limited None = Unit {0}
Limited (Some asked) = IsLimited (shape_of asked)

behind : {A : Type 0} (f : A → Option Asked) (o : Option A) → ((a : A) → Limited (f a)) → Limited (option_and_then f o)
behind f None each = tt
behind f (Some a) each = each a

of_each : {A : Type 0} (f : A → Asked) (o : Option A) → ((a : A) → IsLimited (shape_of (f a))) → Limited (option_map f o)
of_each f None each = tt
of_each f (Some a) each = each a

either : (b : Bool) (x y : Option Asked) → Limited x → Limited y → Limited (if b then x else y)
either true x y here there = here
either false x y here there = there

-- ---- a number of cycles

abbrev IsAtMost : ℕ → Result ℕ NumFault → Type 0
IsAtMost most (Ok n) = n ≤ most
IsAtMost most (Err fault) = Unit {0}

number_most : (base : ℕ) (text : List ℕ) (most : ℕ) → IsAtMost most (number base text most)
unfolding number
number_most base text most = by_test (length text == 0) (not (are_digits base text)) (nat_lt most (digits_value base text)) refl
  where
    by_test :
        (empty bad large : Bool) → nat_lt most (digits_value base text) ≡ large
        → IsAtMost most (if empty then Err Empty else if bad then Err BadDigit else if large then Err TooLarge else Ok (digits_value base text))
    by_test true bad large is = tt
    by_test false true large is = tt
    by_test false false true is = tt
    by_test false false false is = ltb-false most (digits_value base text) is

of_cycles : (f : ℕ → Asked) (word : Word) → ((n : ℕ) → n ≤ most_cycles → IsLimited (shape_of (f n))) → Limited (option_map f (cycles_of word))
of_cycles f word each = by_number (decimal_number word most_cycles) (number_most 10 word most_cycles)
  where
    by_number : (r : Result ℕ NumFault) → IsAtMost most_cycles r → Limited (option_map f (result_ok r))
    by_number (Ok n) few = each n few
    by_number (Err fault) few = tt

-- ---- the verbs

run_limited : (file cycles : Word) (given : Given) (shown : Show Word) → Limited (run_by file cycles given shown)
run_limited file cycles given shown = behind _ (start_by file given) (λ s. of_cycles _ cycles (λ n few. few))

program_limited : (file cycles : Word) (given : Given) (shown : ProgramShow Word) → Limited (program_by file cycles given shown)
program_limited file cycles given shown = either (is_mixed given) None _ tt (of_cycles _ cycles (λ n few. few))

either_limited : (file cycles : Word) (given : Given) (shown : Show Word) (program : ProgramShow Word) → Limited (either_by file cycles given shown program)
either_limited file cycles given shown program =
    either (lacks_source given) None _ tt
    (either (is_program given) _ _ (program_limited file cycles given program) (run_limited file cycles given shown))

any_limited : (file cycles : Word) (given : Given) (shown : Show Word) (board : BoardShow Word) → Limited (any_by file cycles given shown board)
any_limited file cycles given shown board =
    either (lacks_source given) None _ tt
    (either (is_program given && given.has State) _ _ (either (is_mixed_state given) None _ tt (of_cycles _ cycles (λ n few. few)))
    (either_limited file cycles given shown (Board board)))

trace_limited : (words : List Word) (given : Given) → Limited (trace_by words given)
trace_limited (file ∷ cycles ∷ []) given = either_limited file cycles given _ _
trace_limited [] given = tt
trace_limited (file ∷ []) given = tt
trace_limited (file ∷ cycles ∷ more ∷ words) given = tt

play_limited : (words : List Word) (given : Given) → Limited (play_by words given)
play_limited (file ∷ cycles ∷ []) given = either_limited file cycles given _ _
play_limited [] given = tt
play_limited (file ∷ []) given = tt
play_limited (file ∷ cycles ∷ more ∷ words) given = tt

profile_limited : (words : List Word) (given : Given) → Limited (profile_by words given)
profile_limited (file ∷ cycles ∷ []) given = either_limited file cycles given _ _
profile_limited [] given = tt
profile_limited (file ∷ []) given = tt
profile_limited (file ∷ cycles ∷ more ∷ words) given = tt

debug_limited : (words : List Word) (given : Given) → Limited (debug_by words given)
debug_limited (file ∷ cycles ∷ commands ∷ []) given = any_limited file cycles given _ _
debug_limited [] given = tt
debug_limited (file ∷ []) given = tt
debug_limited (file ∷ cycles ∷ []) given = tt
debug_limited (file ∷ cycles ∷ commands ∷ more ∷ words) given = tt

save_limited : (words : List Word) (given : Given) → Limited (save_by words given)
save_limited (file ∷ cycles ∷ []) given = any_limited file cycles given _ _
save_limited [] given = tt
save_limited (file ∷ []) given = tt
save_limited (file ∷ cycles ∷ more ∷ words) given = tt

resume_limited : (words : List Word) (given : Given) → Limited (resume_by words given)
resume_limited (file ∷ cycles ∷ []) given = of_cycles _ cycles (λ n few. few)
resume_limited [] given = tt
resume_limited (file ∷ []) given = tt
resume_limited (file ∷ cycles ∷ more ∷ words) given = tt

demo_limited : (words : List Word) → Limited (demo_by words)
demo_limited (number ∷ cycles ∷ []) = behind _ (seed_of number) (λ n. of_cycles _ cycles (λ c few. few))
demo_limited [] = tt
demo_limited (number ∷ []) = tt
demo_limited (number ∷ cycles ∷ more ∷ words) = tt

digest_limited : (words : List Word) → Limited (digest_by words)
digest_limited (file ∷ cycles ∷ []) = of_each _ (cycles_of cycles) (λ n. tt)
digest_limited [] = tt
digest_limited (file ∷ []) = tt
digest_limited (file ∷ cycles ∷ more ∷ words) = tt

link_limited : (words : List Word) → Limited (link_by words)
link_limited (file ∷ moves ∷ number ∷ []) = behind _ (moves_of moves) (λ m. of_each _ (seed_of number) (λ n. tt))
link_limited [] = tt
link_limited (file ∷ []) = tt
link_limited (file ∷ moves ∷ []) = tt
link_limited (file ∷ moves ∷ number ∷ more ∷ words) = tt

source_limited : (words : List Word) (given : Given) → Limited (source_by words given)
source_limited [] given = of_each _ (built_in_by given) (λ source. tt)
source_limited (word ∷ words) given = tt

bounds_limited : (words : List Word) → Limited (bounds_by words)
bounds_limited [] = tt
bounds_limited (word ∷ words) = tt

within_limited : (words : List Word) (given : Given) → Limited (within_by words given)
within_limited (file ∷ certificate ∷ []) given = tt
within_limited [] given = tt
within_limited (file ∷ []) given = tt
within_limited (file ∷ certificate ∷ more ∷ words) given = tt

safe_limited : (words : List Word) (given : Given) → Limited (safe_by words given)
safe_limited (game ∷ certificate ∷ []) given = tt
safe_limited [] given = tt
safe_limited (game ∷ []) given = tt
safe_limited (game ∷ certificate ∷ more ∷ words) given = tt

dis_limited : (isa : Isa) (words : List Word) → Limited (dis_by isa words)
dis_limited isa (file ∷ at ∷ []) = of_each _ (place_of isa at) (λ place. tt)
dis_limited isa [] = tt
dis_limited isa (file ∷ []) = tt
dis_limited isa (file ∷ at ∷ more ∷ words) = tt

registers_limited : (file : Word) (e : Entry) (p k : ℕ) → Limited (two_registers file e p k)
registers_limited file e p k = either (p == k) None _ tt tt

timing_limited : (words : List Word) → Limited (timing_by words)
timing_limited (file ∷ entry ∷ p ∷ k ∷ []) =
    behind _ (entry_of entry) (λ e. behind _ (register_of p) (λ m. behind _ (register_of k) (λ n. registers_limited file e m n)))
timing_limited [] = tt
timing_limited (file ∷ []) = tt
timing_limited (file ∷ entry ∷ []) = tt
timing_limited (file ∷ entry ∷ p ∷ []) = tt
timing_limited (file ∷ entry ∷ p ∷ k ∷ more ∷ words) = tt

help_limited : (words : List Word) → Limited (help_by words)
help_limited [] = tt
help_limited (word ∷ []) = of_each _ (verb_of word) (λ v. tt)
help_limited (word ∷ more ∷ words) = tt

version_limited : (words : List Word) → Limited (version_by words)
version_limited [] = tt
version_limited (word ∷ words) = tt

verb_limited : (v : Verb) (given : Given) → Limited (asked_of_verb v given)
verb_limited verb.Trace given = trace_limited given.positional given
verb_limited verb.Play given = play_limited given.positional given
verb_limited verb.Debug given = debug_limited given.positional given
verb_limited verb.Save given = save_limited given.positional given
verb_limited verb.Profile given = profile_limited given.positional given
verb_limited verb.Resume given = resume_limited given.positional given
verb_limited verb.Demo given = demo_limited given.positional
verb_limited verb.Digest given = digest_limited given.positional
verb_limited verb.Link given = link_limited given.positional
verb_limited verb.Asm given = of_each _ (file_by given.positional) (λ file. tt)
verb_limited verb.Check given = of_each _ (file_by given.positional) (λ file. tt)
verb_limited verb.List given = of_each _ (file_by given.positional) (λ file. tt)
verb_limited verb.Dis given = dis_limited _ given.positional
verb_limited verb.Source given = source_limited given.positional given
verb_limited verb.Bounds given = bounds_limited given.positional
verb_limited verb.Cycles given = within_limited given.positional given
verb_limited verb.Timing given = timing_limited given.positional
verb_limited verb.Safe given = safe_limited given.positional given
verb_limited verb.Certify given = of_each _ (file_by given.positional) (λ game. tt)
verb_limited verb.Help given = help_limited given.positional
verb_limited verb.Version given = version_limited given.positional
verb_limited verb.Why given = tt

-- ---- the words

behind_limited : (words : List Word) (v : Verb) → Limited (asked_behind words v)
behind_limited words v =
    either (is_why v) (Some (why_of words)) _ tt
    (behind _ (given_by (places_of (row v) (is_alone words)) (row v).options words) (verb_limited v))

all_limited : (words : List Word) → Limited (asked_by words)
all_limited [] = tt
all_limited (word ∷ words) = behind _ (verb_of word) (behind_limited words)

pub asked_limited : (words : List Word) (asked : Asked) → asked_by words ≡ Some asked → IsLimited (shape_of asked)
asked_limited words asked is = subst Limited is (all_limited words)
