-- What is shown for each option that takes no word by a test of all.
use Rattle.std.proofs.Common.{◌≡◌, ◌∙◌, ap, sym, refl, subst, ℕ, zero, suc, List, [], ◌∷◌, Bool, true, false, not, get_or}
use Rattle.std.specs.List.{list_all, list_any}
use Rattle.std.specs.Prelude.{◌||◌, bytes_eq, if◌then◌else◌}
use Rattle.clap.specs.Walk.{Text}
use Rattle.vip_words.specs.Rules.{every_flag, flag_name, flag_option}
use Rattle.vip_words.specs.declared.flag.Flag.{Flag}
use Rattle.vip_words.specs.declared.flag.Flag.TheVariants.{At}
use Rattle.vip_words.proofs.Rows.{both_true, same_bytes}

-- the new flag has this name
abbrev pub is_flag : Flag → Flag → Bool
is_flag new flag = bytes_eq (flag_name new) (flag_name flag)

-- where a name stands among those of these flags
abbrev place_of : Text → List Flag → ℕ
place_of name [] = 0
place_of name (flag ∷ flags) = if bytes_eq (flag_name flag) name then 0 else suc (place_of name flags)

abbrev flag_named : Text → Flag
flag_named name = get_or every_flag (place_of name every_flag) At

named_back : (flag : Flag) → flag_named (flag_name flag) ≡ flag
named_back At = refl
named_back _ = refl

-- no two flags have one name
pub same_flag : (new flag : Flag) → is_flag new flag ≡ true → flag ≡ new
same_flag new flag same =
    sym (named_back flag) ∙ (ap flag_named (sym (same_bytes (flag_name new) (flag_name flag) same)) ∙ named_back new)

all_at : (test : Flag → Bool) (flags : List Flag) (k : ℕ) (d : Flag) → list_all test flags ≡ true → test d ≡ true → test (get_or flags k d) ≡ true
all_at test [] k d all first = first
all_at test (f ∷ fs) zero d all first = (both_true (test f) (list_all test fs) all).0
all_at test (f ∷ fs) (suc k) d all first = all_at test fs k d (both_true (test f) (list_all test fs) all).1 first

-- what holds of every flag in the list holds of each
pub all_flags : (test : Flag → Bool) → list_all test every_flag ≡ true → (flag : Flag) → test flag ≡ true
all_flags test all flag =
    subst (λ f. test f ≡ true) (named_back flag) (all_at test every_flag (place_of (flag_name flag) every_flag) At all (both_true (test At) _ all).0)

-- what fails for one flag fails for all together
pub one_flag_fails : (test : Flag → Bool) (flag : Flag) → test flag ≡ false → list_all test every_flag ≡ false
one_flag_fails test flag fails = by_all (list_all test every_flag) refl
  where
    by_all : (b : Bool) → list_all test every_flag ≡ b → list_all test every_flag ≡ false
    by_all false none = none
    by_all true all = let holds = all_flags test all flag in cc

-- what holds of no flag in the list holds of none
pub no_flag : (test : Flag → Bool) → list_all (λ flag. not (test flag)) every_flag ≡ true → (flag : Flag) → test flag ≡ false
no_flag test none flag = not_true (test flag) (all_flags (λ flag'. not (test flag')) none flag)
  where
    not_true : (b : Bool) → not b ≡ true → b ≡ false
    not_true false h = refl
    not_true true h = cc

-- a word that is one of the options is a flag's
pub flag_among : (word : Text) (flags : List Flag) → list_any (λ flag. bytes_eq word (flag_option flag)) flags ≡ true
    → (flag : Flag) × (word ≡ flag_option flag)
flag_among word [] among = cc
flag_among word (flag ∷ flags) among =
    elim (bytes_eq word (flag_option flag)) as (λ b. bytes_eq word (flag_option flag) ≡ b
    → (b || list_any (λ flag'. bytes_eq word (flag_option flag')) flags) ≡ true → (flag' : Flag) × (word ≡ flag_option flag')) [
      | true ↦ λ same _. (flag, same_bytes word (flag_option flag) same)
      | false ↦ λ _ others. flag_among word flags others
    ] refl among
