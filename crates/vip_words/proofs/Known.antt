-- The words that a verb knows.
use Rattle.std.proofs.Common.{◌≡◌, ap, refl, List, [], ◌∷◌, Bool, true, false, Bor, String, map, string_bytes}
use Rattle.std.specs.List.{list_all, list_any}
use Rattle.std.specs.Prelude.{◌&&◌, ◌||◌, bytes_eq}
use Rattle.clap.specs.Walk.{Text}
use Rattle.vip_words.specs.Rules.{every_option, is_known, is_option, is_plain}
use Rattle.vip_words.proofs.Rows.{both_true, same_bytes}

-- the options behind references are those that they point to
pub options_known : (word : Text) (options : List (Bor Text))
    → list_any (λ option. bytes_eq word option.now) options ≡ list_any (bytes_eq word) (map (λ option. option.now) options)
options_known word [] = refl
options_known word (option ∷ options) = ap (λ b. bytes_eq word option.now || b) (options_known word options)

pub strings_known : {Z : Type 0} (options : List Text) (words : List (String Z))
    → list_all (λ word. is_known options (string_bytes word)) words ≡ list_all (is_known options) (map string_bytes words)
strings_known options [] = refl
strings_known options (word ∷ words) = ap (λ b. is_known options (string_bytes word) && b) (strings_known options words)

-- options of a verb are options of the program
option_of_all : (word : Text) (options : List (Bor Text)) → list_all (λ option. is_option option.now) options ≡ true
    → list_any (bytes_eq word) (map (λ option. option.now) options) ≡ true → is_option word ≡ true
option_of_all word [] all among = cc
option_of_all word (option ∷ options) all among =
    let parts = both_true (is_option option.now) (list_all (λ option. is_option option.now) options) all in
    elim (bytes_eq word option.now) as (λ b. bytes_eq word option.now ≡ b
    → (b || list_any (bytes_eq word) (map (λ option'. option'.now) options)) ≡ true → is_option word ≡ true) [
      | true ↦ λ same _. rw (same_bytes word option.now same) parts.0
      | false ↦ λ _ others. option_of_all word options parts.1 others
    ] refl among

pub known_of_all : (options : List (Bor Text)) → list_all (λ option. is_option option.now) options ≡ true → (words : List Text)
    → list_all (is_known (map (λ option. option.now) options)) words ≡ true → list_all (is_known every_option) words ≡ true
known_of_all options all [] known = refl
known_of_all options all (word ∷ words) known =
    let own = is_known (map (λ option. option.now) options) in
    let parts = both_true (own word) (list_all own words) known in
    rw (by_plain (is_plain word) refl parts.0) (known_of_all options all words parts.1)
  where
    by_plain : (b : Bool) → is_plain word ≡ b → is_known (map (λ option. option.now) options) word ≡ true
        → is_known every_option word ≡ true
    by_plain true plain own = rw plain refl
    by_plain false other own = rw (other, option_of_all word options all (rw other at own)) refl
