-- Words that are gone through one by one.
use Rattle.std.proofs.Common.{◌≡◌, ◌∙◌, ◌++◌, ap, ap₂, sym, refl, ℕ, suc, ◌+◌, ◌-◌, ◌<◌, List, [], ◌∷◌, Bool, true, String, add-one, arith, drop, drop-cons, get_or, length, length-drop, map, string_bytes, take}
use Rattle.std.proofs.lemmas.List.{map-append, take_all, take_more}
use Rattle.std.specs.List.{list_any}
use Rattle.std.specs.Prelude.{bytes_eq, if◌then◌else◌, not, ◌||◌}
use Rattle.vip_words.specs.Rules.{Word, is_given, is_once}

-- all the words from one on
pub rest_is : {T : Type 0} (words : List T) (i : ℕ) → take (length words - i) (drop i words) ≡ drop i words
rest_is words i = take_all (length words - i) (drop i words) (simp length-drop (omega arith))

pub given_strings : {Z : Type 0} (option : Word) (words : List (String Z))
    → list_any (λ word. bytes_eq (string_bytes word) option) words ≡ is_given option (map string_bytes words)
given_strings option [] = refl
given_strings option (word ∷ words) = ap (λ b. bytes_eq (string_bytes word) option || b) (given_strings option words)

-- an option that is found is among the words once where it isn't among those behind it
pub once_found : {Z : Type 0} (words : List (String Z)) (i : ℕ) (word : String Z) (option : Word) (again : Bool) → i < length words
    → word ≡ get_or words i word → bytes_eq (string_bytes word) option ≡ true
    → again ≡ list_any (λ word. bytes_eq (string_bytes word) option) (take (length words - (i + 1)) (drop (i + 1) words))
    → is_once (map string_bytes (drop i words)) option ≡ not again
once_found words i word option again below is same among =
    let behind : List Word = map string_bytes (drop (suc i) words) in
    ap (λ ws. is_once (map string_bytes ws) option) (drop-cons words i word below)
    ∙ (ap (λ w. is_once (string_bytes w ∷ behind) option) (sym is)
    ∙ (ap (λ (b : Bool). if b then not (is_given option behind) else is_once behind option) same
    ∙ ap not (sym (given_strings option (drop (suc i) words))
    ∙ (ap (λ n. list_any (λ word. bytes_eq (string_bytes word) option) (drop n words)) (sym (add-one i))
    ∙ (ap (list_any (λ word. bytes_eq (string_bytes word) option)) (sym (rest_is words (i + 1))) ∙ sym among)))))

-- one more word is copied
pub copied_more : {Y Z : Type 0} (copies : List (String Y)) (copy : String Y) (words : List (String Z)) (i : ℕ) (word : String Z)
    → map string_bytes copies ≡ map string_bytes (take i words) → i < length words → word ≡ get_or words i word → string_bytes copy ≡ string_bytes word
    → map string_bytes (copies ++ copy ∷ []) ≡ map string_bytes (take (i + 1) words)
copied_more copies copy words i word so_far below is same =
    map-append string_bytes copies (copy ∷ [])
    ∙ (ap₂ (λ xs x. xs ++ x ∷ []) so_far (same ∙ ap string_bytes is)
    ∙ (sym (map-append string_bytes (take i words) (get_or words i word ∷ [])) ∙ ap (map string_bytes) (sym (take_more words i word below))))
