-- What is asked for, from the row of a verb and what the words after it give.
use Rattle.std.proofs.Common.{Bor, ◌≡◌, ◌∙◌, ◌<◌, ap, ap₂, sym, refl, List, [], ◌∷◌, Bool, true, false, Option, Some, None, Result, Ok, Err, String, arith, drop, length, map, string_bytes}
use Rattle.std.specs.Prelude.{IfErr, IfOk, IsErrOf, if◌then◌else◌, ok_or, option_and_then, option_map, slice_get, ◌==◌}
use Rattle.vip_words.specs.Asked.{asked_behind, asked_by, asked_of_verb, why_of}
use Rattle.vip_words.specs.Broken.{broken_after, broken_behind, broken_form, broken_words, first_broken, names_of}
use Rattle.vip_words.specs.Given.{given_of}
use Rattle.vip_words.specs.Request.{Asked, asked_of}
use Rattle.vip_words.specs.Rules.{Given, Word, given_by}
use Rattle.vip_words.specs.Table.{is_alone, is_why, places_of, row, verb_of}
use Rattle.vip_words.specs.Usage.{row_of}
use Rattle.vip_words.specs.declared.given.WordsFail.{WordsFail}
use Rattle.vip_words.specs.declared.given.WordsFail.TheVariants.{NoMemory, Refused}
use Rattle.vip_words.specs.declared.request.Request.{Request}
use Rattle.vip_words.specs.declared.table.Row.{Row}
use Rattle.vip_words.specs.declared.table.Usage.{Usage}
use Rattle.vip_words.specs.declared.table.Verb.{Verb}

-- the verb stands alone where no other word does
alone-is : {Z : Type 0} (words : List (String Z)) → 0 < length words → (length words == 1) ≡ is_alone (map string_bytes (drop 1 words))
alone-is [] some = absurd (omega arith)
alone-is (w ∷ []) some = refl
alone-is (w ∷ other ∷ rest) some = grind arith

some_words : {Z : Type 0} (words : List (String Z)) (word : String Z) → Some word ≡ slice_get words 0 → 0 < length words
some_words [] word first = absurd (cc)
some_words (w ∷ words) word first = omega arith

-- words are the first and those behind it
split : {Z : Type 0} (words : List (String Z)) (word : String Z) → Some word ≡ slice_get words 0
    → map string_bytes words ≡ string_bytes word ∷ map string_bytes (drop 1 words)
split [] word first = absurd (cc)
split (w ∷ words) word first = let same : w ≡ word = cc in ap (λ w. string_bytes w ∷ map string_bytes words) same

-- the places and the options of a usage are those of the row of its verb
pub given_after : {Z : Type 0} (words : List (String Z)) (v : Verb) (r : Row) (usage : Usage) (given : Option Given)
    → 0 < length words → row_of r ≡ row v → usage.places ≡ places_of (row_of r) (length words == 1) → usage.options ≡ r.options
    → given_of usage (map string_bytes (drop 1 words)) ≡ given
    → given_by (places_of (row v) (is_alone (map string_bytes (drop 1 words)))) (row v).options (map string_bytes (drop 1 words)) ≡ given
given_after words v r usage given some rows places options gives =
    let rest : List Word = map string_bytes (drop 1 words) in
    let as_many : usage.places ≡ places_of (row v) (is_alone rest) = places ∙ ap₂ places_of rows (alone-is words some) in
    let the_same : map (λ option. option.now) usage.options.now ≡ (row v).options =
    ap (λ o. map (λ option. option.now) o.now) options ∙ ap (λ row. row.options) rows in
    ap₂ (λ places options. given_by places options rest) (sym as_many) (sym the_same) ∙ gives

-- what is asked for is what the verb that the first word spells asks for with those behind it
pub asked_of_first : {Z : Type 0} (words : List (String Z)) (word : String Z) (text : Word) (v : Verb)
    → Some word ≡ slice_get words 0 → text ≡ string_bytes word → Some v ≡ verb_of text
    → asked_by (map string_bytes words) ≡ asked_behind (map string_bytes (drop 1 words)) v
asked_of_first words word text v first is spells =
    ap asked_by (split words word first)
    ∙ ap (option_and_then (asked_behind (map string_bytes (drop 1 words)))) (ap verb_of (sym is) ∙ sym spells)

-- the same where it isn't `why`, by what the words give
pub asked_after : {Z : Type 0} (words : List (String Z)) (word : String Z) (text : Word) (v : Verb) (r : Row) (usage : Usage) (given : Option Given)
    → Some word ≡ slice_get words 0 → text ≡ string_bytes word → Some v ≡ verb_of text → is_why v ≡ false
    → row_of r ≡ row v → usage.places ≡ places_of (row_of r) (length words == 1) → usage.options ≡ r.options
    → given_of usage (map string_bytes (drop 1 words)) ≡ given
    → asked_by (map string_bytes words) ≡ option_and_then (asked_of_verb v) given
asked_after words word text v r usage given first is spells named rows places options gives =
    let rest : List Word = map string_bytes (drop 1 words) in
    asked_of_first words word text v first is spells
    ∙ (ap (λ (b : Bool). if b then Some (why_of rest) else option_and_then (asked_of_verb v) (given_by (places_of (row v) (is_alone rest)) (row v).options rest))
    named
    ∙ ap (option_and_then (asked_of_verb v)) (given_after words v r usage given (some_words words word first) rows places options gives))

-- what is made of the words behind `why` is asked for
pub why_after : {Z : Type 0} (words : List (String Z)) (word : String Z) (text : Word) (v : Verb)
    → Some word ≡ slice_get words 0 → text ≡ string_bytes word → Some v ≡ verb_of text → is_why v ≡ true
    → asked_by (map string_bytes words) ≡ Some (why_of (map string_bytes (drop 1 words)))
why_after words word text v first is spells named =
    let rest : List Word = map string_bytes (drop 1 words) in
    asked_of_first words word text v first is spells
    ∙ ap (λ (b : Bool). if b then Some (why_of rest) else option_and_then (asked_of_verb v) (given_by (places_of (row v) (is_alone rest)) (row v).options rest))
    named

-- the rule that is named is one of the verb that the first word spells
pub broken_of_first : {Z : Type 0} (words : List (String Z)) (word : String Z) (text : Word) (v : Option Verb)
    → Some word ≡ slice_get words 0 → text ≡ string_bytes word → v ≡ verb_of text
    → first_broken (map string_bytes words) ≡ broken_after text (map string_bytes (drop 1 words)) v
broken_of_first words word text v first is spells =
    ap first_broken (split words word first)
    ∙ ap₂ (λ w v. broken_after w (map string_bytes (drop 1 words)) v) (sym is) (ap verb_of (sym is) ∙ sym spells)

-- the rule of what the words give
pub given_broken : {Z : Type 0} (words : List (String Z)) (v : Verb) (r : Row) (usage : Usage) (given : Option Given)
    → 0 < length words → row_of r ≡ row v → usage.places ≡ places_of (row_of r) (length words == 1) → usage.options ≡ r.options
    → given_of usage (map string_bytes (drop 1 words)) ≡ given
    → broken_words v (map string_bytes (drop 1 words)) ≡ broken_behind v (map string_bytes (drop 1 words)) given
given_broken words v r usage given some rows places options gives =
    ap (broken_behind v (map string_bytes (drop 1 words))) (given_after words v r usage given some rows places options gives)

-- the rule of the form of words that give nothing
pub form_broken : {Z : Type 0} (words behind : List (String Z)) (v : Verb) (r : Row) (usage : Usage) (names : List Word)
    → 0 < length words → row_of r ≡ row v → usage.places ≡ places_of (row_of r) (length words == 1) → usage.options ≡ r.options
    → given_of usage (map string_bytes (drop 1 words)) ≡ None → names ≡ names_of (row_of r) (length words == 1) → behind ≡ drop 1 words
    → broken_form (row_of r).options names (map string_bytes behind) ≡ broken_words v (map string_bytes (drop 1 words))
form_broken words behind v r usage names some rows places options gives names_are behind_is =
    let rest : List Word = map string_bytes (drop 1 words) in
    ap (λ ws. broken_form (row_of r).options names (map string_bytes ws)) behind_is
    ∙ (ap₂ (λ row names. broken_form row.options names rest) rows (names_are ∙ ap₂ names_of rows (alone-is words some))
    ∙ sym (given_broken words v r usage None some rows places options gives))

pub read_is_asked : (read : Option (Request (Bor Word))) (asked : Option Asked) → asked ≡ option_map asked_of read
    → IfOk (ok_or read Refused) (λ request. asked ≡ Some (asked_of request))
read_is_asked None asked is = tt
read_is_asked (Some request) asked is = is

pub refused_is_not_asked : (read : Option (Request (Bor Word))) (asked : Option Asked) → asked ≡ option_map asked_of read
    → IsErrOf (ok_or read Refused) Refused → asked ≡ None
refused_is_not_asked None asked is refused = is
refused_is_not_asked (Some request) asked is refused = absurd (cc)

-- what is made of the words behind `why` is asked for, or there was no memory for it
pub why_is_asked : (read : Result (Request (Bor Word)) WordsFail) (asked : Option Asked) (words : List Word)
    → IfOk read (λ request. asked_of request ≡ why_of words) → asked ≡ Some (why_of words) → IfOk read (λ request. asked ≡ Some (asked_of request))
why_is_asked (Ok request) asked words is same = same ∙ ap (λ a. Some a) (sym is)
why_is_asked (Err fail) asked words is same = tt

pub why_is_not_refused : (read : Result (Request (Bor Word)) WordsFail) (asked : Option Asked)
    → IfErr read (λ fail. fail ≡ NoMemory) → IsErrOf read Refused → asked ≡ None
why_is_not_refused (Ok request) asked memory refused = absurd (cc)
why_is_not_refused (Err fail) asked memory refused = absurd (cc)
