-- The values of hexadecimal numbers that stand as operands.
use Rattle.std.proofs.Common.{◌≡◌, ◌+◌, ◌*◌, ◌/◌, ◌%◌, ◌<◌, ◌≤◌, ℕ, refl, Bool, List, [], ◌∷◌, length, ◌∙◌, ap, arith, true, false, Some, None, Option, Ok, Err, cond, pos, ◌+ℤ◌, leb, eqb, eqb-true}
use Rattle.std.specs.Prelude.{◌&&◌, ◌||◌, not, is_some, is_none, nat_lt, fold, unwrap_or, slice_index}
use Rattle.std.specs.Option.{option_map_or}
use Rattle.std.specs.List.{list_all, list_any}
use Rattle.std.specs.Char.{digit_value}
use Rattle.std.specs.Str.Parse.{digits_value}
use Rattle.std.proofs.lemmas.Bool.{cond-true, cond-false, and_from, le-ltb, le-leb, lt-ltb}
use Rattle.vip_byte.proofs.WrittenLemmas.{digit_is}
use Rattle.vip_byte.specs.HexText.{hex_digit, hex2, hex4}
use Rattle.vip_isa.proofs.Below.{at-passes_below}
use Rattle.asm_lex.specs.declared.shape.ValueFault.TheVariants.{Undefined, Range}
use Rattle.asm_lex.specs.Bytes.{is_name}
use Rattle.asm_lex.specs.Expressions.{is_prefix, is_here, is_term, signed_terms, number_in, hexadecimal_of, binary_of, written_value, is_expression, is_large, has_large_number, term_value, has_undefined, with_term, sum_of, value_of}
use Rattle.asm_lex.proofs.Splits.{signed_whole}
use Rattle.asm_lex.specs.declared.shape.Isa.{Isa}
use Rattle.asm_lex.specs.declared.shape.Isa.TheVariants.{Cdp1802, Chip8}
use Rattle.asm_lex.specs.Names.{Names, number_named, register_named, names_register, is_number}
use Rattle.asm_core.specs.Names.{within, operand_value}
use Rattle.asm_listing.proofs.Plain.{is_plain, IsPlain, one_term, whole_sum, plain_prefix, plain_signs}

-- the sixteen digits
pub found : (o : Option ℕ) (n : ℕ) → option_map_or (λ m. eqb m n) o false ≡ true → o ≡ Some n
found None n e = absurd (cc)
found (Some m) n e = ap Some (eqb-true m n e)

pub digit_plain : (n : ℕ) → n < 16 → is_plain (hex_digit n) ≡ true
digit_plain n below = at-passes_below (λ n. is_plain (hex_digit n)) 16 refl n below

abbrev pub hex_text : List ℕ → List ℕ
hex_text digits = 48 ∷ 120 ∷ digits

pub byte_plain : (b : ℕ) → b < 256 → IsPlain (hex_text (hex2 b))
byte_plain b below =
    and_from _ _ refl (and_from _ _ refl (and_from _ _ (digit_plain (b / 16) (omega arith)) (and_from _ _ (digit_plain (b % 16) (omega arith)) refl)))

pub word_plain : (w : ℕ) → w < 65536 → IsPlain (hex_text (hex4 w))
word_plain w below =
    and_from _ _ refl (and_from _ _ refl
    (and_from _ _ (digit_plain (w / 256 / 16) (omega arith)) (and_from _ _ (digit_plain (w / 256 % 16) (omega arith))
    (and_from _ _ (digit_plain (w % 256 / 16) (omega arith)) (and_from _ _ (digit_plain (w % 256 % 16) (omega arith)) refl)))))

-- a text of hexadecimal digits that begins with 0x is the number that they write
no_digits : (b : Bool) (v : ℕ) → cond {A = Option ℕ} (b && false) (Some v) None ≡ None
no_digits true v = refl
no_digits false v = refl

hex_number : (isa : Isa) (digits : List ℕ) (value : ℕ) → number_in 16 digits ≡ Some value → written_value isa (hex_text digits) ≡ Some value
unfolding written_value number_in
hex_number isa digits value e =
    let none : number_in 10 (hex_text digits) ≡ None = no_digits (nat_lt 0 (length (hex_text digits))) (digits_value 10 (hex_text digits)) in
    let rest : Option ℕ → Option ℕ = λ o. cond (is_some o) o (binary_of isa (hex_text digits)) in
    ap (λ o. cond (is_some o) o (rest (hexadecimal_of (hex_text digits)))) none ∙ ap rest e

abbrev from_two : ℕ → ℕ → Option ℕ
from_two a b = cond (nat_lt 0 2 && (nat_lt a 16 && (nat_lt b 16 && true))) (Some ((0 * 16 + a) * 16 + b)) None

two_digits : (x y a b v : ℕ) → digit_value x ≡ a → digit_value y ≡ b → a < 16 → b < 16 → a * 16 + b ≡ v → number_in 16 (x ∷ y ∷ []) ≡ Some v
unfolding number_in
two_digits x y a b v ex ey low_a low_b e =
    ap (λ d. from_two d (digit_value y)) ex ∙ ap (from_two a) ey
    ∙ cond-true (nat_lt 0 2 && (nat_lt a 16 && (nat_lt b 16 && true))) (Some ((0 * 16 + a) * 16 + b)) None
    (and_from _ _ refl (and_from _ _ (lt-ltb a 16 low_a) (and_from _ _ (lt-ltb b 16 low_b) refl)))
    ∙ ap Some (omega (arith, e))

byte_digits : (b : ℕ) → b < 256 → number_in 16 (hex2 b) ≡ Some b
byte_digits b below =
    two_digits (hex_digit (b / 16)) (hex_digit (b % 16)) (b / 16) (b % 16) b (digit_is (b / 16) (omega arith)) (digit_is (b % 16) (omega arith))
    (omega arith) (omega arith) (omega arith)

abbrev from_four : ℕ → ℕ → ℕ → ℕ → Option ℕ
from_four a b c d =
    cond (nat_lt 0 4 && (nat_lt a 16 && (nat_lt b 16 && (nat_lt c 16 && (nat_lt d 16 && true))))) (Some ((((0 * 16 + a) * 16 + b) * 16 + c) * 16 + d)) None

four_digits : (x y z u a b c d v : ℕ) → digit_value x ≡ a → digit_value y ≡ b → digit_value z ≡ c → digit_value u ≡ d → a < 16 → b < 16 → c < 16 → d < 16
    → ((a * 16 + b) * 16 + c) * 16 + d ≡ v → number_in 16 (x ∷ y ∷ z ∷ u ∷ []) ≡ Some v
unfolding number_in
four_digits x y z u a b c d v ex ey ez eu low_a low_b low_c low_d e =
    ap (λ k. from_four k (digit_value y) (digit_value z) (digit_value u)) ex ∙ ap (λ k. from_four a k (digit_value z) (digit_value u)) ey
    ∙ ap (λ k. from_four a b k (digit_value u)) ez ∙ ap (from_four a b c) eu
    ∙ cond-true (nat_lt 0 4 && (nat_lt a 16 && (nat_lt b 16 && (nat_lt c 16 && (nat_lt d 16 && true)))))
    (Some ((((0 * 16 + a) * 16 + b) * 16 + c) * 16 + d)) None
    (and_from _ _ refl (and_from _ _ (lt-ltb a 16 low_a)
    (and_from _ _ (lt-ltb b 16 low_b) (and_from _ _ (lt-ltb c 16 low_c) (and_from _ _ (lt-ltb d 16 low_d) refl)))))
    ∙ ap Some (omega (arith, e))

word_digits : (w : ℕ) → w < 65536 → number_in 16 (hex4 w) ≡ Some w
word_digits w below =
    four_digits (hex_digit (w / 256 / 16)) (hex_digit (w / 256 % 16)) (hex_digit (w % 256 / 16)) (hex_digit (w % 256 % 16)) (w / 256 / 16)
    (w / 256 % 16) (w % 256 / 16) (w % 256 % 16) w
    (digit_is (w / 256 / 16) (omega arith)) (digit_is (w / 256 % 16) (omega arith)) (digit_is (w % 256 / 16) (omega arith))
    (digit_is (w % 256 % 16) (omega arith))
    (omega arith) (omega arith) (omega arith) (omega arith) (omega arith)

one_digit : (n : ℕ) → n < 16 → number_in 16 (hex_digit n ∷ []) ≡ Some n
unfolding number_in
one_digit n below = found _ n (at-passes_below (λ n. option_map_or (λ m. eqb m n) (number_in 16 (hex_digit n ∷ [])) false) 16 refl n below)

pub digit_text_plain : (n : ℕ) → n < 16 → IsPlain (hex_text (hex_digit n ∷ []))
digit_text_plain n below = and_from _ _ refl (and_from _ _ refl (and_from _ _ (digit_plain n below) refl))

pub byte_number : (isa : Isa) (b : ℕ) → b < 256 → written_value isa (hex_text (hex2 b)) ≡ Some b
byte_number isa b below = hex_number isa (hex2 b) b (byte_digits b below)

pub word_number : (isa : Isa) (w : ℕ) → w < 65536 → written_value isa (hex_text (hex4 w)) ≡ Some w
word_number isa w below = hex_number isa (hex4 w) w (word_digits w below)

pub digit_number : (isa : Isa) (n : ℕ) → n < 16 → written_value isa (hex_text (hex_digit n ∷ [])) ≡ Some n
digit_number isa n below = hex_number isa (hex_digit n ∷ []) n (one_digit n below)

sum_is : (v : ℕ) → (pos 0 +ℤ pos v) ≡ pos v
sum_is v = ap pos (omega arith)

in_range : (v most : ℕ) → v ≤ most → within most (Ok (pos v)) ≡ Ok v
in_range v most low = cond-true (leb 0 v && leb v most) (Ok v) (Err Range) (and_from _ _ (le-leb 0 v (omega arith)) (le-leb v most low))

some_is : (o : Option ℕ) (v : ℕ) → o ≡ Some v → is_some o ≡ true
some_is o v e = ap is_some e

-- names, of which no one has a value
abbrev pub no_names : Names
no_names name = None

no_register : (isa : Isa) (o : List ℕ) → IsPlain o → 0 < length o → names_register isa no_names o ≡ false
unfolding names_register
no_register Cdp1802 o plain there = refl
no_register Chip8 o plain there = ap (list_any (λ term. is_some (register_named no_names term))) (one_term o plain there)

-- a plain text that is a number
module _ (isa : Isa) (o : List ℕ) (plain : IsPlain o) (there : 0 < length o) (v : ℕ) (is : written_value isa o ≡ Some v) where
  number_expression : is_expression isa o ≡ true
  unfolding is_expression
  number_expression =
      ap (list_all (is_term isa)) (one_term o plain there)
      ∙ ap (λ n. (is_some n || (is_here o || is_name isa o)) && true) is

  pub one_number : is_number isa no_names o ≡ true
  unfolding is_number
  one_number = and_from _ _ number_expression (ap not (no_register isa o plain there))

  module _ (low : v ≤ 65535) where
    pub small_number : has_large_number isa o ≡ false
    unfolding has_large_number
    small_number =
        ap (list_any (is_large isa)) (one_term o plain there)
        ∙ ap (λ n. option_map_or (λ number. nat_lt 65535 number) n false || false) is
        ∙ ap (λ b. b || false) (le-ltb 65535 v low)

    module _ (names : List ℕ → Option ℕ) (here : ℕ) where
      term_is : term_value isa names here o ≡ Some v
      unfolding term_value
      term_is = cond-true (is_some (written_value isa o)) (written_value isa o) (cond (is_here o) (Some here) (names o)) (some_is (written_value isa o) v is)
          ∙ is

      defined : has_undefined isa names here o ≡ false
      defined = ap (list_any (λ term. is_none (term_value isa names here term))) (one_term o plain there) ∙ ap (λ t. is_none t || false) term_is

      sum_value : sum_of isa names here o ≡ pos v
      unfolding sum_of
      sum_value =
          ap (λ s. fold (with_term isa names here) (pos 0) (signed_terms 43 s)) (whole_sum o plain there)
          ∙ ap (fold (with_term isa names here) (pos 0)) (signed_whole 43 o (plain_signs o plain))
          ∙ ap (λ t. pos 0 +ℤ pos (unwrap_or t 0)) term_is
          ∙ sum_is v

      number_value : value_of isa names here o ≡ Ok (pos v)
      unfolding value_of
      number_value =
          cond-false (has_undefined isa names here o) (Err Undefined) _ defined
          ∙ cond-false (has_large_number isa o) (Err Range) _ small_number
          ∙ cond-false (is_prefix (slice_index o 0)) _ (Ok (sum_of isa names here o)) (plain_prefix o plain there)
          ∙ ap Ok sum_value

    pub number_operand : (names : Names) (here most : ℕ) → v ≤ most → operand_value isa names here most o ≡ Ok v
    unfolding operand_value
    number_operand names here most bound = ap (within most) (number_value (number_named names) here) ∙ in_range v most bound
