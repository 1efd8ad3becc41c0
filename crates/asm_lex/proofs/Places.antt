-- The places of a line's parts.
use Rattle.std.proofs.Common.{◌≡◌, ◌+◌, ◌-◌, ◌<◌, ◌≤◌, ℕ, refl, List, [], ◌∷◌, ◌++◌, length, take, sym, ◌∙◌, ap, arith, true, false, Bool, Bor, Some, None, Option}
use Rattle.std.specs.Prelude.{◌==◌, IfSome, MatchBool}
use Rattle.std.specs.Option.{option_map, option_map_or}
use Rattle.std.proofs.lemmas.List.{length-take, take_at}
use Rattle.std.proofs.lemmas.Bool.{cond-false, ne_eqb}
use Rattle.asm_lex.specs.Cuts.{parts_of}
use Rattle.std.specs.List.{slice_split}
use Rattle.asm_lex.specs.declared.shape.Span.{Span}
use Rattle.asm_lex.specs.declared.shape.Place.{Place}
use Rattle.asm_lex.specs.Culprits.{first_part, part_place}
use Rattle.asm_lex.specs.Bytes.{is_comma}
use Rattle.asm_lex.specs.Spans.{text_at}
use Rattle.asm_lex.specs.Places.{visible_span, part_spans, spans_in}

-- the operands that are left
abbrev pub rest_spans : List ℕ → Option Span → List Span
rest_spans line None = []
rest_spans line (Some rest) = part_spans rest.from (slice_split is_comma (text_at line rest))

pub spans_in-some : (from : ℕ) (text : List ℕ) → 0 < length text → part_spans from (slice_split is_comma text) ≡ spans_in from text
spans_in-some from text there = sym (cond-false (length text == 0) [] (part_spans from (slice_split is_comma text)) (ne_eqb (length text) 0 (λ e. omega arith)))

-- one more operand
pub rest_spans-step : (line : List ℕ) (whole first operand : Span) (more : Option Span)
    → slice_split is_comma (text_at line whole) ≡ text_at line first ∷ parts_of is_comma (option_map (text_at line) more)
    → operand ≡ visible_span first.to (text_at line first) → length (text_at line first) ≡ first.to - first.from
    → first.from ≡ whole.from → first.from ≤ first.to → IfSome more (λ rest. rest.from ≡ first.to + 1)
    → operand ∷ rest_spans line more ≡ rest_spans line (Some whole)
rest_spans-step line whole first operand None parts same count from order next =
    let end : whole.from + length (text_at line first) ≡ first.to = omega (arith, count, from, order) in
    ap (λ span. span ∷ []) same ∙ ap (λ to. visible_span to (text_at line first) ∷ []) (sym end) ∙ ap (part_spans whole.from) (sym parts)
rest_spans-step line whole first operand (Some rest) parts same count from order next =
    let end : whole.from + length (text_at line first) ≡ first.to = omega (arith, count, from, order) in
    let behind : rest.from ≡ whole.from + length (text_at line first) + 1 = omega (arith, end, next) in
    ap (λ span. span ∷ part_spans rest.from (slice_split is_comma (text_at line rest))) same
    ∙ ap (λ to. visible_span to (text_at line first) ∷ part_spans rest.from (slice_split is_comma (text_at line rest))) (sym end)
    ∙ ap (λ to. visible_span (whole.from + length (text_at line first)) (text_at line first) ∷ part_spans to (slice_split is_comma (text_at line rest))) behind
    ∙ ap (part_spans whole.from) (sym parts)

pub span-is : (span : Span) (from to : ℕ) → span.from ≡ from → span.to ≡ to → span ≡ record { from = from; to = to }
span-is span from to a b =
    let f : ℕ → Span = λ n. record { from = n; to = span.to } in
    let g : ℕ → Span = λ n. record { from = from; to = n } in
    ap f a ∙ ap g b

-- the first elements of a list
pub first_ones : {X : Type 0} (n : ℕ) (xs ys all : List X) → length xs ≡ n → xs ++ ys ≡ all → xs ≡ take n all
first_ones n xs ys all count e = sym (ap (take n) (sym e) ∙ take_at xs ys n count)

-- where the parts that are left begin
place-moved : (before count : ℕ) (found : Option (ℕ × List ℕ))
    → part_place before (option_map (λ found. (count + 1 + found.0, found.1)) found) ≡ part_place (before + (count + 1)) found
place-moved before count None = refl
place-moved before count (Some found) =
    let f : ℕ → Option Place = λ n. Some (record { from = n; to = n + length found.1 }) in
    let moved : before + (count + 1 + found.0) ≡ before + (count + 1) + found.0 = omega arith in
    ap f moved

pub place-next : (p : List ℕ → Bool) (before : ℕ) (part : List ℕ) (parts : List (List ℕ)) → p part ≡ false
    → part_place (before + (length part + 1)) (first_part p parts) ≡ part_place before (first_part p (part ∷ parts))
place-next p before part parts other =
    sym (ap (part_place before) (cond-false (p part) (Some (0, part)) (option_map (λ found. (length part + 1 + found.0, found.1)) (first_part p parts)) other)
    ∙ place-moved before (length part) (first_part p parts))

pub within-next : (more : Option (Bor (List ℕ))) (part left : List ℕ) (k before most : ℕ) → part ≡ take k left
    → IfSome more (λ rest. length part + 1 + length rest.now ≡ length left) → before + (length left + 1) ≤ most
    → before + (length part + 1) + option_map_or (λ (rest : Bor (List ℕ)). length rest.now + 1) more 0 ≤ most
within-next None part left k before most e fits low = omega (arith, ap length e, length-take k left)
within-next (Some rest) part left k before most e fits low = omega arith

-- at most 128 operands are all
pub all_texts : (all : Bool) (texts operands : List (List ℕ)) → MatchBool all (texts ≡ operands) (128 < length operands) → length operands ≤ 128
    → texts ≡ operands
all_texts true texts operands same few = same
all_texts false texts operands many few = absurd (omega arith)
