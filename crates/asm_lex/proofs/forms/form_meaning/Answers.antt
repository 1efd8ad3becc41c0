use Rattle.std.proofs.Common.{◌≡◌, ◌≤◌, ◌<◌, ◌∙◌, sym, ap, arith, refl, ℕ, Bool, true, false, cond, List, [], ◌∷◌, length, get_or}
use Rattle.std.specs.Prelude.{map}
use Rattle.std.proofs.lemmas.List.{length-map}
use Rattle.asm_lex.specs.declared.shape.Span.{Span}
use Rattle.asm_lex.specs.Names.{Names, value_in}
use Rattle.asm_lex.specs.Spans.{text_at}
use Rattle.asm_lex.specs.Forms.{bare, form_meaning, one_twice, with_operands, written_operands}
use Rattle.chip8_words.specs.declared.code.Op.{Op}
use Rattle.chip8_words.specs.declared.table.Form.{Form}
use Rattle.chip8_words.specs.declared.table.Operand.{Operand}
use Rattle.chip8_words.specs.Table.{operands_of}
use Rattle.asm_lex.proofs.forms.form_meaning.Goals as goal
use Rattle.asm_lex.proofs.forms.form_meaning.Goals.{in_default-via-then-operands-lt1, in_default-via-in-len1+else-is_shift}
use Rattle.asm_lex.proofs.forms.form_meaning.Goals.{in_default-via-else-operands-lt1+else-operands-lt2}

-- operands that aren't one alone stand as they are written, in a shift too
none_twice : (b : Bool) (texts : List (List ℕ)) → length texts < 1 → cond b (one_twice texts) texts ≡ texts
none_twice true [] few = refl
none_twice true (text ∷ texts) few = absurd (omega arith)
none_twice false texts few = refl

more_twice : (b : Bool) (texts : List (List ℕ)) → 2 ≤ length texts → cond b (one_twice texts) texts ≡ texts
more_twice true [] many = absurd (omega arith)
more_twice true (text ∷ []) many = absurd (omega arith)
more_twice true (text ∷ more ∷ texts) many = refl
more_twice false texts many = refl

-- one alone stands for two in a shift
one_alone : (text : Span → List ℕ) (operands : List Span) (d : Span) → 1 ≤ length operands → length operands < 2
    → one_twice (map text operands) ≡ text (get_or operands 0 d) ∷ text (get_or operands 0 d) ∷ []
one_alone text [] d some few = absurd (omega arith)
one_alone text (operand ∷ []) d some few = refl
one_alone text (operand ∷ more ∷ rest) d some few = absurd (omega arith)

-- the operands that are due, taken as those that are written stand for them
as_meant : (names : Names) (form : Form) (op : Op) (due : List Operand) (given texts : List (List ℕ)) → op ≡ bare form → due ≡ operands_of form
    → written_operands form texts ≡ given → with_operands names op due given ≡ form_meaning names form texts
unfolding form_meaning
as_meant names form op due given texts begun all written =
    ap (λ op. with_operands names op due given) begun
    ∙ ap (λ due. with_operands names (bare form) due given) all
    ∙ ap (with_operands names (bare form) (operands_of form)) (sym written)

pub returns-in-len1 : goal.returns-in-len1
unfolding form_meaning
returns-in-len1 c =
    let text = text_at c.args.line.now in
    let operands = c.args.operands.now in
    let given = c.is_shift-is_shift.ensures (map text operands) in
    let twice = ap (λ b. cond b (one_twice (map text operands)) (map text operands)) c.if-is_shift.true in
    let alone = one_alone text operands (record { from = 0; to = 0 }) c.in-len1.len_at_least c.in-len1.len_below in
    cc

pub returns-in_default : goal.returns-in_default
returns-in_default c =
    let text = text_at c.args.line.now in
    let operands = c.args.operands.now in
    let b = c.is_shift-is_shift.result in
    let count : length (map text operands) ≡ length operands = length-map operands text in
    let whole : cond b (one_twice (map text operands)) (map text operands) ≡ map text operands =
    elim c.in_default.branch [
      | in_default-via-then-operands-lt1 w ↦ none_twice b (map text operands) (grind arith)
      | in_default-via-in-len1+else-is_shift w ↦ ap (λ b. cond b (one_twice (map text operands)) (map text operands)) w.if-is_shift.false
      | in_default-via-else-operands-lt1+else-operands-lt2 w ↦ more_twice b (map text operands) (grind arith)
    ] in
    c.with_operands-in_default.ensures
    ∙ as_meant (value_in c.args.names.now) c.args.form c.bare-in_default.result c.operands-due.result.now (map text operands) (map text operands)
    c.bare-in_default.ensures c.operands-due.ensures (c.is_shift-is_shift.ensures (map text operands) ∙ whole)
