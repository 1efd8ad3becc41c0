use Rattle.std.proofs.Common.{◌≡◌, ◌+◌, ℕ, suc, List, [], Option, refl, sym, ap, ◌∙◌, arith}
use Rattle.asm_lex.specs.declared.shape.Isa.{Isa}
use Rattle.asm_lex.specs.declared.shape.SymbolValue.{SymbolValue}
use Rattle.asm_lex.specs.Names.{Names, value_in}
use Rattle.asm_core.specs.declared.findings.Finding.{Finding}
use Rattle.asm_core.specs.Fixed.{fixed_next, fixed_before}
use Rattle.asm_core.specs.Sources.{source_lines, line_at}
use Rattle.asm_core.specs.Told.{told}
use Rattle.asm_core.proofs.PassOne.{line_here, no_line}
use Rattle.asm_core.proofs.fixed.fixed_names.Goals as goal

fixed_before-none : (isa : Isa) (source : List (List ℕ)) (table : List (List ℕ × SymbolValue)) → table ≡ [] → (name : List ℕ)
    → value_in table name ≡ fixed_before isa source 0 name
unfolding fixed_before
fixed_before-none isa source table e name = ap (λ (table : List (List ℕ × SymbolValue)). value_in table name) e

fixed_before-more : (isa : Isa) (source : List (List ℕ)) (number : ℕ)
    → fixed_before isa source (number + 1) ≡ fixed_next isa (fixed_before isa source number) (line_at source number) (told isa source number)
unfolding fixed_before
fixed_before-more isa source number = let step : number + 1 ≡ suc number = omega arith in ap (fixed_before isa source) step

pub loop-line-init : goal.loop-line-init
loop-line-init c = record {
  rest = refl;
  inside = omega arith;
  fixed = fixed_before-none c.args.isa (source_lines c.args.text.now) c.new-names.result c.new-names.ensures;
  few = omega arith;
}

pub told_at-told-requires : goal.told_at-told-requires
told_at-told-requires c =
    let source = source_lines c.args.text.now in
    let here = line_here source c.loop-line.number c.in-Some.line.now (source_lines c.in-Some.more.now)
    (sym c.loop-line.invariant.rest ∙ c.in-Some.ensures.lines) in
    omega (arith, c.requires.told.count, here.0)

pub loop-line-preserved : goal.loop-line-preserved
loop-line-preserved c =
    let source = source_lines c.args.text.now in
    let isa = c.args.isa in
    let number = c.loop-line.number in
    let line = c.in-Some.line.now in
    let here = line_here source number line (source_lines c.in-Some.more.now) (sym c.loop-line.invariant.rest ∙ c.in-Some.ensures.lines) in
    let finding : c.told_at-told.result ≡ told isa source number = c.told_at-told.ensures ∙ c.requires.told.each number here.0 in
    let so_far : value_in c.loop-line.names ≡ fixed_before isa source number = λ j name. c.loop-line.invariant.fixed name j in
    record {
      rest = sym here.2;
      inside = omega (arith, here.0);
      fixed = λ name.
          c.in_ok-fix_right.ensures name
          ∙ ap (λ (names : Names). fixed_next isa names line c.told_at-told.result name) so_far
          ∙ ap (λ (found : Option Finding). fixed_next isa (fixed_before isa source number) line found name) finding
          ∙ ap (λ line. fixed_next isa (fixed_before isa source number) line (told isa source number) name) (sym here.1)
          ∙ ap (λ (names : Names). names name) (sym (fixed_before-more isa source number));
      few = omega (arith, c.in-Some.ensures.shorter, c.loop-line.invariant.few);
    }

pub returns : goal.returns
returns c =
    let source = source_lines c.args.text.now in
    let all = no_line source c.loop-line.number (sym c.loop-line.invariant.rest ∙ c.in_default.ensures.lines) c.loop-line.invariant.inside in
    let so_far : value_in c.loop-line.names ≡ fixed_before c.args.isa source c.loop-line.number = λ j name. c.loop-line.invariant.fixed name j in
    so_far ∙ ap (fixed_before c.args.isa source) all
