-- What pass 1 finds of a line, by what stands in it.
use Rattle.std.proofs.Common.{◌≡◌, ℕ, List, ◌++◌, ◌∙◌, ap, arith, true, false, Some, None, Option, Ok, Err, suc}
use Rattle.std.specs.Prelude.{is_some, IfSome}
use Rattle.std.specs.Option.{option_to_list}
use Rattle.std.specs.List.{list_any}
use Rattle.std.proofs.lemmas.Bool.{cond-true, cond-false}
use Rattle.asm_lex.specs.declared.shape.Span.{Span}
use Rattle.asm_lex.specs.declared.shape.LexFault.{LexFault}
use Rattle.asm_lex.specs.Expressions.{has_large_number}
use Rattle.asm_lex.specs.Spans.{IsWithin, AreWithin}
use Rattle.asm_lex.specs.Lines.{Parsed, parsed}
use Rattle.asm_core.specs.declared.fault.AsmCause.TheVariants.{Duplicate}
use Rattle.asm_lex.specs.declared.shape.Isa.{Isa}
use Rattle.asm_lex.specs.Names.{Names}
use Rattle.asm_core.specs.Layout.{cause_of, from_parts, laid_parts, laid_out, label_from, label_in, is_duplicate, judged, placed}

module _ (isa : Isa) (names : Names) (at : ℕ) (line : List ℕ) where
  pub laid_out-fault : (fault : LexFault) → parsed isa names line ≡ Err fault → laid_out isa names at line ≡ Err (cause_of fault)
  unfolding laid_out
  laid_out-fault fault e = ap (from_parts (laid_parts isa names at)) e

  laid_out-parts : (parts : Parsed) → parsed isa names line ≡ Ok parts → laid_out isa names at line ≡ laid_parts isa names at parts
  unfolding laid_out
  laid_out-parts parts e = ap (from_parts (laid_parts isa names at)) e

  pub laid_out-duplicate : (parts : Parsed) → parsed isa names line ≡ Ok parts → is_duplicate names parts.label ≡ true
      → laid_out isa names at line ≡ Err Duplicate
  unfolding laid_parts
  laid_out-duplicate parts e twice =
      laid_out-parts parts e ∙ cond-true (is_duplicate names parts.label) (Err Duplicate)
      (judged isa (is_some parts.label) (list_any (has_large_number isa) parts.operands) (placed isa names at parts.word parts.operands)) twice

  pub laid_out-judged : (parts : Parsed) → parsed isa names line ≡ Ok parts → is_duplicate names parts.label ≡ false
      → laid_out isa names at line ≡ judged isa (is_some parts.label) (list_any (has_large_number isa) parts.operands)
      (placed isa names at parts.word parts.operands)
  unfolding laid_parts
  laid_out-judged parts e new =
      laid_out-parts parts e ∙ cond-false (is_duplicate names parts.label) (Err Duplicate)
      (judged isa (is_some parts.label) (list_any (has_large_number isa) parts.operands) (placed isa names at parts.word parts.operands)) new

pub label_in-parts : (isa : Isa) (names : Names) (line : List ℕ) (parts : Parsed) → parsed isa names line ≡ Ok parts
    → label_in isa names line ≡ parts.label
unfolding label_in
label_in-parts isa names line parts e = ap label_from e

-- the spans of a line lie in it
pub label_within : (line : List ℕ) (label : Option Span) (operands : List Span) → AreWithin line (option_to_list label ++ operands)
    → IfSome label (IsWithin line)
label_within line None operands all = tt
label_within line (Some label) operands all = all 0 label (omega arith)

pub operands_within : (line : List ℕ) (label : Option Span) (operands : List Span) → AreWithin line (option_to_list label ++ operands) → AreWithin line operands
operands_within line None operands all = all
operands_within line (Some label) operands all = λ k d below. all (suc k) d (omega arith)
