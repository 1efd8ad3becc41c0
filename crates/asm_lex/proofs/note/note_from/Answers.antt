use Rattle.std.proofs.Common.{arith}
use Rattle.asm_lex.proofs.note.note_from.Goals as goal

pub overflow_add-from : goal.overflow_add-from
overflow_add-from c = omega (arith, c.from.ensures, c.line_spans.ensures.word_within.in_order, c.line_spans.ensures.word_within.inside, c.requires)

pub overflow_add-to : goal.overflow_add-to
overflow_add-to c = omega (arith, c.instruction_end.ensures.within, c.requires)
