use Rattle.std.proofs.Common.{◌∙◌, ap}
use Rattle.asm_lex.specs.Names.{value_at}
use Rattle.asm_lex.proofs.NameTree.{value_in-defined, given_more, none_given}
use Rattle.asm_lex.proofs.names.note_register.Goals as goal

pub returns-in_ok-insert-clause-others : goal.returns-in_ok-insert-clause-others
returns-in_ok-insert-clause-others c = λ names.
    given_more (value_at c.args.registers.now.entries) (value_at c.insert.new.self.entries) names c.in_ok-key.key.items c.args.value
    (λ other. value_in-defined c.args.registers.now.entries c.insert.new.self.entries c.in_ok-key.key c.args.value other
    c.in_ok-insert.ensures.updates.1 c.in_ok-insert.ensures.updates.3)

pub returns-in_ok-insert-clause-name : goal.returns-in_ok-insert-clause-name
returns-in_ok-insert-clause-name c = λ none.
    none_given (value_at c.args.registers.now.entries) (value_at c.insert.new.self.entries) c.in_ok-key.key.items c.args.value
    (λ other. value_in-defined c.args.registers.now.entries c.insert.new.self.entries c.in_ok-key.key c.args.value other
    c.in_ok-insert.ensures.updates.1 c.in_ok-insert.ensures.updates.3)
    (ap (value_at c.insert.new.self.entries) c.in_ok-key.ensures.items ∙ none)
