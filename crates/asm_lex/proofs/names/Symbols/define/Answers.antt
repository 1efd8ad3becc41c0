use Rattle.std.proofs.Common.{◌≡◌, ap, ◌∙◌, ℕ, List, None, Some}
use Rattle.asm_lex.specs.Names.{value_in, value_at, with_name, register_from}
use Rattle.asm_lex.proofs.NameTree.{value_in-defined, values_with, registers_with}
use Rattle.asm_lex.proofs.names.Symbols.define.Goals as goal

pub returns : goal.returns
returns c = λ other.
    value_in-defined c.self.inside.tree.entries c.insert.new.self.entries c.in_ok-key.key c.args.value other
    c.in_ok-insert.ensures.updates.1 c.in_ok-insert.ensures.updates.3
    ∙ ap (λ names. with_name (value_in names) c.in_ok-key.key.items c.args.value other) c.self.view_is
    ∙ ap (λ bytes. with_name (value_in c.args.self.now) bytes c.args.value other) c.in_ok-key.ensures.items

pub invariant_of-self : goal.invariant_of-self
invariant_of-self c = (c.self.invariant.0, c.note_register.ensures.others (value_at c.self.inside.tree.entries) c.self.invariant.1)

pub invariant_of-self-in_err-insert : goal.invariant_of-self-in_err-insert
invariant_of-self-in_err-insert c =
    rw c.in_err-insert.ensures.err (c.self.invariant.0, c.note_register.ensures.others (value_at c.self.inside.tree.entries) c.self.invariant.1)

pub invariant_of-self-2 : goal.invariant_of-self-2
invariant_of-self-2 c =
    let more : (other : List ℕ) → value_at c.insert.new.self.entries other
    ≡ with_name (value_at c.self.inside.tree.entries) c.in_ok-key.key.items c.args.value other =
    λ other. value_in-defined c.self.inside.tree.entries c.insert.new.self.entries c.in_ok-key.key c.args.value other
    c.in_ok-insert.ensures.updates.1 c.in_ok-insert.ensures.updates.3 in
    let registers = value_at c.note_register.new.registers.entries in
    let noted : registers c.in_ok-key.key.items ≡ None → register_from (Some c.args.value) ≡ None =
    rw c.in_ok-key.ensures.items c.in_ok-note_register.ensures.name in (
      values_with (value_at c.self.inside.tree.entries) (value_at c.insert.new.self.entries) c.in_ok-key.key.items c.args.value c.self.invariant.0
          c.requires more,
      registers_with registers (value_at c.self.inside.tree.entries) (value_at c.insert.new.self.entries) c.in_ok-key.key.items c.args.value
          (c.note_register.ensures.others (value_at c.self.inside.tree.entries) c.self.invariant.1) noted more,
    )
