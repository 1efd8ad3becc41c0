-- The byte on the bus in an instruction that names a port.
use Rattle.std.proofs.Common.{◌≡◌, ◌≢◌, ℕ, ◌+◌, ◌%◌, ◌<◌, ◌++◌, List, sym, ap, subst, ◌∙◌, refl}
use Rattle.std.specs.Prelude.{Some, codes}
use Rattle.machine.specs.declared.Kind.{Kind}
use Rattle.machine.specs.declared.Kind.TheVariants.{Out, Inp}
use Rattle.machine.specs.Bank.{get, value, word_of, up}
use Rattle.machine.specs.Board.{Machine, byte_of, opcode_of}
use Rattle.machine.specs.Instruction.{Regs, Inputs, at, operand, stepped, effect, inputs}
use Rattle.machine.specs.Instruction.Port.{Send, Receive}
use Rattle.machine.specs.Keys.{Keys}
use Rattle.machine.specs.Opcodes.{kind_of, opcode_number}
use Rattle.vip_byte.specs.HexText.{hex2}
use Rattle.vip_cpu.proofs.Words.{value_word_of, word_of_next}
use Rattle.machine.proofs.Registers.{get_put, get_put_other}
use Rattle.vip_program.specs.Lines.{bus_text, effect_in, flag_in, named_text, names_at}
use Rattle.vip_program.specs.Names.{names_in}
use Rattle.vip_program.specs.declared.names.Names.TheVariants.{Output, Input}

-- R(X) behind the fetch, where it was a: one more where X = P, and as before elsewhere
module _ (s : Regs) (x p a : ℕ) (x-is : x ≡ s.x) (p-is : p ≡ s.p) (x-below : x < 16) (p-below : p < 16) (word : get s.r x ≡ word_of a) where
  pointer : get s.r s.x ≡ word_of a
  pointer = ap (get s.r) (sym x-is) ∙ word

  pub fetched-same : x ≡ p → at (stepped s s.p) s.x ≡ (a + 1) % 65536
  fetched-same same =
      ap (at (stepped s s.p)) counter
      ∙ ap value (get_put s.r s.p (up (get s.r s.p)) (subst (λ n. n < 16) p-is p-below))
      ∙ ap (λ n. value (up (get s.r n))) (sym counter)
      ∙ ap (λ w. value (up w)) pointer
      ∙ ap value (sym (word_of_next a))
      ∙ value_word_of ((a + 1) % 65536)
    where
      counter : s.x ≡ s.p
      counter = sym x-is ∙ same ∙ p-is

  pub fetched-other : x ≢ p → at (stepped s s.p) s.x ≡ a
  fetched-other other =
      ap value (get_put_other s.r s.p s.x (up (get s.r s.p)) (subst (λ n. n < 16) p-is p-below) (subst (λ n. n < 16) x-is x-below) apart ∙ pointer)
      ∙ value_word_of a
    where
      apart : s.x ≢ s.p
      apart same = other (x-is ∙ same ∙ sym p-is)

-- OUT and no other instruction names a port to send to, and INP one to take from
sends : (k : Kind) (n port : ℕ) (s : Regs) (i : Inputs) → names_in k n ≡ Output port → (effect k n s i).port ≡ Some (Send n (operand s i))
sends Out n port s i e = refl
sends _ n port s i e = cc

receives : (k : Kind) (n port : ℕ) (s : Regs) (i : Inputs) → names_in k n ≡ Input port → (effect k n s i).port ≡ Some (Receive n)
receives Inp n port s i e = refl
receives _ n port s i e = cc

loads : (k : Kind) (n port : ℕ) (s : Regs) (i : Inputs) → names_in k n ≡ Input port → (effect k n s i).regs.d ≡ i.taken
loads Inp n port s i e = refl
loads _ n port s i e = cc

module _ (rom : List ℕ) (held : ℕ → Keys) (b : Machine) (port : ℕ) where
  abbrev fetched : Regs
  fetched = stepped b.regs b.regs.p

  abbrev given : Inputs
  given = inputs fetched (byte_of rom b) (flag_in held b) 0

  abbrev kind : Kind
  kind = kind_of (opcode_of rom b)

  abbrev number : ℕ
  number = opcode_number (opcode_of rom b)

  pub sent-text : Output port ≡ names_at (opcode_of rom b) → named_text rom held (Output port) b ≡ codes "  BUS " ++ hex2 (byte_of rom b (at fetched b.regs.x))
  unfolding names_at
  sent-text e = ap (λ action. bus_text action (effect_in rom held b).regs) (sends kind number port fetched given (sym e))

  pub taken-text : Input port ≡ names_at (opcode_of rom b) → named_text rom held (Input port) b ≡ codes "  BUS 00"
  unfolding names_at
  taken-text e =
      ap (λ action. bus_text action (effect_in rom held b).regs) (receives kind number port fetched given (sym e))
      ∙ ap (λ byte. codes "  BUS " ++ hex2 byte) (loads kind number port fetched given (sym e))
