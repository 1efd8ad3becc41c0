-- A file of a machine state has one edition, and one that is accepted has no fault.
use Rattle.std.proofs.Common.{◌≡◌, ℕ, ◌<◌, List, refl, sym, ◌∙◌, subst, arith, Err}
use Rattle.chip8_lang.specs.declared.view.Edition.{Edition}
use Rattle.chip8_lang.specs.declared.view.Edition.TheVariants.{Usual, Tall}
use Rattle.vip_text.specs.StateFile.{edition_byte, IsAccepted, IsMachine, Judges}
use Rattle.vip_text.specs.declared.fault.StateFault.{StateFault}
use Rattle.vip_text.specs.declared.fault.StateFault.TheVariants.{BadLength, BadHead, BadEdition, BadCycle, BadMachine}

by_byte : (d e : Edition) → edition_byte d ≡ edition_byte e → d ≡ e
by_byte Usual Usual h = refl
by_byte Usual Tall h = absurd (cc)
by_byte Tall Usual h = absurd (cc)
by_byte Tall Tall h = refl

pub one_edition : (d e : Edition) (f : List ℕ) → IsAccepted d f → IsAccepted e f → d ≡ e
one_edition d e f a b = by_byte d e (sym a.edition ∙ b.edition)

not_above : (e : Edition) → 1 < edition_byte e → ⊥
not_above Usual h = omega (arith, h)
not_above Tall h = omega (arith, h)

pub accepted_or_not : (e : Edition) (f : List ℕ) (fault : StateFault) → IsAccepted e f → Judges f (Err fault) → ⊥
accepted_or_not e f BadLength a h = h a.size
accepted_or_not e f BadHead a h = h.1 a.begins
accepted_or_not e f BadEdition a h = not_above e (subst (λ n. 1 < n) a.edition h.2)
accepted_or_not e f BadCycle a h = h.3 a.cycle
accepted_or_not e f BadMachine a h = h.5 (subst (λ e. IsMachine e f) (by_byte e h.3 (sym a.edition ∙ h.4)) a.machine)
