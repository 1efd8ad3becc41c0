use Rattle.std.proofs.Common.{◌≡◌, ◌∙◌, ap, refl, inl, inr, bit_or}
use Rattle.std.specs.Prelude.{◌==◌}
use Rattle.std.proofs.lemmas.Nat.{or_comm}
use Rattle.machine.specs.Memory.{mapped_address}
use Rattle.vip_memory.proofs.latch.Latch.place.Goals as goal

pub returns : goal.returns
returns c =
    let a = c.args.address in
    (elim c.self.invariant as (λ _. bit_or a c.self.inside.bits ≡ mapped_address (c.self.inside.bits == 0x8000) a) [
      | inl none ↦ rw none (or_comm a 0)
      | inr set ↦ rw set refl
    ])
    ∙ ap (λ set. mapped_address set a) c.self.view_is
