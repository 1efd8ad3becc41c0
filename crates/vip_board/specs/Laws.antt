-- The laws of a bus, for the wires of the board: a write changes no byte but the one at its address, and an input none. The proofs stand
-- here, and not in proofs/, since the `impl` of a trait takes its laws from specs/ alone.
use Rattle.std.proofs.Common.{◌≡◌, ◌≢◌, ◌⊎◌, inl, inr, ℕ, zero, suc, List, [], ◌∷◌, ◌-◌, Bool, true, false, cond, nat_lt, nat_le, slice_index, slice_set, refl, ap, ◌∙◌, get_or-set_other}
use Rattle.std.proofs.Math.Bool.{◌&&◌}
use Rattle.machine.specs.Instruction.Port.{Receive}
use Rattle.machine.specs.Memory.{read, written}
use Rattle.vip_board.specs.Wired.{after_port, after_write}
use Rattle.vip_board.specs.declared.wires.Wires.{Wires}

written-other : (latch : Bool) (ram : List ℕ) (a v k : ℕ) → k ≢ a → slice_index (written latch ram a v) k ≡ slice_index ram k
unfolding written
written-other true ram a v k h = refl
written-other false ram a v k h =
    elim (nat_lt a 4096) as (λ b. slice_index (cond b (slice_set ram a v) ram) k ≡ slice_index ram k)
    [ true ↦ get_or-set_other ram a k v 0 h | false ↦ refl ]

-- a write changes what no other address reads
pub read-keeps : (ram rom : List ℕ) (latch : Bool) (a v k : ℕ) → k ≢ a → read rom latch (written latch ram a v) k ≡ read rom latch ram k
unfolding read written
read-keeps ram rom true a v k h = refl
read-keeps ram rom false a v k h = rw (written-other false ram a v k h)

same_or_put : (ram : List ℕ) (a v : ℕ) → (slice_index (slice_set ram a v) a ≡ v) ⊎ (slice_index (slice_set ram a v) a ≡ slice_index ram a)
same_or_put [] a v = inr refl
same_or_put (x ∷ xs) zero v = inl refl
same_or_put (x ∷ xs) (suc a) v = same_or_put xs a v

puts : (ram rom : List ℕ) (latch : Bool) (a v : ℕ)
    → (read rom latch (written latch ram a v) a ≡ v) ⊎ (read rom latch (written latch ram a v) a ≡ read rom latch ram a)
unfolding read written
puts ram rom true a v = inr refl
puts ram rom false a v =
    elim (nat_lt a 4096) as (λ b. (cond b (slice_index (cond b (slice_set ram a v) ram) a)
    (cond (nat_le 32768 a && nat_lt a 34816) (slice_index rom (a - 32768)) 255) ≡ v)
    ⊎ (cond b (slice_index (cond b (slice_set ram a v) ram) a) (cond (nat_le 32768 a && nat_lt a 34816) (slice_index rom (a - 32768)) 255)
    ≡ cond b (slice_index ram a) (cond (nat_le 32768 a && nat_lt a 34816) (slice_index rom (a - 32768)) 255)))
    [ true ↦ same_or_put ram a v | false ↦ inr refl ]

pub write-keeps : {K : Type 0} (b : Wires K) (a v : ℕ) (c : Wires K) → c ≡ after_write a v b → (k : ℕ) → k ≢ a
    → read c.memory.rom c.memory.latch c.memory.ram k ≡ read b.memory.rom b.memory.latch b.memory.ram k
write-keeps b a v c e k h = ap (λ (w : Wires _). read w.memory.rom w.memory.latch w.memory.ram k) e ∙ read-keeps b.memory.ram b.memory.rom b.memory.latch a v k h

pub write-puts : {K : Type 0} (b : Wires K) (a v : ℕ) (c : Wires K) → c ≡ after_write a v b
    → (read c.memory.rom c.memory.latch c.memory.ram a ≡ v)
    ⊎ (read c.memory.rom c.memory.latch c.memory.ram a ≡ read b.memory.rom b.memory.latch b.memory.ram a)
write-puts b a v c e = rw e (puts b.memory.ram b.memory.rom b.memory.latch a v)

pub receive-keeps : {K : Type 0} (b : Wires K) (p v : ℕ) (c : Wires K) → (v ≡ 0) × (c ≡ after_port (Receive p) b) → (k : ℕ)
    → read c.memory.rom c.memory.latch c.memory.ram k ≡ read b.memory.rom b.memory.latch b.memory.ram k
receive-keeps b p v c e k = ap (λ (w : Wires _). read w.memory.rom w.memory.latch w.memory.ram k) e.1
