-- An instruction of three cycles reads no flag.
use Rattle.std.proofs.Common.{◌≡◌, ◌<◌, ◌≤◌, ◌⊎◌, inl, inr, arith, ℕ, Bool, true, false, not, refl, sym}
use Rattle.std.specs.Prelude.{◌==◌}
use Rattle.std.proofs.Math.Bool.{◌||◌}
use Rattle.std.proofs.lemmas.List.{get_or_past}
use Rattle.machine.specs.declared.Kind.TheVariants.{Undefined}
use Rattle.machine.specs.Opcodes.{kinds, kind_of, opcode_number, cycles_of}
use Rattle.machine.specs.Instruction.{Regs, executed, inputs}
use Rattle.machine.proofs.Flags.{reads_flags, effect_flags}
use Rattle.vip_isa.proofs.Below.{at-passes_below}

in_table : (byte : ℕ) → byte < 256 → ((cycles_of byte == 2) || not (reads_flags (kind_of byte))) ≡ true
in_table byte h = at-passes_below (λ b. (cycles_of b == 2) || not (reads_flags (kind_of b))) 256 refl byte h

either : (x : Bool) → (x || not false) ≡ true
either true = refl
either false = refl

-- past the table there is no opcode, and so no flag is read
past_table : (byte : ℕ) → 256 ≤ byte → ((cycles_of byte == 2) || not (reads_flags (kind_of byte))) ≡ true
past_table byte h =
    let past : kind_of byte ≡ Undefined = get_or_past kinds byte Undefined h in
    rw past (either (cycles_of byte == 2))

within : (byte : ℕ) → (byte < 256) ⊎ (256 ≤ byte)
within byte = grind arith

short_or_no_flags : (byte : ℕ) → ((cycles_of byte == 2) || not (reads_flags (kind_of byte))) ≡ true
short_or_no_flags byte = elim (within byte) [ inl h ↦ in_table byte h | inr h ↦ past_table byte h ]

second : (x y : Bool) → (x || not y) ≡ true → x ≡ false → y ≡ false
second true y h e = cc
second false true h e = cc
second false false h e = refl

pub executed-flags : (byte : ℕ) → (cycles_of byte == 2) ≡ false → (s : Regs) (m : ℕ → ℕ) (f g : ℕ → Bool) (v : ℕ)
    → executed byte s (inputs s m f v) ≡ executed byte s (inputs s m g v)
executed-flags byte e s m f g v =
    sym (effect_flags (kind_of byte) (opcode_number byte) s (inputs s m f v) g
    (second (cycles_of byte == 2) (reads_flags (kind_of byte)) (short_or_no_flags byte) e))
