-- Lines of code that lie in game memory are those of the language state there.
use Rattle.std.proofs.Common.{◌≡◌, ℕ, zero, suc, ◌+◌, ◌-◌, ◌*◌, ◌/◌, ◌<◌, ◌≤◌, List, ◌∷◌, [], ◌++◌, drop, slice_index, refl, sym, ap, ap₂, ◌∙◌, arith}
use Rattle.std.specs.Prelude.{◌==◌, if◌then◌else◌, false, min, codes}
use Rattle.std.specs.List.{flat_map, range_with_len}
use Rattle.std.proofs.lemmas.Bool.{lt-ltb}
use Rattle.std.proofs.lemmas.List.{get_or-drop, get_or-take}
use Rattle.machine.specs.Board.{Machine}
use Rattle.machine.specs.Memory.{read}
use Rattle.asm_core.specs.Origins.{Origins, labels_over, source_end}
use Rattle.chip8_lang.specs.declared.view.Edition.{Edition}
use Rattle.chip8_lang.specs.declared.view.Edition.TheVariants.{Usual, Tall}
use Rattle.chip8_lang.specs.Editions.{memory_end}
use Rattle.chip8_lang.specs.Places.{state_of}
use Rattle.chip8_lang.specs.State.{memory_byte}
use Rattle.vip_byte.specs.HexText.{hex4}
use Rattle.vip_byte.specs.Text.{newline}
use Rattle.vip_debug.specs.Code.{byte_text, clear_byte, code_line, code_lines, code_pieces, opcode_text}

-- ---- a byte

from_ram : (e : Edition) (b : Machine) (a : ℕ) → 0x200 ≤ a → a < memory_end e → memory_byte (state_of e b) a ≡ slice_index b.ram a
unfolding state_of
from_ram Usual b a from to =
    let place : 0x200 + (a - 0x200) ≡ a = omega (arith, from) in
    get_or-take 0xca0 (drop 0x200 b.ram) (a - 0x200) 0 (omega (arith, to)) ∙ get_or-drop 0x200 b.ram (a - 0x200) 0 ∙ ap (slice_index b.ram) place
from_ram Tall b a from to =
    let place : 0x200 + (a - 0x200) ≡ a = omega (arith, from) in
    get_or-take 0xba0 (drop 0x200 b.ram) (a - 0x200) 0 (omega (arith, to)) ∙ get_or-drop 0x200 b.ram (a - 0x200) 0 ∙ ap (slice_index b.ram) place

in_ram : (e : Edition) (a : ℕ) → a < memory_end e → a < 0x1000
in_ram Usual a to = omega (arith, to)
in_ram Tall a to = omega (arith, to)

same_byte : (e : Edition) (rom : List ℕ) (b : Machine) (a : ℕ) → 0x200 ≤ a → a < memory_end e → clear_byte rom b a ≡ memory_byte (state_of e b) a
unfolding read
same_byte e rom b a from to = rw (lt-ltb a 0x1000 (in_ram e a to)) (sym (from_ram e b a from to))

-- ---- the lines

-- each number of a range gives the same
same_pieces : (f g : ℕ → List (List ℕ)) (a n : ℕ) → ((k : ℕ) → a ≤ k → k < a + n → f k ≡ g k) → flat_map f (range_with_len a n) ≡ flat_map g (range_with_len a n)
same_pieces f g a zero same = refl
same_pieces f g a (suc n) same =
    ap₂ (λ (x y : List (List ℕ)). x ++ y) (same a (omega arith) (omega arith))
    (same_pieces f g (a + 1) n (λ k from to. same k (omega (arith, from)) (omega (arith, to))))

-- lines of the same bytes are the same
module _ (f g : ℕ → ℕ) (origins : Origins) (address count : ℕ)
    (same : (a : ℕ) → address ≤ a → a < address + 2 * count → f a ≡ g a) where
  same_line : (k : ℕ) → k < count → code_line f origins (address + 2 * k) ≡ code_line g origins (address + 2 * k)
  unfolding code_line
  same_line k below =
      ap₂
      (λ high low.
      hex4 (address + 2 * k) ++ codes " " ++ (if address + 2 * k == 0xffff then byte_text high else opcode_text (high * 256 + low))
      ++ source_end origins false (address + 2 * k) (if address + 2 * k == 0xffff then high ∷ [] else high ∷ low ∷ []) ++ newline)
      (same (address + 2 * k) (omega arith) (omega (arith, below)))
      (same (address + 2 * k + 1) (omega arith) (omega (arith, below)))

  same_lines : code_lines f origins address count ≡ code_lines g origins address count
  same_lines =
      same_pieces (code_pieces f origins address) (code_pieces g origins address) 0 (min count ((0x10001 - address) / 2))
      (λ k from to. ap (λ line. labels_over origins (address + 2 * k) ++ line ∷ []) (same_line k (omega (arith, to))))

pub code_in_memory :
    (e : Edition) (rom : List ℕ) (b : Machine) (origins : Origins) (address count : ℕ) → 0x200 ≤ address → address + 2 * count ≤ memory_end e
    → code_lines (clear_byte rom b) origins address count ≡ code_lines (memory_byte (state_of e b)) origins address count
code_in_memory e rom b origins address count from to =
    same_lines (clear_byte rom b) (memory_byte (state_of e b)) origins address count
    (λ a low high. same_byte e rom b a (omega (arith, from, low)) (omega (arith, high, to)))
