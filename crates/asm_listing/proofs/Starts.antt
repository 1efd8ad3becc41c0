-- Where the lines of a disassembly begin.
use Rattle.std.proofs.Common.{◌≡◌, ◌+◌, ◌-◌, ◌≤◌, ℕ, zero, suc, refl, List, [], ◌∷◌, ◌++◌, length, drop, sym, ◌∙◌, ap, arith}
use Rattle.std.proofs.lemmas.List.{append_assoc, append-nil}
use Rattle.asm_lex.specs.declared.shape.Isa.{Isa}
use Rattle.asm_listing.specs.Disassembly.{taken, starts, ended_line, lines_from, disassembly, origin}
use Rattle.vip_byte.specs.Text.{newline}

-- behind the bytes of the line before
pub starts-behind : (isa : Isa) (bytes : List ℕ) (inside at : ℕ) → inside ≤ length bytes
    → starts isa inside at bytes ≡ starts isa 0 (at + inside) (drop inside bytes)
starts-behind isa [] zero at within = refl
starts-behind isa [] (suc inside) at within = absurd (omega arith)
starts-behind isa (byte ∷ bytes) zero at within = ap (λ a. starts isa 0 a (byte ∷ bytes)) (omega arith)
starts-behind isa (byte ∷ bytes) (suc inside) at within =
    starts-behind isa bytes inside (at + 1) (omega arith) ∙ ap (λ a. starts isa 0 a (drop inside bytes)) (omega arith)

-- the first line, and those behind it
pub starts-first : (isa : Isa) (bytes : List ℕ) (at : ℕ) → 1 ≤ taken isa bytes → taken isa bytes ≤ length bytes
    → starts isa 0 at bytes ≡ (at, bytes) ∷ starts isa 0 (at + taken isa bytes) (drop (taken isa bytes) bytes)
starts-first isa [] at some within = absurd (omega arith)
starts-first isa (byte ∷ bytes) at some within =
    let more : ℕ = taken isa (byte ∷ bytes) - 1 in
    let whole : suc more ≡ taken isa (byte ∷ bytes) = omega arith in
    let place : at + 1 + more ≡ at + taken isa (byte ∷ bytes) = omega arith in
    ap (λ all. (at, byte ∷ bytes) ∷ all)
    (starts-behind isa bytes more (at + 1) (omega arith)
    ∙ ap (λ a. starts isa 0 a (drop more bytes)) place
    ∙ ap (λ n. starts isa 0 (at + taken isa (byte ∷ bytes)) (drop n (byte ∷ bytes))) whole)

-- one more line in the text
pub lines-next : (isa : Isa) (text : List ℕ) (bytes : List ℕ) (at : ℕ) → 1 ≤ taken isa bytes → taken isa bytes ≤ length bytes
    → (text ++ ended_line isa at bytes) ++ lines_from isa (starts isa 0 (at + taken isa bytes) (drop (taken isa bytes) bytes))
    ≡ text ++ lines_from isa (starts isa 0 at bytes)
lines-next isa text bytes at some within =
    append_assoc text (ended_line isa at bytes) (lines_from isa (starts isa 0 (at + taken isa bytes) (drop (taken isa bytes) bytes)))
    ∙ ap (λ all. text ++ lines_from isa all) (sym (starts-first isa bytes at some within))

pub lines-none : (isa : Isa) (text : List ℕ) (bytes : List ℕ) (at : ℕ) → length bytes ≡ 0 → text ≡ text ++ lines_from isa (starts isa 0 at bytes)
lines-none isa text [] at none = sym (append-nil text)
lines-none isa text (byte ∷ bytes) at none = absurd (omega arith)

pub disassembly-first : (isa : Isa) (at : ℕ) (bytes : List ℕ) → (origin at ++ newline) ++ lines_from isa (starts isa 0 at bytes) ≡ disassembly isa at bytes
unfolding disassembly
disassembly-first isa at bytes = refl
