-- What a block of a routine comes to that ends in a branch.
use Rattle.std.proofs.Common.{◌≡◌, ℕ, refl, ◌∙◌, ap, Bool, true, false, cond, List}
use Rattle.machine.specs.Bank.{Word, word_of}
use Rattle.machine.specs.Board.{Machine}
use Rattle.chip8_lang.specs.declared.view.Edition.{Edition}
use Rattle.chip8_lang.specs.State.{Lang}
use Rattle.rom_law.proofs.Moves.{AllGood, quicks}
use Rattle.rom_law.specs.Program.{code}
use Rattle.rom_law.specs.Rows.{Since, Grows, Ends, now}
use Rattle.rom_law.proofs.Kept.{RunsBlock}
use Rattle.rom_rows.specs.Rom.{program_of}
use Rattle.rom_rows.specs.Heads.{high_byte, low_byte, Entered}
use Rattle.rom_rows.specs.Table.{Block, moves, calm_top, calm_pieces}
use Rattle.rom_rows.proofs.Entry.{entered}
use Rattle.rom_rows.proofs.Straight.{routine}

-- The block l begins in a routine, at a, and ends in a branch on t, which leads to c with one or the other address in R3. What follows at
-- each of them is given.
pub branch : {e : Edition} {rom : List ℕ} {b : Machine} {h : Since} {a : ℕ} (l : Block) → Entered (program_of e rom) a b (now h)
    → (c : Word → Machine) (t : Bool) (there on : ℕ)
    → AllGood (code (program_of e rom)) (calm_top e) (moves l) (entered e a (high_byte (now h)) (low_byte (now h)) b)
    → quicks (code (program_of e rom)) (moves l) (entered e a (high_byte (now h)) (low_byte (now h)) b) ≡ c (cond t (word_of there) (word_of on))
    → (t ≡ true → (h' : Since) → Grows h (moves l) 0 h' → Ends (program_of e rom) (calm_pieces (program_of e rom)) (c (word_of there)) h')
    → (t ≡ false → (h' : Since) → Grows h (moves l) 0 h' → Ends (program_of e rom) (calm_pieces (program_of e rom)) (c (word_of on)) h')
    → RunsBlock (program_of e rom) (calm_pieces (program_of e rom)) l b h
branch {e = e} {rom = rom} {b = b} {h = h} l o c t there on good is met other = go t refl
  where
    go : (u : Bool) → t ≡ u → RunsBlock (program_of e rom) (calm_pieces (program_of e rom)) l b h
    go true k = routine l o (c (word_of there)) good (is ∙ ap (λ u. c (cond u (word_of there) (word_of on))) k) (met k)
    go false k = routine l o (c (word_of on)) good (is ∙ ap (λ u. c (cond u (word_of there) (word_of on))) k) (other k)

-- the machine where D alone was loaded since the entry
abbrev pub looked : Edition → ℕ → ℕ → Machine → ℕ → Word → Machine
looked e high low b d w =
    record (entered e 0 high low b) { regs = record (entered e 0 high low b).regs { d = d; r = record (entered e 0 high low b).regs.r { r3 = w } } }

-- what is known at the entry of a routine is known there
pub looks : {e : Edition} {rom : List ℕ} {a : ℕ} {b : Machine} {s : Lang} (d w : ℕ) → Entered (program_of e rom) a b s
    → Entered (program_of e rom) w (looked e (high_byte s) (low_byte s) b d (word_of w)) s
looks d w o = record { holds = o.holds; inside = o.inside; p = refl; r3 = refl; r4 = refl; r6 = refl; r7 = refl; rc = refl }
