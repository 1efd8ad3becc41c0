-- What a place comes to: its one instruction is run by computing.
use Rattle.std.proofs.Common.{◌≡◌, ℕ, refl, sym, ◌∙◌, ap, subst, arith, Bool, true, false, cond, inl, inr, [], ◌∷◌, List}
use Rattle.machine.specs.Bank.{Word, word_of, get}
use Rattle.machine.specs.Opcodes.{kind_of, cycles_of}
use Rattle.machine.specs.Board.{Machine, opcode_of}
use Rattle.machine.specs.Ranges.{FitsMachine}
use Rattle.machine.proofs.Flags.{reads_flags}
use Rattle.chip8_lang.specs.declared.view.Edition.{Edition}
use Rattle.chip8_lang.specs.State.{Lang}
use Rattle.rom_law.specs.Code.{Input, moved}
use Rattle.rom_law.proofs.Moves.{opcode_in, in_rom, quicks, quick_any, quick_by, quick_by_is, flags_in, opcode_is}
use Rattle.rom_law.specs.Holding.{places, Holding}
use Rattle.rom_law.specs.Moments.{TicksBefore, Sees}
use Rattle.rom_law.specs.Program.{code}
use Rattle.rom_law.specs.Rows.{Since, Grows, Ends, after_main}
use Rattle.rom_law.proofs.Kept.{RunsPlace}
use Rattle.rom_rows.specs.Rom.{program_of}
use Rattle.rom_rows.specs.Table.{Place, At, calm_pieces}
use Rattle.rom_rows.proofs.Entry.{ready}
use Rattle.rom_rows.proofs.Sounds.{later}

-- one move was made
pub one_more : (u : Input) (h : Since) → Grows h 1 0 (after_main u h)
one_more u h = record { from = refl; state = refl; ticks = omega arith; spent = omega arith; more = u.held ∷ []; keys = refl; count = refl; moments = λ m a. inr a }

-- at it all ticks so far had come, and it found its key so
pub meets_now : (u : Input) (h : Since) (k : ℕ) → h.spent ≡ k → TicksBefore (after_main u h).moments k h.ticks
meets_now u h k at = record { moment = record { spent = h.spent; ticks = h.ticks; held = u.held }; among = inl refl; at = at; after = refl }

pub sees_now : (u : Input) (h : Since) (k key : ℕ) (down : Bool) → h.spent ≡ k → u.held key ≡ down → Sees (after_main u h).moments k key down
sees_now u h k key down at is =
    record { moment = record { spent = h.spent; ticks = h.ticks; held = u.held }; among = inl refl; at = at; is = is }

-- At the place l the machine is c. Its instruction reads no flag and takes two cycles, and what follows behind it is given.
pub alone : {e : Edition} {rom : List ℕ} {b : Machine} {h : Since} {s : Lang} (l : Place) → FitsMachine b → At (program_of e rom) l b h
    → Holding (program_of e rom) (places b) s → (c : Machine) → b ≡ c → reads_flags (kind_of (opcode_in (code (program_of e rom)) c)) ≡ false
    → in_rom (get c.regs.r c.regs.p) ≡ true → cycles_of (opcode_in (code (program_of e rom)) c) ≡ 2
    → ((u : Input) → Ends (program_of e rom) (calm_pieces (program_of e rom)) (quicks (code (program_of e rom)) 1 c) (after_main u h))
    → RunsPlace (program_of e rom) (calm_pieces (program_of e rom)) l b h
alone {e = e} {rom = rom} {b = b} {h = h} l f at o c is flags inside two ends =
    record {
      runs = ready o;
      moves =
          λ i u. subst (λ z. Ends (program_of e rom) (calm_pieces (program_of e rom)) z (after_main u h))
          (quick_any (code (program_of e rom)) u c flags inside ∙ ap (moved (code (program_of e rom)) u) (sym is)) (ends u);
      cycles = λ i. subst (λ z. cycles_of (opcode_of rom z) ≡ 2) (sym is) (ap cycles_of (sym (opcode_is (code (program_of e rom)) c inside)) ∙ two);
      later = λ i n d k. later e rom l b h f at i n d k;
      wakes = λ i d k. absurd (sleeps (sym o.awake ∙ i));
    }
  where
    sleeps : false ≡ true → ⊥
    sleeps k = cc

-- The same, where the instruction is a branch on t, which a flag or the keys decide: the program counter is then one word or the other.
pub alone_forks : {e : Edition} {rom : List ℕ} {b : Machine} {h : Since} {s : Lang} (l : Place) → FitsMachine b → At (program_of e rom) l b h
    → Holding (program_of e rom) (places b) s → (d : Machine) → b ≡ d → in_rom (get d.regs.r d.regs.p) ≡ true
    → cycles_of (opcode_in (code (program_of e rom)) d) ≡ 2 → (c : Word → Machine) (t : Input → Bool) (target other : ℕ)
    → ((u : Input) → quick_by (code (program_of e rom)) (flags_in u d) d ≡ c (cond (t u) (word_of target) (word_of other)))
    → ((u : Input) → t u ≡ true → Ends (program_of e rom) (calm_pieces (program_of e rom)) (c (word_of target)) (after_main u h))
    → ((u : Input) → t u ≡ false → Ends (program_of e rom) (calm_pieces (program_of e rom)) (c (word_of other)) (after_main u h))
    → RunsPlace (program_of e rom) (calm_pieces (program_of e rom)) l b h
alone_forks {e = e} {rom = rom} {b = b} {h = h} l f at o d is inside two c t target other goes on off =
    record {
      runs = ready o;
      moves =
          λ i u. subst (λ z. Ends (program_of e rom) (calm_pieces (program_of e rom)) z (after_main u h))
          (sym (goes u) ∙ quick_by_is (code (program_of e rom)) u d inside ∙ ap (moved (code (program_of e rom)) u) (sym is)) (ends u (t u) refl);
      cycles = λ i. subst (λ z. cycles_of (opcode_of rom z) ≡ 2) (sym is) (ap cycles_of (sym (opcode_is (code (program_of e rom)) d inside)) ∙ two);
      later = λ i n d k. later e rom l b h f at i n d k;
      wakes = λ i d k. absurd (sleeps (sym o.awake ∙ i));
    }
  where
    sleeps : false ≡ true → ⊥
    sleeps k = cc

    ends : (u : Input) (v : Bool) → t u ≡ v
        → Ends (program_of e rom) (calm_pieces (program_of e rom)) (c (cond (t u) (word_of target) (word_of other))) (after_main u h)
    ends u true k =
        subst (λ v. Ends (program_of e rom) (calm_pieces (program_of e rom)) (c (cond v (word_of target) (word_of other))) (after_main u h)) (sym k)
        (on u k)
    ends u false k =
        subst (λ v. Ends (program_of e rom) (calm_pieces (program_of e rom)) (c (cond v (word_of target) (word_of other))) (after_main u h)) (sym k)
        (off u k)
