-- How a move of the board carries on the record of what came since the last dispatch point.
use Rattle.std.proofs.Common.{◌≡◌, ℕ, ◌+◌, refl, sym, ◌∙◌, ap, subst, Bool, true, false, if◌then◌else◌, ◌&&◌, List, [], ◌∷◌, ◌++◌}
use Rattle.machine.specs.Opcodes.{cycles_of}
use Rattle.machine.specs.Signals.{dma_at, int_at}
use Rattle.machine.specs.Board.{Machine, Case, case_of, opcode_of}
use Rattle.machine.specs.Board.Case.{Dma, Interrupt, Idle, Instruction}
use Rattle.machine.specs.Keys.{Keys}
use Rattle.machine.specs.Keys.{Event as KeyEvent}
use Rattle.chip8_lang.specs.State.{Lang}
use Rattle.chip8_lang.specs.Between.{Between, keys_between}
use Rattle.rom_law.specs.Program.{Program}
use Rattle.rom_law.specs.Rows.{Since, Stepped, after_tick}
use Rattle.rom_law.specs.Runs.{carried, carried_by, Covers}
use Rattle.rom_law.proofs.Language.{counted_as, between_more}

-- with interrupts disabled there is no interrupt
not_taken : (d i w : Bool) → (if d then Dma else if false && i then Interrupt else if w then Idle else Instruction) ≡ Interrupt → ⊥
not_taken true i w e = cc
not_taken false i true e = cc
not_taken false i false e = cc

pub disabled_apart : (b : Machine) → b.regs.ie ≡ false → case_of b ≡ Interrupt → ⊥
disabled_apart b off e =
    not_taken (dma_at b.cycle b.on) (int_at b.cycle b.on) b.regs.idle
    (subst (λ t. (if dma_at b.cycle b.on then Dma else if t && int_at b.cycle b.on then Interrupt else if b.regs.idle then Idle else Instruction)
    ≡ Interrupt) off e)

module _ (rom : List ℕ) (held : ℕ → Keys) (b : Machine) (h : Since) where
  -- a main move more
  abbrev pub main_more : ℕ → Since
  main_more n =
      record h {
        spent = h.spent + n;
        keys = h.keys ++ held (b.cycle + 1) ∷ [];
        moments = record { spent = h.spent; ticks = h.ticks; held = held (b.cycle + 1) } ∷ h.moments;
      }

  abbrev by_enabled : Bool → Since
  by_enabled t = if t then main_more (cycles_of (opcode_of rom b)) else h

  -- ---- the dispatch point stays

  record KeepsState (h' : Since) : Type 0 where
    from : h'.from ≡ h.from
    state : h'.state ≡ h.state

  keeps_enabled : (t : Bool) → KeepsState (by_enabled t)
  keeps_enabled true = record { from = refl; state = refl }
  keeps_enabled false = record { from = refl; state = refl }

  keeps : (k : Case) → KeepsState (carried_by k rom held b h)
  keeps Dma = record { from = refl; state = refl }
  keeps Interrupt = record { from = refl; state = refl }
  keeps Idle = record { from = refl; state = refl }
  keeps Instruction = keeps_enabled b.regs.ie

  pub carried_from : (carried rom held b h).from ≡ h.from
  carried_from = (keeps (case_of b)).from

  pub carried_state : (carried rom held b h).state ≡ h.state
  carried_state = (keeps (case_of b)).state

  -- ---- by the kind of the move

  pub carried_main : case_of b ≡ Instruction → b.regs.ie ≡ true → cycles_of (opcode_of rom b) ≡ 2 → carried rom held b h ≡ main_more 2
  carried_main is enabled two = ap (λ k. carried_by k rom held b h) is ∙ ap by_enabled enabled ∙ ap main_more two

  pub carried_interrupt : case_of b ≡ Interrupt → carried rom held b h ≡ after_tick h
  carried_interrupt is = ap (λ k. carried_by k rom held b h) is

  pub carried_idle : case_of b ≡ Idle → carried rom held b h ≡ h
  carried_idle is = ap (λ k. carried_by k rom held b h) is

  -- with interrupts disabled nothing is added
  disabled_by : b.regs.ie ≡ false → (k : Case) → (k ≡ Interrupt → ⊥) → carried_by k rom held b h ≡ h
  disabled_by off Dma d = refl
  disabled_by off Interrupt d = absurd (d refl)
  disabled_by off Idle d = refl
  disabled_by off Instruction d = ap by_enabled off

  pub carried_disabled : b.regs.ie ≡ false → carried rom held b h ≡ h
  carried_disabled off = disabled_by off (case_of b) (disabled_apart b off)

-- a step with the record's ticks and keys is one with those of the interval that it covers
abbrev pub covers_between : (x : Program) (script : List KeyEvent) (c : Machine) (h : Since) (s : Lang) → Covers x script c h → Stepped x c h s
    → Between x.edition h.state (x.ticks_between h.from c.cycle) (keys_between script h.from c.cycle) s
covers_between x script c h s i st =
    counted_as (sym i.ticks) (between_more i.keys x.edition h.state h.ticks s st.between)
