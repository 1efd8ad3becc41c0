-- What the block lemmas of a ROM use: the record of what came at the end of a block, and the step.
use Rattle.std.proofs.Common.{◌≡◌, ℕ, refl, sym, ap₂, subst, arith}
use Rattle.std.specs.Prelude.{None}
use Rattle.chip8_lang.specs.declared.instr.Instr.{Instr}
use Rattle.chip8_lang.specs.declared.view.Edition.{Edition}
use Rattle.chip8_lang.specs.State.{instr_at}
use Rattle.chip8_lang.specs.Step.{KeyInput, stop_of, step}
use Rattle.chip8_lang.specs.Ticks.{ticks}
use Rattle.chip8_lang.specs.Between.{Between, Allows, WaitsWell}
use Rattle.rom_law.specs.Rows.{Since, Grows, now}
use Rattle.rom_law.proofs.Language.{ticks_instr}

-- at the end of a block no tick came, so the state is as it was
pub now_same : {h h' : Since} {k : ℕ} → Grows h k 0 h' → now h' ≡ now h
now_same {h = h} {h' = h'} g = ap₂ (λ n s. ticks n s) count g.state
  where
    count : h'.ticks ≡ h.ticks
    count = omega (arith, g.ticks)

-- The step was made after all the ticks so far: the instruction, and what it took from the keypad.
abbrev pub step_made : (e : Edition) (h : Since) (i : Instr) (key : KeyInput) → stop_of e h.state ≡ None → instr_at h.state ≡ i → Allows i h.state h.keys key
    → WaitsWell i h.ticks 0 → Between e h.state h.ticks h.keys (step e key (now h))
step_made e h i key free is allowed waits =
    record {
      runs = free;
      before = h.ticks;
      after = 0;
      all = omega arith;
      key = key;
      allowed = subst (λ z. Allows z h.state h.keys key) (sym is) allowed;
      waits = subst (λ z. WaitsWell z h.ticks 0) (sym is) waits;
      is = refl;
    }

-- an instruction is the same before and after ticks
pub instr_now : (h : Since) → instr_at (now h) ≡ instr_at h.state
instr_now h = ticks_instr h.ticks h.state
