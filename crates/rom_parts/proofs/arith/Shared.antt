-- What loads, skips and 8XYN share: VX and VY, and the step at an end of several instructions.
use Rattle.std.proofs.Common.{◌≡◌, ℕ, ◌+◌, ◌*◌, ◌/◌, ◌%◌, refl, sym, arith, subst, true, List}
use Rattle.std.specs.Prelude.{None}
use Rattle.machine.specs.Bank.{word_of}
use Rattle.machine.specs.Memory.{read}
use Rattle.machine.specs.Board.{Machine}
use Rattle.machine.specs.Ranges.{FitsMachine}
use Rattle.chip8_lang.specs.declared.instr.Instr.{Instr}
use Rattle.chip8_lang.specs.declared.instr.Instr.TheVariants.{Clear, Return, Machine as MachineCode, Call, Draw, SkipDown, SkipUp, WaitKey, Random, GetDelay, SetDelay, SetSound, Decimal, Store, Fetch, Unknown}
use Rattle.chip8_lang.specs.declared.view.Edition.{Edition}
use Rattle.chip8_lang.specs.State.{Lang, variable, instr_at}
use Rattle.chip8_lang.specs.Step.{stop_of, stop_of_instr}
use Rattle.chip8_lang.specs.Step.KeyInput.{Nothing}
use Rattle.chip8_image.specs.declared.image.labels.TheConstants.{AT_FETCH}
use Rattle.rom_law.proofs.Moves.{AllGood, quicks}
use Rattle.rom_law.specs.Program.{code}
use Rattle.rom_law.specs.Holding.{places, Holding}
use Rattle.rom_law.specs.Moments.{Moment, MovesTell}
use Rattle.rom_law.specs.Rows.{Since, now}
use Rattle.rom_law.proofs.Places.{v_get}
use Rattle.rom_law.proofs.Kept.{RunsBlock}
use Rattle.rom_rows.specs.Heads.{to_dispatch, high_byte, low_byte, page_of, Entered}
use Rattle.rom_rows.specs.ArithBlocks.{has_shared_end, Ending}
use Rattle.rom_rows.specs.Table.{Block, moves, calm_pieces, calm_top}
use Rattle.rom_rows.proofs.Bytes.{variables_is}
use Rattle.rom_rows.proofs.Entry.{entered, low_fits}
use Rattle.rom_rows.proofs.Straight.{routine}
use Rattle.rom_rows.proofs.Steps.{is_prompt, steps}
use Rattle.rom_parts.specs.arith.Code.{arith_code}
use Rattle.rom_parts.proofs.Rom.{both, quick}

-- ---- VX and VY

-- the bytes that R6 and R7 point to
abbrev pub byte_x : Edition → Machine → Lang → ℕ
byte_x e b s = read (both arith_code e) b.latch b.ram (page_of e * 256 + (240 + high_byte s % 16))

abbrev pub byte_y : Edition → Machine → Lang → ℕ
byte_y e b s = read (both arith_code e) b.latch b.ram (page_of e * 256 + (240 + low_byte s / 16))

module _ {e : Edition} {a : ℕ} {b : Machine} {s : Lang} (o : Entered (quick arith_code e) a b s) where
  pub is_vx : byte_x e b s ≡ variable s (high_byte s % 16)
  is_vx = v_get o.holds (page_of e * 256 + (240 + high_byte s % 16)) (high_byte s % 16) (omega (arith, variables_is e)) (omega arith)

  pub is_vy : FitsMachine b → byte_y e b s ≡ variable s (low_byte s / 16)
  is_vy f = v_get o.holds (page_of e * 256 + (240 + low_byte s / 16)) (low_byte s / 16) (omega (arith, variables_is e)) (omega (arith, low_fits o f))

-- ---- an end that instructions share

shared_prompt : (i : Instr) → has_shared_end i ≡ true → is_prompt i ≡ true
shared_prompt Clear k = cc
shared_prompt (Draw x y n) k = cc
shared_prompt (SkipDown x) k = cc
shared_prompt (SkipUp x) k = cc
shared_prompt (WaitKey x) k = cc
shared_prompt _ k = refl

shared_told : (i : Instr) (s : Lang) (moments : List Moment) (spent n : ℕ) → has_shared_end i ≡ true → MovesTell i s moments spent n Nothing
shared_told (Random x m) s moments spent n k = cc
shared_told (GetDelay x) s moments spent n k = cc
shared_told (SetDelay x) s moments spent n k = cc
shared_told (SetSound x) s moments spent n k = cc
shared_told _ s moments spent n k = tt

shared_runs : (e : Edition) (i : Instr) (s : Lang) → has_shared_end i ≡ true → stop_of_instr e i s ≡ None
shared_runs e Return s k = cc
shared_runs e (MachineCode a) s k = cc
shared_runs e (Call a) s k = cc
shared_runs e (Draw x y n) s k = cc
shared_runs e (Decimal x) s k = cc
shared_runs e (Store x) s k = cc
shared_runs e (Fetch x) s k = cc
shared_runs e (Unknown o) s k = cc
shared_runs e _ s k = refl

pub ending : {e : Edition} {b : Machine} {h : Since} {a : ℕ} {z : Lang} (l : Block) → Ending (quick arith_code e) a z b (now h)
    → h.spent + 2 * moves l ≡ to_dispatch (quick arith_code e) (now h) → (c : Machine)
    → AllGood (code (quick arith_code e)) (calm_top e) (moves l) (entered e a (high_byte (now h)) (low_byte (now h)) b)
    → quicks (code (quick arith_code e)) (moves l) (entered e a (high_byte (now h)) (low_byte (now h)) b) ≡ c → Holding (quick arith_code e) (places c) z
    → c.regs.p ≡ 4
    → c.regs.r.r4 ≡ word_of AT_FETCH → RunsBlock (quick arith_code e) (calm_pieces (quick arith_code e)) l b h
ending {e = e} {h = h} l o time c good is holds p r4 =
    routine l o.entered c good is (λ h' g. steps e g (instr_at (now h)) refl (shared_prompt _ o.shared) runs time
    (shared_told _ h'.state h'.moments h'.spent h'.ticks o.shared) c
    (subst (Holding (quick arith_code e) (places c)) (sym o.makes) holds) p r4)
  where
    runs : stop_of e (now h) ≡ None
    runs = rw o.entered.inside (shared_runs e (instr_at (now h)) (now h) o.shared)
