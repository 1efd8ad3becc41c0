-- What is known at the entry of a routine outlasts ticks.
use Rattle.std.proofs.Common.{◌≡◌, ℕ, zero, suc, ◌+◌, ◌/◌, ◌%◌, refl, sym, ◌∙◌, ap, subst, Bool, ◌*◌, ◌<◌, ◌≤◌, not, arith}
use Rattle.machine.specs.Bank.{word, value}
use Rattle.std.specs.Prelude.{◌==◌}
use Rattle.machine.specs.Board.{Machine}
use Rattle.machine.specs.Ranges.{FitsMachine}
use Rattle.chip8_lang.specs.declared.instr.Instr.{Instr}
use Rattle.chip8_lang.specs.declared.instr.Instr.TheVariants.{Draw}
use Rattle.chip8_lang.specs.declared.view.Edition.{Edition}
use Rattle.chip8_lang.specs.Editions.{stack_top, sprite_work}
use Rattle.chip8_lang.specs.Screen.{Pixels}
use Rattle.chip8_lang.specs.State.{Lang, variable, is_fetchable}
use Rattle.chip8_lang.specs.Step.{next}
use Rattle.chip8_lang.specs.Ticks.{tick, ticks}
use Rattle.chip8_lang.specs.Timed.{before_wait}
use Rattle.rom_law.specs.Later.{After, Steady}
use Rattle.rom_law.specs.Program.{Program, code}
use Rattle.rom_law.specs.Holding.{places, Holding}
use Rattle.rom_law.proofs.Later.{holding_after}
use Rattle.rom_rows.specs.Heads.{high_byte, low_byte, page_of, Entered, Enters}
use Rattle.rom_rows.specs.SpriteBlocks.{sprite_place_data, Clearing, cleared_to, Painting, painted, height, lit}
use Rattle.rom_rows.specs.SpriteBlocks.SpritePlace.{ClearWait, ClearIdle, DrawWait, DrawIdle}
use Rattle.rom_rows.specs.TimerBlocks.{Mixes}
use Rattle.rom_rows.specs.TimerBlocks.TimerPlace.{RandomCount, GetDelay, SetDelayPut, SetSoundPut}
use Rattle.rom_rows.specs.KeyBlocks.{Skipping, Waiting, Turning, skip_key}
use Rattle.rom_rows.specs.KeyBlocks.KeyPlace.{SkipTest, KeyTest, KeyHeld}
use Rattle.rom_rows.specs.Table.{Place, place_data_of}
use Rattle.rom_rows.specs.Table.Place.{AtTimer, AtKey, AtSprite}
use Rattle.rom_law.proofs.Places.{work_above}

-- ticks leave pc and the opcode
pub ticks_next : (n : ℕ) (s : Lang) → ticks n (next s) ≡ next (ticks n s)
ticks_next zero s = refl
ticks_next (suc n) s = ap tick (ticks_next n s)

pub ticks_fetchable : (e : Edition) (n : ℕ) (s : Lang) → is_fetchable e (ticks n s) ≡ is_fetchable e s
ticks_fetchable e zero s = refl
ticks_fetchable e (suc n) s = ticks_fetchable e n s

pub ticks_high : (n : ℕ) (s : Lang) → high_byte (ticks n s) ≡ high_byte s
ticks_high zero s = refl
ticks_high (suc n) s = ticks_high n s

pub ticks_low : (n : ℕ) (s : Lang) → low_byte (ticks n s) ≡ low_byte s
ticks_low zero s = refl
ticks_low (suc n) s = ticks_low n s

pub ticks_variable : (n k : ℕ) (s : Lang) → variable (ticks n s) k ≡ variable s k
ticks_variable zero k s = refl
ticks_variable (suc n) k s = ticks_variable n k s

pub skip_key_later : (n : ℕ) (s : Lang) → skip_key (ticks n s) ≡ skip_key s
skip_key_later n s = ap (λ y. variable (ticks n s) (y % 16) % 16) (ticks_high n s) ∙ ap (λ y. y % 16) (ticks_variable n (high_byte s % 16) s)

-- they change the timers, the tone and the count alone
abbrev pub timed : Lang → Lang → Lang
timed t s = record s { dt = t.dt; st = t.st; tone = t.tone; n = t.n }

pub ticks_timed : (n : ℕ) (s : Lang) → timed (ticks n s) s ≡ ticks n s
ticks_timed zero s = refl
ticks_timed (suc n) s =
    λ i. record (ticks_timed n s i) { dt = (ticks (suc n) s).dt; st = (ticks (suc n) s).st; tone = (ticks (suc n) s).tone; n = (ticks (suc n) s).n }

-- so they leave how long 00E0 and DXYN take before they wait, and the time of a place
pub before_ticks : (e : Edition) (i : Instr) (n : ℕ) (s : Lang) → before_wait e i (ticks n s) ≡ before_wait e i s
before_ticks e (Draw x y k) n s = ap (before_wait e (Draw x y k)) (sym (ticks_timed n s))
before_ticks e _ n s = refl

pub place_time_later : (x : Program) (n : ℕ) (l : Place) (s : Lang) → (place_data_of l).time x (ticks n s) ≡ (place_data_of l).time x s
place_time_later x n (AtSprite DrawWait) s = ap ((sprite_place_data DrawWait).time x) (sym (ticks_timed n s))
place_time_later x n (AtSprite DrawIdle) s = ap ((sprite_place_data DrawIdle).time x) (sym (ticks_timed n s))
place_time_later x n (AtSprite ClearWait) s = refl
place_time_later x n (AtSprite ClearIdle) s = refl
place_time_later x n (AtTimer RandomCount) s = refl
place_time_later x n (AtTimer GetDelay) s = refl
place_time_later x n (AtTimer SetDelayPut) s = refl
place_time_later x n (AtTimer SetSoundPut) s = refl
place_time_later x n (AtKey (SkipTest down)) s = refl
place_time_later x n (AtKey (KeyTest turn)) s = refl
place_time_later x n (AtKey (KeyHeld turn looks)) s = refl

ticks_shown : (n : ℕ) (d : Pixels) (s : Lang) → ticks n (record (next s) { screen = d }) ≡ record (next (ticks n s)) { screen = d }
ticks_shown zero d s = refl
ticks_shown (suc n) d s = ap tick (ticks_shown n d s)

ticks_cleared : (n m : ℕ) (s : Lang) → ticks n (cleared_to m s) ≡ cleared_to m (ticks n s)
ticks_cleared zero m s = refl
ticks_cleared (suc n) m s = ap tick (ticks_cleared n m s)

module _ (x : Program) (n : ℕ) {b c : Machine} (k : After (code x).low n b c) (f : FitsMachine b) (s : Lang) where
  pub entered_later : (a : ℕ) → Entered x a b s → Entered x a c (ticks n s)
  entered_later a o =
      record {
        holds = subst (Holding x (places c)) (ticks_next n s) (holding_after x n b c (next s) k o.holds f.regs.r.r9);
        inside = ticks_fetchable x.edition n s ∙ o.inside;
        p = ap (λ (z : Machine). z.regs.p) k.is ∙ o.p;
        r3 = ap (λ (z : Machine). z.regs.r.r3) k.is ∙ o.r3;
        r4 = ap (λ (z : Machine). z.regs.r.r4) k.is ∙ o.r4;
        r6 = ap (λ (z : Machine). z.regs.r.r6) k.is ∙ o.r6 ∙ ap (λ y. word (page_of x.edition) (240 + y % 16)) (sym (ticks_high n s));
        r7 = ap (λ (z : Machine). z.regs.r.r7) k.is ∙ o.r7 ∙ ap (λ y. word (page_of x.edition) (240 + y / 16)) (sym (ticks_low n s));
        rc = ap (λ (z : Machine). z.regs.r.rc) k.is ∙ o.rc ∙ (λ i. word (sym (ticks_high n s) i) (sym (ticks_low n s) i));
      }

  pub enters_later : (a d : ℕ) → Enters x a d b s → Enters x a d c (ticks n s)
  enters_later a d o = record { entered = entered_later a o.entered; digit = ap (λ y. y / 16) (ticks_high n s) ∙ o.digit }

  -- D was loaded with VX
  pub loaded_later : b.regs.d ≡ variable s (high_byte s % 16) → c.regs.d ≡ variable (ticks n s) (high_byte (ticks n s) % 16)
  loaded_later d =
      ap (λ (z : Machine). z.regs.d) k.is ∙ d ∙ sym (ticks_variable n (high_byte s % 16) s)
      ∙ ap (λ y. variable (ticks n s) (y % 16)) (sym (ticks_high n s))

  pub mixes_later : Mixes b → Mixes c
  mixes_later o = record { rd = ap (λ (z : Machine). z.regs.r.rd) k.is ∙ o.rd; x = ap (λ (z : Machine). z.regs.x) k.is ∙ o.x }

  -- ---- the keys

  -- the key stays latched, and a count stays in RE.0
  pub latched_later : c.key ≡ b.key
  latched_later = ap (λ (z : Machine). z.key) k.is

  pub counted_later : c.regs.r.re.lo ≡ b.regs.r.re.lo
  counted_later = ap (λ (z : Machine). z.regs.r.re.lo) k.is

  pub skipping_later : (down : Bool) (a : ℕ) → Skipping x down a b s → Skipping x down a c (ticks n s)
  skipping_later down a o =
      record {
        holds = subst (Holding x (places c)) (ticks_next n s) (holding_after x n b c (next s) k o.holds f.regs.r.r9);
        inside = ticks_fetchable x.edition n s ∙ o.inside;
        p = ap (λ (z : Machine). z.regs.p) k.is ∙ o.p;
        r3 = ap (λ (z : Machine). z.regs.r.r3) k.is ∙ o.r3;
        r4 = ap (λ (z : Machine). z.regs.r.r4) k.is ∙ o.r4;
        digit = ap (λ y. y / 16) (ticks_high n s) ∙ o.digit;
        low = ticks_low n s ∙ o.low;
      }

  pub waiting_later : (a : ℕ) → Waiting x a b s → Waiting x a c (ticks n s)
  waiting_later a o = record { enters = enters_later a 15 o.enters; low = ticks_low n s ∙ o.low }

  pub turning_later : (turn a : ℕ) → Turning x turn a b s → Turning x turn a c (ticks n s)
  turning_later turn a o =
      record {
        waiting = waiting_later a o.waiting;
        count = counted_later ∙ o.count;
        pointer = ap (λ (z : Machine). z.regs.x) k.is ∙ o.pointer;
        rd = ap (λ (z : Machine). z.regs.r.rd) k.is ∙ o.rd;
      }

  pub clearing_later : (a m : ℕ) → Clearing x a m b s → Clearing x a m c (ticks n s)
  clearing_later a m o =
      record {
        holds = subst (Holding x (places c)) (ticks_cleared n m s) (holding_after x n b c (cleared_to m s) k o.holds f.regs.r.r9);
        inside = ticks_fetchable x.edition n s ∙ o.inside;
        clears = (ticks_high n s ∙ o.clears.0, ticks_low n s ∙ o.clears.1);
        p = ap (λ (z : Machine). z.regs.p) k.is ∙ o.p;
        r3 = ap (λ (z : Machine). z.regs.r.r3) k.is ∙ o.r3;
        r4 = ap (λ (z : Machine). z.regs.r.r4) k.is ∙ o.r4;
        pointer = ap (λ (z : Machine). z.regs.x) k.is ∙ o.pointer;
        rd = ap (λ (z : Machine). value z.regs.r.rd + 1) k.is ∙ o.rd;
      }

  pub painting_later : (a : ℕ) → Painting x a 0 0 (height x.edition s) (lit x.edition 0 s) b s
      → Painting x a 0 0 (height x.edition (ticks n s)) (lit x.edition 0 (ticks n s)) c (ticks n s)
  painting_later a o = subst (λ z. Painting x a 0 0 (height x.edition z) (lit x.edition 0 z) c z) (ticks_timed n s)
      (record {
        draws = record { inside = o.draws.inside; digit = o.draws.digit; readable = o.draws.readable };
        holds =
            subst (Holding x (places c)) (ticks_shown n (painted (lit x.edition 0 s) s).screen s
            ∙ ap (λ z. record (next z) { screen = (painted (lit x.edition 0 s) s).screen }) (sym (ticks_timed n s)))
            (holding_after x n b c (painted (lit x.edition 0 s) s) k o.holds f.regs.r.r9);
        prepared = record { lefts = λ j l. k.ram _ (above j l) ∙ o.prepared.lefts j l; rights = λ j l. k.ram _ (above' j l) ∙ o.prepared.rights j l };
        p = ap (λ (z : Machine). z.regs.p) k.is ∙ o.p;
        r3 = ap (λ (z : Machine). z.regs.r.r3) k.is ∙ o.r3;
        r4 = ap (λ (z : Machine). z.regs.r.r4) k.is ∙ o.r4;
        pointer = ap (λ (z : Machine). z.regs.x) k.is ∙ o.pointer;
        r7 = ap (λ (z : Machine). z.regs.r.r7) k.is ∙ o.r7;
        rd = ap (λ (z : Machine). value z.regs.r.rd) k.is ∙ o.rd;
        count = ap (λ (z : Machine). z.regs.r.re.lo) k.is ∙ o.count;
        few = subst (λ y. y ≤ 0) (sym (ap (λ (z : Machine). z.regs.r.rc.lo) k.is)) o.few;
        hit = ap (λ (z : Machine). not (z.regs.r.rc.lo == 0)) k.is ∙ o.hit;
      })
    where
      work : stack_top x.edition < sprite_work x.edition
      work = work_above x.edition

      above : (j : ℕ) → j < height x.edition s → Steady (code x).low b.regs (sprite_work x.edition + 2 * j)
      above j l m = omega (arith, o.holds.stack, work)

      above' : (j : ℕ) → j < height x.edition s → Steady (code x).low b.regs (sprite_work x.edition + 2 * j + 1)
      above' j l m = omega (arith, o.holds.stack, work)
