-- While main code waits for the display, an idle cycle keeps the row.
use Rattle.std.proofs.Common.{◌≡◌, ℕ, List, sym, ◌∙◌, true, false}
use Rattle.machine.specs.Board.{Machine}
use Rattle.machine.specs.Keys.{Keys}
use Rattle.chip8_lang.specs.declared.view.Edition.{Edition}
use Rattle.chip8_lang.specs.Screen.{Pixels}
use Rattle.chip8_lang.specs.State.{Lang}
use Rattle.rom_law.specs.Program.{Program}
use Rattle.rom_law.specs.Rows.{Since, Row, now}
use Rattle.rom_law.specs.Rows.Row.{Inside, Alone}
use Rattle.rom_law.proofs.Kept.{block_awake}
use Rattle.rom_rows.specs.KeyBlocks.{KeyPlace, key_place_data}
use Rattle.rom_rows.specs.KeyBlocks.KeyPlace.{SkipTest, KeyTest, KeyHeld}
use Rattle.rom_rows.specs.Rom.{vip}
use Rattle.rom_rows.specs.SpriteBlocks.{SpritePlace, Clearing, Painting, sprite_place_data, woken}
use Rattle.rom_rows.specs.SpriteBlocks.SpritePlace.{ClearWait, ClearIdle, DrawWait, DrawIdle}
use Rattle.rom_rows.specs.Table.{pieces}
use Rattle.rom_rows.specs.Table.Place.{AtTimer, AtKey, AtSprite}
use Rattle.rom_rows.specs.TimerBlocks.{TimerPlace, timer_place_data}
use Rattle.rom_rows.specs.TimerBlocks.TimerPlace.{RandomCount, GetDelay, SetDelayPut, SetSoundPut}
use Rattle.rom_run.proofs.Proved.{proved}

-- the machine at another cycle
abbrev pub timed : ℕ → Machine → Machine
timed t b = record b { cycle = t }

pub sleeps : true ≡ false → ⊥
sleeps k = cc

module _ (x : Program) (b : Machine) (s : Lang) (sets : List Keys) where
  pub timer_awake : (l : TimerPlace) → (timer_place_data l).at x b s sets → b.regs.idle ≡ false
  timer_awake RandomCount o = o.0.entered.holds.awake
  timer_awake GetDelay o = o.0.entered.holds.awake
  timer_awake SetDelayPut o = o.0.entered.holds.awake
  timer_awake SetSoundPut o = o.0.entered.holds.awake

  pub key_awake : (l : KeyPlace) → (key_place_data l).at x b s sets → b.regs.idle ≡ false
  key_awake (SkipTest down) o = o.0.holds.awake
  key_awake (KeyTest turn) o = o.0.waiting.enters.entered.holds.awake
  key_awake (KeyHeld turn looks) o = o.0.enters.entered.holds.awake

  clearing_timed : (t a m : ℕ) → Clearing x a m (woken b) s → Clearing x a m (woken (timed t b)) s
  clearing_timed t a m o = record { holds = o.holds; inside = o.inside; clears = o.clears; p = o.p; r3 = o.r3; r4 = o.r4; pointer = o.pointer; rd = o.rd }

  painting_timed : (t a w m n : ℕ) (drawn : Pixels) → Painting x a w m n drawn (woken b) s → Painting x a w m n drawn (woken (timed t b)) s
  painting_timed t a w m n drawn o =
      record {
        draws = o.draws;
        holds = o.holds;
        prepared = record { lefts = o.prepared.lefts; rights = o.prepared.rights };
        p = o.p;
        r3 = o.r3;
        r4 = o.r4;
        pointer = o.pointer;
        r7 = o.r7;
        rd = o.rd;
        count = o.count;
        few = o.few;
        hit = o.hit;
      }

  pub sprite_timed : (t : ℕ) (l : SpritePlace) → b.regs.idle ≡ true → (sprite_place_data l).at x b s sets → (sprite_place_data l).at x (timed t b) s sets
  sprite_timed t ClearWait i o = absurd (sleeps (sym i ∙ o.holds.awake))
  sprite_timed t ClearIdle i o = (clearing_timed t _ _ o.0, o.1)
  sprite_timed t DrawWait i o = absurd (sleeps (sym i ∙ o.holds.awake))
  sprite_timed t DrawIdle i o = (painting_timed t _ _ _ _ _ o.0, o.1)

pub idle_cycle : (e : Edition) (b : Machine) (h : Since) (t : ℕ) → b.regs.idle ≡ true → Row (vip e) (pieces (vip e)) b h
    → Row (vip e) (pieces (vip e)) (timed t b) h
idle_cycle e b h t i (Inside l r) = absurd (sleeps (sym i ∙ block_awake (vip e) (pieces (vip e)) (proved e) r))
idle_cycle e b h t i (Alone (AtTimer l) o) = absurd (sleeps (sym i ∙ timer_awake (vip e) b (now h) h.keys l o.0))
idle_cycle e b h t i (Alone (AtKey l) o) = absurd (sleeps (sym i ∙ key_awake (vip e) b (now h) h.keys l o.0))
idle_cycle e b h t i (Alone (AtSprite l) o) = Alone (AtSprite l) (sprite_timed (vip e) b (now h) h.keys t l i o.0, o.1)
