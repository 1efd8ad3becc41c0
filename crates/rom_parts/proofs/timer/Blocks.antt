-- What comes of the blocks and places of CXKK, FX07, FX15 and FX18.
use Rattle.std.proofs.Common.{◌≡◌, false, refl}
use Rattle.machine.specs.Board.{Machine}
use Rattle.machine.specs.Ranges.{FitsMachine, FitsRom}
use Rattle.chip8_lang.specs.declared.view.Edition.{Edition}
use Rattle.chip8_image.specs.declared.parts.Part.TheVariants.{Timer}
use Rattle.rom_law.specs.Rows.{Since}
use Rattle.rom_law.proofs.Kept.{RunsBlock, RunsPlace}
use Rattle.rom_rows.specs.TimerBlocks.{TimerBlock, TimerPlace}
use Rattle.rom_rows.specs.TimerBlocks.TimerBlock.{Random, RandomMix, GetDelayPut, SetDelay, SetDelayEnd, SetSound, SetSoundEnd}
use Rattle.rom_rows.specs.TimerBlocks.TimerPlace.{RandomCount, GetDelay, SetDelayPut, SetSoundPut}
use Rattle.rom_rows.specs.Table.{Head, At, calm_pieces}
use Rattle.rom_rows.specs.Table.Block.{OfTimer}
use Rattle.rom_rows.specs.Table.Place.{AtTimer}
use Rattle.rom_rows.proofs.Bytes.{with_part_fits}
use Rattle.rom_parts.specs.timer.Code.{timer_code}
use Rattle.rom_parts.proofs.Parts.{Comes, calm_comes}
use Rattle.rom_parts.proofs.Rom.{both, quick}
use Rattle.rom_parts.proofs.timer.Randoms.{random_comes, random_count_holds, random_mix_comes}
use Rattle.rom_parts.proofs.timer.Timers.{get_delay_holds, get_delay_put_comes, set_delay_comes, set_delay_put_holds, set_delay_end_comes, set_sound_comes, set_sound_put_holds, set_sound_end_comes}

pub timer_block : (e : Edition) (l : TimerBlock) (b : Machine) (h : Since) → FitsMachine b → Head (quick timer_code e) (OfTimer l) b h
    → RunsBlock (quick timer_code e) (calm_pieces (quick timer_code e)) (OfTimer l) b h
timer_block e Random b h f o = random_comes e b h f o.0 o.1
timer_block e RandomMix b h f o = random_mix_comes e b h f o.0.0 o.0.1 o.0.2 o.1.0 o.1.1
timer_block e GetDelayPut b h f o = get_delay_put_comes e b h f o.0.0 o.0.1 o.0.2 o.1.0 o.1.1
timer_block e SetDelay b h f o = set_delay_comes e b h f o.0.0 o.0.1 o.1
timer_block e SetDelayEnd b h f o = set_delay_end_comes e b h f o.0 o.1.0 o.1.1
timer_block e SetSound b h f o = set_sound_comes e b h f o.0.0 o.0.1 o.1
timer_block e SetSoundEnd b h f o = set_sound_end_comes e b h f o.0 o.1.0 o.1.1

pub timer_place : (e : Edition) (l : TimerPlace) (b : Machine) (h : Since) → FitsMachine b → At (quick timer_code e) (AtTimer l) b h
    → RunsPlace (quick timer_code e) (calm_pieces (quick timer_code e)) (AtTimer l) b h
timer_place e RandomCount b h f o = random_count_holds e b h f o.0.0 o.0.1 o o.1
timer_place e GetDelay b h f o = get_delay_holds e b h f o.0.0 o.0.1 o o.1
timer_place e SetDelayPut b h f o = set_delay_put_holds e b h f o.0.0 o.0.1 o.0.2 o o.1
timer_place e SetSoundPut b h f o = set_sound_put_holds e b h f o.0.0 o.0.1 o.0.2 o o.1

pub awake : (e : Edition) (l : TimerPlace) (b : Machine) (h : Since) → At (quick timer_code e) (AtTimer l) b h → b.regs.idle ≡ false
awake e RandomCount b h o = o.0.0.entered.holds.awake
awake e GetDelay b h o = o.0.0.entered.holds.awake
awake e SetDelayPut b h o = o.0.0.entered.holds.awake
awake e SetSoundPut b h o = o.0.0.entered.holds.awake

pub fits : (e : Edition) → FitsRom (both timer_code e)
fits = with_part_fits timer_code refl

pub comes : Comes Timer (both timer_code)
comes = calm_comes Timer (both timer_code) timer_block timer_place
