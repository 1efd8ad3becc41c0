-- The addresses of these blocks and places.
use Rattle.std.proofs.Common.{◌≡◌, ℕ, refl, ◌∙◌, ap, List, [], ◌∷◌, ◌++◌}
use Rattle.machine.specs.Bank.{word_of, value}
use Rattle.machine.specs.Instruction.{at}
use Rattle.machine.specs.Board.{Machine}
use Rattle.chip8_lang.specs.declared.view.Edition.{Edition}
use Rattle.chip8_image.specs.declared.image.labels.TheConstants.{AT_SET_DELAY_END, AT_SET_SOUND_END}
use Rattle.chip8_image.specs.declared.parts.Part.TheVariants.{Timer}
use Rattle.rom_law.specs.Program.{Program}
use Rattle.rom_law.specs.Rows.{Since, now}
use Rattle.rom_rows.specs.Heads.{Entered}
use Rattle.rom_rows.specs.TimerBlocks.{TimerBlock, TimerPlace}
use Rattle.rom_rows.specs.TimerBlocks.TimerBlock.{Random, RandomMix, GetDelayPut, SetDelay, SetDelayEnd, SetSound, SetSoundEnd}
use Rattle.rom_rows.specs.TimerBlocks.TimerPlace.{RandomCount, GetDelay, SetDelayPut, SetSoundPut}
use Rattle.rom_rows.specs.Table.{Head, At, place_data_of}
use Rattle.rom_rows.specs.Table.Block.{OfTimer}
use Rattle.rom_rows.specs.Table.Place.{AtTimer}
use Rattle.rom_rows.proofs.Addresses.{Follows, blocks_of, places_of, covers}
use Rattle.rom_rows.proofs.Entry.{is_entered, on_3, is_on_3}
use Rattle.rom_rows.specs.Addresses.{AllInBlocks}
use Rattle.rom_rows.specs.Rom.{program_of}
use Rattle.rom_parts.specs.timer.Code.{timer_code}
use Rattle.rom_parts.specs.Parts.{PlaceOf, place, rom_of}
use Rattle.rom_parts.proofs.Rom.{quick}

pub block_follows : (e : Edition) (l : TimerBlock) (b : Machine) (h : Since) → Head (quick timer_code e) (OfTimer l) b h
    → Follows (quick timer_code e) (OfTimer l) b
block_follows e Random b h o = record { same = _; is = is_entered o.0.entered; follows = refl }
block_follows e RandomMix b h o = record { same = _; is = is_entered o.0.0.entered; follows = refl }
block_follows e GetDelayPut b h o = record { same = _; is = is_entered o.0.0.entered; follows = refl }
block_follows e SetDelay b h o = record { same = _; is = is_entered o.0.0.entered; follows = refl }
block_follows e SetDelayEnd b h o = record { same = on_3 AT_SET_DELAY_END b; is = is_on_3 AT_SET_DELAY_END b o.0.done.p o.0.done.r3; follows = refl }
block_follows e SetSound b h o = record { same = _; is = is_entered o.0.0.entered; follows = refl }
block_follows e SetSoundEnd b h o = record { same = on_3 AT_SET_SOUND_END b; is = is_on_3 AT_SET_SOUND_END b o.0.done.p o.0.done.r3; follows = refl }

-- the program counter in a routine
counter : {x : Program} (a : ℕ) (b : Machine) (h : Since) → Entered x a b (now h) → at b.regs b.regs.p ≡ value (word_of a)
counter a b h o = ap (at b.regs) o.p ∙ ap value o.r3

pub place_addresses : (e : Edition) (l : PlaceOf Timer) (b : Machine) (h : Since) → At (program_of e (rom_of timer_code e)) (place Timer l) b h
    → at b.regs b.regs.p ≡ (place_data_of (place Timer l)).address
place_addresses e RandomCount b h o = counter _ b h o.0.0.entered
place_addresses e GetDelay b h o = counter _ b h o.0.0.entered
place_addresses e SetDelayPut b h o = counter _ b h o.0.0.entered
place_addresses e SetSoundPut b h o = counter _ b h o.0.0.entered

blocks : List TimerBlock
blocks =
    Random ∷ RandomMix ∷ GetDelayPut ∷ SetDelay ∷ SetDelayEnd ∷ SetSound ∷ SetSoundEnd ∷ []

places : List TimerPlace
places =
    RandomCount ∷ GetDelay ∷ SetDelayPut ∷ SetSoundPut ∷ []

pub covered : AllInBlocks Timer
unfolding blocks places
covered = covers Timer (blocks_of (λ l. OfTimer l) blocks ++ places_of (λ l. AtTimer l) places) refl
