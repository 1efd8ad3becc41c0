-- The blocks and places of CXKK, FX07, FX15 and FX18.
use Rattle.std.specs.Prelude.{◌≡◌, ℕ, ◌/◌, ◌%◌, [], ◌∷◌}
use Rattle.machine.specs.Bank.{word_of}
use Rattle.machine.specs.Board.{Machine}
use Rattle.chip8_lang.specs.Editions.{random_cell}
use Rattle.chip8_lang.specs.State.{Lang, variable}
use Rattle.chip8_image.specs.declared.image.labels.TheConstants.{AT_RANDOM, AT_RANDOM_COUNT, AT_RANDOM_MIX, AT_GET_DELAY, AT_GET_DELAY_PUT, AT_SET_DELAY, AT_SET_DELAY_PUT, AT_SET_DELAY_END, AT_SET_SOUND, AT_SET_SOUND_PUT, AT_SET_SOUND_END}
use Rattle.rom_law.specs.Program.{Program}
use Rattle.rom_rows.specs.Blocks.{BlockData, PlaceData, block, place}
use Rattle.rom_rows.specs.Heads.{high_byte, low_byte, Enters, Done}
use Rattle.rom_rows.specs.Heads.Time.{Exactly, Met}

pub data TimerBlock : Type 0 where
  -- CXKK up to the count of ticks, and behind it
  Random : TimerBlock
  RandomMix : TimerBlock
  -- FX07 behind the timer
  GetDelayPut : TimerBlock
  -- FX15 and FX18, each before the timer and behind it
  SetDelay : TimerBlock
  SetDelayEnd : TimerBlock
  SetSound : TimerBlock
  SetSoundEnd : TimerBlock

pub data TimerPlace : Type 0 where
  -- the count of ticks is read
  RandomCount : TimerPlace
  -- DT is read, DT is written, and ST is written
  GetDelay : TimerPlace
  SetDelayPut : TimerPlace
  SetSoundPut : TimerPlace

-- in CXKK, RD is at the random byte, and X is RD
pub record Mixes (b : Machine) : Type 0 where
  pub rd : b.regs.r.rd ≡ word_of random_cell
  pub x : b.regs.x ≡ 13

-- FXKK at its end
pub record Ended (x : Program) (a kk : ℕ) (b : Machine) (s : Lang) : Type 0 where
  pub done : Done x a b s
  pub digit : high_byte s / 16 ≡ 15
  pub low : low_byte s ≡ kk

abbrev pub timer_data : TimerBlock → BlockData
timer_data Random = block (λ x b s sets. Enters x AT_RANDOM 12 b s) (λ x s. Exactly 80) AT_RANDOM (2 ∷ 3 ∷ 5 ∷ 6 ∷ [])
timer_data RandomMix =
    block (λ x b s sets. Enters x AT_RANDOM_MIX 12 b s × Mixes b × (b.regs.d ≡ s.n % 256)) (λ x s. Met 92 90)
    AT_RANDOM_MIX (1 ∷ 2 ∷ 3 ∷ 4 ∷ 5 ∷ 7 ∷ 8 ∷ 9 ∷ 10 ∷ 11 ∷ [])
timer_data GetDelayPut =
    block (λ x b s sets. Enters x AT_GET_DELAY_PUT 15 b s × (low_byte s ≡ 0x07) × (b.regs.d ≡ s.dt)) (λ x s. Met 88 86) AT_GET_DELAY_PUT (1 ∷ [])
timer_data SetDelay = block (λ x b s sets. Enters x AT_SET_DELAY 15 b s × (low_byte s ≡ 0x15)) (λ x s. Exactly 98) AT_SET_DELAY []
timer_data SetDelayEnd = block (λ x b s sets. Ended x AT_SET_DELAY_END 0x15 b s) (λ x s. Met 102 100) AT_SET_DELAY_END []
timer_data SetSound = block (λ x b s sets. Enters x AT_SET_SOUND 15 b s × (low_byte s ≡ 0x18)) (λ x s. Exactly 104) AT_SET_SOUND []
timer_data SetSoundEnd = block (λ x b s sets. Ended x AT_SET_SOUND_END 0x18 b s) (λ x s. Met 108 106) AT_SET_SOUND_END []

abbrev pub timer_place_data : TimerPlace → PlaceData
timer_place_data RandomCount = place (λ x b s sets. Enters x AT_RANDOM_COUNT 12 b s × Mixes b) (λ x s. Exactly 90) AT_RANDOM_COUNT
timer_place_data GetDelay = place (λ x b s sets. Enters x AT_GET_DELAY 15 b s × (low_byte s ≡ 0x07)) (λ x s. Exactly 86) AT_GET_DELAY
timer_place_data SetDelayPut =
    place (λ x b s sets. Enters x AT_SET_DELAY_PUT 15 b s × (low_byte s ≡ 0x15) × (b.regs.d ≡ variable s (high_byte s % 16))) (λ x s. Exactly 100)
    AT_SET_DELAY_PUT
timer_place_data SetSoundPut =
    place (λ x b s sets. Enters x AT_SET_SOUND_PUT 15 b s × (low_byte s ≡ 0x18) × (b.regs.d ≡ variable s (high_byte s % 16))) (λ x s. Exactly 106)
    AT_SET_SOUND_PUT
