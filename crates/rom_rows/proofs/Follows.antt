-- A block or a place follows at the end of a block.
use Rattle.std.proofs.Common.{◌≡◌, ℕ, sym, subst, false}
use Rattle.machine.specs.Board.{Machine}
use Rattle.rom_law.specs.Code.{is_event}
use Rattle.rom_law.specs.Program.{Program, code}
use Rattle.rom_law.specs.Rows.{Since, Grows, Ends, now}
use Rattle.rom_law.specs.Rows.Ends.{Continues}
use Rattle.rom_law.specs.Rows.Starts.{Enters, Meets}
use Rattle.rom_law.proofs.Steps.{now_same}
use Rattle.rom_rows.specs.Heads.{Within}
use Rattle.rom_rows.specs.FetchBlocks.{FetchBlock, fetch_data}
use Rattle.rom_rows.specs.ArithBlocks.{ArithBlock, arith_data}
use Rattle.rom_rows.specs.MemoryBlocks.{MemoryBlock, memory_data}
use Rattle.rom_rows.specs.SpriteBlocks.{SpriteBlock, IsEarly, SpritePlace, sprite_data, sprite_place_data}
use Rattle.rom_rows.specs.TimerBlocks.{TimerBlock, TimerPlace, timer_data, timer_place_data}
use Rattle.rom_rows.specs.KeyBlocks.{KeyBlock, KeyPlace, key_data, key_place_data}
use Rattle.rom_rows.specs.Table.{Block, Place, IsBefore, data_of, place_data_of, calm_pieces}
use Rattle.rom_rows.specs.Table.Block.{OfFetch, OfArith, OfMemory, OfSprite, OfTimer, OfKey}
use Rattle.rom_rows.specs.Table.Place.{AtTimer, AtKey, AtSprite}

module _ (x : Program) {k : ℕ} {h h' : Since} (g : Grows h k 0 h') (c : Machine) (calm : is_event (code x) c ≡ false) where
  to_block : (l : Block) → IsBefore l → (data_of l).at x c (now h) h'.keys → Within ((data_of l).time x (now h)) h' → Ends x (calm_pieces x) c h'
  to_block l early at w =
      Continues calm (Enters l (subst (λ s. (data_of l).at x c s h'.keys × Within ((data_of l).time x s) h') (sym (now_same g)) (at, w), early))

  to_place : (l : Place) → (place_data_of l).at x c (now h) h'.keys → Within ((place_data_of l).time x (now h)) h' → Ends x (calm_pieces x) c h'
  to_place l at w =
      Continues calm (Meets l (subst (λ s. (place_data_of l).at x c s h'.keys × Within ((place_data_of l).time x s) h') (sym (now_same g)) (at, w)))

  pub to_fetch : (l : FetchBlock) → (fetch_data l).at x c (now h) h'.keys → Within ((fetch_data l).time x (now h)) h' → Ends x (calm_pieces x) c h'
  to_fetch l = to_block (OfFetch l) tt

  pub to_arith : (l : ArithBlock) → (arith_data l).at x c (now h) h'.keys → Within ((arith_data l).time x (now h)) h' → Ends x (calm_pieces x) c h'
  to_arith l = to_block (OfArith l) tt

  pub to_memory : (l : MemoryBlock) → (memory_data l).at x c (now h) h'.keys → Within ((memory_data l).time x (now h)) h' → Ends x (calm_pieces x) c h'
  to_memory l = to_block (OfMemory l) tt

  pub to_timer : (l : TimerBlock) → (timer_data l).at x c (now h) h'.keys → Within ((timer_data l).time x (now h)) h' → Ends x (calm_pieces x) c h'
  to_timer l = to_block (OfTimer l) tt

  pub to_key : (l : KeyBlock) → (key_data l).at x c (now h) h'.keys → Within ((key_data l).time x (now h)) h' → Ends x (calm_pieces x) c h'
  to_key l = to_block (OfKey l) tt

  pub to_sprite : (l : SpriteBlock) → IsEarly l → (sprite_data l).at x c (now h) h'.keys → Within ((sprite_data l).time x (now h)) h' → Ends x (calm_pieces x) c h'
  to_sprite l = to_block (OfSprite l)

  pub to_sprite_place : (l : SpritePlace) → (sprite_place_data l).at x c (now h) h'.keys → Within ((sprite_place_data l).time x (now h)) h' → Ends x (calm_pieces x) c h'
  to_sprite_place l = to_place (AtSprite l)

  pub to_timer_place : (l : TimerPlace) → (timer_place_data l).at x c (now h) h'.keys → Within ((timer_place_data l).time x (now h)) h' → Ends x (calm_pieces x) c h'
  to_timer_place l = to_place (AtTimer l)

  pub to_key_place : (l : KeyPlace) → (key_place_data l).at x c (now h) h'.keys → Within ((key_place_data l).time x (now h)) h' → Ends x (calm_pieces x) c h'
  to_key_place l = to_place (AtKey l)
