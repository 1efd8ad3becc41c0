-- The bytes of this part of the ROM: EX9E, EXA1 and FX0A. A line begins at a label of the source or 16 bytes behind the last one.
use Rattle.std.specs.Prelude.{List, [], ◌∷◌}
use Rattle.chip8_lang.specs.declared.view.Edition.{Edition}
use Rattle.rom_rows.specs.Rom.{Stretch, stretch}
use Rattle.rom_rows.specs.Heads.{page_of}

abbrev pub keys_code : Edition → List Stretch
keys_code e =
    stretch 0x8271
    (0xe6 ∷ 0x8c ∷ 0xfb ∷ 0x9e ∷ 0x32 ∷ 0x80 ∷  -- 8271 key_skip
    0x8c ∷ 0xfb ∷ 0xa1 ∷ 0x3a ∷ 0x59 ∷  -- 8277 key_skip_up
    0x62 ∷  -- 827C skip_up
    0x3e ∷ 0x84 ∷  -- 827D skip_up_test
    0xd4 ∷  -- 827F skip_up_no
    0x62 ∷  -- 8280 skip_down
    0x36 ∷ 0x84 ∷  -- 8281 skip_down_test
    0xd4 ∷  -- 8283 skip_down_no
    0x15 ∷ 0x15 ∷ 0xd4 ∷  -- 8284 key_yes
    []) ∷
    stretch 0x833a
    (0xf8 ∷ page_of e ∷ 0xbd ∷ 0xf8 ∷ 0xd0 ∷ 0xad ∷ 0xed ∷ 0xf8 ∷ 0x00 ∷ 0xae ∷  -- 833A wait_key
    0x8e ∷ 0x5d ∷ 0x62 ∷ 0x2d ∷  -- 8344 key_next
    0x36 ∷ 0x4d ∷  -- 8348 key_test
    0x1e ∷ 0x30 ∷ 0x44 ∷  -- 834A key_count
    0x36 ∷ 0x4d ∷  -- 834D key_held
    0x8e ∷ 0xfa ∷ 0x0f ∷ 0x56 ∷ 0xd4 ∷  -- 834F key_freed
    []) ∷
    []
