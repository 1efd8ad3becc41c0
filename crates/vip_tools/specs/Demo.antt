-- The demonstration games: programs of 1,616 opcodes by a random number, which never stop.
use Rattle.std.specs.Prelude.{ℕ, zero, suc, ◌+◌, ◌*◌, ◌/◌, ◌%◌, ◌==◌, if◌then◌else◌, List, [], ◌∷◌, ◌++◌, map}
use Rattle.std.specs.List.{flat_map}
use Rattle.chip8_lang.specs.Events.{numbers_from}
use Rattle.asm_core.specs.Encoding.{word_bytes}
use Rattle.vip_link.specs.Schedules.{next_random}
use Rattle.vip_words.specs.declared.request.MadeGame.{MadeGame}
use Rattle.vip_words.specs.declared.request.MadeGame.TheVariants.{Demo}

-- number 0 of a series is its seed
abbrev pub random : ℕ → ℕ → ℕ
random seed zero = seed
random seed (suc k) = next_random (random seed k)

-- an opcode by the high half of a random number: 6XKK, 7XKK, 8XY4, 8XY5, 8XY6, CXKK, 3XKK or DXY5
abbrev pub with_byte : ℕ → ℕ → ℕ
with_byte base r = base + r / 8 % 16 * 256 + r / 256

abbrev pub with_register : ℕ → ℕ → ℕ
with_register base r = base + r / 8 % 16 * 256 + r / 128 % 16 * 16

unfoldable pub opcode_by : ℕ → ℕ
opcode_by r =
    if r % 8 == 0 then with_byte 0x6000 r
    else if r % 8 == 1 then with_byte 0x7000 r
    else if r % 8 == 2 then with_register 0x8004 r
    else if r % 8 == 3 then with_register 0x8005 r
    else if r % 8 == 4 then with_register 0x8006 r
    else if r % 8 == 5 then with_byte 0xc000 r
    else if r % 8 == 6 then with_byte 0x3000 r
    else with_register 0xd005 r

-- I at the digit of V0, 1,613 opcodes by random numbers 1 to 1613, and twice a jump to the start
abbrev pub demo_opcodes : ℕ → List ℕ
demo_opcodes seed = 0xf029 ∷ map (λ k. opcode_by (random seed k / 65536)) (numbers_from 1 1613) ++ 0x1200 ∷ 0x1200 ∷ []

unfoldable pub demo_game : ℕ → List ℕ
demo_game seed = flat_map word_bytes (demo_opcodes seed)

-- a game that the program makes
abbrev pub made_game : MadeGame → List ℕ
made_game (Demo number) = demo_game number
