-- The opcodes of a demonstration game, one after another.
use Rattle.std.proofs.Common.{◌≡◌, ◌∙◌, sym, ℕ, zero, suc, ◌+◌, ◌/◌, ◌%◌, ◌^◌, ◌<◌, ◌≤◌, Bool, true, false, List, [], ◌∷◌, ◌++◌, All, length, map, slice_index, refl, ap, subst, arith, add-one}
use Rattle.std.proofs.lemmas.Grind.{flat_map-append}
use Rattle.std.proofs.lemmas.List.{map-append}
use Rattle.std.proofs.lemmas.List.Elements.{All-nil, All-cons, All-head, All-tail, All-append}
use Rattle.std.specs.Prelude.{◌==◌, if◌then◌else◌}
use Rattle.std.specs.List.{flat_map}
use Rattle.chip8_lang.specs.Events.{numbers_from}
use Rattle.chip8_lang.specs.State.{memory_size}
use Rattle.chip8_lang.specs.declared.view.Edition.TheVariants.{Usual}
use Rattle.vip_words.specs.declared.request.MadeGame.{MadeGame}
use Rattle.vip_words.specs.declared.request.MadeGame.TheVariants.{Demo}
use Rattle.vip_tools.specs.Demo.{random, with_byte, with_register, opcode_by, demo_game, made_game}
use Rattle.vip_link.specs.Schedules.{next_random}
use Rattle.asm_core.specs.Encoding.{word_bytes}

-- the opcodes up to a random number, and their bytes
abbrev pub opcodes_to : ℕ → ℕ → List ℕ
opcodes_to seed n = 0xf029 ∷ map (λ k. opcode_by (random seed k / 65536)) (numbers_from 1 n)

unfoldable pub bytes_to : ℕ → ℕ → List ℕ
bytes_to seed n = flat_map word_bytes (opcodes_to seed n)

numbers-snoc : (m n : ℕ) → numbers_from m (suc n) ≡ numbers_from m n ++ (m + n) ∷ []
numbers-snoc m zero = ap (λ k. k ∷ []) (omega arith)
numbers-snoc m (suc n) = ap (λ ks. m ∷ ks) (numbers-snoc (m + 1) n ∙ ap (λ k. numbers_from (m + 1) n ++ k ∷ []) (omega arith))

opcodes-suc : (seed n : ℕ) → opcodes_to seed (suc n) ≡ opcodes_to seed n ++ opcode_by (random seed (1 + n) / 65536) ∷ []
opcodes-suc seed n =
    let f : ℕ → ℕ = λ k. opcode_by (random seed k / 65536) in
    ap (λ os. 0xf029 ∷ os) (ap (map f) (numbers-snoc 1 n) ∙ map-append f (numbers_from 1 n) ((1 + n) ∷ []))

-- one opcode more
bytes_to-suc : (seed n : ℕ) → bytes_to seed (suc n) ≡ bytes_to seed n ++ word_bytes (opcode_by (random seed (1 + n) / 65536))
unfolding bytes_to
bytes_to-suc seed n =
    ap (flat_map word_bytes) (opcodes-suc seed n) ∙ flat_map-append word_bytes (opcodes_to seed n) (opcode_by (random seed (1 + n) / 65536) ∷ [])

-- one random number more
pub random-more : (seed n : ℕ) → random seed (n + 1) ≡ next_random (random seed n)
random-more seed n = rw add-one refl

-- one opcode more, high byte first
pub bytes-more :
    (seed n x opcode : ℕ) (game more : List ℕ) → opcode < 65536 → game ≡ bytes_to seed n → x ≡ random seed (n + 1) → opcode ≡ opcode_by (x / 65536)
    → more ≡ game ++ opcode / 256 % 256 ∷ opcode % 256 ∷ [] → more ≡ bytes_to seed (n + 1)
bytes-more seed n x opcode game more low had x-is opcode-is added =
    let high : opcode / 256 % 256 ≡ opcode / 256 = omega arith in
    let next : bytes_to seed (n + 1) ≡ bytes_to seed n ++ word_bytes (opcode_by (random seed (n + 1) / 65536)) =
    ap (bytes_to seed) (add-one n) ∙ bytes_to-suc seed n ∙ ap (λ k. bytes_to seed n ++ word_bytes (opcode_by (random seed k / 65536))) (omega arith) in
    added ∙ rw (high, had, next, ← x-is, ← opcode-is) refl

-- with the two jumps behind so many
unfoldable game_to : ℕ → ℕ → List ℕ
game_to seed n = flat_map word_bytes (opcodes_to seed n ++ 0x1200 ∷ 0x1200 ∷ [])

game_to-bytes : (seed n : ℕ) → bytes_to seed n ++ 0x12 ∷ 0x00 ∷ 0x12 ∷ 0x00 ∷ [] ≡ game_to seed n
unfolding bytes_to game_to
game_to-bytes seed n = sym (flat_map-append word_bytes (opcodes_to seed n) (0x1200 ∷ 0x1200 ∷ []))

game_to-whole : (seed : ℕ) → game_to seed 1613 ≡ demo_game seed
unfolding demo_game game_to
game_to-whole seed = refl

-- all opcodes, and the two jumps
pub whole-game : (seed n : ℕ) (game more : List ℕ) → n ≡ 1613 → game ≡ bytes_to seed n → more ≡ game ++ 0x12 ∷ 0x00 ∷ 0x12 ∷ 0x00 ∷ [] → more ≡ demo_game seed
whole-game seed n game more all had added =
    added ∙ ap (λ g. g ++ 0x12 ∷ 0x00 ∷ 0x12 ∷ 0x00 ∷ []) had ∙ game_to-bytes seed n ∙ ap (game_to seed) all ∙ game_to-whole seed

pub length-game : (seed : ℕ) → length (demo_game seed) ≡ 3232
unfolding demo_game
length-game seed = refl

-- ---- its bytes are bytes

opcode_by-low : (r : ℕ) → r < 65536 → opcode_by r < 65536
unfolding opcode_by
opcode_by-low r low = go (r % 8 == 0) (r % 8 == 1) (r % 8 == 2) (r % 8 == 3) (r % 8 == 4) (r % 8 == 5) (r % 8 == 6)
  where
    go : (a b c d e f g : Bool)
        → (if a then with_byte 0x6000 r else if b then with_byte 0x7000 r else if c then with_register 0x8004 r else if d then with_register 0x8005 r
        else if e then with_register 0x8006 r else if f then with_byte 0xc000 r else if g then with_byte 0x3000 r else with_register 0xd005 r) < 65536
    go true b c d e f g = omega arith
    go false true c d e f g = omega arith
    go false false true d e f g = omega arith
    go false false false true e f g = omega arith
    go false false false false true f g = omega arith
    go false false false false false true g = omega arith
    go false false false false false false true = omega arith
    go false false false false false false false = omega arith

-- each number behind the seed has 32 bits
random-low : (seed k : ℕ) → 1 ≤ k → random seed k < 2 ^ 32
random-low seed zero some = absurd (omega (arith, some))
random-low seed (suc k) some = omega arith

opcodes-low : (seed m n : ℕ) → 1 ≤ m → All (λ opcode. opcode < 65536) (map (λ k. opcode_by (random seed k / 65536)) (numbers_from m n))
opcodes-low seed m zero some = All-nil (λ opcode. opcode < 65536)
opcodes-low seed m (suc n) some =
    let low : random seed m < 2 ^ 32 = random-low seed m some in
    All-cons (λ opcode. opcode < 65536) (opcode_by (random seed m / 65536)) _ (opcode_by-low (random seed m / 65536) (omega arith))
    (opcodes-low seed (m + 1) n (omega arith))

bytes-low : (opcodes : List ℕ) → All (λ opcode. opcode < 65536) opcodes → (i : ℕ) → slice_index (flat_map word_bytes opcodes) i < 256
bytes-low [] low i = omega arith
bytes-low (opcode ∷ opcodes) low zero =
    let here : opcode < 65536 = All-head (λ o. o < 65536) opcode opcodes low in
    omega arith
bytes-low (opcode ∷ opcodes) low (suc zero) = omega arith
bytes-low (opcode ∷ opcodes) low (suc (suc i)) = bytes-low opcodes (All-tail (λ o. o < 65536) opcode opcodes low) i

jumps-low : All (λ opcode. opcode < 65536) (0x1200 ∷ 0x1200 ∷ [])
jumps-low = All-cons (λ o. o < 65536) 0x1200 (0x1200 ∷ []) (omega arith) (All-cons (λ o. o < 65536) 0x1200 [] (omega arith) (All-nil (λ o. o < 65536)))

game_to-low : (seed n i : ℕ) → slice_index (game_to seed n) i < 256
unfolding game_to
game_to-low seed n =
    bytes-low (opcodes_to seed n ++ 0x1200 ∷ 0x1200 ∷ [])
    (All-cons (λ o. o < 65536) 0xf029 _ (omega arith) (All-append (λ o. o < 65536) _ _ (opcodes-low seed 1 n (omega arith)) jumps-low))

pub bytes-game : (seed i : ℕ) → slice_index (demo_game seed) i < 256
bytes-game seed i = subst (λ game. slice_index game i < 256) (game_to-whole seed) (game_to-low seed 1613 i)

-- a game that the program makes fits, and is of bytes
pub made-fits : (made : MadeGame) → length (made_game made) ≤ memory_size Usual
made-fits (Demo number) = omega (arith, length-game number)

pub made-bytes : (made : MadeGame) (i : ℕ) → slice_index (made_game made) i < 256
made-bytes (Demo number) = bytes-game number
