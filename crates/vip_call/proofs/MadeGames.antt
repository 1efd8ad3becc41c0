-- A demonstration game never stops: claims that its opcodes keep to are closed.
use Rattle.std.proofs.Common.{◌≡◌, ◌∙◌, ℕ, zero, suc, ◌+◌, ◌*◌, ◌/◌, ◌%◌, ◌^◌, ◌-◌, ◌<◌, ◌≤◌, Bool, true, false, ◌&&◌, ◌||◌, leb, List, [], ◌∷◌, ◌++◌, map, slice_index, None, refl, ap, arith, inl, inr}
use Rattle.std.specs.Prelude.{◌==◌, if◌then◌else◌}
use Rattle.std.specs.List.{All, flat_map, list_any}
use Rattle.std.specs.Ordering.{is_eq}
use Rattle.std.proofs.lemmas.Cmp.{tied_itself}
use Rattle.game_check.proofs.Ordered.{order_total}
use Rattle.game_check.specs.Grammar.{order}
use Rattle.std.proofs.lemmas.Bool.{and_from, cases_lt, cases_order, le-leb}
use Rattle.std.proofs.lemmas.List.Elements.{All-cons, All-map, All-nil}
use Rattle.chip8_lang.specs.declared.instr.Instr.{Instr}
use Rattle.chip8_lang.specs.declared.instr.Instr.TheVariants.{SkipEq, Load, Add, Sum, Sub, Right, Random, Draw}
use Rattle.chip8_lang.specs.declared.view.Edition.TheVariants.{Usual}
use Rattle.chip8_lang.specs.Decode.{instr_of_bytes}
use Rattle.chip8_lang.specs.Editions.{font_start, memory_start}
use Rattle.chip8_lang.specs.Events.{numbers_from}
use Rattle.chip8_lang.specs.State.{is_in_memory}
use Rattle.game_check.specs.declared.claim.Claim.{Claim}
use Rattle.game_check.specs.Closed.{allows, cause_by, cause_in, has_start, instr_in, is_claimed, point}
use Rattle.game_check.specs.States.{NeverStops}
use Rattle.game_check.proofs.Faultless.{IsClosed}
use Rattle.game_check.proofs.Games.{closed_games}
use Rattle.vip_words.specs.declared.request.MadeGame.{MadeGame}
use Rattle.vip_words.specs.declared.request.MadeGame.TheVariants.{Demo}
use Rattle.vip_tools.proofs.DemoLemmas.{made-bytes}
use Rattle.vip_tools.specs.Demo.{random, with_byte, with_register, opcode_by, demo_opcodes, demo_game, made_game}
use Rattle.asm_core.specs.Encoding.{word_bytes}

-- ---- what each opcode is

-- an instruction that leaves I, the stack and memory, and goes on behind it or behind the next one; what it draws has five bytes
abbrev IsPlain : Instr → Type 0
IsPlain (SkipEq x k) = Unit {0}
IsPlain (Load x k) = Unit {0}
IsPlain (Add x k) = Unit {0}
IsPlain (Sum x y) = Unit {0}
IsPlain (Sub x y) = Unit {0}
IsPlain (Right x y) = Unit {0}
IsPlain (Random x k) = Unit {0}
IsPlain (Draw x y n) = n ≡ 5
IsPlain _ = ⊥

or_right : (a b : Bool) → b ≡ true → (a || b) ≡ true
or_right true b h = refl
or_right false b h = h

plain_if : (r : ℕ) → r < 65536 → (a b c d e f g : Bool) → (k : ℕ)
    → (if a then with_byte 0x6000 r else if b then with_byte 0x7000 r else if c then with_register 0x8004 r else if d then with_register 0x8005 r
    else if e then with_register 0x8006 r else if f then with_byte 0xc000 r else if g then with_byte 0x3000 r else with_register 0xd005 r) ≡ k
    → IsPlain (instr_of_bytes (k / 256) (k % 256))
plain_if r low true b c d e f g k is = let digit : k / 256 / 16 ≡ 6 = omega (arith, low, is) in rw digit tt
plain_if r low false true c d e f g k is = let digit : k / 256 / 16 ≡ 7 = omega (arith, low, is) in rw digit tt
plain_if r low false false true d e f g k is =
    let digit : k / 256 / 16 ≡ 8 = omega (arith, low, is) in let last : k % 256 % 16 ≡ 4 = omega (arith, low, is) in rw (digit, last) tt
plain_if r low false false false true e f g k is =
    let digit : k / 256 / 16 ≡ 8 = omega (arith, low, is) in let last : k % 256 % 16 ≡ 5 = omega (arith, low, is) in rw (digit, last) tt
plain_if r low false false false false true f g k is =
    let digit : k / 256 / 16 ≡ 8 = omega (arith, low, is) in let last : k % 256 % 16 ≡ 6 = omega (arith, low, is) in rw (digit, last) tt
plain_if r low false false false false false true g k is = let digit : k / 256 / 16 ≡ 12 = omega (arith, low, is) in rw digit tt
plain_if r low false false false false false false true k is = let digit : k / 256 / 16 ≡ 3 = omega (arith, low, is) in rw digit tt
plain_if r low false false false false false false false k is =
    let digit : k / 256 / 16 ≡ 13 = omega (arith, low, is) in let last : k % 256 % 16 ≡ 5 = omega (arith, low, is) in rw digit last

plain : (r : ℕ) → r < 65536 → IsPlain (instr_of_bytes (opcode_by r / 256) (opcode_by r % 256))
unfolding opcode_by
plain r low = plain_if r low (r % 8 == 0) (r % 8 == 1) (r % 8 == 2) (r % 8 == 3) (r % 8 == 4) (r % 8 == 5) (r % 8 == 6) _ refl

-- ---- the bytes of a game

high_at : (opcodes : List ℕ) (k : ℕ) → slice_index (flat_map word_bytes opcodes) (2 * k) ≡ slice_index opcodes k / 256
high_at [] k = refl
high_at (o ∷ os) zero = refl
high_at (o ∷ os) (suc k) = let twice : 2 * suc k ≡ suc (suc (2 * k)) = omega arith in rw twice (high_at os k)

low_at : (opcodes : List ℕ) (k : ℕ) → slice_index (flat_map word_bytes opcodes) (2 * k + 1) ≡ slice_index opcodes k % 256
low_at [] k = refl
low_at (o ∷ os) zero = refl
low_at (o ∷ os) (suc k) = let twice : 2 * suc k + 1 ≡ suc (suc (2 * k + 1)) = omega arith in rw twice (low_at os k)

within_map : (f : ℕ → ℕ) (m n j : ℕ) (more : List ℕ) → j < n → slice_index (map f (numbers_from m n) ++ more) j ≡ f (m + j)
within_map f m zero j more within = absurd (omega (arith, within))
within_map f m (suc n) zero more within = ap f (omega arith)
within_map f m (suc n) (suc j) more within = within_map f (m + 1) n j more (omega (arith, within)) ∙ ap f (omega arith)

behind_map : (f : ℕ → ℕ) (m n j : ℕ) (more : List ℕ) → slice_index (map f (numbers_from m n) ++ more) (n + j) ≡ slice_index more j
behind_map f m zero j more = let none : 0 + j ≡ j = omega arith in rw none refl
behind_map f m (suc n) j more = let one : suc n + j ≡ suc (n + j) = omega arith in rw one (behind_map f (m + 1) n j more)

-- ---- the claims

-- I lies at a digit of the font behind the first opcode, and the stack is empty
claim_at : ℕ → Claim
claim_at k = record { point = point (memory_start + 2 * k) []; low = font_start; high = font_start + 75 }

start : Claim
start = record { point = point memory_start []; low = 0; high = font_start + 75 }

claims_to : ℕ → List Claim
claims_to n = start ∷ map claim_at (numbers_from 1 n)

in_map : (f : ℕ → Claim) (p : Claim → Bool) (m n j : ℕ) → m ≤ j → j < m + n → p (f j) ≡ true → list_any p (map f (numbers_from m n)) ≡ true
in_map f p m zero j from to is = absurd (omega (arith, from, to))
in_map f p m (suc n) j from to is = elim (cases_order j m) [
  | inl here ↦ rw (← here, is) refl
  | inr (inl before) ↦ absurd (omega (arith, from, before))
  | inr (inr behind) ↦ or_right (p (f m)) _ (in_map f p (m + 1) n j (omega (arith, behind)) (omega (arith, to)) is)
]

all_numbers : (P : ℕ → Type 0) (m n : ℕ) → ((k : ℕ) → m ≤ k → k < m + n → P k) → All P (numbers_from m n)
all_numbers P m zero h = All-nil P
all_numbers P m (suc n) h =
    All-cons P m (numbers_from (m + 1) n) (h m (omega arith) (omega arith)) (all_numbers P (m + 1) n (λ k from to. h k (omega (arith, from)) (omega (arith, to))))

-- the order of a point and itself
same_order : (pc : ℕ) → is_eq (order (point pc []) (point pc [])) ≡ true
same_order pc = rw (tied_itself order_total (point pc [])) refl

module _ (n : ℕ) where
  here : (k : ℕ) → 1 ≤ k → k ≤ n → is_claimed (claims_to n) font_start (font_start + 75) (point (memory_start + 2 * k) []) ≡ true
  unfolding claim_at claims_to start
  here k from to =
      or_right (allows font_start (font_start + 75) (point (memory_start + 2 * k) []) start) _
      (in_map claim_at (allows font_start (font_start + 75) (point (memory_start + 2 * k) [])) 1 n k from (omega (arith, to))
      (rw (same_order (memory_start + 2 * k)) refl))

  next : (k : ℕ) → 1 ≤ k → k + 1 ≤ n → is_claimed (claims_to n) font_start (font_start + 75) (point (memory_start + 2 * k + 2) []) ≡ true
  next k from to = let at : memory_start + 2 * k + 2 ≡ memory_start + 2 * (k + 1) = omega arith in rw at (here (k + 1) (omega arith) to)

  behind : (k : ℕ) → 1 ≤ k → k + 2 ≤ n → is_claimed (claims_to n) font_start (font_start + 75) (point (memory_start + 2 * k + 4) []) ≡ true
  behind k from to = let at : memory_start + 2 * k + 4 ≡ memory_start + 2 * (k + 2) = omega arith in rw at (here (k + 2) (omega arith) to)

  plain_closed : (k : ℕ) → 1 ≤ k → k + 2 ≤ n → (i : Instr) → IsPlain i → cause_by Usual (claims_to n) i (claim_at k) ≡ None
  unfolding claim_at claims_to start
  plain_closed k from to (SkipEq x b) plain = rw (next k from (omega (arith, to)), behind k from to) refl
  plain_closed k from to (Load x b) plain = rw (next k from (omega (arith, to))) refl
  plain_closed k from to (Add x b) plain = rw (next k from (omega (arith, to))) refl
  plain_closed k from to (Sum x y) plain = rw (next k from (omega (arith, to))) refl
  plain_closed k from to (Sub x y) plain = rw (next k from (omega (arith, to))) refl
  plain_closed k from to (Right x y) plain = rw (next k from (omega (arith, to))) refl
  plain_closed k from to (Random x b) plain = rw (next k from (omega (arith, to))) refl
  plain_closed k from to (Draw x y m) plain = rw (plain, next k from (omega (arith, to))) refl
  plain_closed k from to _ plain = absurd plain

-- ---- a game

-- each number behind the seed has 32 bits
random_low : (seed k : ℕ) → 1 ≤ k → random seed k < 2 ^ 32
random_low seed zero some = absurd (omega (arith, some))
random_low seed (suc k) some = omega arith

instr_of_list : (opcodes : List ℕ) (k : ℕ)
    → instr_in (flat_map word_bytes opcodes) (memory_start + 2 * k) ≡ instr_of_bytes (slice_index opcodes k / 256) (slice_index opcodes k % 256)
unfolding instr_in
instr_of_list opcodes k =
    let high : memory_start + 2 * k - memory_start ≡ 2 * k = omega arith in
    let low : memory_start + 2 * k + 1 - memory_start ≡ 2 * k + 1 = omega arith in
    rw (high, low, high_at opcodes k, low_at opcodes k) refl

module _ (seed : ℕ) where
  opcode_at : ℕ → ℕ
  opcode_at k = slice_index (demo_opcodes seed) k

  instr_is : (k : ℕ) → instr_in (demo_game seed) (memory_start + 2 * k) ≡ instr_of_bytes (opcode_at k / 256) (opcode_at k % 256)
  unfolding demo_game opcode_at
  instr_is k = instr_of_list (demo_opcodes seed) k

  first_at : opcode_at 0 ≡ 0xf029
  unfolding opcode_at
  first_at = refl

  random_at : (k : ℕ) → 1 ≤ k → k < 1614 → opcode_at k ≡ opcode_by (random seed k / 65536)
  unfolding opcode_at
  random_at zero from to = absurd (omega (arith, from))
  random_at (suc j) from to =
      let next : 1 + j ≡ suc j = omega arith in
      within_map (λ k. opcode_by (random seed k / 65536)) 1 1613 j (0x1200 ∷ 0x1200 ∷ []) (omega (arith, to))
      ∙ ap (λ k. opcode_by (random seed k / 65536)) next

  jump_at : (k : ℕ) → 1614 ≤ k → k < 1616 → opcode_at k ≡ 0x1200
  unfolding opcode_at
  jump_at k from to =
      let behind : k ≡ suc (1613 + (k - 1614)) = omega (arith, from) in
      ap (slice_index (demo_opcodes seed)) behind ∙ behind_map (λ k. opcode_by (random seed k / 65536)) 1 1613 (k - 1614) (0x1200 ∷ 0x1200 ∷ [])
      ∙ twice (k - 1614) (omega (arith, to))
    where
      twice : (j : ℕ) → j < 2 → slice_index (0x1200 ∷ 0x1200 ∷ []) j ≡ 0x1200
      twice zero within = refl
      twice (suc zero) within = refl
      twice (suc (suc j)) within = absurd (omega (arith, within))

  abbrev Closed : Claim → Type 0
  Closed = IsClosed Usual (demo_game seed) (claims_to 1615)

  inside : (k : ℕ) → k ≤ 1615 → is_in_memory Usual (memory_start + 2 * k) 2 ≡ true
  inside k to = and_from (leb 512 (512 + 2 * k)) (leb (512 + 2 * k + 2) 3744) (le-leb 512 (512 + 2 * k) (omega arith)) (le-leb (512 + 2 * k + 2) 3744 (omega (arith, to)))

  start_closed : Closed start
  unfolding cause_in claims_to claim_at start
  start_closed =
      rw (instr_is 0, first_at) refl

  later_closed : (k : ℕ) → 1 ≤ k → k < 1616 → Closed (claim_at k)
  unfolding cause_in claim_at claims_to start
  later_closed k from to = elim (cases_lt k 1614) [
    | inl early ↦
        let low = random_low seed k from in
        rw (inside k (omega (arith, to)), instr_is k, random_at k from early)
        (plain_closed 1615 k from (omega (arith, early)) _ (plain (random seed k / 65536) (omega (arith, low))))
    | inr late ↦ rw (inside k (omega (arith, to)), instr_is k, jump_at k late to) refl
  ]

  closed : All Closed (claims_to 1615)
  unfolding claims_to
  closed = All-cons Closed start (map claim_at (numbers_from 1 1615)) start_closed (All-map Closed claim_at (numbers_from 1 1615) (all_numbers (λ k. Closed (claim_at k)) 1 1615 later_closed))

  started : has_start (claims_to 1615) ≡ true
  unfolding has_start claims_to start
  started = refl

  demo_endless : NeverStops Usual (demo_game seed)
  demo_endless = closed_games Usual (demo_game seed) (claims_to 1615) (made-bytes (Demo seed)) closed started

pub never_stops : (made : MadeGame) → NeverStops Usual (made_game made)
never_stops (Demo seed) = demo_endless seed
