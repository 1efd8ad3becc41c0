-- Bytes of RAM by pages, and the addresses on the stack one by one.
use Rattle.std.proofs.Common.{◌≡◌, ℕ, zero, suc, ◌+◌, ◌-◌, ◌*◌, ◌/◌, ◌%◌, ◌<◌, ◌≤◌, List, [], ◌∷◌, ◌++◌, length, take, drop, slice_index, slice_range, replicate, refl, sym, ap, ◌∙◌, subst, arith}
use Rattle.std.proofs.Common.{Bool, true, false, Some, None}
use Rattle.std.specs.Prelude.{◌&&◌, if◌then◌else◌, nat_le}
use Rattle.std.proofs.lemmas.Bool.{lt-ltb, leb-true}
use Rattle.std.proofs.Math.Seq.{take-add}
use Rattle.std.proofs.lemmas.List.{get_or-drop, get_or-take, drop-take, drop-drop, take-replicate}
use Rattle.machine.specs.Bank.{value}
use Rattle.machine.specs.Board.{Machine}
use Rattle.vip_memory.specs.Contents.{Contents, page_at, page_of}
use Rattle.chip8_lang.specs.declared.view.Edition.{Edition}
use Rattle.chip8_lang.specs.declared.view.Edition.TheVariants.{Usual, Tall}
use Rattle.chip8_lang.specs.Editions.{memory_start, memory_end, variables, random_cell}
use Rattle.chip8_lang.specs.Places.{addresses, state_of}
use Rattle.chip8_lang.specs.State.{is_in_memory, memory_byte}
use Rattle.chip8_lang.specs.View.{opcode_at, view_at}
use Rattle.vip_relation.specs.Reading.{opcode_in, stack_in}

-- a byte of a page is one of RAM
page_at-byte : (ram : List ℕ) (a : ℕ) → slice_index (page_at ram (a / 256)) (a % 256) ≡ slice_index ram a
page_at-byte ram a =
    let within : a % 256 < 256 = omega arith in
    let place : a / 256 * 256 + a % 256 ≡ a = omega arith in
    get_or-take 256 (drop (a / 256 * 256) ram) (a % 256) 0 within
    ∙ get_or-drop (a / 256 * 256) ram (a % 256) 0
    ∙ ap (slice_index ram) place

pub page_of-byte : (m : Contents) (a : ℕ) → a < 0x1000 → slice_index (page_of m (a / 256)) (a % 256) ≡ slice_index m.ram a
page_of-byte m a low =
    let high : a / 256 < 16 = omega arith in
    rw (lt-ltb (a / 256) 16 high) (page_at-byte m.ram a)

-- one page more of the bytes from a place on
pub page-more : (ram : List ℕ) (from high : ℕ) → from ≤ high * 256
    → slice_range ram from (high * 256) ++ page_at ram high ≡ slice_range ram from ((high + 1) * 256)
page-more ram from high order =
    let n : ℕ = high * 256 - from in
    let place : high * 256 ≡ from + n = omega (arith, order) in
    let size : n + 256 ≡ (high + 1) * 256 - from = omega (arith, order) in
    ap (λ k. take n (drop from ram) ++ take 256 (drop k ram)) place
    ∙ ap (λ bytes. take n (drop from ram) ++ take 256 bytes) (sym (drop-drop n from ram))
    ∙ sym (take-add n 256 (drop from ram))
    ∙ ap (λ k. take k (drop from ram)) size

-- a dark screen
pub dark-bytes : (n size : ℕ) → n ≡ size → n ≤ 512 → take n (replicate 512 0) ≡ replicate {A = ℕ} size 0
dark-bytes n size same few = take-replicate n 512 0 few ∙ ap (λ k. replicate {A = ℕ} k 0) same

pub length-addresses : (ram : List ℕ) (low n : ℕ) → length (addresses ram low n) ≡ n
length-addresses ram low zero = refl
length-addresses ram low (suc n) = ap suc (length-addresses ram (low - 2) n)

-- one address more, below the others
pub addresses-more : (ram : List ℕ) (low n : ℕ)
    → addresses ram low (suc n) ≡ addresses ram low n ++ (slice_index ram (low - 2 * n - 1) * 256 + slice_index ram (low - 2 * n)) ∷ []
addresses-more ram low zero = ap (λ place. (slice_index ram (place - 1) * 256 + slice_index ram place) ∷ []) (first low)
  where
    first : (low : ℕ) → low ≡ low - 2 * 0
    first low = omega arith
addresses-more ram low (suc n) =
    let same : low - 2 - 2 * n ≡ low - 2 * suc n = omega arith in
    ap (λ rest. (slice_index ram (low - 1) * 256 + slice_index ram low) ∷ rest)
    (addresses-more ram (low - 2) n ∙ ap (λ place. addresses ram (low - 2) n ++ (slice_index ram (place - 1) * 256 + slice_index ram place) ∷ []) same)

-- V0 to VF are the last bytes of their page
usual_variables : (m : Contents) → slice_range (page_of m 0x0e) 0xf0 0x100 ≡ slice_range m.ram 0x0ef0 0x0f00
usual_variables m =
    ap (take 16) (drop-take 0xf0 16 (drop 0xe00 m.ram)) ∙ take-take (drop 0xf0 (drop 0xe00 m.ram)) ∙ ap (take 16) (drop-drop 0xf0 0xe00 m.ram)
  where
    take-take : (xs : List ℕ) → take 16 (take 16 xs) ≡ take 16 xs
    take-take xs = grind arith

tall_variables : (m : Contents) → slice_range (page_of m 0x0d) 0xf0 0x100 ≡ slice_range m.ram 0x0df0 0x0e00
tall_variables m =
    ap (take 16) (drop-take 0xf0 16 (drop 0xd00 m.ram)) ∙ take-take (drop 0xf0 (drop 0xd00 m.ram)) ∙ ap (take 16) (drop-drop 0xf0 0xd00 m.ram)
  where
    take-take : (xs : List ℕ) → take 16 (take 16 xs) ≡ take 16 xs
    take-take xs = grind arith

pub variables_of-page : (e : Edition) (m : Contents) (high : ℕ) → high * 256 + 0xf0 ≡ variables e
    → slice_range (page_of m high) 0xf0 0x100 ≡ slice_range m.ram (variables e) (variables e + 16)
variables_of-page Usual m high place =
    let same : 0x0e ≡ high = omega (arith, place) in
    subst (λ k. slice_range (page_of m k) 0xf0 0x100 ≡ slice_range m.ram 0x0ef0 0x0f00) same (usual_variables m)
variables_of-page Tall m high place =
    let same : 0x0d ≡ high = omega (arith, place) in
    subst (λ k. slice_range (page_of m k) 0xf0 0x100 ≡ slice_range m.ram 0x0df0 0x0e00) same (tall_variables m)

-- where the test holds, the values are the same
same_if : (t : Bool) (x y : ℕ) → (t ≡ true → x ≡ y) → (if t then Some x else None) ≡ (if t then Some y else None)
same_if true x y same = ap Some (same refl)
same_if false x y same = refl

from_and : (a b : Bool) → (a && b) ≡ true → (a ≡ true) × (b ≡ true)
from_and true b h = (refl, h)
from_and false b h = cc

-- a byte of game memory is one of RAM
usual_byte : (b : Machine) (a : ℕ) → 0x200 ≤ a → a < 0xea0 → memory_byte (state_of Usual b) a ≡ slice_index b.ram a
unfolding state_of
usual_byte b a from to =
    let within : a - 0x200 < 0xca0 = omega arith in
    let place : 0x200 + (a - 0x200) ≡ a = omega arith in
    get_or-take 0xca0 (drop 0x200 b.ram) (a - 0x200) 0 within ∙ get_or-drop 0x200 b.ram (a - 0x200) 0 ∙ ap (slice_index b.ram) place

tall_byte : (b : Machine) (a : ℕ) → 0x200 ≤ a → a < 0xda0 → memory_byte (state_of Tall b) a ≡ slice_index b.ram a
unfolding state_of
tall_byte b a from to =
    let within : a - 0x200 < 0xba0 = omega arith in
    let place : 0x200 + (a - 0x200) ≡ a = omega arith in
    get_or-take 0xba0 (drop 0x200 b.ram) (a - 0x200) 0 within ∙ get_or-drop 0x200 b.ram (a - 0x200) 0 ∙ ap (slice_index b.ram) place

memory_byte-ram : (e : Edition) (b : Machine) (a : ℕ) → 0x200 ≤ a → a < memory_end e → memory_byte (state_of e b) a ≡ slice_index b.ram a
memory_byte-ram Usual b a from to = usual_byte b a from to
memory_byte-ram Tall b a from to = tall_byte b a from to

opcode_at-ram : (e : Edition) (b : Machine) (pc : ℕ) → pc ≡ (state_of e b).pc → opcode_at e (state_of e b) ≡ opcode_in e b.ram pc
opcode_at-ram e b pc same =
    rw (← same)
    (same_if (is_in_memory e pc 2) _ _ (λ inside.
    let both = from_and (nat_le memory_start pc) (nat_le (pc + 2) (memory_end e)) inside in
    let from : 0x200 ≤ pc = leb-true _ _ both.0 in
    let to : pc + 2 ≤ memory_end e = leb-true _ _ both.1 in
    let high = memory_byte-ram e b pc from (omega arith) in
    let low = memory_byte-ram e b (pc + 1) (omega arith) (omega arith) in
    ap (λ n. n * 256 + memory_byte (state_of e b) (pc + 1)) high ∙ ap (λ n. slice_index b.ram pc * 256 + n) low))

-- the parts of a view, by RAM and registers
pub view_at-parts : (e : Edition) (b : Machine) → view_at e b ≡ record {
  v = slice_range b.ram (variables e) (variables e + 16);
  i = value b.regs.r.ra;
  pc = value b.regs.r.r5;
  opcode = opcode_in e b.ram (value b.regs.r.r5);
  stack = stack_in e b.ram (value b.regs.r.r2);
  dt = b.regs.r.r8.hi;
  st = b.regs.r.r8.lo;
  tone = b.regs.q;
  n = value b.regs.r.r9;
  b = slice_index b.ram random_cell;
  cycle = b.cycle;
}
unfolding view_at state_of
view_at-parts e b = rw (opcode_at-ram e b (value b.regs.r.r5) refl) refl
