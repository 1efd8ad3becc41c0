-- Closed claims: each step of a state that a claim stands for leads to a state that a claim stands for, and none stops. Said in terms of the
-- instruction at the claim's pc, which is that of the game's bytes.
use Rattle.std.specs.Prelude.{ℕ, ◌+◌, ◌-◌, ◌*◌, ◌==◌, ◌&&◌, ◌||◌, Bool, true, false, not, if◌then◌else◌, nat_lt, nat_le, List, [], ◌∷◌, ◌++◌, length, take, slice_index, Option, Some, None}
use Rattle.std.specs.List.{list_all, list_any}
use Rattle.std.specs.Ordering.{is_eq}
use Rattle.chip8_lang.specs.declared.instr.Instr.{Instr}
use Rattle.chip8_lang.specs.declared.instr.Instr.TheVariants.{Return, Machine, Jump, Call, SkipEq, SkipNe, SkipSame, SkipDiffer, SkipDown, SkipUp, Index, JumpPlus, Draw, AddIndex, Font, Decimal, Store, Fetch, Unknown}
use Rattle.chip8_lang.specs.declared.view.Edition.{Edition}
use Rattle.chip8_lang.specs.Decode.{instr_of_bytes}
use Rattle.chip8_lang.specs.Editions.{memory_start, font_start}
use Rattle.chip8_lang.specs.State.{is_in_memory}
use Rattle.chip8_lang.specs.Step.{is_readable}
use Rattle.game_check.specs.declared.claim.Point.{Point}
use Rattle.game_check.specs.declared.claim.Claim.{Claim}
use Rattle.game_check.specs.declared.fault.ProofCause.{ProofCause}
use Rattle.game_check.specs.declared.fault.ProofCause.TheVariants.{Outside, Opcode, Access, Next}
use Rattle.game_check.specs.Grammar.{order}

-- ---- the instruction

-- the byte that a game has at an address at its start, 00 past its end
abbrev pub game_byte : List ℕ → ℕ → ℕ
game_byte game a = slice_index game (a - memory_start)

unfoldable pub instr_in : List ℕ → ℕ → Instr
instr_in game pc = instr_of_bytes (game_byte game pc) (game_byte game (pc + 1))

-- it doesn't stop for its opcode, nor for the stack, and isn't one whose next pc no claim can know
abbrev pub is_allowed : Instr → List ℕ → Bool
is_allowed (Machine a) stack = false
is_allowed (Unknown opcode) stack = false
is_allowed (JumpPlus a) stack = false
is_allowed Return stack = not (length stack == 0)
is_allowed (Call a) stack = not (length stack == 12)
is_allowed _ stack = true

-- ---- the bytes that it reads or writes

-- where n bytes from I on are meant and I goes from low to high, so many bytes from low on are met
abbrev pub span : Claim → ℕ → ℕ
span c n = c.high - c.low + n

-- both bytes of a claim's opcode lie before the n bytes from a on, or behind them
abbrev pub is_apart : ℕ → ℕ → Claim → Bool
is_apart a n c = nat_lt (c.point.pc + 1) a || nat_le (a + n) c.point.pc

-- the n bytes from a on lie in game memory, and none of them is in the code
abbrev pub is_writable : Edition → List Claim → ℕ → ℕ → Bool
is_writable e claims a n = is_in_memory e a n && list_all (is_apart a n) claims

abbrev pub has_access : Edition → List Claim → Instr → Claim → Bool
has_access e claims (Draw x y n) c = n == 0 || is_readable e c.low (span c n)
has_access e claims (Fetch x) c = is_readable e c.low (span c (x + 1))
has_access e claims (Decimal x) c = is_writable e claims c.low (span c 3)
has_access e claims (Store x) c = is_writable e claims c.low (span c (x + 1))
has_access e claims _ c = true

-- ---- what comes next

-- where I lies afterwards: from here
abbrev pub low_after : Instr → Claim → ℕ
low_after (Index a) c = a
low_after (Font x) c = font_start
low_after (Store x) c = c.low + x + 1
low_after (Fetch x) c = c.low + x + 1
low_after _ c = c.low

-- up to here
abbrev pub high_after : Instr → Claim → ℕ
high_after (Index a) c = a
high_after (Font x) c = font_start + 5 * 15
high_after (AddIndex x) c = c.high + 255
high_after (Store x) c = c.high + x + 1
high_after (Fetch x) c = c.high + x + 1
high_after _ c = c.high

abbrev pub point : ℕ → List ℕ → Point
point pc stack = record { pc = pc; stack = record { items = stack } }

-- one of the next two instructions comes
abbrev pub ways_of_skip : Point → List Point
ways_of_skip p = point (p.pc + 2) p.stack.items ∷ point (p.pc + 4) p.stack.items ∷ []

-- the points at which a state may be afterwards
abbrev pub next_points : Instr → Point → List Point
next_points (Jump a) p = point a p.stack.items ∷ []
next_points (Call a) p = point a (p.stack.items ++ (p.pc + 2) ∷ []) ∷ []
next_points Return p = point (slice_index p.stack.items (length p.stack.items - 1)) (take (length p.stack.items - 1) p.stack.items) ∷ []
next_points (SkipEq x k) p = ways_of_skip p
next_points (SkipNe x k) p = ways_of_skip p
next_points (SkipSame x y) p = ways_of_skip p
next_points (SkipDiffer x y) p = ways_of_skip p
next_points (SkipDown x) p = ways_of_skip p
next_points (SkipUp x) p = ways_of_skip p
next_points _ p = point (p.pc + 2) p.stack.items ∷ []

-- a claim lets I lie from low to high
abbrev pub has_range : ℕ → ℕ → Claim → Bool
has_range low high c = nat_le c.low low && nat_le high c.high

-- and it is of this point
abbrev pub allows : ℕ → ℕ → Point → Claim → Bool
allows low high p c = is_eq (order c.point p) && has_range low high c

-- some claim does; none does where I may pass FFFF
abbrev pub is_claimed : List Claim → ℕ → ℕ → Point → Bool
is_claimed claims low high p = nat_le high 0xffff && list_any (allows low high p) claims

-- each next point is claimed
abbrev pub goes_on : List Claim → Instr → Claim → Bool
goes_on claims i c = list_all (is_claimed claims (low_after i c) (high_after i c)) (next_points i c.point)

-- ---- closed

-- the first cause for which a claim isn't closed among others, where its instruction is this one
abbrev pub cause_by : Edition → List Claim → Instr → Claim → Option ProofCause
cause_by e claims i c =
    if not (is_allowed i c.point.stack.items) then Some Opcode
    else if not (has_access e claims i c) then Some Access
    else if not (goes_on claims i c) then Some Next
    else None

-- and where the game is this one
unfoldable pub cause_in : Edition → List ℕ → List Claim → Claim → Option ProofCause
cause_in e game claims c = if not (is_in_memory e c.point.pc 2) then Some Outside else cause_by e claims (instr_in game c.point.pc) c

-- some claim is of the start: pc 0200, an empty stack, and I may be 0
abbrev pub is_start : Claim → Bool
is_start c = c.point.pc == memory_start && (length c.point.stack.items == 0 && c.low == 0)

unfoldable pub has_start : List Claim → Bool
has_start = list_any is_start
