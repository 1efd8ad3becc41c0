-- The least family of claims that a game keeps to, and the certificate that it makes. Here a range may end at 10000, which stands for each I above FFFF.
use Rattle.std.specs.Prelude.{◌≡◌, ℕ, ◌+◌, ◌*◌, ◌<◌, ◌≤◌, ◌&&◌, ◌++◌, min, true, Bool, List, [], ◌∷◌, length, flat_map, slice_index_or, Option, Some, None, if◌then◌else◌}
use Rattle.std.specs.List.{All, Any, sum_by}
use Rattle.chip8_lang.specs.declared.view.Edition.{Edition}
use Rattle.chip8_lang.specs.declared.instr.Instr.{Instr}
use Rattle.chip8_lang.specs.Editions.{memory_start}
use Rattle.chip8_lang.specs.State.{is_in_memory}
use Rattle.vip_byte.specs.HexText.{hex4, words_text}
use Rattle.vip_byte.specs.Text.{newline}
use Rattle.game_check.specs.declared.claim.Point.{Point}
use Rattle.game_check.specs.declared.claim.Claim.{Claim}
use Rattle.game_check.specs.declared.fault.FindFault.{FindFault}
use Rattle.game_check.specs.declared.fault.FindFault.TheVariants.{NotFound, NoMemory}
use Rattle.game_check.specs.declared.fault.Obstacle.TheVariants.{Open, TooLong}
use Rattle.game_check.specs.declared.fault.OpenClaim.{OpenClaim}
use Rattle.game_check.specs.Closed.{cause_in, game_byte, high_after, instr_in, is_allowed, low_after, next_points, point}
use Rattle.game_check.specs.Grammar.{claims_of}
use Rattle.game_check.specs.Order.{IsAscending}
use Rattle.game_check.specs.Proof.{IsAccepted}

-- ---- families of claims

abbrev pub claim_of : Point → ℕ → ℕ → Claim
claim_of p low high = record { point = p; low = low; high = high }

-- the start: pc 0200, an empty stack, and an I of 0
abbrev pub start_claim : Claim
start_claim = claim_of (point memory_start []) 0 0

-- the greatest address, and what stands for each I above it
abbrev pub last_address : ℕ
last_address = 0xffff

abbrev pub above : ℕ
above = 0x10000

-- a claim goes on where its opcode lies in game memory and is allowed, whatever I is
abbrev pub goes : Edition → List ℕ → Claim → Bool
goes e game c = is_in_memory e c.point.pc 2 && is_allowed (instr_in game c.point.pc) c.point.stack.items

-- what it leaves at a next point: its new range
abbrev pub left_by : Instr → Claim → Point → Claim
left_by i c p = claim_of p (min last_address (low_after i c)) (min above (high_after i c))

-- d is of the same point as c, and its range is around that of c
pub record IsAround (c d : Claim) : Type 0 where
  pub point : d.point ≡ c.point
  pub low : d.low ≤ c.low
  pub high : c.high ≤ d.high

-- some claim of a family is around this one
abbrev pub IsCovered : List Claim → Claim → Type 0
IsCovered family c = Any (IsAround c) family

-- the new range of a claim is covered at each next point
abbrev pub IsFollowed : List ℕ → List Claim → Claim → Type 0
IsFollowed game family c =
    All (λ p. IsCovered family (left_by (instr_in game c.point.pc) c p)) (next_points (instr_in game c.point.pc) c.point)

-- A family is closed under the steps of a game: it has at most one claim for a point, covers the start, and covers what each of its claims leaves.
pub record IsClosed (e : Edition) (game : List ℕ) (family : List Claim) : Type 0 where
  pub in_order : IsAscending family
  pub start : IsCovered family start_claim
  pub steps : All (λ c. goes e game c ≡ true → IsFollowed game family c) family

-- some claim of each closed family is around this one
abbrev pub IsMet : Edition → List ℕ → Claim → Type 0
IsMet e game c = (family : List Claim) → IsClosed e game family → IsCovered family c

-- The least closed family: each other one has a claim around each of its claims.
pub record IsLeast (e : Edition) (game : List ℕ) (family : List Claim) : Type 0 where
  pub closed : IsClosed e game family
  pub least : All (IsMet e game) family

-- ---- the text of a family

-- pc, the least and the greatest I, and the stack: upper-case digits, one blank between two words
abbrev pub line_text : Claim → List ℕ
line_text c = (hex4 c.point.pc ++ words_text (c.low ∷ c.high ∷ c.point.stack.items)) ++ newline

unfoldable pub family_text : List Claim → List ℕ
family_text = flat_map line_text

-- the bytes of a claim's line: each word has five, with what stands behind it
abbrev pub line_bytes : Claim → ℕ
line_bytes c = 5 * (3 + length c.point.stack.items)

-- the most bytes of a certificate
abbrev pub most_bytes : ℕ
most_bytes = 1_048_576

-- ---- what a search finds

-- A certificate is found: its text is exactly the lines of the least family. So each other one that is accepted has a line around each of its lines.
pub record IsFound (e : Edition) (game text : List ℕ) : Type 0 where
  pub family : List Claim
  pub least : IsLeast e game family
  pub around : (other : List ℕ) → IsAccepted e game other → All (IsCovered (claims_of other)) family
  pub is : text ≡ family_text family
  pub accepted : IsAccepted e game text
  pub fits : length text ≤ most_bytes

-- no text of at most 1,048,576 bytes is accepted for the game
abbrev pub HasNone : Edition → List ℕ → Type 0
HasNone e game = (text : List ℕ) → length text ≤ most_bytes → IsAccepted e game text → ⊥

-- the lines of each closed family have more bytes
abbrev pub IsTooLong : Edition → List ℕ → Type 0
IsTooLong e game = (family : List Claim) → IsClosed e game family → most_bytes < sum_by line_bytes family

-- the opcode that a game has at an address at its start, where both its bytes lie in game memory
abbrev pub opcode_at : Edition → List ℕ → ℕ → Option ℕ
opcode_at e game pc = if is_in_memory e pc 2 then Some (game_byte game pc * 256 + game_byte game (pc + 1)) else None

-- a claim is told with its opcode, and with FFFF for all that is above
pub record IsTold (e : Edition) (game : List ℕ) (c : Claim) (o : OpenClaim) : Type 0 where
  pub opcode : o.opcode ≡ opcode_at e game c.point.pc
  pub point : o.point ≡ c.point
  pub low : o.low ≡ c.low
  pub high : o.high ≡ min last_address c.high

-- Where there is no certificate: the first claim of the least family against which there is a cause among all of them, the first such cause, and the opcode.
pub record IsOpen (e : Edition) (game : List ℕ) (o : OpenClaim) : Type 0 where
  pub family : List Claim
  pub least : IsLeast e game family
  pub fits : sum_by line_bytes family ≤ most_bytes
  pub place : ℕ
  pub claim : Claim
  pub within : place < length family
  pub here : (d : Claim) → slice_index_or family place d ≡ claim
  pub told : IsTold e game claim o
  pub cause : cause_in e game family claim ≡ Some o.cause
  pub first : (k : ℕ) (d : Claim) → k < place → cause_in e game family (slice_index_or family k d) ≡ None

-- why there is no certificate; and that there is none
abbrev pub IsWhy : Edition → List ℕ → FindFault → Type 0
IsWhy e game (NotFound (Open o)) = IsOpen e game o × HasNone e game
IsWhy e game (NotFound TooLong) = IsTooLong e game × HasNone e game
IsWhy e game NoMemory = Unit {0}
