-- The disassembly of memory, line by line.
use Rattle.std.proofs.Common.{◌≡◌, ℕ, zero, suc, ◌+◌, ◌-◌, ◌%◌, ◌<◌, ◌≤◌, Bool, true, false, List, [], ◌∷◌, ◌++◌, length, map, take, drop, refl, sym, ap, ◌∙◌, subst, arith, append_assoc, append-nil, min, Result, Ok, Err, IsErr}
use Rattle.std.specs.Prelude.{codes, ◌==◌, ◌||◌, nat_lt, nat_le, if◌then◌else◌}
use Rattle.std.specs.List.{range_with_len, drop-map}
use Rattle.std.proofs.lemmas.Bool.{le-ltb, leb-true}
use Rattle.std.proofs.lemmas.List.{length-map, take-take}
use Rattle.machine.specs.declared.Kind.{Kind}
use Rattle.machine.specs.declared.Kind.TheVariants.{Idl}
use Rattle.machine.specs.Opcodes.{kind_of}
use Rattle.vip_isa.specs.Rows.{size_of}
use Rattle.vip_isa.specs.Texts.{instruction_text, operand_at}
use Rattle.asm_core.specs.Origins.{Origins}
use Rattle.asm_lex.specs.Words.{size_at}
use Rattle.asm_lex.specs.declared.shape.Isa.TheVariants.{Cdp1802}
use Rattle.asm_listing.specs.Disassembly.{data_text, opcode_in, size_in, is_data, taken, first_line, starts}
use Rattle.vip_byte.specs.Text.{newline}
use Rattle.asm_listing.proofs.FirstLines.{taken_some, taken_within}
use Rattle.asm_core.proofs.Cells.{length-range}
use Rattle.asm_listing.proofs.Ranges.{drop-range}
use Rattle.asm_listing.proofs.Starts.{starts-first}
use Rattle.vip_outside.specs.Sink.{SinkMeaning}
use Rattle.vip_outside.specs.Pieces.{PutsAll, FailsWithin, StreamAnswers}
use Rattle.vip_outside.specs.declared.sink.Failed.{Failed}
use Rattle.vip_outside.proofs.PiecesLemmas.{PutsAll-nil, PutsAll-append, FailsWithin-append, FailsWithin-more, StreamAnswers-err}
use Rattle.vip_debug.specs.declared.bytes.Layout.{Layout}
use Rattle.vip_debug.specs.BoardShown.{bytes_from, end_in, front_text, line_by, line_in, lines_of, pieces_in, instruction_lines}
use Rattle.vip_debug.specs.BoardParts.{PutsLine}

-- ---- a line shows three bytes at most

few_bytes : (kind : Kind) → nat_le (size_of kind) 3 ≡ true
few_bytes Idl = refl
few_bytes _ = refl

few : (opcode : ℕ) → size_at opcode ≤ 3
unfolding size_at
few opcode = leb-true (size_of (kind_of opcode)) 3 (few_bytes (kind_of opcode))

module _ (x y z : ℕ) (rest : List ℕ) where
  abbrev three : List ℕ
  three = x ∷ y ∷ z ∷ []

  abbrev all : List ℕ
  all = x ∷ y ∷ z ∷ rest

  not_short : (n : ℕ) → 3 ≤ n → nat_lt n (size_at x) ≡ false
  not_short n long = let size = few x in le-ltb n (size_at x) (omega (arith, size, long))

  data_same : is_data Cdp1802 all ≡ is_data Cdp1802 three
  unfolding is_data size_in
  data_same = ap (λ b. (x == 0x68) || b) (not_short (length all) (omega arith) ∙ sym (not_short 3 (omega arith)))

  instruction_same : (at : ℕ) → instruction_text at all ≡ instruction_text at three
  unfolding instruction_text operand_at
  instruction_same at = refl

  line_same : (at : ℕ) → first_line Cdp1802 at all ≡ first_line Cdp1802 at three
  unfolding first_line
  line_same at =
      ap (λ b. if b then data_text x else codes " " ++ instruction_text at all) data_same
      ∙ ap (λ text. if is_data Cdp1802 three then data_text x else codes " " ++ text) (instruction_same at)

  taken_same : taken Cdp1802 all ≡ taken Cdp1802 three
  unfolding taken size_in
  taken_same = ap (λ b. if b then 1 else size_at x) data_same

pub line-three : (bytes : List ℕ) (at : ℕ) → first_line Cdp1802 at (take 3 bytes) ≡ first_line Cdp1802 at bytes
line-three [] at = refl
line-three (x ∷ []) at = refl
line-three (x ∷ y ∷ []) at = refl
line-three (x ∷ y ∷ z ∷ rest) at = sym (line_same x y z rest at)

pub taken-three : (bytes : List ℕ) → taken Cdp1802 (take 3 bytes) ≡ taken Cdp1802 bytes
taken-three [] = refl
taken-three (x ∷ []) = refl
taken-three (x ∷ y ∷ []) = refl
taken-three (x ∷ y ∷ z ∷ rest) = sym (taken_same x y z rest)

-- the first three of so many bytes, or fewer
pub first-three : (byte : ℕ → ℕ) (at n p q r : ℕ) → 1 ≤ n → p ≡ byte at → (2 ≤ n → q ≡ byte (at + 1)) → (3 ≤ n → r ≡ byte (at + 2))
    → take (min n 3) (p ∷ q ∷ r ∷ []) ≡ take 3 (bytes_from byte at n)
first-three byte at zero p q r some first second third = absurd (omega (arith, some))
first-three byte at (suc zero) p q r some first second third =
    let one : min (suc zero) 3 ≡ 1 = omega arith in
    ap (λ k. take k (p ∷ q ∷ r ∷ [])) one ∙ ap (λ x. x ∷ []) first
first-three byte at (suc (suc zero)) p q r some first second third =
    let two : min (suc (suc zero)) 3 ≡ 2 = omega arith in
    ap (λ k. take k (p ∷ q ∷ r ∷ [])) two ∙ ap (λ x. x ∷ q ∷ []) first ∙ ap (λ y. byte at ∷ y ∷ []) (second (omega arith))
first-three byte at (suc (suc (suc n))) p q r some first second third =
    let whole : min (suc (suc (suc n))) 3 ≡ 3 = omega arith in
    let next : at + 2 ≡ at + 1 + 1 = omega arith in
    ap (λ k. take k (p ∷ q ∷ r ∷ [])) whole
    ∙ ap (λ x. x ∷ q ∷ r ∷ []) first
    ∙ ap (λ y. byte at ∷ y ∷ r ∷ []) (second (omega arith))
    ∙ ap (λ z. byte at ∷ byte (at + 1) ∷ z ∷ []) (third (omega arith) ∙ ap byte next)

-- ---- a line in a layout

pub taken-few : (bytes : List ℕ) → taken Cdp1802 bytes ≤ 3
unfolding taken size_in
taken-few bytes = by_test (is_data Cdp1802 bytes)
  where
    by_test : (alone : Bool) → (if alone then 1 else size_at (opcode_in bytes)) ≤ 3
    by_test true = omega arith
    by_test false = few (opcode_in bytes)

module _ (byte : ℕ → ℕ) (at have p q r : ℕ) (low : at < 0x10000) (size : have ≡ min (0x10000 - at) 3) (first : p ≡ byte at)
    (second : q ≡ byte ((at + 1) % 0x10000)) (third : r ≡ byte ((at + 2) % 0x10000)) where
  abbrev read : List ℕ
  read = p ∷ q ∷ r ∷ []

  abbrev bytes : List ℕ
  bytes = bytes_from byte at (0x10000 - at)

  read_three : take have read ≡ take 3 bytes
  read_three =
      ap (λ n. take n read) size
      ∙ first-three byte at (0x10000 - at) p q r (omega (arith, low)) first
      (λ more. let here : (at + 1) % 0x10000 ≡ at + 1 = omega (arith, more) in second ∙ ap byte here)
      (λ more. let here : (at + 2) % 0x10000 ≡ at + 2 = omega (arith, more) in third ∙ ap byte here)

  pub taken-read : taken Cdp1802 (take have read) ≡ taken Cdp1802 bytes
  taken-read = ap (taken Cdp1802) read_three ∙ taken-three bytes

  length_read : length (take have read) ≡ have
  length_read = by_case have (omega (arith, size)) (omega (arith, size, low))
    where
      by_case : (n : ℕ) → n ≤ 3 → 1 ≤ n → length (take n read) ≡ n
      by_case zero most some = refl
      by_case (suc zero) most some = refl
      by_case (suc (suc zero)) most some = refl
      by_case (suc (suc (suc zero))) most some = refl
      by_case (suc (suc (suc (suc n)))) most some = absurd (omega (arith, most))

  pub shown-few : taken Cdp1802 (take have read) ≤ have
  shown-few = omega (arith, length_read, taken_within Cdp1802 (take have read) (omega (arith, length_read, size, low)))

  front_read : take (taken Cdp1802 (take have read)) read ≡ take (taken Cdp1802 bytes) bytes
  front_read =
      sym (take-take (taken Cdp1802 (take have read)) have read shown-few)
      ∙ ap (take (taken Cdp1802 (take have read))) read_three
      ∙ ap (λ n. take n (take 3 bytes)) taken-read
      ∙ take-take (taken Cdp1802 bytes) 3 bytes (taken-few bytes)

  pub line-read : (origins : Origins) (latch : Bool) (layout : Layout)
      → line_by origins latch layout at (take (taken Cdp1802 (take have read)) read) (take have read) ≡ line_in origins latch layout at bytes
  unfolding line_in
  line-read origins latch layout =
      ap (λ shown. line_by origins latch layout at shown (take have read)) front_read
      ∙ ap (λ line. front_text layout at shown ++ line ++ end_in origins latch layout at shown ++ newline)
      (ap (first_line Cdp1802 at) read_three ∙ line-three bytes at)
    where
      shown : List ℕ
      shown = take (taken Cdp1802 bytes) bytes

-- the parts of a line in an empty buffer
pub line-joined : (origins : Origins) (latch : Bool) (layout : Layout) (at shown : ℕ) (three part piece whole ended worded front empty line : List ℕ) → empty ≡ []
    → front ≡ empty ++ front_text layout at (take shown three)
    → worded ≡ front ++ line → ended ≡ worded ++ end_in origins latch layout at (take shown three) → whole ≡ ended ++ newline
    → piece ≡ whole → line ≡ first_line Cdp1802 at part → shown ≡ taken Cdp1802 part
    → piece ≡ line_by origins latch layout at (take (taken Cdp1802 part) three) part
line-joined origins latch layout at shown three part piece whole ended worded front empty line none before words behind all is rest size =
    let first = front_text layout at (take shown three) in
    let last = end_in origins latch layout at (take shown three) in
    is ∙ all
    ∙ ap (λ xs. xs ++ newline) (behind ∙ ap (λ xs. xs ++ last) (words ∙ ap (λ xs. xs ++ line) (before ∙ ap (λ xs. xs ++ first) none)))
    ∙ ap (λ xs. first ++ xs ++ last ++ newline) rest
    ∙ ap (λ n. line_by origins latch layout at (take n three) part) size

-- at whatever error is passed on
pub line-fails : (origins : Origins) (latch : Bool) (layout : Layout) (byte : ℕ → ℕ) (at : ℕ) (old new : SinkMeaning) (r : Result ℕ Failed) → IsErr r
    → FailsWithin (pieces_in origins latch layout at (bytes_from byte at (0x10000 - at))) old new → PutsLine origins latch layout byte at old new r
line-fails origins latch layout byte at old new (Ok shown) bad fault = cc
line-fails origins latch layout byte at old new (Err e) bad fault = fault

-- ---- one line after another

module _ (origins : Origins) (latch : Bool) (layout : Layout) (byte : ℕ → ℕ) where
  abbrev pub lines_left : ℕ → ℕ → List (List ℕ)
  lines_left at count = lines_of origins latch layout (take count (starts Cdp1802 0 at (bytes_from byte at (0x10000 - at))))

  length_bytes : (at n : ℕ) → length (bytes_from byte at n) ≡ n
  length_bytes at n = length-map (range_with_len at n) byte ∙ length-range n at

  drop_bytes : (k at n : ℕ) → drop k (bytes_from byte at n) ≡ bytes_from byte (at + k) (n - k)
  drop_bytes k at n = drop-map byte k (range_with_len at n) ∙ ap (map byte) (drop-range k n at)

  abbrev shown_at : ℕ → ℕ
  shown_at at = taken Cdp1802 (bytes_from byte at (0x10000 - at))

  shown_most : (at : ℕ) → at < 0x10000 → shown_at at ≤ 0x10000 - at
  shown_most at low =
      let size : length (bytes_from byte at (0x10000 - at)) ≡ 0x10000 - at = length_bytes at (0x10000 - at) in
      omega (arith, size, taken_within Cdp1802 (bytes_from byte at (0x10000 - at)) (omega (arith, size, low)))

  left_next : (at count : ℕ) → at < 0x10000
      → lines_left at (suc count) ≡ pieces_in origins latch layout at (bytes_from byte at (0x10000 - at)) ++ lines_left (at + shown_at at) count
  left_next at count low =
      let bytes = bytes_from byte at (0x10000 - at) in
      let size : length bytes ≡ 0x10000 - at = length_bytes at (0x10000 - at) in
      let rest : 0x10000 - at - shown_at at ≡ 0x10000 - (at + shown_at at) = omega arith in
      ap (λ all. lines_of origins latch layout (take (suc count) all)) (starts-first Cdp1802 bytes at (taken_some Cdp1802 bytes) (omega (arith, size, shown_most at low)))
      ∙ ap (λ more. pieces_in origins latch layout at bytes ++ lines_of origins latch layout (take count (starts Cdp1802 0 (at + shown_at at) more)))
      (drop_bytes (shown_at at) at (0x10000 - at) ∙ ap (bytes_from byte (at + shown_at at)) rest)

  left_none : (at count : ℕ) → 0x10000 ≤ at → lines_left at count ≡ []
  left_none at count past =
      let none : 0x10000 - at ≡ 0 = omega (arith, past) in
      ap (λ n. lines_of origins latch layout (take count (starts Cdp1802 0 at (bytes_from byte at n)))) none ∙ nothing count
    where
      nothing : (count : ℕ) → lines_of origins latch layout (take count []) ≡ []
      nothing zero = refl
      nothing (suc count) = refl

  -- so many lines went out, and these are left
  pub record Disassembles (address count : ℕ) (old new : SinkMeaning) (at line : ℕ) : Type 0 where
    pub done : List (List ℕ)
    pub puts : PutsAll done old new
    pub split : instruction_lines byte origins latch layout address count ≡ done ++ lines_left at (count - line)
    pub low : at ≤ 0x10000

  pub disassembles-first : (address count : ℕ) (old : SinkMeaning) → address ≤ 0x10000 → Disassembles address count old old address 0
  unfolding instruction_lines
  disassembles-first address count old low =
      let none : count ≡ count - 0 = omega arith in
      record { done = []; puts = PutsAll-nil old; split = ap (lines_left address) none; low = low }

  module _ (address count : ℕ) (old middle new : SinkMeaning) (at line : ℕ) (s : Disassembles address count old middle at line) (low : at < 0x10000)
      (below : line < count) where
    next_split : instruction_lines byte origins latch layout address count ≡ s.done ++ (pieces_in origins latch layout at (bytes_from byte at (0x10000 - at)) ++ lines_left (at + shown_at at)
        (count - (line + 1)))
    next_split =
        let more : count - line ≡ suc (count - (line + 1)) = omega (arith, below) in
        s.split ∙ ap (λ n. s.done ++ lines_left at n) more ∙ ap (λ lines. s.done ++ lines) (left_next at (count - (line + 1)) low)

    pub disassembles-next : (shown : ℕ) → PutsLine origins latch layout byte at middle new (Ok shown) → Disassembles address count old new (at + shown) (line + 1)
    disassembles-next shown put =
        record {
          done = s.done ++ pieces_in origins latch layout at (bytes_from byte at (0x10000 - at));
          puts = PutsAll-append s.done (pieces_in origins latch layout at (bytes_from byte at (0x10000 - at))) old middle new s.puts put.0;
          split =
              next_split
              ∙ sym (append_assoc s.done (pieces_in origins latch layout at (bytes_from byte at (0x10000 - at))) (lines_left (at + shown_at at) (count - (line + 1))))
              ∙ ap (λ n. (s.done ++ pieces_in origins latch layout at (bytes_from byte at (0x10000 - at))) ++ lines_left (at + n) (count - (line + 1))) (sym put.1);
          low = omega (arith, put.1, shown_most at low);
        }

    pub disassembles-fail : (e : Failed) (r : Result (Unit {0}) Failed) → IsErr r → PutsLine origins latch layout byte at middle new (Err e)
        → StreamAnswers (instruction_lines byte origins latch layout address count) old new r
    disassembles-fail e r bad fault =
        let here = pieces_in origins latch layout at (bytes_from byte at (0x10000 - at)) in
        let rest = lines_left (at + shown_at at) (count - (line + 1)) in
        StreamAnswers-err (instruction_lines byte origins latch layout address count) old new r bad
        (subst (λ pieces. FailsWithin pieces old new) (sym next_split)
        (FailsWithin-append s.done (here ++ rest) old middle new s.puts (FailsWithin-more here rest middle new fault)))

  module _ (address count : ℕ) (old new : SinkMeaning) (at line : ℕ) (s : Disassembles address count old new at line) where
    all_done : lines_left at (count - line) ≡ [] → PutsAll (instruction_lines byte origins latch layout address count) old new
    all_done none = subst (λ lines. PutsAll lines old new) (sym (s.split ∙ ap (λ lines. s.done ++ lines) none ∙ append-nil s.done)) s.puts

    pub disassembles-end : 0x10000 ≤ at → PutsAll (instruction_lines byte origins latch layout address count) old new
    disassembles-end past = all_done (left_none at (count - line) past)

    pub disassembles-all : count ≤ line → PutsAll (instruction_lines byte origins latch layout address count) old new
    disassembles-all past =
        let none : count - line ≡ 0 = omega (arith, past) in
        all_done (ap (lines_left at) none)
