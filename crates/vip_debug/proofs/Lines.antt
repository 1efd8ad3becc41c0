-- The lines of registers and bytes, part by part.
use Rattle.std.proofs.Common.{◌≡◌, ℕ, suc, ◌+◌, ◌-◌, ◌<◌, List, [], ◌∷◌, ◌++◌, length, map, take, drop, min, slice_range, length-drop, ◌≤◌, refl, subst, sym, ap, ◌∙◌, arith, append_assoc, append-nil, zero-add, Result, IsErr}
use Rattle.std.specs.Prelude.{flat_map}
use Rattle.std.specs.List.{range_with_len}
use Rattle.std.proofs.lemmas.Grind.{flat_map-append}
use Rattle.std.proofs.lemmas.List.{map-append, take_min}
use Rattle.std.proofs.lemmas.List.FromFn.{map-range_with_len_more, length-map-range_with_len}
use Rattle.machine.specs.Instruction.{Regs, at}
use Rattle.vip_byte.specs.HexText.{hex4}
use Rattle.vip_debug.specs.BoardShown.{registers_text, stretch}
use Rattle.vip_outside.specs.Sink.{SinkMeaning, PutsWhole, PutFails}
use Rattle.vip_outside.specs.Pieces.{PutsAll, FailsWithin, StreamAnswers}
use Rattle.vip_outside.specs.declared.sink.Failed.{Failed}
use Rattle.vip_outside.proofs.PiecesLemmas.{PutsAll-append, PutsAll-nil, PutsAll-one, PutsAll-snoc, FailsWithin-more, FailsWithin-append, StreamAnswers-fault, StreamAnswers-err, StreamAnswers-append}
use Rattle.vip_byte.proofs.RangeLemmas.{range_with_len-add}

-- one number more, behind a blank
pub text-more : (digits : ℕ → List ℕ) (f : ℕ → ℕ) (a n : ℕ) (before items last : List ℕ)
    → items ≡ before ++ flat_map (λ x. 32 ∷ digits x) (map f (range_with_len a n)) → last ≡ digits (f (a + n))
    → (items ++ 32 ∷ []) ++ last ≡ before ++ flat_map (λ x. 32 ∷ digits x) (map f (range_with_len a (n + 1)))
text-more digits f a n before items last so_far is =
    let g : ℕ → List ℕ = λ x. 32 ∷ digits x in
    append_assoc items (32 ∷ []) last
    ∙ ap (λ xs. xs ++ (32 ∷ last)) so_far
    ∙ append_assoc before (flat_map g (map f (range_with_len a n))) (32 ∷ last)
    ∙ ap (λ xs. before ++ (flat_map g (map f (range_with_len a n)) ++ (32 ∷ xs))) (is ∙ sym (append-nil (digits (f (a + n)))))
    ∙ ap (λ xs. before ++ xs) (sym (flat_map-append g (map f (range_with_len a n)) (f (a + n) ∷ [])))
    ∙ ap (λ xs. before ++ flat_map g xs) (sym (map-range_with_len_more f a n (a + n) refl))

-- three parts behind one another in an empty buffer
pub joined-3 : (value none first second third x y z : List ℕ) → none ≡ [] → first ≡ none ++ x → second ≡ first ++ y → third ≡ second ++ z
    → value ≡ third → value ≡ x ++ y ++ z
joined-3 value none first second third x y z empty a b c is =
    is ∙ c ∙ ap (λ xs. xs ++ z) (b ∙ ap (λ xs. xs ++ y) (a ∙ ap (λ xs. xs ++ x) empty))

-- ---- registers

pub registers-none : (r : Regs) (items : List ℕ) → items ≡ items ++ registers_text r 0
unfolding registers_text
registers-none r items = sym (append-nil items)

pub registers-more : (r : Regs) (n : ℕ) (before items last : List ℕ) (number : ℕ) → items ≡ before ++ registers_text r n → number ≡ at r n
    → last ≡ hex4 number → (items ++ 32 ∷ []) ++ last ≡ before ++ registers_text r (n + 1)
unfolding registers_text
registers-more r n before items last number so_far is digits =
    text-more hex4 (at r) 0 n before items last so_far (digits ∙ ap hex4 (is ∙ ap (at r) (sym (zero-add n))))

-- ---- rows

-- the bytes of a row: 16 of them, or those that are left
pub row-bytes : (bytes : List ℕ) (start end : ℕ) → end ≡ min (length bytes) (start + 16) → slice_range bytes start end ≡ take 16 (drop start bytes)
row-bytes bytes start end is =
    let size : end - start ≡ min 16 (length (drop start bytes)) = omega (arith, is, length-drop start bytes) in
    ap (λ n. take n (drop start bytes)) size ∙ take_min 16 (drop start bytes)

-- all pieces are those before the k-th, the k-th, and others
split : (f : ℕ → List ℕ) (k m : ℕ) → k < m → map f (range_with_len 0 m) ≡ map f (range_with_len 0 k) ++ f k ∷ map f (range_with_len (k + 1) (m - suc k))
split f k m below =
    let whole : m ≡ k + suc (m - suc k) = omega (arith, below) in
    ap (λ n. map f (range_with_len 0 n)) whole
    ∙ ap (map f) (range_with_len-add 0 k (suc (m - suc k)))
    ∙ map-append f (range_with_len 0 k) (range_with_len (0 + k) (suc (m - suc k)))
    ∙ ap (λ n. map f (range_with_len 0 k) ++ map f (range_with_len n (suc (m - suc k)))) (zero-add k)

-- a stretch ends at FFFF at the latest
pub stretch-short : (byte : ℕ → ℕ) (address count : ℕ) → length (stretch byte address count) ≤ 0x10000 - address
stretch-short byte address count = omega (arith, length-map-range_with_len byte address (min (min count 4096) (0x10000 - address)))

pub stretch-fits : (byte : ℕ → ℕ) (address count : ℕ) → address < 0x10000 → address + length (stretch byte address count) ≤ 65536
stretch-fits byte address count low =
    omega (arith, low, stretch-short byte address count)

module _ (f : ℕ → List ℕ) (old middle new : SinkMeaning) where
  pub pieces-more : (k : ℕ) → PutsAll (map f (range_with_len 0 k)) old middle → PutsWhole (f k) middle new → PutsAll (map f (range_with_len 0 (k + 1))) old new
  pieces-more k so_far put =
      rw (map-range_with_len_more f 0 k k (zero-add k)) (PutsAll-snoc (map f (range_with_len 0 k)) (f k) old middle new so_far put)

  pub pieces-fail : (k m : ℕ) (r : Result (Unit {0}) Failed) → k < m → IsErr r → PutsAll (map f (range_with_len 0 k)) old middle
      → PutFails (f k) middle new → StreamAnswers (map f (range_with_len 0 m)) old new r
  pieces-fail k m r below bad so_far fault =
      StreamAnswers-fault (map f (range_with_len 0 m)) (map f (range_with_len 0 k)) (f k) (map f (range_with_len (k + 1) (m - suc k))) old middle new r
      (split f k m below) bad so_far fault

-- ---- groups of pieces

-- all are those before the k-th, the k-th, and others
group-split : (f : ℕ → List (List ℕ)) (k n : ℕ)
    → flat_map f (range_with_len 0 (k + suc n)) ≡ flat_map f (range_with_len 0 k) ++ (f k ++ flat_map f (range_with_len (k + 1) n))
group-split f k n =
    ap (flat_map f) (range_with_len-add 0 k (suc n))
    ∙ flat_map-append f (range_with_len 0 k) (range_with_len (0 + k) (suc n))
    ∙ ap (λ at. flat_map f (range_with_len 0 k) ++ flat_map f (range_with_len at (suc n))) (zero-add k)

module _ (f : ℕ → List (List ℕ)) (old middle new : SinkMeaning) where
  pub groups-more : (k : ℕ) → PutsAll (flat_map f (range_with_len 0 k)) old middle → PutsAll (f k) middle new
      → PutsAll (flat_map f (range_with_len 0 (k + 1))) old new
  groups-more k so_far put =
      let one : k + 1 ≡ k + suc 0 = omega arith in
      subst (λ pieces. PutsAll pieces old new)
      (sym (ap (λ n. flat_map f (range_with_len 0 n)) one ∙ group-split f k 0
      ∙ ap (λ more. flat_map f (range_with_len 0 k) ++ more) (append-nil (f k))))
      (PutsAll-append (flat_map f (range_with_len 0 k)) (f k) old middle new so_far put)

  pub groups-fail : (k m : ℕ) (r : Result (Unit {0}) Failed) → k < m → IsErr r → PutsAll (flat_map f (range_with_len 0 k)) old middle
      → FailsWithin (f k) middle new → StreamAnswers (flat_map f (range_with_len 0 m)) old new r
  groups-fail k m r below bad so_far fault =
      let whole : m ≡ k + suc (m - suc k) = omega (arith, below) in
      let rest = flat_map f (range_with_len (k + 1) (m - suc k)) in
      StreamAnswers-err (flat_map f (range_with_len 0 m)) old new r bad
      (subst (λ pieces. FailsWithin pieces old new) (sym (ap (λ n. flat_map f (range_with_len 0 n)) whole ∙ group-split f k (m - suc k)))
      (FailsWithin-append (flat_map f (range_with_len 0 k)) (f k ++ rest) old middle new so_far (FailsWithin-more (f k) rest middle new fault)))

-- ---- a line, and then two groups of lines

module _ (line : List ℕ) (before after : List (List ℕ)) (first second : SinkMeaning) (r : Result (Unit {0}) Failed) where
  pub change-fails : IsErr r → PutFails line first second → StreamAnswers (line ∷ before ++ after) first second r
  change-fails bad fault = StreamAnswers-fault (line ∷ before ++ after) [] line (before ++ after) first first second r refl bad (PutsAll-nil first) fault

  module _ (third : SinkMeaning) (put : PutsWhole line first second) where
    pub change-fails-before : IsErr r → FailsWithin before second third → StreamAnswers (line ∷ before ++ after) first third r
    change-fails-before bad fault =
        StreamAnswers-err (line ∷ before ++ after) first third r bad
        (FailsWithin-append (line ∷ []) (before ++ after) first second third (PutsAll-one line first second put)
        (FailsWithin-more before after second third fault))

    pub change-goes : (fourth : SinkMeaning) → PutsAll before second third → StreamAnswers after third fourth r
        → StreamAnswers (line ∷ before ++ after) first fourth r
    change-goes fourth puts rest =
        StreamAnswers-append (line ∷ []) (before ++ after) first second fourth r (PutsAll-one line first second put)
        (StreamAnswers-append before after second third fourth r puts rest)
