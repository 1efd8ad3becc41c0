-- Words that are ended in bytes: what was read of them so far, and that there is one reading.
use Rattle.std.proofs.Common.{◌≡◌, ◌≢◌, ◌∙◌, ◌<◌, ◌≤◌, ◌+◌, ◌++◌, arith, suc, ℕ, List, [], ◌∷◌, refl, ap, sym, subst, append_assoc, append-nil, length, take, drop, get_or}
use Rattle.std.specs.List.{AllByRecursion, flat_map}
use Rattle.std.specs.Prelude.{IsUtf8}
use Rattle.std.proofs.Math.Seq.{drop-cons}
use Rattle.std.proofs.lemmas.List.{flat_map_more, take_all, take_more, take-append-drop}
use Rattle.vip_c.specs.Given.{AreWords, IsWord, ended}

abbrev HasNone : List ℕ → Type 0
HasNone = AllByRecursion (λ b. b ≢ 0)

-- ---- one more at the end

pub all_and : {X : Type 0} (P : X → Type 0) (xs : List X) (x : X) → AllByRecursion P xs → P x → AllByRecursion P (xs ++ x ∷ [])
all_and P [] x all last = (last, tt)
all_and P (y ∷ ys) x all last = (all.0, all_and P ys x all.1 last)

-- a list around one of its elements
pub joined : {X : Type 0} (xs : List X) (i : ℕ) (d : X) → i < length xs → take i xs ++ get_or xs i d ∷ drop (i + 1) xs ≡ xs
joined xs i d within =
    let next : i + 1 ≡ suc i = omega arith in
    ap (λ j. take i xs ++ get_or xs i d ∷ drop j xs) next ∙ (ap (λ rest. take i xs ++ rest) (sym (drop-cons xs i d within)) ∙ take-append-drop i xs)

-- what was read so far: whole words, and the first bytes of one
pub record Reads (bytes : List ℕ) (words : List (List ℕ)) (word : List ℕ) : Type 0 where
  pub bytes_are : bytes ≡ flat_map ended words ++ word
  pub each : AllByRecursion IsWord words
  pub none : HasNone word

module _ (bytes : List ℕ) (i : ℕ) (words : List (List ℕ)) (word : List ℕ) (reads : Reads (take i bytes) words word) (within : i < length bytes) where
  next : take (i + 1) bytes ≡ (flat_map ended words ++ word) ++ get_or bytes i 0 ∷ []
  next = take_more bytes i 0 within ∙ ap (λ front. front ++ get_or bytes i 0 ∷ []) reads.bytes_are

  pub one_word : get_or bytes i 0 ≡ 0 → IsUtf8 word → Reads (take (i + 1) bytes) (words ++ word ∷ []) []
  one_word end text = record {
    bytes_are =
        next
        ∙ (ap (λ b. (flat_map ended words ++ word) ++ b ∷ []) end
        ∙ (append_assoc (flat_map ended words) word (0 ∷ [])
        ∙ (flat_map_more ended [] words word ∙ sym (append-nil _))));
    each = all_and IsWord words word reads.each (record { text = text; one = reads.none });
    none = tt;
  }

  pub one_byte : get_or bytes i 0 ≢ 0 → Reads (take (i + 1) bytes) words (word ++ get_or bytes i 0 ∷ [])
  one_byte other = record {
    bytes_are = next ∙ append_assoc (flat_map ended words) word (get_or bytes i 0 ∷ []);
    each = reads.each;
    none = all_and (λ b. b ≢ 0) word (get_or bytes i 0) reads.none other;
  }

-- ---- one reading

-- a word ends at the first byte 00
cut : (w v x y : List ℕ) → HasNone w → HasNone v → w ++ 0 ∷ x ≡ v ++ 0 ∷ y → (w ≡ v) × (x ≡ y)
cut [] [] x y a b e = (refl, cc)
cut [] (c ∷ v) x y a b e = absurd (b.0 (cc))
cut (c ∷ w) [] x y a b e = absurd (a.0 (cc))
cut (c ∷ w) (d ∷ v) x y a b e =
    let rest = cut w v x y a.1 b.1 (cc) in
    let words : w ≡ v = rest.0 in
    (cc, rest.1)

-- so no bytes without one are a word and its end
uncut : (w v y : List ℕ) → HasNone w → w ≡ v ++ 0 ∷ y → ⊥
uncut [] [] y a e = cc
uncut [] (c ∷ v) y a e = cc
uncut (c ∷ w) [] y a e = a.0 (cc)
uncut (c ∷ w) (d ∷ v) y a e = uncut w v y a.1 (cc)

shift : (w x : List ℕ) → ended w ++ x ≡ w ++ 0 ∷ x
shift w x = append_assoc w (0 ∷ []) x

some : (w x : List ℕ) → w ++ 0 ∷ x ≡ [] → ⊥
some [] x e = cc
some (c ∷ w) x e = cc

record Behind (x : List ℕ) : Type 0 where
  pub words : List (List ℕ)
  pub are : x ≡ flat_map ended words
  pub each : AllByRecursion IsWord words

-- behind the first words are the others
behind : (ws : List (List ℕ)) (x : List ℕ) (vs : List (List ℕ)) → AllByRecursion IsWord ws → AllByRecursion IsWord vs → flat_map ended ws ++ x ≡ flat_map ended vs → Behind x
behind [] x vs a b e = record { words = vs; are = e; each = b }
behind (w ∷ ws) x [] a b e = absurd (some w (flat_map ended ws ++ x) (sym (append_assoc (ended w) (flat_map ended ws) x ∙ shift w _) ∙ e))
behind (w ∷ ws) x (v ∷ vs) a b e =
    let same : w ++ 0 ∷ (flat_map ended ws ++ x) ≡ v ++ 0 ∷ flat_map ended vs =
    sym (append_assoc (ended w) (flat_map ended ws) x ∙ shift w _) ∙ (e ∙ shift v _) in
    behind ws x vs a.1 b.1 (cut w v _ _ a.0.one b.0.one same).1

-- a word that isn't UTF-8 is none
no_text : (word rest : List ℕ) → HasNone word → ¬ IsUtf8 word → Behind (word ++ 0 ∷ rest) → ⊥
no_text word rest none bad b = go b.words b.are b.each
  where
    go : (us : List (List ℕ)) → word ++ 0 ∷ rest ≡ flat_map ended us → AllByRecursion IsWord us → ⊥
    go [] e each = some word rest e
    go (u ∷ us) e each = bad (subst IsUtf8 (sym (cut word u rest (flat_map ended us) none each.0.one (e ∙ shift u _)).0) each.0.text)

-- nor is one without an end
no_end : (word : List ℕ) → HasNone word → (word ≡ [] → ⊥) → Behind word → ⊥
no_end word none full b = go b.words b.are
  where
    go : (us : List (List ℕ)) → word ≡ flat_map ended us → ⊥
    go [] e = full e
    go (u ∷ us) e = uncut word u (flat_map ended us) none (e ∙ shift u _)

module _ (bytes : List ℕ) (i : ℕ) (words : List (List ℕ)) (word : List ℕ) (reads : Reads (take i bytes) words word) where
  pub not_text : i < length bytes → get_or bytes i 0 ≡ 0 → ¬ IsUtf8 word → (others : List (List ℕ)) → ¬ AreWords bytes others
  not_text within end bad others are =
      no_text word (drop (i + 1) bytes) reads.none bad
      (behind words _ others reads.each are.each
      (sym (append_assoc (flat_map ended words) word (0 ∷ drop (i + 1) bytes))
      ∙ (ap (λ front. front ++ 0 ∷ drop (i + 1) bytes) (sym reads.bytes_are) ∙ (whole ∙ are.bytes_are))))
    where
      whole : take i bytes ++ 0 ∷ drop (i + 1) bytes ≡ bytes
      whole = subst (λ b. take i bytes ++ b ∷ drop (i + 1) bytes ≡ bytes) end (joined bytes i 0 within)

  module _ (past : length bytes ≤ i) where
    all : bytes ≡ flat_map ended words ++ word
    all = sym (take_all i bytes past) ∙ reads.bytes_are

    pub not_ended : (word ≡ [] → ⊥) → (others : List (List ℕ)) → ¬ AreWords bytes others
    not_ended full others are = no_end word reads.none full (behind words word others reads.each are.each (sym all ∙ are.bytes_are))

    pub read_all : word ≡ [] → AreWords bytes words
    read_all empty = record { bytes_are = all ∙ (ap (λ w. flat_map ended words ++ w) empty ∙ append-nil _); each = reads.each }
