-- Files at places: what was found so far, and that there is one reading.
use Rattle.std.proofs.Common.{◌≡◌, ◌≢◌, ◌∙◌, ◌<◌, ◌≤◌, ◌+◌, ◌++◌, ℕ, List, [], ◌∷◌, Some, true, false, inl, inr, refl, ap, ap₂, sym, subst, map, length, take, drop, get_or}
use Rattle.std.specs.FinMap as finite
use Rattle.std.specs.List.{AllByRecursion, list_any}
use Rattle.std.specs.Prelude.{bytes_eq}
use Rattle.std.proofs.lemmas.Bool.{both_ways, or_cases, or_parts}
use Rattle.std.proofs.lemmas.Slice.Eq.{bytes_eq-Decides}
use Rattle.std.proofs.lemmas.List.{map-append, take_all, take_more}
use Rattle.vip_outside.specs.Files.{FileMap}
use Rattle.vip_outside.specs.MemFiles.{FilesInMemory, no_files}
use Rattle.vip_c.specs.Given.{AreAt, AreFiles, Differ, File, IsAt, in_memory, names_of, part, with_files}
use Rattle.vip_c.specs.declared.VipFile.{VipFile}
use Rattle.vip_c.proofs.WordLemmas.{all_and, joined}

-- what was found so far
pub record Found (bytes : List ℕ) (places : List VipFile) (names : List (List ℕ)) (memory : FilesInMemory) : Type 0 where
  pub files : List File
  pub are : AreFiles bytes places files
  pub names_are : names ≡ names_of files
  pub memory_is : memory ≡ in_memory files

-- ---- whether a name stands among others

module _ {X : Type 0} (named : X → List ℕ) (name : List ℕ) where
  pub some_same : (xs : List X) → list_any (λ x. bytes_eq (named x) name) xs ≡ true → ¬ AllByRecursion (λ other. other ≢ name) (map named xs)
  some_same [] is all = absurd (cc)
  some_same (x ∷ xs) is all = elim (or_cases (bytes_eq (named x) name) (list_any (λ x. bytes_eq (named x) name) xs) is) [
    | inl here ↦ all.0 ((bytes_eq-Decides (named x) name).0 here)
    | inr behind ↦ some_same xs behind all.1
  ]

  pub none_same : (xs : List X) → list_any (λ x. bytes_eq (named x) name) xs ≡ false → AllByRecursion (λ other. other ≢ name) (map named xs)
  none_same [] is = tt
  none_same (x ∷ xs) is =
      let parts = or_parts _ _ is in (
        λ same. both_ways _ parts.0 ((bytes_eq-Decides (named x) name).1 same),
        none_same xs parts.1,
      )

-- ---- one more at the end

differ_and : (names : List (List ℕ)) (name : List ℕ) → Differ names → AllByRecursion (λ other. other ≢ name) names → Differ (names ++ name ∷ [])
differ_and [] name d new = (tt, tt)
differ_and (n ∷ ns) name d new = (all_and (λ other. other ≢ n) ns name d.0 (λ same. new.0 (sym same)), differ_and ns name d.1 new.1)

with_and : (known : FileMap) (files : List File) (file : File) → with_files known (files ++ file ∷ []) ≡ finite.insert (with_files known files) file.name file.content
with_and known [] file = refl
with_and known (f ∷ fs) file = with_and (finite.insert known f.name f.content) fs file

module _ (bytes : List ℕ) where
  at_and : (places : List VipFile) (place : VipFile) (files : List File) (file : File) → AreAt bytes places files → IsAt bytes place file
      → AreAt bytes (places ++ place ∷ []) (files ++ file ∷ [])
  at_and [] place [] file are is = (is, tt)
  at_and [] place (f ∷ fs) file are is = absurd are
  at_and (p ∷ ps) place [] file are is = absurd are
  at_and (p ∷ ps) place (f ∷ fs) file are is = (are.0, at_and ps place fs file are.1 is)

  module _ (places : List VipFile) (i : ℕ) (d : VipFile) (within : i < length places) (names : List (List ℕ)) (memory : FilesInMemory)
      (found : Found bytes (take i places) names memory) where
    pub one_file :
        (file : File) → IsAt bytes (get_or places i d) file → AllByRecursion (λ other. other ≢ file.name) names
        → Found bytes (take (i + 1) places) (names ++ file.name ∷ []) (record memory { files = finite.insert memory.files file.name file.content })
    one_file file is new = record {
      files = found.files ++ file ∷ [];
      are =
          record {
            each = subst (λ ps. AreAt bytes ps (found.files ++ file ∷ [])) (sym (take_more places i d within)) (at_and _ _ found.files file found.are.each is);
            differ =
                subst Differ (sym names_now)
                (differ_and (names_of found.files) file.name found.are.differ (subst (AllByRecursion (λ other. other ≢ file.name)) found.names_are new));
          };
      names_are = ap (λ ns. ns ++ file.name ∷ []) found.names_are ∙ sym names_now;
      memory_is =
          ap (λ (m : FilesInMemory). record m { files = finite.insert m.files file.name file.content }) found.memory_is
          ∙ ap (λ known. record no_files { files = known }) (sym (with_and no_files.files found.files file));
    }
      where
        names_now : names_of (found.files ++ file ∷ []) ≡ names_of found.files ++ file.name ∷ []
        names_now = map-append (λ (f : File). f.name) found.files (file ∷ [])

  -- ---- one reading

  some_is : (a b : List ℕ) → Some a ≡ Some b → a ≡ b
  some_is a b e = cc

  one_at : (place : VipFile) (f g : File) → IsAt bytes place f → IsAt bytes place g → f ≡ g
  one_at place f g a b =
      ap₂ (λ name content. record { name = name; content = content }) (some_is _ _ (sym a.name ∙ b.name)) (some_is _ _ (sym a.content ∙ b.content))

  one_reading : (places : List VipFile) (fs gs : List File) → AreAt bytes places fs → AreAt bytes places gs → fs ≡ gs
  one_reading [] [] [] a b = refl
  one_reading [] [] (g ∷ gs) a b = absurd b
  one_reading [] (f ∷ fs) gs a b = absurd a
  one_reading (p ∷ ps) [] gs a b = absurd a
  one_reading (p ∷ ps) (f ∷ fs) [] a b = absurd b
  one_reading (p ∷ ps) (f ∷ fs) (g ∷ gs) a b = ap₂ (λ x xs. x ∷ xs) (one_at p f g a.0 b.0) (one_reading ps fs gs a.1 b.1)

  -- the files around one of them
  record Around (before : List VipFile) (place : VipFile) (files : List File) : Type 0 where
    pub fs : List File
    pub file : File
    pub gs : List File
    pub is : files ≡ fs ++ file ∷ gs
    pub first : AreAt bytes before fs
    pub here : IsAt bytes place file

  around : (ps : List VipFile) (p : VipFile) (qs : List VipFile) (files : List File) → AreAt bytes (ps ++ p ∷ qs) files → Around ps p files
  around [] p qs [] are = absurd are
  around [] p qs (f ∷ fs) are = record { fs = []; file = f; gs = fs; is = refl; first = tt; here = are.0 }
  around (q ∷ ps) p qs [] are = absurd are
  around (q ∷ ps) p qs (f ∷ fs) are =
      let rest = around ps p qs fs are.1 in
      record { fs = f ∷ rest.fs; file = rest.file; gs = rest.gs; is = ap (λ gs. f ∷ gs) rest.is; first = (are.0, rest.first); here = rest.here }

  all_at : {X : Type 0} (P : X → Type 0) (xs : List X) (x : X) (ys : List X) → AllByRecursion P (xs ++ x ∷ ys) → P x
  all_at P [] x ys all = all.0
  all_at P (z ∷ xs) x ys all = all_at P xs x ys all.1

  before_differs : (names : List (List ℕ)) (name : List ℕ) (others : List (List ℕ)) → Differ (names ++ name ∷ others) → AllByRecursion (λ other. other ≢ name) names
  before_differs [] name others d = tt
  before_differs (n ∷ ns) name others d = (λ same. all_at (λ other. other ≢ n) ns name others d.0 (sym same), before_differs ns name others d.1)

  module _ (places : List VipFile) (i : ℕ) (d : VipFile) (within : i < length places) where
    there : (files : List File) → AreFiles bytes places files → Around (take i places) (get_or places i d) files
    there files are =
        around (take i places) (get_or places i d) (drop (i + 1) places) files (subst (λ ps. AreAt bytes ps files) (sym (joined places i d within)) are.each)

    -- a place that has no file
    pub not_there : ((file : File) → ¬ IsAt bytes (get_or places i d) file) → (files : List File) → ¬ AreFiles bytes places files
    not_there none files are = let at = there files are in none at.file at.here

    -- a name that stands twice
    pub twice :
        (names : List (List ℕ)) (memory : FilesInMemory) (found : Found bytes (take i places) names memory) (name : List ℕ)
        → part bytes (get_or places i d).name (get_or places i d).name_length ≡ Some name → ¬ AllByRecursion (λ other. other ≢ name) names
        → (files : List File) → ¬ AreFiles bytes places files
    twice names memory found name is same files are =
        let at = there files are in
        let first = one_reading (take i places) found.files at.fs found.are.each at.first in
        let differ = subst Differ (map-append (λ (f : File). f.name) at.fs (at.file ∷ at.gs)) (subst (λ fs. Differ (names_of fs)) at.is are.differ) in
        let others = before_differs (names_of at.fs) at.file.name (names_of at.gs) differ in
        let named : at.file.name ≡ name = some_is _ _ (sym at.here.name ∙ is) in
        same
        (subst (AllByRecursion (λ other. other ≢ name)) (ap names_of (sym first) ∙ sym found.names_are)
        (subst (λ n. AllByRecursion (λ other. other ≢ n) (names_of at.fs)) named others))

  pub found_all : (places : List VipFile) (i : ℕ) (names : List (List ℕ)) (memory : FilesInMemory) → length places ≤ i → Found bytes (take i places) names memory
      → (files : List File) × AreFiles bytes places files × (memory ≡ in_memory files)
  found_all places i names memory past found =
      (found.files, subst (λ ps. AreFiles bytes ps found.files) (take_all i places past) found.are, found.memory_is)
