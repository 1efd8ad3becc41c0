-- The words and the files that a caller gives as bytes.
use Rattle.std.specs.Prelude.{◌≡◌, ◌+◌, ℕ, ◌≢◌, nat_le, List, [], ◌∷◌, ◌++◌, map, take, drop, length, Option, Some, None, if◌then◌else◌, Vec, String, IsUtf8, string_bytes}
use Rattle.std.specs.Borrow.{Bor}
use Rattle.std.specs.List.{AllByRecursion, flat_map}
use Rattle.std.specs.FinMap as finite
use Rattle.std.specs.declared.alloc.Global.{Global}
use Rattle.vip_outside.specs.Files.{FileMap}
use Rattle.vip_outside.specs.MemFiles.{FilesInMemory, no_files}
use Rattle.vip_c.specs.declared.VipFile.{VipFile}

-- ---- words

-- a word with the byte 00 that ends it
abbrev pub ended : List ℕ → List ℕ
ended word = word ++ 0 ∷ []

-- UTF-8 that has no byte 00
pub record IsWord (word : List ℕ) : Type 0 where
  pub text : IsUtf8 word
  pub one : AllByRecursion (λ b. b ≢ 0) word

-- the bytes are those of the words, each ended
pub record AreWords (bytes : List ℕ) (words : List (List ℕ)) : Type 0 where
  pub bytes_are : bytes ≡ flat_map ended words
  pub each : AllByRecursion IsWord words

-- ---- files

-- so many bytes from a place on, where they are there
abbrev pub part : List ℕ → ℕ → ℕ → Option (List ℕ)
part bytes start count = if nat_le (start + count) (length bytes) then Some (take count (drop start bytes)) else None

pub record File : Type 0 where
  pub name : List ℕ
  pub content : List ℕ

abbrev pub names_of : List File → List (List ℕ)
names_of files = map (λ file. file.name) files

pub record IsAt (bytes : List ℕ) (place : VipFile) (file : File) : Type 0 where
  pub name : part bytes place.name place.name_length ≡ Some file.name
  pub content : part bytes place.content place.content_length ≡ Some file.content
  pub text : IsUtf8 file.name

abbrev pub AreAt : List ℕ → List VipFile → List File → Type 0
AreAt bytes [] [] = Unit {0}
AreAt bytes (place ∷ places) (file ∷ files) = IsAt bytes place file × AreAt bytes places files
AreAt bytes _ _ = ⊥

-- no name stands twice
abbrev pub Differ : List (List ℕ) → Type 0
Differ [] = Unit {0}
Differ (name ∷ names) = AllByRecursion (λ other. other ≢ name) names × Differ names

pub record AreFiles (bytes : List ℕ) (places : List VipFile) (files : List File) : Type 0 where
  pub each : AreAt bytes places files
  pub differ : Differ (names_of files)

-- the map that has these files, and no other
abbrev pub with_files : FileMap → List File → FileMap
with_files known [] = known
with_files known (file ∷ files) = with_files (finite.insert known file.name file.content) files

abbrev pub in_memory : List File → FilesInMemory
in_memory files = record no_files { files = with_files no_files.files files }

-- ---- what is answered

abbrev pub WordsAnswer : List ℕ → Option (Vec (String Global) Global) → Type 0
WordsAnswer bytes (Some words) = AreWords bytes (map string_bytes words.items)
WordsAnswer bytes None = (words : List (List ℕ)) → ¬ AreWords bytes words

abbrev pub NameAnswer : List ℕ → VipFile → Option (Bor (List ℕ)) → Type 0
NameAnswer bytes place (Some name) = (part bytes place.name place.name_length ≡ Some name.now) × IsUtf8 name.now
NameAnswer bytes place None = (name : List ℕ) → part bytes place.name place.name_length ≡ Some name → ¬ IsUtf8 name

abbrev pub FilesAnswer : List ℕ → List VipFile → Option FilesInMemory → Type 0
FilesAnswer bytes places (Some memory) = (files : List File) × AreFiles bytes places files × (memory ≡ in_memory files)
FilesAnswer bytes places None = (files : List File) → ¬ AreFiles bytes places files
