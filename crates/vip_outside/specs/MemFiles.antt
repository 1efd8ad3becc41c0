-- Files in memory, and exactly what a read of them does.
use Rattle.std.specs.Prelude.{◌≡◌, ℕ, ◌+◌, ◌^◌, ◌==◌, Bool, true, false, ◌⊎◌, if◌then◌else◌, nat_lt, List, [], ◌∷◌, ◌++◌, length, take, Some, Result, Ok, Err, refl}
use Rattle.std.specs.List.{list_any}
use Rattle.std.specs.Option.{option_map_or}
use mathlib.Core.Logic.{inl, inr}
use Rattle.std.specs.FinMap as finite
use Rattle.std.specs.Coded.{Coded, code_by, coded×, coded⊎, coded_bool, coded_ℕ, coded_list}
use Rattle.vip_outside.specs.Count.{raised}
use Rattle.vip_outside.specs.Files.{Answer, FileMap, FilesMeaning, Read}
use Rattle.vip_outside.specs.Files.Answer.{Whole, Start, Lacked, Faulted}
use Rattle.vip_outside.specs.declared.files.Loaded.{Loaded}
use Rattle.vip_outside.specs.declared.files.ReadFail.{ReadFail}
use Rattle.vip_outside.specs.declared.files.ReadFail.TheVariants.{Absent, Failed, NoMemory}

-- named: the reads that are named to fail, by their numbers from 0; calls: how many there were; reads: those that were kept so far
pub record FilesInMemory : Type 0 where
  pub files : FileMap
  pub named : List ℕ
  pub calls : ℕ
  pub faults : ℕ
  pub reads : List Read

-- their code: that of the tuple of the fields
abbrev pub AnswerFields : Type 0
AnswerFields = (List ℕ ⊎ List ℕ) ⊎ Bool

abbrev pub answer_fields : Answer → AnswerFields
answer_fields (Whole bytes) = inl (inl bytes)
answer_fields (Start bytes) = inl (inr bytes)
answer_fields Lacked = inr false
answer_fields Faulted = inr true

abbrev pub answer_by : AnswerFields → Answer
answer_by (inl (inl bytes)) = Whole bytes
answer_by (inl (inr bytes)) = Start bytes
answer_by (inr false) = Lacked
answer_by (inr true) = Faulted

pub answer_back : (a : Answer) → answer_by (answer_fields a) ≡ a
answer_back (Whole bytes) = refl
answer_back (Start bytes) = refl
answer_back Lacked = refl
answer_back Faulted = refl

abbrev pub bytes_code : Coded (List ℕ)
bytes_code = coded_list coded_ℕ

abbrev pub answer_code : Coded Answer
answer_code = code_by AnswerFields (coded⊎ (coded⊎ bytes_code bytes_code) coded_bool) answer_fields answer_by answer_back

abbrev pub read_code : Coded Read
read_code =
    code_by (List ℕ × Answer) (coded× bytes_code answer_code) (λ r. (r.name, r.answer)) (λ t. record { name = t.0; answer = t.1 }) (λ _. refl)

abbrev pub Fields : Type 0
Fields = FileMap × (List ℕ × (ℕ × (ℕ × List Read)))

abbrev pub fields_code : Coded Fields
fields_code = coded× (finite.code bytes_code bytes_code) (coded× bytes_code (coded× coded_ℕ (coded× coded_ℕ (coded_list read_code))))

abbrev pub files_code : Coded FilesInMemory
files_code =
    code_by Fields fields_code
    (λ s. (s.files, (s.named, (s.calls, (s.faults, s.reads)))))
    (λ t. record { files = t.0; named = t.1.0; calls = t.1.1.0; faults = t.1.1.1.0; reads = t.1.1.1.1 })
    (λ _. refl)

-- they tell their map and their reads
abbrev pub meaning_of : FilesInMemory → FilesMeaning
meaning_of s = record { told = Some s.files; faults = s.faults; reads = Some s.reads }

-- no files
abbrev pub no_files : FilesInMemory
no_files = record { files = finite.empty; named = []; calls = 0; faults = 0; reads = [] }

-- whether the next read is named to fail
abbrev pub is_named : FilesInMemory → Bool
is_named s = list_any (λ call. call == s.calls) s.named

-- a named read fails, and no other one does, but for want of memory
abbrev pub FailsWhereNamed : Bool → Result Loaded ReadFail → Type 0
FailsWhereNamed named (Ok _) = named ≡ false
FailsWhereNamed named (Err Absent) = named ≡ false
FailsWhereNamed named (Err Failed) = named ≡ true
FailsWhereNamed named (Err NoMemory) = Unit {0}

-- one more call, and one more read that is kept
abbrev pub counted : FilesInMemory → FilesInMemory
counted s = record s { calls = raised (2 ^ 64) s.calls }

abbrev pub with_kept : FilesInMemory → List ℕ → Answer → FilesInMemory
with_kept s name answer = record s { reads = s.reads ++ record { name = name; answer = answer } ∷ [] }

-- the read that is kept of a file: all of it, or where it has more bytes than were asked for, one more than those
abbrev pub kept_of : ℕ → List ℕ → Answer
kept_of most file = if nat_lt most (length file) then Start (take (most + 1) file) else Whole file

abbrev pub found : FilesInMemory → List ℕ → ℕ → Answer
found s name most = option_map_or (kept_of most) (finite.get s.files name) Lacked

-- what a read of a name leaves: one more call and one more read, and at a fault one more fault; where no memory is found the call alone
abbrev pub AfterRead : FilesInMemory → List ℕ → ℕ → Result Loaded ReadFail → FilesInMemory → Type 0
AfterRead s name most (Err Failed) t = t ≡ record (with_kept (counted s) name Faulted) { faults = raised (2 ^ 64) s.faults }
AfterRead s name most (Err NoMemory) t = t ≡ counted s
AfterRead s name most _ t = t ≡ with_kept (counted s) name (found s name most)
