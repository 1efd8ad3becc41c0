-- What files mean, and what a read answers.
use Rattle.std.specs.Prelude.{◌≡◌, ℕ, ◌+◌, ◌≤◌, ◌⊎◌, true, false, List, [], ◌∷◌, ◌++◌, Option, None, Result, Ok, Err, option_map, IfSome, IsSomeAnd, length, take, nat_lt}
use Rattle.std.specs.Ordering.{nat_cmp}
use Rattle.std.specs.Cmp.Lexicographic.{slice_cmp}
use Rattle.std.specs.FinMap.{FinMap, get}
use Rattle.vip_outside.specs.Count.{Rose}
use Rattle.vip_outside.specs.declared.files.Loaded.{Loaded}
use Rattle.vip_outside.specs.declared.files.ReadFail.{ReadFail}
use Rattle.vip_outside.specs.declared.files.ReadFail.TheVariants.{Absent, Failed, NoMemory}

-- a finite map from names to files, both as bytes
abbrev pub FileMap : Type 0
FileMap = FinMap (slice_cmp nat_cmp) (List ℕ)

-- What a read came to: all bytes of the file, up to its end; its first bytes, behind which no end was met; no file of this name; or a fault.
pub data Answer : Type 0 where
  Whole : (bytes : List ℕ) → Answer
  Start : (bytes : List ℕ) → Answer
  Lacked : Answer
  Faulted : Answer

-- a read: the name, and what it came to
pub record Read : Type 0 where
  pub name : List ℕ
  pub answer : Answer

-- more reads, or one more, where the reads are told
abbrev pub and_reads : List Read → Option (List Read) → Option (List Read)
and_reads more reads = option_map (λ rs. rs ++ more) reads

abbrev pub and_read : List ℕ → Answer → Option (List Read) → Option (List Read)
and_read name answer = and_reads (record { name = name; answer = answer } ∷ [])

-- told: the map, where it is told; faults: how many there were; reads: those that were made so far, in order, where they are told
pub record FilesMeaning : Type 0 where
  pub told : Option FileMap
  pub faults : ℕ
  pub reads : Option (List Read)

-- one more read was made
abbrev pub with_read : List ℕ → Answer → FilesMeaning → FilesMeaning
with_read name answer old = record old { reads = and_read name answer old.reads }

-- the first bytes of a file, at most so many, and whether it has more
pub record IsStartOf (file : List ℕ) (most : ℕ) (loaded : Loaded) : Type 0 where
  pub bytes : loaded.bytes.items ≡ take most file
  pub more : loaded.more ≡ nat_lt most (length file)

-- Of what a read came to so much is given: the whole file, of at most so many bytes; or so many bytes of a file that has more, of which one more was read.
abbrev pub Gives : ℕ → Loaded → Answer → Type 0
Gives most loaded (Whole bytes) = (length bytes ≤ most) × (loaded.bytes.items ≡ bytes) × (loaded.more ≡ false)
Gives most loaded (Start bytes) = (length bytes ≡ most + 1) × (loaded.bytes.items ≡ take most bytes) × (loaded.more ≡ true)
Gives most loaded Lacked = ⊥
Gives most loaded Faulted = ⊥

-- what the read came to, which is the start of the file of this name, where the map is told
pub record ReadsStart (name : List ℕ) (most : ℕ) (old new : FilesMeaning) (loaded : Loaded) : Type 0 where
  pub file : IfSome old.told (λ files. IsSomeAnd (get files name) (λ file. IsStartOf file most loaded))
  pub answer : Answer
  pub gives : Gives most loaded answer
  pub read : new ≡ with_read name answer old

-- the map is told, and has no such name
pub record LacksName (name : List ℕ) (old new : FilesMeaning) : Type 0 where
  pub absent : IsSomeAnd old.told (λ files. get files name ≡ None)
  pub read : new ≡ with_read name Lacked old

-- a fault at this name
pub record ReadFails (name : List ℕ) (old new : FilesMeaning) : Type 0 where
  pub told : new.told ≡ old.told
  pub faults : Rose old.faults new.faults
  pub reads : new.reads ≡ and_read name Faulted old.reads

-- what each answer to a read of a name says
abbrev pub ReadAnswers : List ℕ → ℕ → FilesMeaning → FilesMeaning → Result Loaded ReadFail → Type 0
ReadAnswers name most old new (Ok loaded) = ReadsStart name most old new loaded
ReadAnswers name most old new (Err Absent) = LacksName name old new
ReadAnswers name most old new (Err Failed) = ReadFails name old new
ReadAnswers name most old new (Err NoMemory) = (new ≡ old) ⊎ ((answer : Answer) × (new ≡ with_read name answer old))
