-- What the files of a system mean, and what a read of them does to the system.
use Rattle.std.specs.Prelude.{◌≡◌, ℕ, List, Option, None, Result, Ok, Err}
use Rattle.vip_outside.specs.Files.{Answer, FilesMeaning, Gives, Read, and_read}
use Rattle.vip_outside.specs.Files.Answer.{Faulted}
use Rattle.vip_outside.specs.declared.files.Loaded.{Loaded}
use Rattle.vip_outside.specs.declared.files.ReadFail.{ReadFail}
use Rattle.vip_outside.specs.declared.files.ReadFail.TheVariants.{Absent, Failed, NoMemory}

-- faults: how many there were; reads: what the system opened so far, each with what was read of it, where it tells that
pub record SystemFiles : Type 0 where
  pub faults : ℕ
  pub reads : Option (List Read)

-- of the files of a system no map is told
abbrev pub meaning_of : SystemFiles → FilesMeaning
meaning_of s = record { told = None; faults = s.faults; reads = s.reads }

-- a fault, or want of memory: where no map is told, no name is known to be absent
abbrev pub IsNotAbsent : ReadFail → Type 0
IsNotAbsent Absent = ⊥
IsNotAbsent Failed = Unit {0}
IsNotAbsent NoMemory = Unit {0}

-- What the system did: it opened the file of this name, once, and read it up to its end or to one byte more than asked for. A fault is one of the system,
-- when it opened the file or read it.
abbrev pub SystemAnswers : List ℕ → ℕ → Option (List Read) → Option (List Read) → Result Loaded ReadFail → Type 0
SystemAnswers name most old new (Ok loaded) = (answer : Answer) × Gives most loaded answer × (new ≡ and_read name answer old)
SystemAnswers name most old new (Err Absent) = ⊥
SystemAnswers name most old new (Err Failed) = new ≡ and_read name Faulted old
SystemAnswers name most old new (Err NoMemory) = (answer : Answer) × (new ≡ and_read name answer old)
