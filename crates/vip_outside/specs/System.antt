-- What a system answers when it opens a file, and when it reads what it opened.
use Rattle.std.specs.Prelude.{◌≡◌, ℕ, zero, suc, List, [], ◌∷◌, ◌++◌, Option, Result, Ok, Err, option_map, take}
use Rattle.vip_outside.specs.Files.{Answer, Read, and_read}
use Rattle.vip_outside.specs.Files.Answer.{Whole, Start, Faulted}

-- a file is opened, of which nothing was read yet; or that is a fault
module _ {File Error : Type 0} where
  abbrev pub Opens : List ℕ → Option (List Read) → Option (List Read) → Result File Error → Type 0
  Opens name old new (Ok file) = new ≡ and_read name (Start []) old
  Opens name old new (Err error) = new ≡ and_read name Faulted old

-- the last read of some is changed
abbrev pub on_last : (Answer → Answer) → List Read → List Read
on_last change [] = []
on_last change (r ∷ []) = record r { answer = change r.answer } ∷ []
on_last change (r ∷ s ∷ reads) = r ∷ on_last change (s ∷ reads)

-- what was read of a file where so many bytes of a block come behind it; no byte comes only at the end
abbrev pub got : ℕ → List ℕ → Answer → Answer
got zero block (Start bytes) = Whole bytes
got (suc n) block (Start bytes) = Start (bytes ++ take (suc n) block)
got n block answer = answer

-- more was read of the file that was opened last; or that is a fault
module _ {Error : Type 0} where
  abbrev pub Reads : List ℕ → Option (List Read) → Option (List Read) → Result ℕ Error → Type 0
  Reads block old new (Ok n) = new ≡ option_map (on_last (got n block)) old
  Reads block old new (Err error) = new ≡ option_map (on_last (λ _. Faulted)) old
