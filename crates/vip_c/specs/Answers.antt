-- What a call answers.
use Rattle.std.specs.Prelude.{◌≡◌, ◌⊎◌, ℕ, List, ◌++◌, take, drop, length, Option, Some, None}
use Rattle.vip_outside.specs.Files.{FilesMeaning}
use Rattle.vip_outside.specs.MemFiles as memory
use Rattle.vip_outside.specs.Sink.{SinkMeaning}
use Rattle.vip_tools.specs.Status.{status_number}
use Rattle.vip_tools.specs.declared.status.Status.{Status}
use Rattle.vip_tools.specs.declared.status.Status.TheVariants.{Usage, NoMemory}
use Rattle.vip_call.specs.Top.{Promises, call_of}
use Rattle.vip_c.specs.Given.{AreFiles, AreWords, File, in_memory}
use Rattle.vip_c.specs.Kept.{empty}
use Rattle.vip_c.specs.declared.Ran.{Ran}
use Rattle.vip_c.specs.declared.VipFile.{VipFile}
use Rattle.vip_c.specs.declared.VipLengths.{VipLengths}

-- the words and the files are given
pub record Given (words : List ℕ) (places : List VipFile) (bytes : List ℕ) : Type 0 where
  pub words_are : List (List ℕ)
  pub files_are : List File
  pub are_words : AreWords words words_are
  pub are_files : AreFiles bytes places files_are

-- the program ran on them: what it promises holds of its status, its output and its report
pub record Runs (words : List ℕ) (places : List VipFile) (bytes : List ℕ) (status : Status) (out err : List ℕ) : Type 0 where
  pub given : Given words places bytes
  pub files' : FilesMeaning
  pub out' : SinkMeaning
  pub err' : SinkMeaning
  pub promises : Promises status (call_of given.words_are (memory.meaning_of (in_memory given.files_are)) files' empty out' empty err')
  pub out_is : out'.held ≡ Some out
  pub err_is : err'.held ≡ Some err

abbrev pub RunAnswers : List ℕ → List VipFile → List ℕ → Option Ran → Type 0
RunAnswers words places bytes (Some ran) = Runs words places bytes ran.status ran.out.items ran.err.items
RunAnswers words places bytes None = ¬ Given words places bytes

-- a text's first bytes are in a room, as many as there is room for, and the rest of the room is as it was; its length is told
pub record Fills (text room room' : List ℕ) (count : ℕ) : Type 0 where
  pub room_is : room' ≡ take (length room) text ++ drop (length text) room
  pub count_is : count ≡ length text

-- the program ran, and its output and its report are in the rooms
pub record Wrote (words : List ℕ) (places : List VipFile) (bytes out out' err err' : List ℕ) (lengths : VipLengths) (number : ℕ) : Type 0 where
  pub status : Status
  pub text : List ℕ
  pub report : List ℕ
  pub runs : Runs words places bytes status text report
  pub out_is : Fills text out out' lengths.out
  pub err_is : Fills report err err' lengths.err
  pub number_is : number ≡ status_number status

-- nothing was written, and this status says why
pub record WroteNone (out out' err err' : List ℕ) (lengths : VipLengths) (status : Status) (number : ℕ) : Type 0 where
  pub out_is : out' ≡ out
  pub err_is : err' ≡ err
  pub lengths_are : lengths ≡ record { out = 0; err = 0 }
  pub number_is : number ≡ status_number status

-- The program ran; or the words and the files aren't given, and nothing was written; or no memory was found for them, and nothing was.
abbrev pub CallAnswers : List ℕ → List VipFile → List ℕ → List ℕ → List ℕ → List ℕ → List ℕ → VipLengths → ℕ → Type 0
CallAnswers words places bytes out out' err err' lengths number =
    Wrote words places bytes out out' err err' lengths number
    ⊎ (¬ Given words places bytes × WroteNone out out' err err' lengths Usage number)
    ⊎ WroteNone out out' err err' lengths NoMemory number
