-- What the process does with its command line, its system and its two streams.
use Rattle.std.specs.Prelude.{◌≡◌, ◌⊎◌, ℕ, List, [], ◌∷◌, Bool, true, false, ◌&&◌, Result, Ok, Err, Vec, String, map, drop, string_bytes}
use Rattle.std.specs.Vec.Iter.{into_iter_items}
use Rattle.std.specs.declared.vec.IntoIter.{IntoIter}
use Rattle.std.specs.declared.io.Error.{Error}
use Rattle.std.specs.declared.alloc.Global.{Global}
use Rattle.vip_outside.specs.Files.{FilesMeaning}
use Rattle.vip_outside.specs.RealFiles as real
use Rattle.vip_outside.specs.RealFiles.{SystemFiles}
use Rattle.vip_outside.specs.StdSink as sink
use Rattle.vip_outside.specs.StdSink.{StreamSink}
use Rattle.vip_outside.specs.Sink.{SinkMeaning}
use Rattle.vip_tools.specs.declared.refusal.Refusal.{Refusal}
use Rattle.vip_tools.specs.declared.refusal.Refusal.TheVariants as refusal
use Rattle.vip_tools.specs.declared.status.Status.{Status}
use Rattle.vip_tools.specs.declared.status.Status.TheVariants.{Done, Stopped, Usage, NoMemory}
use Rattle.vip_tools.specs.Report.{no_memory, usage}
use Rattle.vip_tools.specs.Reported.{IsPut}
use Rattle.vip_tools.specs.Status.{status_number}
use Rattle.vip_words.specs.Why.{remark}
use Rattle.vip_call.specs.Top.{IsFinished, Promises, call_of}

-- the command line: the program's name, and the words behind it; or an error, as where one isn't UTF-8
abbrev pub CommandLine : Type 0
CommandLine = Result (IntoIter (String Global) Global) Error

-- all the words behind the program's name, in their order
abbrev pub words_behind : IntoIter (String Global) Global → List (String Global)
words_behind args = drop 1 (into_iter_items args)

abbrev pub WordsAnswer : CommandLine → Result (Vec (String Global) Global) Refusal → Type 0
WordsAnswer (Ok args) (Ok words) = words.items ≡ words_behind args
WordsAnswer (Ok args) (Err refusal.NoMemory) = Unit {0}
WordsAnswer (Err error) (Err refusal.Usage) = Unit {0}
WordsAnswer (Err error) (Err refusal.NoMemory) = Unit {0}
WordsAnswer _ _ = ⊥

-- The program ran on these words: something was opened and finished, which is never want of memory, or a refusal was reported.
pub record Runs (words : List (List ℕ)) (files files' : FilesMeaning) (out out' err err' : SinkMeaning) (status : Status) : Type 0 where
  pub finished : IsFinished words files files' out out' err err' status
  pub promises : Promises status (call_of words files files' out out' err err')

-- It didn't: no file was read, nothing was written but this report, by one put, and the process ends with the number of this status.
pub record Refuses (status : Status) (report : List ℕ) (files files' : FilesMeaning) (out out' err err' : SinkMeaning) (number : ℕ) : Type 0 where
  pub no_file : files' ≡ files
  pub no_output : out' ≡ out
  pub reports : IsPut report err err'
  pub ends : number ≡ status_number status

-- a line is put behind the report, unless no memory is found for it; or there is none
abbrev pub PutsBehind : List ℕ → SinkMeaning → SinkMeaning → Type 0
PutsBehind [] err err' = err' ≡ err
PutsBehind (byte ∷ bytes) err err' = IsPut (byte ∷ bytes) err err' ⊎ (err' ≡ err)

-- a remark follows the report if the words are rejected, or if something ran
abbrev pub is_remarked : Status → Bool
is_remarked Usage = true
is_remarked Done = true
is_remarked Stopped = true
is_remarked _ = false

-- what is remarked on the words, if it is shown, and else nothing
abbrev pub RemarkAnswers : Bool → List (List ℕ) → SinkMeaning → SinkMeaning → Type 0
RemarkAnswers false words err err' = err' ≡ err
RemarkAnswers true words err err' = PutsBehind (remark words) err err'

-- The program ran on the words, and the process ends with the number of its status. What goes to the report's stream is what the program puts there, and on a
-- terminal the remark after it.
pub record Ends (is_terminal : Bool) (words : List (List ℕ)) (files files' : FilesMeaning) (out out' err err' : SinkMeaning) (number : ℕ) : Type 0 where
  pub status : Status
  pub reported : SinkMeaning
  pub runs : Runs words files files' out out' err reported status
  pub remarked : RemarkAnswers (is_terminal && is_remarked status) words reported err'
  pub ends : number ≡ status_number status

-- what is done with a command line: the program runs on the words; or no memory is found for them; or there is no command line in UTF-8
abbrev pub LineAnswers : CommandLine → Bool → FilesMeaning → FilesMeaning → SinkMeaning → SinkMeaning → SinkMeaning → SinkMeaning → ℕ → Type 0
LineAnswers (Ok args) is_terminal files files' out out' err err' number =
    Ends is_terminal (map string_bytes (words_behind args)) files files' out out' err err' number ⊎ Refuses NoMemory no_memory files files' out out' err err' number
LineAnswers (Err error) is_terminal files files' out out' err err' number =
    Refuses Usage usage files files' out out' err err' number ⊎ Refuses NoMemory no_memory files files' out out' err err' number

-- What the process does, on the files of a system and on a sink over each of two streams: of the system it is said what was opened and read, and of each
-- stream the bytes that it took, where they tell that.
abbrev pub ProcessAnswers : CommandLine → Bool → SystemFiles → SystemFiles → StreamSink → StreamSink → StreamSink → StreamSink → ℕ → Type 0
ProcessAnswers line is_terminal files files' out out' err err' number =
    LineAnswers line is_terminal (real.meaning_of files) (real.meaning_of files') (sink.meaning_of out) (sink.meaning_of out') (sink.meaning_of err) (sink.meaning_of err')
    number
