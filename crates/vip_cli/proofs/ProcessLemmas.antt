-- What the process does, from what it makes of its command line.
use Rattle.std.proofs.Common.{◌≡◌, ◌==◌, inl, inr, ℕ, List, [], ◌∷◌, Bool, true, false, ◌&&◌, length, map, refl, subst, Result, Ok, Err}
use Rattle.std.specs.Prelude.{Vec, String, string_bytes}
use Rattle.std.specs.declared.alloc.Global.{Global}
use Rattle.vip_outside.specs.Files.{FilesMeaning}
use Rattle.vip_outside.specs.Sink.{SinkMeaning, PutAnswers}
use Rattle.vip_outside.specs.declared.sink.Failed.{Failed}
use Rattle.vip_tools.specs.declared.refusal.Refusal.{Refusal}
use Rattle.vip_tools.specs.declared.refusal.Refusal.TheVariants as refusal
use Rattle.vip_tools.specs.declared.status.Status.{Status}
use Rattle.vip_tools.specs.Reported.{RefusalAnswers}
use Rattle.vip_tools.specs.Status.{status_number}
use Rattle.vip_words.specs.Why.{remark}
use Rattle.vip_cli.specs.Process.{CommandLine, Ends, LineAnswers, PutsBehind, RemarkAnswers, Runs, WordsAnswer, is_remarked}

-- a line that isn't empty was put, whole or not
put-behind :
    (text line : List ℕ) (err err' : SinkMeaning) (r : Result (Unit {0}) Failed) → text ≡ line → (length text == 0) ≡ false → PutAnswers text err err' r
    → PutsBehind line err err'
put-behind [] line err err' r same some put = absurd (cc)
put-behind (byte ∷ bytes) line err err' (Ok done) same some put = subst (λ line. PutsBehind line err err') same (inl (inl put))
put-behind (byte ∷ bytes) line err err' (Err failed) same some put = subst (λ line. PutsBehind line err err') same (inl (inr put))

pub remark-put :
    (shown : Bool) (words : List (List ℕ)) (text : List ℕ) (err err' : SinkMeaning) (r : Result (Unit {0}) Failed) → shown ≡ true
    → text ≡ remark words → (length text == 0) ≡ false → PutAnswers text err err' r → RemarkAnswers shown words err err'
remark-put false words text err err' r is same some put = absurd (cc)
remark-put true words text err err' r is same some put = put-behind text (remark words) err err' r same some put

module _ (is_terminal : Bool) (files files' : FilesMeaning) (out out' err reported err' : SinkMeaning) where
  -- it ran on the words
  pub runs :
      (line : CommandLine) (words : Vec (String Global) Global) (given : List (String Global)) (status : Status) (number : ℕ)
      → WordsAnswer line (Ok words) → given ≡ words.items → Runs (map string_bytes given) files files' out out' err reported status
      → RemarkAnswers (is_terminal && is_remarked status) (map string_bytes given) reported err'
      → number ≡ status_number status → LineAnswers line is_terminal files files' out out' err err' number
  runs (Ok args) words given status number is same ran remarked ends =
      inl (subst (λ ws. Ends is_terminal (map string_bytes ws) files files' out out' err err' number) is
      (subst (λ ws. Ends is_terminal (map string_bytes ws) files files' out out' err err' number) same
      (record { status = status; reported = reported; runs = ran; remarked = remarked; ends = ends })))
  runs (Err error) words given status number is same ran remarked ends = absurd is

module _ (is_terminal : Bool) (files : FilesMeaning) (out err err' : SinkMeaning) where
  -- it didn't
  pub refuses :
      (line : CommandLine) (r : Refusal) (status : Status) (number : ℕ) → WordsAnswer line (Err r) → RefusalAnswers r err err' status
      → number ≡ status_number status → LineAnswers line is_terminal files files out out err err' number
  refuses (Ok args) refusal.NoMemory status number is answer ends = elim answer [
    | inl own ↦ inr (record { no_file = refl; no_output = refl; reports = own.1; ends = rw own.0 at ends })
    | inr none ↦ inr (record { no_file = refl; no_output = refl; reports = none.1; ends = rw none.0 at ends })
  ]
  refuses (Err error) refusal.Usage status number is answer ends = elim answer [
    | inl own ↦ inl (record { no_file = refl; no_output = refl; reports = own.1; ends = rw own.0 at ends })
    | inr none ↦ inr (record { no_file = refl; no_output = refl; reports = none.1; ends = rw none.0 at ends })
  ]
  refuses (Err error) refusal.NoMemory status number is answer ends = elim answer [
    | inl own ↦ inr (record { no_file = refl; no_output = refl; reports = own.1; ends = rw own.0 at ends })
    | inr none ↦ inr (record { no_file = refl; no_output = refl; reports = none.1; ends = rw none.0 at ends })
  ]
  refuses (Ok args) _ status number is answer ends = absurd is
  refuses (Err error) _ status number is answer ends = absurd is
