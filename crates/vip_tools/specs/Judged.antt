-- What a judgement comes to, and chains of judgements: the first fault of this, or what it gives; then that.
use Rattle.std.specs.Prelude.{◌≡◌, ◌⊎◌, ℕ, List, Result, Ok, Err}
use Rattle.vip_tools.specs.declared.refusal.Refusal.{Refusal}
use Rattle.vip_tools.specs.declared.refusal.Refusal.TheVariants.{Usage, Unread, TooLarge, State, NoTiming, NoMemory}
use Rattle.vip_tools.specs.declared.status.Status.{Status}
use Rattle.vip_tools.specs.Refusal.{status_of}
use Rattle.vip_tools.specs.Report.{no_timing, report_of}

-- A judgement gives a value; or refuses, with a status and its report; or gives up, with a report, which is never due.
pub data Verdict (A : Type 0) : Type 0 where
  Given : (value : A) → Verdict A
  Refused : (status : Status) (report : List ℕ) → Verdict A
  GivenUp : (report : List ℕ) → Verdict A

-- it comes to these verdicts
abbrev pub Judged : Type 0 → Type 1
Judged A = Verdict A → Type 0

module _ {A : Type 0} where
  -- it gives a value of which this holds
  pub record Of (J : Judged A) (Here : A → Type 0) : Type 0 where
    pub value : A
    pub gives : J (Given value)
    pub here : Here value

  -- each value of which this holds, and no other verdict
  abbrev pub each : (A → Type 0) → Judged A
  each Is (Given a) = Is a
  each Is _ = ⊥

  -- this one
  abbrev pub only : A → Judged A
  only a = each (λ b. b ≡ a)

module _ {A B : Type 0} where
  -- the first, and where it gives a value the second
  abbrev pub bind : Judged A → (A → Judged B) → Judged B
  bind J K (Given b) = Of J (λ a. K a (Given b))
  bind J K (Refused status report) = J (Refused status report) ⊎ Of J (λ a. K a (Refused status report))
  bind J K (GivenUp report) = J (GivenUp report) ⊎ Of J (λ a. K a (GivenUp report))

-- ---- refusals

-- What a refusal says of contents: nothing, since it is of words or of files, and a saved state is judged as it is read; that memory was wanted; a status and
-- its report; or that nothing was found.
pub data Cause : Type 0 where
  Elsewhere : Cause
  Memory : Cause
  Fault : (status : Status) (report : List ℕ) → Cause
  Nothing : (report : List ℕ) → Cause

abbrev pub cause_of : Refusal → Cause
cause_of Usage = Elsewhere
cause_of (Unread name) = Elsewhere
cause_of (TooLarge kind) = Elsewhere
cause_of (State fault) = Elsewhere
cause_of (NoTiming why) = Nothing (no_timing why)
cause_of NoMemory = Memory
cause_of refusal = Fault (status_of refusal) (report_of refusal)

module _ {A : Type 0} where
  -- the judgement comes to this; of want of memory nothing is said
  abbrev pub By : Judged A → Cause → Type 0
  By J Elsewhere = ⊥
  By J Memory = Unit {0}
  By J (Fault status report) = J (Refused status report)
  By J (Nothing report) = J (GivenUp report)

  abbrev pub RefusedBy : Judged A → Refusal → Type 0
  RefusedBy J refusal = By J (cause_of refusal)

  -- what a call answers that judges
  abbrev pub Answers : Judged A → Result A Refusal → Type 0
  Answers J (Ok a) = J (Given a)
  Answers J (Err refusal) = RefusedBy J refusal

module _ {A B : Type 0} where
  -- the same, where what it answers stands for a value
  abbrev pub AnswersAs : (B → A) → Judged A → Result B Refusal → Type 0
  AnswersAs view J (Ok b) = J (Given (view b))
  AnswersAs view J (Err refusal) = RefusedBy J refusal

-- ---- a judgement by the values that are given and by its faults, each of which is told by a refusal

pub record Tells {F : Type 0} (IsFault : F → Type 0) (told : F → Refusal) (cause : Cause) : Type 0 where
  pub fault : F
  pub is : IsFault fault
  pub tells : cause_of (told fault) ≡ cause

module _ {A F : Type 0} where
  abbrev pub judged : (A → Type 0) → (F → Type 0) → (F → Refusal) → Judged A
  judged Is IsFault told (Given a) = Is a
  judged Is IsFault told (Refused status report) = Tells IsFault told (Fault status report)
  judged Is IsFault told (GivenUp report) = Tells IsFault told (Nothing report)
