-- The laws of the answers, from what each answer says, and what the steps of a call say together.
use Rattle.std.proofs.Common.{◌≡◌, ℕ, ◌<◌, ◌⊎◌, inl, inr, List, [], ◌∷◌, ◌++◌, Option, Some, None, IsErrAnd, IsSomeAnd, append_assoc, length, refl, sym, ap, subst, ◌∙◌, arith, Result, Ok, Err, IfOk, true, false}
use Rattle.std.specs.FinMap.{get}
use Rattle.chip8_source.specs.declared.fault.ImageFault.TheVariants as image
use Rattle.vip_outside.specs.Count.{Rose}
use Rattle.vip_outside.specs.Files.{Answer, FileMap, FilesMeaning, Read, and_reads}
use Rattle.vip_outside.specs.Sink.{SinkMeaning, PutAnswers}
use Rattle.vip_outside.specs.Pieces.{PutsAll, FailsWithin}
use Rattle.vip_outside.specs.declared.sink.Failed.{Failed}
use Rattle.vip_show.proofs.OneAnswer.{accepted_or_not}
use Rattle.vip_words.specs.Asked.{asked_by}
use Rattle.vip_words.specs.Request.{Asked}
use Rattle.vip_words.specs.Rules.{Word}
use Rattle.vip_tools.specs.declared.refusal.Misfit.TheVariants as misfit
use Rattle.vip_call.specs.Words.{Faults, FinishAnswers, OfWords, OpensWords, PerformsAnswer, Reports, performed_status}
use Rattle.vip_text.specs.ProgramFile.{IsProgram, JudgesProgram}
use Rattle.vip_text.specs.declared.fault.StateFault.{StateFault}
use Rattle.vip_text.specs.declared.fault.StateFault.TheVariants.{BadLength, BadHead, BadEdition, BadCycle, BadMachine}
use Rattle.vip_tools.specs.Files.{Loaded, Needed, files_of, needed, shape_of, HasAll, HasFault, IsRight, ComesTo, IsFaulty, IsLarger, ReadsSome, reads_of, with_reads}
use Rattle.vip_tools.proofs.FilesLemmas.{reads-all, refused-behind}
use Rattle.vip_tools.specs.Judged.Verdict.{Given, Refused, GivenUp}
use Rattle.vip_tools.specs.Outcome.{Outcome, Output, Shown}
use Rattle.vip_tools.proofs.JudgedLemmas.{Agree}
use Rattle.vip_verbs.specs.Outcome.{HasOutcome}
use Rattle.vip_call.proofs.Outcomes.{RomsGiven, SameEnd, agree, free}
use Rattle.vip_verbs.specs.Prepared.{IsReady, OfLoaded, PerformAnswers, outcome_of}
use Rattle.vip_verbs.specs.declared.prepared.Prepared.{Prepared}
use Rattle.vip_text.specs.declared.ending.RunEnd.TheVariants as end
use Rattle.vip_tools.specs.Refusal.{status_of, too_large_status}
use Rattle.vip_tools.specs.Reported.{IsPut, RefusalAnswers}
use Rattle.vip_tools.specs.Status.{ended_status}
use Rattle.vip_tools.specs.declared.ended.Ended.{Ended}
use Rattle.vip_tools.specs.declared.ended.Ended.TheVariants.{Worked, Checked, Ran, Idle, Linked}
use Rattle.vip_tools.specs.declared.fault.PerformFault.{PerformFault}
use Rattle.vip_tools.specs.declared.fault.PerformFault.TheVariants as perform
use Rattle.vip_tools.specs.Report.{cannot_read, ended_report, fault_report, no_certificate, no_dispatch, no_timing, report_of, report_pieces, too_large_report, write_fault}
use Rattle.vip_call.specs.Top.{Call, call_of, contents_of, Asks, Fills, Oversize, Rejects, GivesUp, WritesExactly, Faulty, Says, IsQuiet, Reading, Lacks, Larger, Whole, with_content, Due, Lacking, TooLarge, Refusing, Showing, RefusesWords, Offers, IsCheck, IsCheckShape, IsEnd, IsSearch, IsSearchShape, IsFree, GivesDue, IsOfRom, AreRefused, Completes, FaultyState, Faulted, ReadsContent, ReadsOne, Reads, Faulting}
use Rattle.vip_call.proofs.FilledLemmas.{one_loaded}
use Rattle.vip_tools.specs.declared.refusal.Kind.{Kind}
use Rattle.vip_tools.specs.declared.refusal.Kind.TheVariants as kind
use Rattle.vip_tools.specs.declared.refusal.Refusal.{Refusal}
use Rattle.vip_tools.specs.declared.refusal.Refusal.TheVariants as refusal
use Rattle.vip_tools.specs.declared.status.Status.{Status}
use Rattle.vip_tools.specs.declared.status.Status.TheVariants.{BadRomSource, Done, RomDiffers, Stopped, Usage, ReadFault, GameTooLarge, ScriptTooLarge, BadSource, WriteFault, NoMemory, SourceTooLarge, CommandsTooLarge, BadState, NoDispatch, MessageTooLarge, CertificateTooLarge, NoCertificate, RomTooLarge, RamTooLarge, GamesTooLarge}

-- ---- one reading

-- the file of a program's machine that is accepted has no fault
program_or_not : (f : List ℕ) (fault : StateFault) → IsProgram f → JudgesProgram f (Err fault) → ⊥
program_or_not f BadLength a h = h a.size
program_or_not f BadHead a h = h.1 a.begins
program_or_not f BadEdition a h = h
program_or_not f BadCycle a h = omega (arith, a.cycle, h.2)
program_or_not f BadMachine a h = h.3 a.machine

-- a file that was judged has no fault
right_or_not : (k : Kind) (content : List ℕ) (fault : StateFault) → IsRight k content → HasFault fault k content → ⊥
right_or_not kind.State content fault right bad = accepted_or_not right.0 content fault right.1 bad
right_or_not kind.ProgramState content fault right bad = program_or_not content fault right bad
right_or_not _ content fault right bad = bad

-- files come to one reading
content_once :
    (n : Needed Word) (content : List ℕ) (Behind : Reading → Type 0) (r s : Reading) → ((x y : Reading) → Behind x → Behind y → x ≡ y)
    → ReadsContent n content Behind r → ReadsContent n content Behind s → r ≡ s
content_once n content Behind r s once (inl a) (inl b) = a.1 ∙ sym b.1
content_once n content Behind r s once (inl a) (inr (inl b)) = absurd (omega (arith, a.0, b.0))
content_once n content Behind r s once (inl a) (inr (inr b)) = absurd (omega (arith, a.0, b.0))
content_once n content Behind r s once (inr (inl a)) (inl b) = absurd (omega (arith, a.0, b.0))
content_once n content Behind r s once (inr (inl a)) (inr (inl b)) = a.3 ∙ sym b.3
content_once n content Behind r s once (inr (inl a)) (inr (inr b)) = absurd (right_or_not n.kind content a.1 b.1 a.2)
content_once n content Behind r s once (inr (inr a)) (inl b) = absurd (omega (arith, a.0, b.0))
content_once n content Behind r s once (inr (inr a)) (inr (inl b)) = absurd (right_or_not n.kind content b.1 a.1 b.2)
content_once n content Behind r s once (inr (inr a)) (inr (inr b)) = a.4 ∙ ap (with_content content) (once a.2 b.2 a.3 b.3) ∙ sym b.4

found_once :
    (n : Needed Word) (found : Option (List ℕ)) (Behind : Reading → Type 0) (r s : Reading) → ((x y : Reading) → Behind x → Behind y → x ≡ y)
    → ReadsOne n found Behind r → ReadsOne n found Behind s → r ≡ s
found_once n None Behind r s once a b = a ∙ sym b
found_once n (Some content) Behind r s once a b = content_once n content Behind r s once a b

reads_once : (files : FileMap) (ns : List (Needed Word)) (r s : Reading) → Reads files ns r → Reads files ns s → r ≡ s
reads_once files [] r s a b = a ∙ sym b
reads_once files (n ∷ ns) r s a b = found_once n (get files n.file) (Reads files ns) r s (reads_once files ns) a b

module _ (old : FilesMeaning) (files : FileMap) (told : old.told ≡ Some files) where
  -- files that were read whole
  reads : (ns : List (Needed Word)) (cs : List (List ℕ)) → HasAll old ns cs → Reads files ns (Whole cs)
  reads [] [] h = refl
  reads [] (c ∷ cs) h = absurd h
  reads (n ∷ ns) [] h = absurd h
  reads (n ∷ ns) (c ∷ cs) h =
      let found : get files n.file ≡ Some c = rw told at h.0.found in
      rw found (inr (inr (h.0.fits, h.0.judged, Whole cs, reads ns cs h.1, refl)))

  -- a refusal behind them
  behind :
      (r : Reading) → ((content : List ℕ) → with_content content r ≡ r) → (before : List (Needed Word)) (cs : List (List ℕ)) (rest : List (Needed Word))
      → HasAll old before cs → Reads files rest r → Reads files (before ++ rest) r
  behind r stays [] [] rest h e = e
  behind r stays [] (c ∷ cs) rest h e = absurd h
  behind r stays (n ∷ ns) [] rest h e = absurd h
  behind r stays (n ∷ ns) (c ∷ cs) rest h e =
      let found : get files n.file ≡ Some c = rw told at h.0.found in
      rw found (inr (inr (h.0.fits, h.0.judged, r, behind r stays ns cs rest h.1 e, sym (stays c))))

  lacks : (n : Needed Word) (ns : List (Needed Word)) → IsSomeAnd old.told (λ fs. get fs n.file ≡ None) → Reads files (n ∷ ns) Lacks
  lacks n ns absent = let none : get files n.file ≡ None = rw told at absent in rw none refl

  larger : (n : Needed Word) (ns : List (Needed Word)) (answer : Answer) → IsLarger old n answer → Reads files (n ∷ ns) (Larger n.kind)
  larger n ns answer large = go (get files n.file) (rw told at large.larger)
    where
      go : (found : Option (List ℕ)) → IsSomeAnd found (λ content. n.most < length content) → ReadsOne n found (Reads files ns) (Larger n.kind)
      go None h = absurd h
      go (Some content) h = inl (h, refl)

  faulty_state : (n : Needed Word) (ns : List (Needed Word)) (fault : StateFault) (answer : Answer) → IsFaulty fault old n answer → Reads files (n ∷ ns) Faulted
  faulty_state n ns fault answer h =
      let found : get files n.file ≡ Some h.content = rw told at h.has.found in
      rw found (inr (inl (h.has.fits, fault, h.has.judged, refl)))

-- ---- when the answers come

-- no fault was counted, so there was none
quiet : (old new : ℕ) → Rose old new → IsQuiet old new → ⊥
quiet old new rose calm = omega (arith, rose.counted, calm.below, calm.same)

-- words that are refused ask for nothing
nothing_asked : (words : List (List ℕ)) (asked : Asked) → asked_by words ≡ Some asked → asked_by words ≡ None → ⊥
nothing_asked words asked some none = cc

pub refuses_words : (status : Status) (call : Call) → Says status call → RefusesWords status call
refuses_words Usage call says none = inl refl
refuses_words ReadFault call says none = absurd (nothing_asked call.words says.asked says.words none)
refuses_words GameTooLarge call says none = elim says [
  | inl large ↦ absurd (nothing_asked call.words large.asked large.words none)
  | inr gives ↦ absurd (nothing_asked call.words gives.asked gives.asks.words none)
]
refuses_words ScriptTooLarge call says none = absurd (nothing_asked call.words says.asked says.words none)
refuses_words BadSource call says none = elim says [
  | inl shows ↦ absurd (nothing_asked call.words shows.asked shows.asks.words none)
  | inr gives ↦ absurd (nothing_asked call.words gives.asked gives.asks.words none)
]
refuses_words NoMemory call says none = inr refl
refuses_words SourceTooLarge call says none = absurd (nothing_asked call.words says.asked says.words none)
refuses_words CommandsTooLarge call says none = absurd (nothing_asked call.words says.asked says.words none)
refuses_words BadState call says none = elim says [
  | inl large ↦ absurd (nothing_asked call.words large.asked large.words none)
  | inr bad ↦ absurd (nothing_asked call.words bad.asked bad.words none)
]
refuses_words MessageTooLarge call says none = absurd (nothing_asked call.words says.asked says.words none)
refuses_words CertificateTooLarge call says none = absurd (nothing_asked call.words says.asked says.words none)
refuses_words NoCertificate call says none = elim says [
  | inl nothing ↦ absurd (nothing_asked call.words nothing.asked nothing.asks.words none)
  | inr gives ↦ absurd (nothing_asked call.words gives.asked gives.asks.words none)
]
refuses_words RomTooLarge call says none = absurd (nothing_asked call.words says.asked says.words none)
refuses_words RamTooLarge call says none = absurd (nothing_asked call.words says.asked says.words none)
refuses_words GamesTooLarge call says none = absurd (nothing_asked call.words says.asked says.words none)
refuses_words _ call says none = absurd (nothing_asked call.words says.asked says.asks.words none)

module _ (roms : RomsGiven) (call : Call) (asked : Asked) (files : FileMap) (offers : Offers call asked files) where
  same : (mine : Asked) → asked_by call.words ≡ Some mine → mine ≡ asked
  same mine words = let there = offers.words in let both : Some mine ≡ Some asked = cc in cc

  -- what was read, what was larger, and that no name was lacking
  whole : (mine : Asked) (loaded : Loaded) → Asks call mine loaded → Reads files (needed asked) (Whole (contents_of loaded))
  whole mine loaded asks =
      subst (λ a. Reads files (needed a) (Whole (contents_of loaded))) (same mine asks.words)
      (reads call.files files offers.told (needed mine) (contents_of loaded) asks.read)

  -- what was loaded fills what is asked for, and nothing else does
  fills : (mine : Asked) (loaded : Loaded) → Asks call mine loaded → shape_of asked ≡ shape_of loaded
  fills mine loaded asks = ap shape_of (sym (same mine asks.words)) ∙ asks.shape

  same_loaded :
      (mine : Asked) (loaded : Loaded) (asks : Asks call mine loaded) (contents : List (List ℕ)) (there : Loaded) → Fills asked contents there
      → contents ≡ contents_of loaded → there ≡ loaded
  same_loaded mine loaded asks contents there filled same_contents =
      one_loaded there loaded (sym filled.shape ∙ fills mine loaded asks) (filled.files ∙ same_contents)

  -- what was given up is a search
  searches : GivesUp call → IsSearch asked
  searches says = subst IsSearchShape (sym (fills says.asked says.loaded says.asks)) (free roms says.loaded (GivenUp says.report) says.comes)

  -- what was refused at a file
  refused_at :
      (Here : Needed Word → Answer → Type 0) (r : Reading) → ((content : List ℕ) → with_content content r ≡ r) → (mine : Asked)
      → asked_by call.words ≡ Some mine
      → (at : ComesTo call.files call.files' (needed mine) Here) → Reads files (at.this ∷ at.after) r → Reads files (needed asked) r
  refused_at Here r stays mine words at e =
      subst (λ a. Reads files (needed a) r) (same mine words)
      (rw at.place (behind call.files files offers.told r stays at.before at.contents (at.this ∷ at.after) at.read e))

  -- what is due where a name lacks, where a file is larger, and where a saved state has a fault
  due_lacks : (r : Reading) (due : Status) → Due call asked r due → r ≡ Lacks → due ≡ ReadFault
  due_lacks _ _ Lacking e = refl
  due_lacks _ _ (TooLarge k) e = cc
  due_lacks _ _ Faulting e = cc
  due_lacks _ _ (Refusing contents there status report filled comes) e = cc
  due_lacks _ _ (Showing contents there pieces status report filled comes out err) e = cc

  due_larger : (r : Reading) (due : Status) → Due call asked r due → (k : Kind) → r ≡ Larger k → due ≡ too_large_status k
  due_larger _ _ Lacking k e = cc
  due_larger _ _ (TooLarge j) k e = let kinds : j ≡ k = cc in ap too_large_status kinds
  due_larger _ _ Faulting k e = cc
  due_larger _ _ (Refusing contents there status report filled comes) k e = cc
  due_larger _ _ (Showing contents there pieces status report filled comes out err) k e = cc

  due_faulted : (r : Reading) (due : Status) → Due call asked r due → r ≡ Faulted → due ≡ BadState
  due_faulted _ _ Lacking e = cc
  due_faulted _ _ (TooLarge k) e = cc
  due_faulted _ _ Faulting e = refl
  due_faulted _ _ (Refusing contents there status report filled comes) e = cc
  due_faulted _ _ (Showing contents there pieces status report filled comes out err) e = cc

  -- what is due where all contents came to an outcome
  DueBy : Outcome → Status → Type 0
  DueBy (Refused status report) due = due ≡ status
  DueBy (GivenUp report) due = Unit {0}
  DueBy (Given output) due = (due ≡ output.status) × IsQuiet call.out.faults call.out'.faults × IsQuiet call.err.faults call.err'.faults

  due_refused : (status : Status) (report : List ℕ) (o : Outcome) → Agree SameEnd (Refused status report) o → DueBy o status
  unfolding DueBy
  due_refused status report (Refused s r) e = e
  due_refused status report (Given output) e = absurd e
  due_refused status report (GivenUp r) e = tt

  due_shown :
      (pieces : List (List ℕ)) (status : Status) (report : List ℕ) (o : Outcome) → IsQuiet call.out.faults call.out'.faults
      → IsQuiet call.err.faults call.err'.faults → Agree SameEnd (Shown pieces status report) o → DueBy o status
  unfolding DueBy
  due_shown pieces status report (Refused s r) out err e = absurd e
  due_shown pieces status report (Given output) out err e = (e, out, err)
  due_shown pieces status report (GivenUp r) out err e = tt

  due_whole :
      (r : Reading) (due : Status) → Due call asked r due → (mine : Asked) (loaded : Loaded) → Asks call mine loaded → (o : Outcome)
      → r ≡ Whole (contents_of loaded) → HasOutcome loaded o → DueBy o due
  due_whole _ _ Lacking mine loaded asks o e comes = absurd (cc)
  due_whole _ _ (TooLarge k) mine loaded asks o e comes = absurd (cc)
  due_whole _ _ Faulting mine loaded asks o e comes = absurd (cc)
  due_whole _ _ (Refusing contents there status report filled given) mine loaded asks o e comes =
      let read : contents ≡ contents_of loaded = cc in
      due_refused status report o
      (agree roms loaded (Refused status report) o
      (subst (λ l. HasOutcome l (Refused status report)) (same_loaded mine loaded asks contents there filled read) given) comes)
  due_whole _ _ (Showing contents there pieces status report filled given out err) mine loaded asks o e comes =
      let read : contents ≡ contents_of loaded = cc in
      due_shown pieces status report o out err
      (agree roms loaded (Shown pieces status report) o
      (subst (λ l. HasOutcome l (Shown pieces status report)) (same_loaded mine loaded asks contents there filled read) given) comes)

  module _ (r : Reading) (read : Reads files (needed asked) r) (due : Status) (given : Due call asked r due) where
    -- all contents were read, and no others
    read_whole : (mine : Asked) (loaded : Loaded) → Asks call mine loaded → r ≡ Whole (contents_of loaded)
    read_whole mine loaded asks = reads_once files (needed asked) r (Whole (contents_of loaded)) read (whole mine loaded asks)

    shows_due : (status : Status) → WritesExactly status call → (status ≡ due) ⊎ IsFree asked status
    unfolding DueBy
    shows_due status says =
        inl (sym (due_whole _ due given says.asked says.loaded says.asks (Shown says.pieces status says.report)
        (read_whole says.asked says.loaded says.asks) says.comes).0)

    rejects_due : (status : Status) → Rejects status call → (status ≡ due) ⊎ IsFree asked status
    unfolding DueBy
    rejects_due status says =
        inl (sym (due_whole _ due given says.asked says.loaded says.asks (Refused status says.report)
        (read_whole says.asked says.loaded says.asks) says.comes))

    faulty_due : Faulty call → ⊥
    unfolding DueBy
    faulty_due says =
        let calm =
        due_whole _ due given says.asked says.loaded says.asks (Shown says.pieces says.status says.report)
        (read_whole says.asked says.loaded says.asks) says.comes in
        elim says.fault [
          | inl fails ↦ quiet _ _ fails.out.faults calm.1
          | inr fails ↦ quiet _ _ fails.err.faults calm.2
        ]

  -- a file that could not be read lacks from the map; one that is larger is so there
  unread_here : (says : Says ReadFault call) → Reads files (needed asked) Lacks
  unread_here says =
      elim says.at.here.0 [
        | inl fails ↦ absurd (quiet _ _ fails.1 offers.quiet)
        | inr lack ↦ refused_at _ Lacks (λ content. refl) says.asked says.words says.at (lacks call.files files offers.told says.at.this says.at.after lack.1)
      ]

  larger_here : (status : Status) (says : Oversize status call) → Reads files (needed asked) (Larger says.at.this.kind)
  larger_here status says =
      refused_at _ (Larger says.at.this.kind) (λ content. refl) says.asked says.words says.at
      (larger call.files files offers.told says.at.this says.at.after says.at.answer says.at.here.0)

  faulted_here : FaultyState call → Reads files (needed asked) Faulted
  faulted_here says =
      refused_at _ Faulted (λ content. refl) says.asked says.words says.at
      (faulty_state call.files files offers.told says.at.this says.at.after says.fault says.at.answer says.at.here.0)

  oversize_due :
      (r : Reading) → Reads files (needed asked) r → (due : Status) → Due call asked r due → (status : Status) → Oversize status call
      → (status ≡ due) ⊎ IsFree asked status
  oversize_due r read due given status says =
      inl (says.at.here.1 ∙ sym (due_larger r due given says.at.this.kind (reads_once files (needed asked) r _ read (larger_here status says))))

  due_is :
      (status : Status) → Says status call → (r : Reading) → Reads files (needed asked) r → (due : Status) → Due call asked r due
      → (status ≡ due) ⊎ IsFree asked status
  due_is Done says r read due given = shows_due r read due given Done says
  due_is Stopped says r read due given = shows_due r read due given Stopped says
  due_is Usage says r read due given = absurd (nothing_asked call.words asked offers.words says.words)
  due_is ReadFault says r read due given = inl (sym (due_lacks r due given (reads_once files (needed asked) r Lacks read (unread_here says))))
  due_is GameTooLarge says r read due given = elim says [
    | inl large ↦ oversize_due r read due given GameTooLarge large
    | inr gives ↦ rejects_due r read due given GameTooLarge gives
  ]
  due_is ScriptTooLarge says r read due given = oversize_due r read due given ScriptTooLarge says
  due_is BadSource says r read due given = elim says [
    | inl shows ↦ shows_due r read due given BadSource shows
    | inr gives ↦ rejects_due r read due given BadSource gives
  ]
  due_is WriteFault says r read due given = absurd (faulty_due r read due given says)
  due_is NoMemory says r read due given = inr (inl refl)
  due_is SourceTooLarge says r read due given = oversize_due r read due given SourceTooLarge says
  due_is CommandsTooLarge says r read due given = oversize_due r read due given CommandsTooLarge says
  due_is BadState says r read due given = elim says [
    | inl large ↦ oversize_due r read due given BadState large
    | inr bad ↦ inl (sym (due_faulted r due given (reads_once files (needed asked) r Faulted read (faulted_here bad))))
  ]
  due_is MessageTooLarge says r read due given = oversize_due r read due given MessageTooLarge says
  due_is CertificateTooLarge says r read due given = oversize_due r read due given CertificateTooLarge says
  due_is NoCertificate says r read due given = elim says [
    | inl nothing ↦ inr (inr (refl, searches nothing))
    | inr gives ↦ rejects_due r read due given NoCertificate gives
  ]
  due_is RomTooLarge says r read due given = oversize_due r read due given RomTooLarge says
  due_is RamTooLarge says r read due given = oversize_due r read due given RamTooLarge says
  due_is GamesTooLarge says r read due given = oversize_due r read due given GamesTooLarge says
  due_is status says r read due given = rejects_due r read due given status says

  module _ (contents : List (List ℕ)) (there : Reads files (needed asked) (Whole contents)) (accepted : ¬ AreRefused asked contents) where
    not_rejected : (status : Status) → Rejects status call → ⊥
    not_rejected status says =
        let read = reads_once files (needed asked) _ _ (whole says.asked says.loaded says.asks) there in
        let same_contents : contents_of says.loaded ≡ contents = cc in
        accepted (
          says.loaded,
          record { shape = fills says.asked says.loaded says.asks; files = same_contents },
          status,
          says.report,
          says.comes,
          (free roms says.loaded (Refused status says.report) says.comes).0,
        )

    not_larger : (status : Status) → Oversize status call → ⊥
    not_larger status says = let large = reads_once files (needed asked) _ _ (larger_here status says) there in cc

    checks_asked : WritesExactly BadSource call → IsCheck asked
    checks_asked shows =
        subst IsCheckShape (sym (fills shows.asked shows.loaded shows.asks)) (free roms shows.loaded (Shown shows.pieces BadSource shows.report) shows.comes refl)

    ends :
        (status : Status) → Says status call → IsQuiet call.out.faults call.out'.faults → IsQuiet call.err.faults call.err'.faults
        → IsEnd asked status ⊎ IsFree asked status
    ends Done says out err = inl tt
    ends Stopped says out err = inl tt
    ends Usage says out err = absurd (nothing_asked call.words asked offers.words says.words)
    ends ReadFault says out err = let none = reads_once files (needed asked) _ _ (unread_here says) there in absurd (cc)
    ends GameTooLarge says out err = elim says [
      | inl large ↦ absurd (not_larger GameTooLarge large)
      | inr gives ↦ absurd (not_rejected GameTooLarge gives)
    ]
    ends ScriptTooLarge says out err = absurd (not_larger ScriptTooLarge says)
    ends BadSource says out err = elim says [
      | inl shows ↦ inl (checks_asked shows)
      | inr gives ↦ absurd (not_rejected BadSource gives)
    ]
    ends WriteFault says out err =
        elim says.fault [
          | inl fails ↦ absurd (quiet _ _ fails.out.faults out)
          | inr fails ↦ absurd (quiet _ _ fails.err.faults err)
        ]
    ends NoMemory says out err = inr (inl refl)
    ends SourceTooLarge says out err = absurd (not_larger SourceTooLarge says)
    ends CommandsTooLarge says out err = absurd (not_larger CommandsTooLarge says)
    ends BadState says out err = elim says [
      | inl large ↦ absurd (not_larger BadState large)
      | inr bad ↦ let fault = reads_once files (needed asked) _ _ (faulted_here bad) there in absurd (cc)
    ]
    ends MessageTooLarge says out err = absurd (not_larger MessageTooLarge says)
    ends CertificateTooLarge says out err = absurd (not_larger CertificateTooLarge says)
    ends NoCertificate says out err = elim says [ inl nothing ↦ inr (inr (refl, searches nothing)) | inr gives ↦ absurd (not_rejected NoCertificate gives) ]
    ends RomTooLarge says out err = absurd (not_larger RomTooLarge says)
    ends RamTooLarge says out err = absurd (not_larger RamTooLarge says)
    ends GamesTooLarge says out err = absurd (not_larger GamesTooLarge says)
    ends status says out err = absurd (not_rejected status says)

pub gives_due : RomsGiven → (status : Status) (call : Call) → Says status call → GivesDue status call
gives_due roms status call says asked files r due offers read given = due_is roms call asked files offers status says r read due given

pub completes : RomsGiven → (status : Status) (call : Call) → Says status call → Completes status call
completes roms status call says asked files contents offers there accepted out err = ends roms call asked files offers contents there accepted status says out err

pub never_of_rom : RomsGiven → (status : Status) (call : Call) → Says status call → ¬ IsOfRom status
never_of_rom roms BadRomSource call says = (free roms says.loaded (Refused BadRomSource says.report) says.comes).0
never_of_rom roms RomDiffers call says = (free roms says.loaded (Refused RomDiffers says.report) says.comes).0
never_of_rom roms _ call says = λ x. x

-- ---- what performing answers, by its work and its report

-- a put that is answered
is_put : (report : List ℕ) (old new : SinkMeaning) (r : Result (Unit {0}) Failed) → PutAnswers report old new r → IsPut report old new
is_put report old new (Ok done) puts = inl puts
is_put report old new (Err failed) fails = inr fails

module _ (out out' err err' : SinkMeaning) where
  pub end_reported :
      (o : Outcome) (ended : Ended) → PerformAnswers o out out' (Ok ended) → PutsAll (report_pieces (ended_report ended)) err err'
      → PerformsAnswer o out out' err err' (Ok ended)
  end_reported (Given output) ended performs puts = record {
    whole = performs.puts;
    reported = subst (λ r. PutsAll (report_pieces r) err err') (sym performs.report_is) puts;
    status_is = performs.status_is;
  }
  end_reported (Refused status report) ended performs puts = absurd performs
  end_reported (GivenUp report) ended performs puts = absurd performs

  -- its report failed, and the fault is passed on
  pub report_failed :
      (o : Outcome) (ended : Ended) (r : Result Ended PerformFault) → PerformAnswers o out out' (Ok ended)
      → FailsWithin (report_pieces (ended_report ended)) err err' → IsErrAnd r (λ f. f ≡ perform.WriteFault)
      → PerformsAnswer o out out' err err' r
  report_failed o ended (Ok e) performs fails bad = absurd bad
  report_failed (Given output) ended (Err f) performs fails bad =
      rw bad (inr (performs.puts, subst (λ r. FailsWithin (report_pieces r) err err') (sym performs.report_is) fails))
  report_failed (Refused status report) ended (Err f) performs fails bad = absurd performs
  report_failed (GivenUp report) ended (Err f) performs fails bad = absurd performs

  -- it came to no end
  pub fault_reported :
      (o : Outcome) (f : PerformFault) (r : Result (Unit {0}) Failed) → PerformAnswers o out out' (Err f) → PutAnswers (fault_report f) err err' r
      → PerformsAnswer o out out' err err' (Err f)
  fault_reported (Given output) perform.WriteFault r fails puts = inl (fails, is_put write_fault err err' r puts)
  fault_reported (Given output) perform.NoDispatch r fails puts = absurd fails
  fault_reported (Refused status report) perform.WriteFault r fails puts = absurd fails
  fault_reported (Refused status report) perform.NoDispatch r refused puts =
      (refused.0, refused.2, subst (λ text. IsPut text err err') (sym refused.1) (is_put no_dispatch err err' r puts))
  fault_reported (GivenUp report) f r fails puts = absurd fails

-- ---- what the steps of a call say together

-- what holds at the same file
there_too :
    (old new : FilesMeaning) (ns : List (Needed Word)) (Here There : Needed Word → Answer → Type 0) (at : ComesTo old new ns Here) → There at.this at.answer
    → ComesTo old new ns There
there_too old new ns Here There at that = record {
  before = at.before;
  this = at.this;
  after = at.after;
  place = at.place;
  contents = at.contents;
  read = at.read;
  answer = at.answer;
  reads = at.reads;
  here = that;
}

two_reads : (a b : List Read) (known : Option (List Read)) → and_reads (a ++ b) known ≡ and_reads b (and_reads a known)
two_reads a b None = refl
two_reads a b (Some rs) = ap (λ more. Some more) (sym (append_assoc rs a b))

-- where a file is refused, the first ones were read
some_to : (old new : FilesMeaning) (ns : List (Needed Word)) (Here : Needed Word → Answer → Type 0) → ComesTo old new ns Here → ReadsSome ns old new
some_to old new ns Here at =
    subst (λ xs. ReadsSome xs old new) (sym at.place)
    (refused-behind old (with_reads (reads_of at.before at.contents) old) new at.before at.contents at.read refl (at.this ∷ at.after) refusal.NoMemory
    (record {
      count = 1;
      reads = here;
      names = refl;
      made = at.reads ∙ two_reads (reads_of at.before at.contents) here old.reads;
    }))
  where
    here : List Read
    here = record { name = at.this.file; answer = at.answer } ∷ []

module _ (words : List (List ℕ)) (files files' : FilesMeaning) (out err err' : SinkMeaning) where
  abbrev refused_call : Call
  refused_call = call_of words files files' out out err err'

  rejected :
      (r : Refusal) → OfWords words (λ asked. OfLoaded asked files files' (λ loaded. HasOutcome loaded (Refused (status_of r) (report_of r))))
      → IsPut (report_of r) err err' → Rejects (status_of r) refused_call
  rejected r given report = record {
    asked = given.asked;
    loaded = given.here.request;
    asks = record { words = given.words_are; shape = given.here.loaded.shape; read = given.here.loaded.loads.read };
    files = given.here.loaded.loads.reads;
    report = report_of r;
    comes = given.here.here;
    refused = record { out = refl; err = report };
  }

  oversize :
      (k : Kind) → OpensWords words files files' (Err (refusal.TooLarge k)) → IsPut (too_large_report k) err err'
      → Oversize (too_large_status k) refused_call
  oversize k given report = record {
    asked = given.asked;
    words = given.words_are;
    at =
        there_too files files' (needed given.asked) _ _ given.here (
          given.here.here.1,
          ap too_large_status given.here.here.0,
          record { out = refl; err = subst (λ j. IsPut (too_large_report j) err err') given.here.here.0 report },
        );
  }

  -- which files were read, whatever the refusal is
  abbrev ReadSome : Type 0
  ReadSome = (files' ≡ files) ⊎ OfWords words (λ asked. ReadsSome (needed asked) files files')

  all_read : {Here : Asked → Loaded → Type 0} → OfWords words (λ asked. OfLoaded asked files files' (Here asked)) → ReadSome
  all_read given =
      let loads = given.here.loaded.loads in
      inr (record {
        asked = given.asked;
        words_are = given.words_are;
        here = reads-all files files' (needed given.asked) (contents_of given.here.request) loads.read loads.reads;
      })

  -- a search found nothing
  nothing-found :
      (text : List ℕ) → OfWords words (λ asked. OfLoaded asked files files' (λ loaded. HasOutcome loaded (GivenUp text))) → IsPut text err err' → GivesUp refused_call
  nothing-found text given report = record {
    asked = given.asked;
    loaded = given.here.request;
    asks = record { words = given.words_are; shape = given.here.loaded.shape; read = given.here.loaded.loads.read };
    files = given.here.loaded.loads.reads;
    report = text;
    comes = given.here.here;
    refused = record { out = refl; err = report };
  }

  -- a refusal with its own report
  refused_with : (r : Refusal) → OpensWords words files files' (Err r) → IsPut (report_of r) err err' → Says (status_of r) refused_call
  refused_with refusal.Usage given report = record { words = given.0; files = given.1; refused = record { out = refl; err = report } }
  refused_with (refusal.Unread name) given report = record {
    asked = given.asked;
    words = given.words_are;
    at =
        there_too files files' (needed given.asked) _ _ given.here
        (given.here.here.1, record { out = refl; err = subst (λ n. IsPut (cannot_read n) err err') given.here.here.0 report });
  }
  refused_with (refusal.TooLarge kind.Game) given report = inl (oversize kind.Game given report)
  refused_with (refusal.TooLarge kind.TallGame) given report = inl (oversize kind.TallGame given report)
  refused_with (refusal.TooLarge kind.State) given report = inl (oversize kind.State given report)
  refused_with (refusal.TooLarge kind.ProgramState) given report = inl (oversize kind.ProgramState given report)
  refused_with (refusal.TooLarge kind) given report = oversize kind given report
  refused_with (refusal.Source line cause) given report = inr (rejected (refusal.Source line cause) given report)
  refused_with (refusal.Misfit (misfit.Stray address)) given report = rejected (refusal.Misfit (misfit.Stray address)) given report
  refused_with (refusal.Misfit (misfit.Game edition)) given report = inr (rejected (refusal.Misfit (misfit.Game edition)) given report)
  refused_with (refusal.State fault) given report = inr (record {
    asked = given.asked;
    words = given.words_are;
    fault = fault;
    at = there_too files files' (needed given.asked) _ _ given.here (given.here.here.0, given.here.here.1, record { out = refl; err = report });
  })
  refused_with (refusal.Rom (image.BadRomSource line cause)) given report = rejected (refusal.Rom (image.BadRomSource line cause)) given report
  refused_with (refusal.Rom (image.RomDiffers address assembled here)) given report =
      rejected (refusal.Rom (image.RomDiffers address assembled here)) given report
  refused_with (refusal.Rom image.NoMemory) given report = record {
    files = all_read given;
    refused = record { out = refl; err = report };
  }
  refused_with (refusal.NoCertificate obstacle) given report = inr (rejected (refusal.NoCertificate obstacle) given report)
  refused_with (refusal.NoTiming why) given report = inl (nothing-found (no_timing why) given report)
  refused_with refusal.NoMemory given report = record { files = given; refused = record { out = refl; err = report } }
  refused_with r given report = rejected r given report

  to_read : {Here : Asked → Needed Word → Answer → Type 0} → OfWords words (λ asked. ComesTo files files' (needed asked) (Here asked)) → ReadSome
  to_read given = inr (record { asked = given.asked; words_are = given.words_are; here = some_to files files' (needed given.asked) _ given.here })

  read_some : (r : Refusal) → OpensWords words files files' (Err r) → ReadSome
  read_some refusal.Usage given = inl given.1
  read_some (refusal.Unread name) given = to_read given
  read_some (refusal.TooLarge kind) given = to_read given
  read_some (refusal.State fault) given = to_read given
  read_some refusal.NoMemory given = given
  read_some _ given = all_read given

  says_refusal :
      (r : Refusal) (status : Status) → OpensWords words files files' (Err r) → RefusalAnswers r err err' status → Says status refused_call
  says_refusal r status given answer =
      elim answer [
        | inl own ↦ rw own.0 (refused_with r given own.1)
        | inr none ↦ rw none.0 (record { files = read_some r given; refused = record { out = refl; err = none.1 } })
      ]

module _
    (words : List (List ℕ)) (files files' : FilesMeaning) (out out' err err' : SinkMeaning) (p : Prepared) (given : OpensWords words files files' (Ok p)) where
  abbrev performed_call : Call
  performed_call = call_of words files files' out out' err err'

  abbrev loaded : Loaded
  loaded = given.here.1.request

  abbrev asks_all : Asks performed_call given.asked loaded
  asks_all = record { words = given.words_are; shape = given.here.1.loaded.shape; read = given.here.1.loaded.loads.read }

  module _ (output : Output) (comes : HasOutcome loaded (Given output)) where
    shows : (ended : Ended) → Reports output out out' err err' ended → WritesExactly (ended_status ended) performed_call
    shows ended reports = record {
      asked = given.asked;
      loaded = loaded;
      asks = asks_all;
      files = given.here.1.loaded.loads.reads;
      pieces = output.pieces;
      report = output.report;
      comes = subst (λ status. HasOutcome loaded (Shown output.pieces status output.report)) reports.status_is comes;
      out = reports.whole;
      err = reports.reported;
    }

    faulty : Faults output out out' err err' → Faulty performed_call
    faulty faults = record {
      asked = given.asked;
      loaded = loaded;
      asks = asks_all;
      files = given.here.1.loaded.loads.reads;
      pieces = output.pieces;
      status = output.status;
      report = output.report;
      comes = comes;
      fault = elim faults [
        | inl fails ↦ inl (record { out = fails.0; err = fails.1 })
        | inr fails ↦ inr (record { out = fails.0; err = fails.1 })
      ];
    }

  says_ended : (ended : Ended) → WritesExactly (ended_status ended) performed_call → Says (ended_status ended) performed_call
  says_ended Worked says = says
  says_ended (Checked true) says = inl says
  says_ended (Checked false) says = says
  says_ended (Ran limit end.AtLimit) says = says
  says_ended (Ran limit (end.AtStop stop)) says = says
  says_ended (Idle address) says = says
  says_ended (Linked sent received) says = says

  -- a run that is to be saved is refused
  undispatched :
      (status : Status) (report : List ℕ) → HasOutcome loaded (Refused status report) → status ≡ NoDispatch → out' ≡ out
      → IsPut report err err' → Rejects NoDispatch performed_call
  undispatched status report comes is same put = record {
    asked = given.asked;
    loaded = loaded;
    asks = asks_all;
    files = given.here.1.loaded.loads.reads;
    report = report;
    comes = subst (λ status. HasOutcome loaded (Refused status report)) is comes;
    refused = record { out = same; err = put };
  }

  says_performed :
      (o : Outcome) (r : Result Ended PerformFault) → HasOutcome loaded o → PerformsAnswer o out out' err err' r
      → Says (performed_status r) performed_call
  says_performed (Given output) (Ok ended) comes reports = says_ended ended (shows output comes ended reports)
  says_performed (Given output) (Err perform.WriteFault) comes faults = faulty output comes faults
  says_performed (Given output) (Err perform.NoDispatch) comes answer = absurd answer
  says_performed (Refused status report) (Ok ended) comes answer = absurd answer
  says_performed (Refused status report) (Err perform.WriteFault) comes answer = absurd answer
  says_performed (Refused status report) (Err perform.NoDispatch) comes answer = undispatched status report comes answer.0 answer.1 answer.2
  says_performed (GivenUp report) r comes answer = absurd answer

pub says_finished :
    (words : List (List ℕ)) (files files' : FilesMeaning) (out out' err err' : SinkMeaning) (opened : Result Prepared Refusal) (status : Status)
    → OpensWords words files files' opened → FinishAnswers opened out out' err err' status → Says status (call_of words files files' out out' err err')
says_finished words files files' out out' err err' (Ok p) status given answer =
    rw answer.is (says_performed words files files' out out' err err' p given (outcome_of p) answer.answer given.here.1.here answer.performs)
says_finished words files files' out out' err err' (Err r) status given answer =
    rw answer.0 (says_refusal words files files' out err err' r status given answer.1)

-- ---- behind what was opened

-- what was opened had all its files read, so want of memory behind it is one
pub wants_behind : (words : List (List ℕ)) (old new : FilesMeaning) (p : Prepared) → OpensWords words old new (Ok p) → OpensWords words old new (Err refusal.NoMemory)
wants_behind words old new p opens =
    let loaded = opens.here.1 in
    inr
    (record {
      asked = opens.asked;
      words_are = opens.words_are;
      here = reads-all old new (needed opens.asked) (files_of (needed loaded.request)) loaded.loaded.loads.read loaded.loaded.loads.reads;
    })

-- what was opened is ready
pub opened_ready : (words : List (List ℕ)) (old new : FilesMeaning) (r : Result Prepared Refusal) → OpensWords words old new r → IfOk r IsReady
opened_ready words old new (Ok p) opens = opens.here.0
opened_ready words old new (Err refusal) opens = tt
