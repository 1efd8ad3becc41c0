-- What a report that was put says.
use Rattle.std.specs.Prelude.{◌≡◌, ◌⊎◌, ℕ, List}
use Rattle.vip_outside.specs.Sink.{SinkMeaning, PutsWhole, PutFails}
use Rattle.vip_tools.specs.declared.refusal.Refusal.{Refusal}
use Rattle.vip_tools.specs.declared.status.Status.{Status}
use Rattle.vip_tools.specs.declared.status.Status.TheVariants.{NoMemory}
use Rattle.vip_tools.specs.Refusal.{status_of}
use Rattle.vip_tools.specs.Report.{no_memory, report_of}

-- one put of a report, of which the whole went out or a prefix
abbrev pub IsPut : List ℕ → SinkMeaning → SinkMeaning → Type 0
IsPut report old new = PutsWhole report old new ⊎ PutFails report old new

-- the status of a refusal, and its report by one put; or want of memory in its place
abbrev pub RefusalAnswers : Refusal → SinkMeaning → SinkMeaning → Status → Type 0
RefusalAnswers refusal old new status =
    ((status ≡ status_of refusal) × IsPut (report_of refusal) old new) ⊎ ((status ≡ NoMemory) × IsPut no_memory old new)
