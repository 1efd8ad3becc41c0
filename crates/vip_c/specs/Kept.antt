-- What a sink means that keeps all that is put to it.
use Rattle.std.specs.Prelude.{[], Some, None}
use Rattle.vip_outside.specs.Sink.{SinkMeaning}
use Rattle.vip_c.specs.declared.kept.Kept.{Kept}

-- it tells all that it holds, and not how often it was called
abbrev pub meaning_of : Kept → SinkMeaning
meaning_of kept = record { held = Some kept.bytes.items; faults = kept.faults; calls = None }

abbrev pub empty : SinkMeaning
empty = record { held = Some []; faults = 0; calls = None }
