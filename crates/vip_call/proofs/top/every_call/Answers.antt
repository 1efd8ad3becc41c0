use Rattle.vip_text.specs.StateFile.{shown}
use Rattle.vip_call.proofs.CertifiedLemmas.{proves_certified}
use Rattle.vip_call.proofs.CheckedLemmas.{checks_sources}
use Rattle.vip_call.proofs.Outcomes.{decides_certify, roms_given}
use Rattle.vip_call.proofs.LinkedLemmas.{brings_messages}
use Rattle.vip_call.proofs.LanguageLemmas.{speaks_chip8}
use Rattle.vip_call.proofs.SavedLemmas.{continues_saved, saves_shown}
use Rattle.vip_call.proofs.TranscribedLemmas.{tells_timed}
use Rattle.vip_call.proofs.TopLemmas.{completes, gives_due, never_of_rom, refuses_words, says_finished}
use Rattle.vip_call.proofs.top.every_call.Goals as goal

pub returns : goal.returns
returns c words files files' out out' err err' opened status opens finishes =
    let says = says_finished words files files' out out' err err' opened status opens finishes in
    let roms = roms_given c.source_gives_rom.ensures c.sources_give_roms.ensures in
    record {
      says = says;
      language =
          speaks_chip8 c.every_run.ensures
          (λ e f bytes a script limit. c.every_start.ensures e (shown f) (c.file_may_start.ensures e f bytes a) script limit)
          c.every_frame.ensures.from_reset
          (λ e f bytes a script. c.every_frame.ensures.from_any_start e (shown f) (c.file_may_start.ensures e f bytes a) script) _;
      timed =
          tells_timed c.every_run.ensures
          (λ e f bytes a script limit. c.every_start.ensures e (shown f) (c.file_may_start.ensures e f bytes a) script limit)
          c.every_time.ensures.from_reset
          (λ e f bytes a script limit. c.every_time.ensures.from_any_start e (shown f) (c.file_may_start.ensures e f bytes a) script limit)
          (saves_shown c.saved_joins.ensures) roms _ _ says;
      least = c.least_bounds.ensures;
      decided = decides_certify _;
      certified = proves_certified c.accepted_leaves.ensures c.certified_games.ensures c.every_run.ensures _;
      saved = continues_saved c.saved_joins.ensures c.goes_on_behind.ensures _;
      checked = checks_sources _;
      linked = brings_messages c.every_schedule.ensures.always c.every_schedule.ensures.numbers _;
      rules = c.refused_by_rule.ensures;
      words = refuses_words _ _ says;
      due = gives_due roms _ _ says;
      complete = completes roms _ _ says;
      rom = never_of_rom roms _ _ says;
    }
