use Rattle.vip_show.proofs.OneAnswer.{accepted_or_not}
use Rattle.vip_verbs.proofs.WorkLemmas.{rom-given}
use Rattle.vip_verbs.proofs.opening.go_on.Goals as goal

pub returns-in-Ok : goal.returns-in-Ok
returns-in-Ok c = record {
  edition = _;
  accepted = c.in-Ok.ensures.answer.0;
  here =
      record {
        value = tt;
        gives = rom-given c.source_gives_rom.ensures _;
        here = record { is = c.in-Ok.ensures.answer.1; runs = c.in-Ok.ensures.runs };
      };
}

pub returns-in-Err-State : goal.returns-in-Err-State
returns-in-Err-State c =
    absurd (accepted_or_not _ _ c.in-Err-State.fault c.requires.1 (rw c.in-Err-State.field-0-is at c.in-Err-State.ensures.answer))

pub returns-in-Err-NoMemory : goal.returns-in-Err-NoMemory
returns-in-Err-NoMemory c = record { edition = c.requires.0; accepted = c.requires.1; here = tt }
