use Rattle.vip_verbs.proofs.WorkLemmas.{rom-given}
use Rattle.vip_verbs.proofs.opening.start_game.Goals as goal

pub returns-in-Ok : goal.returns-in-Ok
returns-in-Ok c = record {
  value = tt;
  gives = rom-given c.source_gives_rom.ensures c.args.edition;
  here = record { is = c.in-Ok.ensures.answer.1; runs = c.in-Ok.ensures.runs };
}
