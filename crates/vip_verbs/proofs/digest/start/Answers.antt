use Rattle.vip_verbs.proofs.digest.start.Goals as goal

pub returns-in-Ok : goal.returns-in-Ok
returns-in-Ok c = record {
  is = rw (c.edition.ensures, c.bytes.ensures.bytes, c.keys.ensures) at c.in-Ok.ensures.answer.1;
  runs = c.in-Ok.ensures.runs;
}
