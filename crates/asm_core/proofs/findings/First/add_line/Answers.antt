use Rattle.std.proofs.Common.{refl}
use Rattle.asm_core.proofs.findings.First.add_line.Goals as goal

pub returns : goal.returns
returns c = record {
  looked = c.in_ok-looked.looked;
  looks = c.in_ok-looked.ensures;
  next_is = refl;
  faulty_is = refl;
  addresses = c.in_ok-push.ensures.items;
  words = c.in_ok-push-2.ensures.items;
  values = c.in_ok-push-3.ensures.items;
  findings = c.in_ok-push-4.ensures.items;
  notes = c.in_ok-add_note.ensures;
}
