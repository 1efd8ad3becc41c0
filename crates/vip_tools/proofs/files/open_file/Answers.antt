use Rattle.std.proofs.Common.{refl}
use Rattle.vip_tools.specs.Files.{seen_wanted}
use Rattle.vip_tools.proofs.FilesLemmas.{has-whole, read-whole}
use Rattle.vip_tools.proofs.files.open_file.Goals as goal

pub returns-in-Ok-judge : goal.returns-in-Ok-judge
returns-in-Ok-judge g c = (
  has-whole _ _ _ _ c.in-Ok.ensures.answer c.if-read.false (rw c.as_slice-content.ensures.value at c.are_bytes.ensures)
      (rw c.as_slice-content.ensures.value at c.in-Ok-judge.ensures),
  read-whole _ _ (seen_wanted c.args.wanted.now) _ c.in-Ok.ensures.answer c.if-read.false,
)

pub returns-in-Ok-2 : goal.returns-in-Ok-2
returns-in-Ok-2 g c = (
  _,
  record {
    content = _;
    is = refl;
    has =
        has-whole _ _ _ _ c.in-Ok.ensures.answer c.if-read.false (rw c.as_slice-content.ensures.value at c.are_bytes.ensures)
        (rw c.as_slice-content.ensures.value at c.in-Err-judge.ensures);
  },
  read-whole _ _ (seen_wanted c.args.wanted.now) _ c.in-Ok.ensures.answer c.if-read.false,
)
