use Rattle.std.proofs.Common.{inl}
use Rattle.vip_c.proofs.vip_run.Goals as goal

pub returns-in-Ok-Some : goal.returns-in-Ok-Some
returns-in-Ok-Some c =
    inl
    (record {
      status = c.in-Ok-Some.ran.status;
      text = c.in-Ok-Some.ran.out.items;
      report = c.in-Ok-Some.ran.err.items;
      runs = rw c.in-Ok-Some.field-0-is at c.in-Ok-Some.ensures;
      out_is = rw c.as_slice.ensures.value at c.fill-lengths.ensures;
      err_is = rw c.as_slice-in-Ok-Some.ensures.value at c.fill-lengths-in-Ok-Some.ensures;
      number_is = c.number.ensures;
    })
