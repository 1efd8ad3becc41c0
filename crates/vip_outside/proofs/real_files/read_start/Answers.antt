use Rattle.std.proofs.Common.{◌≤◌, ◌+◌, ◌-◌, arith, refl, length, nat_lt}
use Rattle.std.proofs.lemmas.Grind.{common_steps}
use Rattle.vip_outside.specs.Files.Answer.{Faulted}
use Rattle.vip_outside.specs.System.{got}
use Rattle.vip_outside.proofs.SystemLemmas.{changed, failed, wanting, ended, more_came}
use Rattle.vip_outside.proofs.real_files.read_start.Goals as goal

pub returns-in_err-count : goal.returns-in_err-count
returns-in_err-count g c =
    failed _ _ _ _ c.in_err-count.field-0.0 _ c.from_residual-in_err-count.ensures.1 c.in_err-count.ensures.err
    (changed (λ _. Faulted) _ _ _ _ _ c.loop-bytes.invariant.log c.in_err-count.ensures.log)

pub returns-in_err-extend_from_slice : goal.returns-in_err-extend_from_slice
returns-in_err-extend_from_slice g c =
    wanting _ _ _ _ _ _ c.from_residual-in_err-extend_from_slice.ensures.1
    (changed (got c.in_ok-count.count _) _ _ _ _ _ c.loop-bytes.invariant.log c.in_ok-count.ensures.log)

pub returns-then-count-eq0 : goal.returns-then-count-eq0
returns-then-count-eq0 g c =
    let given : c.in_ok-count.count ≤ length c.read_some.new.block = grind (arith, common_steps, c.in_ok-count.ensures.bound) in
    let few : c.in_ok-count.count ≤ c.args.most - c.len.result + 1 = grind (arith, common_steps, c.in_ok-count.ensures.bound, c.min-wanted.ensures) in
    ended c.loop-bytes.bytes.items c.read_some.new.block _ c.args.most (c.args.most - c.len.result) c.in_ok-count.count (grind (arith, common_steps, c.len.ensures))
    (grind (arith, common_steps, c.loop-bytes.invariant.fits)) given c.args.name.now _ _
    (record { bytes = c.extend_from_slice.new.self; more = nat_lt (c.args.most - c.len.result) c.in_ok-count.count }) c.then-count-eq0.either few
    (rw c.min.ensures at c.in_ok-extend_from_slice.ensures.items) refl
    (changed (got c.in_ok-count.count _) _ _ _ _ _ c.loop-bytes.invariant.log c.in_ok-count.ensures.log)

pub loop-bytes-preserved : goal.loop-bytes-preserved
loop-bytes-preserved g c =
    let given : c.in_ok-count.count ≤ length c.read_some.new.block = grind (arith, common_steps, c.in_ok-count.ensures.bound) in
    record {
      fits = grind (arith, common_steps, c.loop-bytes.invariant.fits, c.in_ok-extend_from_slice.ensures.len);
      log =
          more_came c.loop-bytes.bytes.items c.read_some.new.block _ c.args.most (c.args.most - c.len.result) c.in_ok-count.count
          (grind (arith, common_steps, c.len.ensures)) (grind (arith, common_steps, c.loop-bytes.invariant.fits)) given c.args.name.now _ _ _ c.if-count-eq0.false
          (grind (arith, common_steps, c.if-room-count.false)) (rw c.min.ensures at c.in_ok-extend_from_slice.ensures.items)
          (changed (got c.in_ok-count.count _) _ _ _ _ _ c.loop-bytes.invariant.log c.in_ok-count.ensures.log);
    }
