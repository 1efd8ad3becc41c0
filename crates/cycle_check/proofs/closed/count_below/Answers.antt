use Rattle.std.proofs.Common.{rules, ltb}
use Rattle.std.proofs.lemmas.List.Sorted.{IsPartitionPoint-from_clause, IsPartitionedBy-ltb}
use Rattle.cycle_check.proofs.closed.count_below.Goals as goal

pub returns-clause-below : goal.returns-clause-below
returns-clause-below c =
    (IsPartitionPoint-from_clause (λ line. ltb line.address c.args.address) c.args.lines.now c.partition_point.result c.partition_point.ensures.partitioned
    (IsPartitionedBy-ltb (λ line. line.address) c.args.lines.now c.args.address c.requires) (λ a r f' called. search rules)).0

pub returns-clause-above : goal.returns-clause-above
returns-clause-above c =
    (IsPartitionPoint-from_clause (λ line. ltb line.address c.args.address) c.args.lines.now c.partition_point.result c.partition_point.ensures.partitioned
    (IsPartitionedBy-ltb (λ line. line.address) c.args.lines.now c.args.address c.requires) (λ a r f' called. search rules)).1
