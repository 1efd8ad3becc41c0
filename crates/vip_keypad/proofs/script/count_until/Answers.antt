use Rattle.std.proofs.Common.{rules, leb}
use Rattle.std.proofs.lemmas.List.Sorted.{IsPartitionPoint-from_clause, IsPartitionedBy-leb}
use Rattle.vip_keypad.proofs.script.count_until.Goals as goal

pub returns-clause-past : goal.returns-clause-past
returns-clause-past c =
    (IsPartitionPoint-from_clause (λ entry. leb entry.cycle c.args.t) c.args.entries.now c.partition_point.result c.partition_point.ensures.partitioned
    (IsPartitionedBy-leb (λ entry. entry.cycle) c.args.entries.now c.args.t c.requires) (λ a r f' called. search rules)).0

pub returns-clause-future : goal.returns-clause-future
returns-clause-future c =
    (IsPartitionPoint-from_clause (λ entry. leb entry.cycle c.args.t) c.args.entries.now c.partition_point.result c.partition_point.ensures.partitioned
    (IsPartitionedBy-leb (λ entry. entry.cycle) c.args.entries.now c.args.t c.requires) (λ a r f' called. search rules)).1
