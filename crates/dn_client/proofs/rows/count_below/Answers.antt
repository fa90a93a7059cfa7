use Rattle.std.proofs.Common.{ltb, ltb-true, ltb-false, rules}
use Rattle.std.proofs.lemmas.List.Sorted.{IsPartitionPoint-from_clause, IsPartitionedBy-ltb}
use Rattle.dn_cert.proofs.ListLemmas.{IsNonDecreasingBy-increasing}
use Rattle.dn_client.proofs.rows.count_below.Goals as goal

pub returns-clause-below : goal.returns-clause-below
returns-clause-below c =
    let parted = IsPartitionedBy-ltb (λ l. l.client.0) c.args.rows.now c.args.client.0 (IsNonDecreasingBy-increasing (λ l. l.client.0) c.args.rows.now c.requires) in
    let point = IsPartitionPoint-from_clause (λ l. ltb l.client.0 c.args.client.0) _ _ c.partition_point.ensures.partitioned parted (λ a r q k. search rules) in
    λ k d low high. ltb-true _ _ (point.0 k d low high)

pub returns-clause-above : goal.returns-clause-above
returns-clause-above c =
    let parted = IsPartitionedBy-ltb (λ l. l.client.0) c.args.rows.now c.args.client.0 (IsNonDecreasingBy-increasing (λ l. l.client.0) c.args.rows.now c.requires) in
    let point = IsPartitionPoint-from_clause (λ l. ltb l.client.0 c.args.client.0) _ _ c.partition_point.ensures.partitioned parted (λ a r q k. search rules) in
    λ k d low high. ltb-false _ _ (point.1 k d low high)
