-- `over_bytes::operations::write` meets its contract.
use Rattle.definitions.specs.declared.operation.Writing.TheVariants.{Rewrite, AllKinds, Filtered}
use Rattle.std.proofs.Common.{of_calls}
use Rattle.over_bytes.proofs.operations.write.Goals as goal

pub returns-in-Rewrite : goal.returns-in-Rewrite
returns-in-Rewrite c = rw c.in-Rewrite.is (c.written.ensures Rewrite (λ ws lent a left p. p))

pub returns-in-AllKinds : goal.returns-in-AllKinds
returns-in-AllKinds c = rw c.in-AllKinds.is (c.written-in-AllKinds.ensures AllKinds (λ ws lent a left p. p))

pub written-requires-in-Filtered : goal.written-requires-in-Filtered
written-requires-in-Filtered c = (search of_calls, (Filtered c.in-Filtered.filter, λ ws lent a left p. p))

pub returns-in-Filtered : goal.returns-in-Filtered
returns-in-Filtered c = rw c.in-Filtered.is (c.written-in-Filtered.ensures (Filtered c.in-Filtered.filter) (λ ws lent a left p. p))

pub returns-in-Resolve : goal.returns-in-Resolve
returns-in-Resolve c = rw c.in-Resolve.is c.resolved.ensures
