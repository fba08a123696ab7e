-- What `read_full` has read so far fits in the bytes.
use Rattle.std.proofs.Common.{◌≤◌, length}
use Rattle.cases.proofs.list.read_full.Given as goal

abbrev pub invariant-loop : goal.invariant-loop
invariant-loop g l = l.count ≤ length l.bytes
