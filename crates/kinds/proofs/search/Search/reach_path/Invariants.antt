-- `kinds::search::Search::reach_path` meets its contract.
use Prim.Native.Nat.{◌+◌, ◌-◌, ◌*◌}
use Rattle.kinds.proofs.SearchLaws.{Reaching}
use Rattle.kinds.proofs.search.Search.reach_path.Given as goal

abbrev pub invariant-loop-k : goal.invariant-loop-k
invariant-loop-k l = Reaching l.pack l.at l.initial.self l.self (l.at + 1 + 3 * l.k) (l.steps - l.k)
