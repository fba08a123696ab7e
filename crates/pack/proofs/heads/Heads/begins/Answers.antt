-- `pack::heads::Heads::begins` meets its contract.
use Rattle.std.proofs.Common.{arith, sym}
use Rattle.pack.proofs.HeadLaws.{other-sort, by_end}
use Rattle.pack.proofs.heads.Heads.begins.Goals as goal

pub returns-then-kind-sort : goal.returns-then-kind-sort
returns-then-kind-sort c = sym (other-sort _ _ _ (omega arith) c.requires c.if-kind-sort.true)

pub returns : goal.returns
returns c = by_end _ _ _ _ (omega arith) c.requires c.if-kind-sort.false c.args.self.now.ended
