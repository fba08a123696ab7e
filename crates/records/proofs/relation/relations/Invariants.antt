-- `records::relation::relations` meets its contract.
use Rattle.records.proofs.DirectoryLaws.{Relating}
use Rattle.records.proofs.relation.relations.Given as goal

abbrev pub invariant-loop-i : goal.invariant-loop-i
invariant-loop-i l = Relating l.part.heads.now.names l.part.words.now (l.initial.dir, l.initial.notes) l.initial.c.at l.count (l.dir, l.notes) l.c.at l.i
