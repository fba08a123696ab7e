-- `filtered::taking::read_relations` meets its contract.

use Rattle.chains.specs.DirectoryWord.{starts_in, slots_in}
use Rattle.filtered.proofs.TakingLaws.{Reading}
use Rattle.filtered.proofs.taking.read_relations.Given as goal

abbrev pub invariant-loop-name : goal.invariant-loop-name
invariant-loop-name l = Reading l.pack (starts_in l.dir) (slots_in l.dir) l.names l.initial.acts l.initial.taken l.acts l.taken l.name-index
