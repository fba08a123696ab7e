-- `turning::asked::ask_note` meets its contract.
use Rattle.std.proofs.Common.{arith}
use Rattle.turning.proofs.MarkLaws.{relation-marked, rule-marked, low-marked, high_marked, same-marked, atom-marked}
use Rattle.turning.proofs.asked.ask_note.Goals as goal

pub returns-then-kind-eq-RELATION : goal.returns-then-kind-eq-RELATION
returns-then-kind-eq-RELATION c = relation-marked _ _ _ _ c.read-note.ensures c.if-note-eq0.true c.if-kind-eq-RELATION.true

pub returns-then-note-eq0 : goal.returns-then-note-eq0
returns-then-note-eq0 c = rule-marked _ _ _ _ c.read-note.ensures c.if-note-eq0.true c.if-kind-eq-RELATION.false

pub returns-in-104 : goal.returns-in-104
returns-in-104 c = same-marked _ _ _ _ c.read-note.ensures c.if-note-eq0.false c.in-104.is c.mark_own.ensures

pub returns-then-kind-lt102 : goal.returns-then-kind-lt102
returns-then-kind-lt102 c = low-marked _ _ _ _ c.read-note.ensures c.if-note-eq0.false (omega arith)

pub returns-in-102 : goal.returns-in-102
returns-in-102 c = atom-marked _ _ _ _ c.read-note.ensures c.if-note-eq0.false (omega arith) (omega arith) c.mark.ensures c.mark_own-in-102.ensures

pub returns-else-kind-lt104 : goal.returns-else-kind-lt104
returns-else-kind-lt104 c = high_marked _ _ _ _ c.read-note.ensures c.if-note-eq0.false (omega arith)
