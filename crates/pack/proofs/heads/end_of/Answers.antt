-- `pack::heads::end_of` meets its contract, rule by rule.
use Rattle.std.proofs.Common.{◌≡◌, ◌<◌, ◌≤◌, ℕ, arith, ap, ◌∙◌}
use Rattle.definitions.specs.declared.table.Entry.{Entry}
use Rattle.definitions.specs.Table.{entry_of}
use Rattle.pack.proofs.HeadLaws.{sorted, most_small, ends-any, ends-name, ends-most}
use Rattle.pack.proofs.heads.end_of.Goals as goal

sort_is : {e d : Entry} → e ≡ d → e.sort ≡ d.sort
sort_is h = ap (λ (e : Entry). e.sort) h

values_are : {e d : Entry} → e ≡ d → e.values ≡ d.values
values_are h = ap (λ (e : Entry). e.values) h

begins : (kind : ℕ) {e : Entry} → kind < 256 → e ≡ entry_of kind → (e.sort ≡ 2 → ⊥) → (entry_of kind).sort < 2
begins kind k h n = let l : (entry_of kind).sort ≤ 2 = sorted kind k in let s = sort_is h in omega arith

pub overflow_add-result-in-AtMost : goal.overflow_add-result-in-AtMost
overflow_add-result-in-AtMost c = let m = most_small c.args.kind (omega arith) (rw c.entry_of-entry.ensures at c.in-AtMost.is) in omega arith

pub overflow_add-result-in-AtMost-2 : goal.overflow_add-result-in-AtMost-2
overflow_add-result-in-AtMost-2 c = let m = most_small c.args.kind (omega arith) (rw c.entry_of-entry.ensures at c.in-AtMost.is) in omega arith

pub returns-in-Any : goal.returns-in-Any
returns-in-Any c = ends-any _ _ (begins _ (omega arith) c.entry_of-entry.ensures c.if-entry-eq-NO_TREE.false) (rw c.entry_of-entry.ensures at c.in-Any.is)

pub returns-in-AtMost : goal.returns-in-AtMost
returns-in-AtMost c = ends-most _ _ (begins _ (omega arith) c.entry_of-entry.ensures c.if-entry-eq-NO_TREE.false) (rw c.entry_of-entry.ensures at c.in-AtMost.is)

pub returns-in_default : goal.returns-in_default
returns-in_default c =
    ends-name _ _ (begins _ (omega arith) c.entry_of-entry.ensures c.if-entry-eq-NO_TREE.false) (omega arith)
    (λ e. c.in_default.not-Any (values_are c.entry_of-entry.ensures ∙ e)) (λ m e. c.in_default.not-AtMost m (values_are c.entry_of-entry.ensures ∙ e))
