-- `reading::words::Words::head` meets its contract.
use native.Mathlib.Omega.{arith}
use mathlib.Core.Path.{sym, ◌∙◌, refl}
use Rattle.pack.proofs.HeadLaws.{begun_sort, begun_value, unbegun_value}
use Rattle.reading.proofs.TreeLaws.{heads-other, heads_deep, heads_in}
use Rattle.reading.proofs.WalkLaws.{test-ended, test_turned, test-value, test-read}
use Rattle.reading.proofs.words.Words.head.Goals as goal

pub returns-then-self-at : goal.returns-then-self-at
returns-then-self-at c = test-ended _ _ _ _ (omega arith) c.new.ensures

pub returns-then-left-gt0 : goal.returns-then-left-gt0
returns-then-left-gt0 c =
    let b = sym c.if-begins.true ∙ c.begins.ensures in
    test-read _ _ _ _ (omega arith) (heads_in _ _ _ refl (begun_sort _ _ _ b) (λ z. omega arith)) (begun_value _ _ _ b)

pub returns-then-begins : goal.returns-then-begins
returns-then-begins c =
    let s = begun_sort _ _ _ (sym c.if-begins.true ∙ c.begins.ensures) in
    test_turned _ _ _ _ (omega arith) c.new-then-begins.ensures (heads_deep _ _ _ refl s (omega arith)) (λ h. omega arith)

pub returns-then-found-sort : goal.returns-then-found-sort
returns-then-found-sort c = test_turned _ _ _ _ (omega arith) c.new-then-found-sort.ensures (heads-other _ _ _ c.sort_of-found.ensures c.if-found-sort.true) (λ h. omega arith)

pub returns-then-left-eq0 : goal.returns-then-left-eq0
returns-then-left-eq0 c = test_turned _ _ _ _ (omega arith) c.new-then-left-eq0.ensures (heads_deep _ _ _ c.sort_of-found.ensures c.if-found-sort.false c.if-left-eq0.true) (λ h. omega arith)

pub returns : goal.returns
returns c =
    let b = sym c.if-begins.false ∙ c.begins.ensures in
    test-value _ _ _ _ (omega arith) c.new-2.ensures (heads_in _ _ _ c.sort_of-found.ensures c.if-found-sort.false c.if-left-eq0.false)
    (unbegun_value _ _ _ b (sym c.sort_of-found.ensures ∙ c.if-found-sort.false))
