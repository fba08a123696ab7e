-- `resolve::resolve::resolve` meets its contract.
use Prim.Native.Nat.{ℕ, ◌-◌}
use native.Mathlib.Omega.{arith}
use mathlib.Core.Path.{◌≡◌, ◌∙◌, ap}
use mathlib.Core.List.{List, ◌++◌}
use lib.ListN.{take, drop}
use Rattle.resolve.proofs.ResolveLaws.{count-within, copied-out}
use Rattle.resolve.proofs.resolve.resolve.Goals as goal

pub slice_bounds-copy-end : goal.slice_bounds-copy-end
slice_bounds-copy-end c =
    let w = count-within _ c.args.out.now c.min-room.ensures c.resolve_into-a.ensures c.written-count.ensures in omega (arith, w.1, c.resolve_into-a.auto.out)

pub slice_bounds-copy-end-2 : goal.slice_bounds-copy-end-2
slice_bounds-copy-end-2 c = (count-within _ c.args.out.now c.min-room.ensures c.resolve_into-a.ensures c.written-count.ensures).0

pub returns : goal.returns
returns c =
    let n = c.written-count.result in
    let whole : n - 0 ≡ n = omega arith in
    copied-out _ _ c.min-room.ensures c.resolve_into-a.ensures c.written-count.ensures
    (ap (λ (l : List ℕ). l ++ drop (n - 0) c.args.out.now) c.copy.ensures ∙ ap (λ (k : ℕ). take k c.resolve_into-a.new.out ++ drop k c.args.out.now) whole)
