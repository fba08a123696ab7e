-- `filtered::taking::read_tables` meets its contract.
use native.Mathlib.Omega.{arith}
use mathlib.Core.Path.{sym, subst}
use Rattle.chains.specs.DirectoryWord.{Reaches}
use Rattle.chains.proofs.CheckedLaws.{few-names, names-many, settleable, kinds-marked}
use Rattle.filtered.proofs.TakenKnown.{takeable, filled}
use Rattle.filtered.proofs.taking.read_tables.Goals as goal

pub slice_bounds-names-end : goal.slice_bounds-names-end
slice_bounds-names-end c = sym (names-many c.requires.0)

pub settle_all-steps-requires : goal.settle_all-steps-requires
settle_all-steps-requires c = let d = c.requires.0 in (few-names d, settleable d c.requires.1, c.requires.2)

pub read_relations-requires : goal.read_relations-requires
read_relations-requires c =
    let d = c.requires.0 in
    let s = c.settle_all-steps.ensures in
    (takeable d (kinds-marked d c.requires.1 s) s.marked (omega (arith, c.requires.1.long, s.long)), subst (Reaches c.args.dir.now) (sym s.long) c.requires.2)

pub returns : goal.returns
returns c =
    let s = c.settle_all-steps.ensures in
    filled c.requires.0 (kinds-marked c.requires.0 c.requires.1 s) s.marked (omega (arith, c.requires.1.long, s.long)) c.requires.3 c.read_relations.ensures
