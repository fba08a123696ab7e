-- `filtered::filtered::fill` meets its contract.
use native.Mathlib.Omega.{arith}
use mathlib.Core.Path.{sym, ◌∙◌, subst}
use Prim.Native.Nat.{◌+◌}
use lib.ListN.{length}
use Rattle.chains.proofs.AnswerLaws.{front_length}
use Rattle.filtered.specs.Said.{InnerAsked}
use Rattle.filtered.proofs.SaysLaws.{inner-asked, filter_left}
use Rattle.filtered.proofs.filtered.fill.Goals as goal

pub mark_inner-requires : goal.mark_inner-requires
mark_inner-requires c =
    let p = c.requires in let t = c.take_kinds in (
      subst (InnerAsked _) (sym p.4) (inner-asked _ _ p.0.checked t.ensures p.0.named (omega (arith, t.auto.table, p.3.long))),
      front_length
          c.args.dir.now (512 + length c.args.out.now) (omega (arith, p.0.reaches.long, p.4)),
    )

pub returns : goal.returns
returns c =
    let p = c.requires in let m = c.mark_inner in filter_left _ _ p.0.checked c.take_kinds.ensures p.0.named _ _ m.ensures p.4
    c.say_table.ensures (m.auto.marks ∙ p.4)
