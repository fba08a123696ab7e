-- `turning::known::Known::turn_pack` meets its contract.
use Rattle.std.proofs.lemmas.Result.{err_from_is_err_and}
use Rattle.turning.proofs.PackLaws.{rules-asked, pack_stopped, relations-asked, pack-ended}
use Rattle.turning.proofs.known.Known.turn_pack.Goals as goal

pub turns-requires : goal.turns-requires
turns-requires c = rules-asked c.args.self.now _ _ _ _ c.requires

pub returns-in_err-turns : goal.returns-in_err-turns
returns-in_err-turns c =
    let p = err_from_is_err_and c.from_residual.result c.from_residual.ensures.1 in
    rw (p.1, p.2) (pack_stopped _ _ _ _ _ c.requires c.turns.ensures c.in_err-turns.was)

pub turns-requires-2 : goal.turns-requires-2
turns-requires-2 c = relations-asked _ _ _ _ _ c.requires c.turns.ensures c.in_ok-turns.was

pub returns : goal.returns
returns c = pack-ended _ _ _ _ _ c.requires c.turns.ensures c.in_ok-turns.was c.turns-2.ensures
