use Rattle.lift_base.proofs.Writing.{wrote_most}
use Rattle.lift_base.proofs.output.write_all.Goals as goal

pub returns-then-write_most-piece-clause-wrote : goal.returns-then-write_most-piece-clause-wrote
returns-then-write_most-piece-clause-wrote g c =
    let most = c.write_most.ensures in
    wrote_most _ c.args.piece.now c.write_most.result most.taken (most.cause c.if-write_most-piece.true) most.later
