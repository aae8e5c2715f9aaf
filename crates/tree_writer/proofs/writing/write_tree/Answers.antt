use Rattle.std.proofs.Common.{[], refl, arith}
use Rattle.lift_walk.specs.Halved.{Halved}
use Rattle.tree_writer.proofs.Written.{written}
use Rattle.tree_writer.proofs.writing.write_tree.Goals as goal

pub walk-requires-clause-base : goal.walk-requires-clause-base
walk-requires-clause-base g c = (Halved.unknown, ([], record { ahead = tt; none = λ _. refl; base = omega arith }))

pub returns-clause-wrote : goal.returns-clause-wrote
returns-clause-wrote g c =
    let d = c.args.decider.now in
    written (g.D.Decider.decides d) (g.D.Decider.is_open d) (g.D.Decider.leaf_text d) c.args.case.now c.args.case.now.root 0 _ g.K.Sink.taken g.K.Sink.faults c.args.out.now c.walk.new.out c.walk.result
    (c.walk.ensures.walks Halved.unknown [] (record { ahead = tt; none = λ _. refl; base = omega arith })).0
