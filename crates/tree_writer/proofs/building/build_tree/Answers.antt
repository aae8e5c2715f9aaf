use Rattle.std.proofs.Common.{[], refl, sym, subst, arith}
use Rattle.lift_walk.specs.Halved.{Halved, IsRightBy}
use Rattle.tree_writer.proofs.Written.{built}
use Rattle.tree_writer.proofs.building.build_tree.Goals as goal

pub walk-requires-clause-base : goal.walk-requires-clause-base
walk-requires-clause-base g c = (Halved.unknown, ([], record { ahead = tt; none = λ _. refl; base = omega arith }))

pub returns-clause-right : goal.returns-clause-right
returns-clause-right g c =
    built (g.D.Decider.decides c.args.decider.now) (g.D.Decider.is_open c.args.decider.now) c.args.case.now c.args.case.now.root 0 _ (g.D.Grower.is_right c.args.decider.now c.args.case.now.root 0)
    (λ t part right is. is c.args.case.now.root 0 (subst (λ k. IsRightBy (g.D.Decider.decides c.args.decider.now) (g.D.Decider.is_open c.args.decider.now) k c.args.case.now.root 0 t) (sym c.requires.same) right)) _ _ _ c.walk.new.out c.walk.new.out c.walk.result
    (c.walk.ensures.walks Halved.unknown [] (record { ahead = tt; none = λ _. refl; base = omega arith })).0
