use Rattle.std.proofs.Common.{[], refl, arith}
use Rattle.lift_walk.specs.Halved.{Halved, IsRightBy}
use Rattle.region_tree.specs.Right.{Decides, IsOpen}
use Rattle.region_tree.proofs.Goings.{kept_since, ready_at_first}
use Rattle.region_tree.proofs.Shown.{leaves_are_one, shown}
use Rattle.region_tree.proofs.walking.walk.Goals as goal

pub walk-requires-clause-leaves : goal.walk-requires-clause-leaves
walk-requires-clause-leaves g c =
    leaves_are_one c.certificates_are_one.ensures.least c.lower_precisions_are_cases.ensures c.certificates_are_one.ensures.greatest c.args.case.now c.args.from c.args.bound c.w.ensures.case c.requires.from.0

pub walk-requires-clause-ready : goal.walk-requires-clause-ready
walk-requires-clause-ready g c =
    rw c.forget.ensures (ready_at_first c.args.case.now c.args.links.now c.args.bound c.args.from c.args.room.now.lanes c.requires.links c.requires.from c.requires.made.lanes)

pub walk-requires-clause-base : goal.walk-requires-clause-base
walk-requires-clause-base g c = (Halved.unknown, ([], record { ahead = tt; none = λ _. refl; base = omega arith }))

pub returns-clause-walks : goal.returns-clause-walks
returns-clause-walks g c =
    shown (λ t. IsRightBy (Decides c.args.case.now c.args.from c.args.bound) (λ part. IsOpen c.args.case.now c.args.from part c.args.bound) c.args.case.now c.args.case.now.root 0 t) _
    g.V.Visitor.taken g.V.Visitor.faults (g.V.Visitor.entry c.args.visitor.now) c.args.visitor.now c.walk.new.out c.walk.result c.seen.result c.seen.ensures
    (c.walk.ensures.walks Halved.unknown [] (record { ahead = tt; none = λ _. refl; base = omega arith })).0

pub returns-clause-room : goal.returns-clause-room
returns-clause-room g c =
    record {
      sides = c.walk.ensures.sides;
      lanes = kept_since c.args.case.now c.args.links.now c.args.bound c.args.from c.args.room.now.lanes c.walk.new.room (rw c.forget.ensures at c.walk.ensures.ready);
    }
