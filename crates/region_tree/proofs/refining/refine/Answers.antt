use Rattle.std.proofs.Common.{◌≡◌}
use Rattle.region_tree.specs.Nodes.{Node}
use Rattle.region_tree.specs.Right.{halved_of}
use Rattle.region_tree.proofs.Goings.{kept_since, ready_at_first}
use Rattle.region_tree.proofs.Refined.{goes_on, offered_there}
use Rattle.region_tree.proofs.Shown.{leaves_are_one}
use Rattle.region_tree.proofs.refining.refine.Goals as goal

pub walk-requires-clause-leaves : goal.walk-requires-clause-leaves
walk-requires-clause-leaves g c =
    leaves_are_one c.certificates_are_one.ensures.least c.lower_precisions_are_cases.ensures c.certificates_are_one.ensures.greatest c.args.case.now c.args.from c.args.bound c.w.ensures.case c.requires.from.0

pub walk-requires-clause-ready : goal.walk-requires-clause-ready
walk-requires-clause-ready g c =
    rw c.forget.ensures (ready_at_first c.args.case.now c.args.links.now c.args.bound c.args.from c.args.room.now.lanes c.requires.links c.requires.from c.requires.made.lanes)

pub walk-requires-clause-base : goal.walk-requires-clause-base
walk-requires-clause-base g c =
    let one = c.requires.base in (
      halved_of one.0,
      (
        one.1.0,
        offered_there c.args.case.now c.args.from c.args.bound c.args.case.now.root 0 (g.B.Base.is_ahead c.args.base.now)
            ((node : Node) → g.B.Base.entry c.args.base.now node ≡ g.V.Visitor.entry c.args.visitor.now node) c.requires.entries one.0 one.1.0 one.1.1,
      ),
    )

pub returns-clause-walks : goal.returns-clause-walks
returns-clause-walks g c =
    goes_on c.args.case.now c.args.from c.args.bound c.args.case.now.root 0 (g.B.Base.is_ahead c.args.base.now) (g.B.Base.is_ahead c.walk.new.base)
    ((node : Node) → g.B.Base.entry c.args.base.now node ≡ g.V.Visitor.entry c.args.visitor.now node) ((node : Node) → g.B.Base.entry c.walk.new.base node ≡ g.V.Visitor.entry c.walk.new.out node) c.requires.entries _
    g.V.Visitor.taken g.V.Visitor.faults (g.V.Visitor.entry c.args.visitor.now) c.args.visitor.now c.walk.new.out c.walk.result c.seen.result c.seen.ensures c.walk.ensures.walks

pub returns-clause-room : goal.returns-clause-room
returns-clause-room g c =
    record {
      sides = c.walk.ensures.sides;
      lanes = kept_since c.args.case.now c.args.links.now c.args.bound c.args.from c.args.room.now.lanes c.walk.new.room (rw c.forget.ensures at c.walk.ensures.ready);
    }
