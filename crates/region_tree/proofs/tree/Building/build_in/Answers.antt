use Rattle.std.proofs.Common.{[], refl, arith}
use Rattle.lift_walk.specs.Halved.{Halved}
use Rattle.region_tree.specs.Built.{tree_of}
use Rattle.region_tree.proofs.Goings.{ready_at_first}
use Rattle.region_tree.proofs.Shown.{leaves_are_one, right_built}
use Rattle.region_tree.proofs.tree.Building.build_in.Goals as goal

pub walk-requires-clause-leaves : goal.walk-requires-clause-leaves
walk-requires-clause-leaves c =
    let search = c.args.self.now.search in
    leaves_are_one c.certificates_are_one.ensures.least c.lower_precisions_are_cases.ensures c.certificates_are_one.ensures.greatest search.case.now search.from search.sought c.w.ensures.case c.requires.from.0

pub walk-requires-clause-ready : goal.walk-requires-clause-ready
walk-requires-clause-ready c =
    let search = c.args.self.now.search in
    rw c.forget.ensures (ready_at_first search.case.now search.links.now search.sought search.from c.args.room.now.lanes c.requires.links c.requires.from c.requires.made.lanes)

pub walk-requires-clause-base : goal.walk-requires-clause-base
walk-requires-clause-base c = (Halved.unknown, ([], record { ahead = tt; none = λ _. refl; base = omega arith }))

pub returns : goal.returns
returns c =
    let search = c.args.self.now.search in
    right_built search.case.now search.from search.sought tree_of _ _ _ _ _ c.walk.result (c.walk.ensures.walks Halved.unknown [] (record { ahead = tt; none = λ _. refl; base = omega arith })).0
