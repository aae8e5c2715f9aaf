use Rattle.lift_grid.specs.Rectangle.{spans_of}
use Rattle.region_tree.proofs.OtherPrecision.{ask_at, filled_at}
use Rattle.region_tree.proofs.search.Search.decide_at.Goals as goal

pub decide_in-requires : goal.decide_in-requires
decide_in-requires g c =
    let f = c.args.finder.now in
    let u = c.args.u in
    let spans = spans_of f.sides.now in
    rw c.at-case.ensures (record {
      asked = ask_at f.case.now u f.links.now spans f.weights.now c.requires.asked;
      filled = filled_at f.case.now u spans c.args.collapse.now c.requires.filled;
      pools = c.requires.pools;
      outlook = c.requires.outlook;
    })
