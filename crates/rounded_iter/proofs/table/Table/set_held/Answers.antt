use Rattle.std.proofs.Common.{rules, SFits, w64, to_z-of_z, slice_index_or, slice_set, ◌≡◌, subst}
use Rattle.rounded_iter.specs.Held.{IsRaisedIn, beside}
use Rattle.rounded_iter.proofs.Solving.{laws_of}
use Rattle.rounded_iter.proofs.Holding.{set_held_in}
use Rattle.rounded_iter.proofs.table.Table.set_held.Goals as goal

pub returns : goal.returns
returns g c =
    let p = c.args.component in
    let s = slice_index_or c.order.result.now p.held 0 in
    let at : slice_index_or c.args.self.now.links.order p.held 0 ≡ s = search rules in
    let fits : SFits w64 p.number = search rules in
    rw (to_z-of_z fits)
    (subst (λ j. IsRaisedIn c.args.self.now (beside c.args.self.now g.run p) p.low p.high c.args.lane.now (slice_set c.args.lane.now j p.number)) at
    (set_held_in (laws_of c.rows_at_corners.ensures.parameters c.rows_at_corners.ensures.numbers c.rows_at_corners.ensures.range c.rows_at_corners.ensures.rise c.corners_bound_weights.ensures.sum) c.args.self.now g.run c.requires.0 p c.requires.1.1.0 c.requires.1.1.1.0 c.args.lane.now c.requires.1.0 c.requires.1.1.1.1.0 c.requires.1.1.1.1.1))
