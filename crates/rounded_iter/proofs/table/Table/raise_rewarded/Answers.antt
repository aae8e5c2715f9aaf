use Rattle.std.proofs.Common.{rules, SFits, w64, to_z-of_z, subst, sym, []}
use Rattle.rounded_iter.specs.Watching.{IsRaisedState}
use Rattle.rounded_iter.proofs.Solving.{laws_of}
use Rattle.rounded_iter.proofs.Raising.{raised_to}
use Rattle.rounded_iter.proofs.table.Table.raise_rewarded.Goals as goal

pub rewarded_state-number-requires : goal.rewarded_state-number-requires
rewarded_state-number-requires g c = (record { read = c.requires.can.read; state = c.requires.can.state; numbers = c.requires.can.below.numbers }, c.requires.rewards)

pub returns : goal.returns
returns g c =
    let fits : SFits w64 c.rewarded_state-number.result = search rules in
    let done = rw (to_z-of_z fits) at c.write_number.ensures in
    subst (λ lane. IsRaisedState c.args.self.now g.run c.args.lane.now lane c.args.s c.write_number.result) (sym done.written)
    (raised_to (laws_of c.rows_at_corners.ensures.parameters c.rows_at_corners.ensures.numbers c.rows_at_corners.ensures.range c.rows_at_corners.ensures.rise c.corners_bound_weights.ensures.sum) c.args.self.now g.run c.args.lane.now c.args.s c.requires.can (c.requires.can.read.case.asked.model.some_choice c.args.s [] c.requires.can.state) c.requires.free c.rewarded_state-number.result c.rewarded_state-number.ensures c.write_number.result done.other done.same)
