use Rattle.std.proofs.Common.{rules, SFits, w64, to_z-of_z, subst, sym, [], length}
use Rattle.lift_model.specs.Model.{choices}
use Rattle.rounded_iter.specs.Watching.{IsRaisedState}
use Rattle.rounded_iter.proofs.Solving.{laws_of}
use Rattle.rounded_iter.proofs.Raising.{raised_to, solved_plain}
use Rattle.rounded_iter.proofs.table.Table.raise.Goals as goal

pub enough_for_state-number-requires : goal.enough_for_state-number-requires
enough_for_state-number-requires g c = record { read = c.requires.can.read; state = c.requires.can.state; numbers = c.requires.can.below.numbers }

pub returns : goal.returns
returns g c =
    let fits : SFits w64 c.enough_for_state-number.result = search rules in
    let done = rw (to_z-of_z fits) at c.write_number.ensures in
    subst (λ lane. IsRaisedState c.args.self.now g.run c.args.lane.now lane c.args.s c.write_number.result) (sym done.written)
    (raised_to (laws_of c.rows_at_corners.ensures.parameters c.rows_at_corners.ensures.numbers c.rows_at_corners.ensures.range c.rows_at_corners.ensures.rise c.corners_bound_weights.ensures.sum) c.args.self.now g.run c.args.lane.now c.args.s c.requires.can (c.requires.can.read.case.asked.model.some_choice c.args.s [] c.requires.can.state) c.requires.free c.enough_for_state-number.result (solved_plain c.args.self.now.rule c.args.self.now.case g.run.spans c.args.lane.now c.args.s (length (choices c.args.self.now.case.model c.args.s)) c.enough_for_state-number.result c.requires.rewards c.enough_for_state-number.ensures) c.write_number.result done.other done.same)
