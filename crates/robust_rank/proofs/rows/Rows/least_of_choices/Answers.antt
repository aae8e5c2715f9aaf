use Rattle.std.proofs.Common.{arith}
use Rattle.robust_rank.proofs.Below.{targets_inside}
use Rattle.robust_rank.proofs.rows.Rows.least_of_choices.Goals as goal

pub least_of_targets-requires-clause-inside : goal.least_of_targets-requires-clause-inside
least_of_targets-requires-clause-inside c =
    rw c.targets.ensures (targets_inside c.args.self.now.case.now c.args.s c.loop-a.a _ c.w.ensures.case
    (record { state = c.requires.state; choice = omega (arith, c.loop-a-test.true, c.choice_count-a-end.ensures) }) c.requires.ranks)
