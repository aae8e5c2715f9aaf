use Rattle.std.proofs.Common.{Some, None, length, ◌∙◌}
use Rattle.std.specs.Prelude.{find, nat_le}
use Rattle.drn_read.specs.Reading.{all_transitions}
use Rattle.drn_read.proofs.Ends.{target_reported, all_outside, all_inside}
use Rattle.drn_read.proofs.end.test_targets.Goals as goal

pub returns-in-Some-clause-fault : goal.returns-in-Some-clause-fault
returns-in-Some-clause-fault c =
    target_reported (find (λ t. nat_le (length c.args.states.now) t.target) (all_transitions c.args.states.now)) (Some c.in-Some.line) (c.in-Some.ensures ∙ all_outside (length c.args.states.now) c.args.states.now)

pub returns-in-None-clause-fault : goal.returns-in-None-clause-fault
returns-in-None-clause-fault c =
    target_reported (find (λ t. nat_le (length c.args.states.now) t.target) (all_transitions c.args.states.now)) None (c.in-None.ensures ∙ all_outside (length c.args.states.now) c.args.states.now)

pub returns-in-None-clause-targets : goal.returns-in-None-clause-targets
returns-in-None-clause-targets c = all_inside c.args.states.now (length c.args.states.now) c.in-None.ensures
