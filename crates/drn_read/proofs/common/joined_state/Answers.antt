use Rattle.drn_read.specs.Shown.{with_den}
use Rattle.std.proofs.Common.{fold, take, arith}
use Rattle.std.proofs.lemmas.List.{take_all}
use Rattle.drn_read.proofs.Ends.{over_map}
use Rattle.drn_read.proofs.common.joined_state.Goals as goal

pub returns : goal.returns
returns c =
    over_map (fold with_den) (λ row. row.items) c.args.choices.now (take c.loop-choice.choice-index c.args.choices.now) c.args.common c.loop-choice.least
    (take_all c.loop-choice.choice-index c.args.choices.now (omega arith)) c.loop-choice.invariant
