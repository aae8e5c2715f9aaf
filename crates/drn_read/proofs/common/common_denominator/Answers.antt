use Rattle.std.proofs.Common.{List, fold, ap, arith, ◌∙◌}
use Rattle.std.proofs.lemmas.List.{take_all}
use Rattle.lift_frac.specs.Parts.{capped}
use Rattle.drn_read.specs.States.{StateText}
use Rattle.drn_read.specs.Shown.{with_den}
use Rattle.drn_read.proofs.Ends.{common_is}
use Rattle.lift_model.specs.Valid.{common_limit}
use Rattle.drn_read.proofs.common.common_denominator.Goals as goal

pub returns : goal.returns
returns c =
    c.loop-state.invariant
    ∙ ap (λ (states : List StateText). capped common_limit (fold (λ c s. fold (fold with_den) c s.choices) 1 states)) (take_all c.loop-state.state-index c.args.states.now (omega arith))
    ∙ ap (capped common_limit) (common_is c.args.states.now)
