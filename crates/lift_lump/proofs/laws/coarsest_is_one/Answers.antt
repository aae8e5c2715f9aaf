use Rattle.lift_lump.proofs.Keeping.{splits_keep}
use Rattle.lift_lump.proofs.Numbering.{numbered_splits_keep}
use Rattle.lift_lump.proofs.Stepping.{steps_keep}
use Rattle.lift_lump.proofs.One.{coarsest_one}
use Rattle.lift_lump.proofs.Telling.{entries_tell}
use Rattle.lift_lump.proofs.laws.coarsest_is_one.Goals as goal

pub returns : goal.returns
returns c =
    let keep = splits_keep c.coefficients_determine.ensures.polynomial c.coefficients_determine.ensures.coefficients c.coefficients_determine.ensures.unique in
    let numbered = numbered_splits_keep c.weights_follow.ensures.terms keep in
    record {
      start = λ m start same other right s t together. same s t (right.goals s t together);
      keep = keep;
      numbered = numbered;
      steps = steps_keep numbered;
      one = coarsest_one;
      reported = entries_tell;
    }
