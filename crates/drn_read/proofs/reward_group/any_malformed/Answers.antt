use Rattle.std.proofs.Common.{rules, tests, sym, ◌∙◌}
use Rattle.std.proofs.lemmas.Iterator.{YieldsList-from_slice}
use Rattle.std.proofs.lemmas.Iterator.Search.{any_from_yields_List}
use Rattle.lift_frac.specs.Frac.{answer_of}
use Rattle.drn_read.specs.Rewards.{is_malformed}
use Rattle.drn_read.proofs.RewardValues.{any_map}
use Rattle.drn_read.proofs.reward_group.any_malformed.Goals as goal

pub returns : goal.returns
returns c =
    any_from_yields_List (λ value. is_malformed (answer_of value)) _ _ _ c.any.ensures.ran (YieldsList-from_slice c.args.values.now cc) (λ x r q k. search (rules, tests))
    ∙ sym (any_map is_malformed answer_of c.args.values.now)
