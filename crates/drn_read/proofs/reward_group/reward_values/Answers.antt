use Rattle.std.proofs.Common.{rules, tests, ◌∙◌}
use Rattle.std.proofs.lemmas.Iterator.{YieldsList-from_map_by}
use Rattle.std.proofs.lemmas.Iterator.Consumers.{map_from_collect, YieldsList-at}
use Rattle.std.proofs.lemmas.Iterator.Splits.{YieldsList-from_slice_split}
use Rattle.lift_bytes.specs.Trimming.{trimmed}
use Rattle.lift_frac.specs.Frac.{answer_of}
use Rattle.drn_read.specs.Rewards.{inside, reward_value}
use Rattle.drn_read.proofs.reward_group.reward_values.Goals as goal

pub returns : goal.returns
returns c =
    map_from_collect _ c.collect.ensures.ran
    (YieldsList-from_map_by _ answer_of (λ piece. reward_value (trimmed piece))
    (YieldsList-at c.map.ensures.source
    (YieldsList-from_slice_split _ _ (inside c.args.group.now) (c.split.ensures.rest ∙ c.inside.ensures) c.split.ensures.done c.split.ensures.closure (λ x r q k. search (rules, tests))))
    c.map.ensures.closure (λ x r q k. search rules))
