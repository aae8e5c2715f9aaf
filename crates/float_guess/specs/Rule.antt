-- Which states have a number that is given, whatever they lead to, and what each visit of another state adds to its number.
use Rattle.std.specs.Prelude.{ℕ, ◌^◌, ◌&&◌, ◌||◌, not, nat_lt, min, Bool, true, false, ℤ, pos, length, if◌then◌else◌}
use Rattle.lift_model.specs.Model.{ModelData, is_goal}
use Rattle.corner_lift.specs.Case.{CaseData}
use Rattle.corner_lift.specs.Certificate.{unmarked, mark}
use Rattle.float_guess.specs.declared.rule.Ends.{Ends}
use Rattle.float_guess.specs.declared.rule.Ends.TheVariants.{Goals, Unranked, Rewarded}
use Rattle.float_guess.specs.Reward.{reward}

-- whether the number of a state is given: that of a goal state, and where there are ranks, that of each state without one
abbrev pub is_given : ModelData → Ends → ℕ → Bool
is_given m Goals s = is_goal m s
is_given m (Unranked ranks) s = is_goal m s || (nat_lt s (length m.states) && not (nat_lt (mark ranks.now s) unmarked))
is_given m (Rewarded t) s = is_goal m s

-- what it is: 2 ^ w for a goal state; where there are ranks, 0 for a goal state, and 2 ^ w for the others; where there are rewards, 0
abbrev pub given : CaseData → Ends → ℕ → ℤ
given k Goals s = pos (2 ^ k.w)
given k (Unranked ranks) s = if is_goal k.model s then pos 0 else pos (2 ^ k.w)
given k (Rewarded t) s = pos 0

-- whether there are rewards
abbrev pub has_rewards : Ends → Bool
has_rewards Goals = false
has_rewards (Unranked ranks) = false
has_rewards (Rewarded t) = true

-- what a visit of a state adds: the reward, if there are rewards, cut off at 2 ^ w
abbrev pub added : CaseData → Ends → ℕ → ℤ
added k Goals s = pos 0
added k (Unranked ranks) s = pos 0
added k (Rewarded t) s = pos (min (2 ^ k.w) (reward k.w t.costs.now t.cap s))
