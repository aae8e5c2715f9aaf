-- What certificates of expected costs say of the schedulers of a model at a valuation, by steps, probabilities and costs alone. Each sentence speaks of a state; without fractions.
use Rattle.std.specs.Prelude.{ℕ, ◌+◌, ◌-◌, ◌*◌, ◌^◌, List, ℤ, pos, ◌+ℤ◌, ◌-ℤ◌, ◌*ℤ◌, ◌≤ℤ◌}
use Rattle.lift_poly.specs.Polynomial.{Valuation}
use Rattle.lift_grid.specs.Tree.{RejectData}
use Rattle.lift_model.specs.Process.{power}
use Rattle.lift_model.specs.Plan.{Plan, Fits}
use Rattle.lift_model.specs.Reach.{reach}
use Rattle.lift_model.specs.Memoryless.{memoryless_reach}
use Rattle.lift_model.specs.Model.{ModelData, process_at}
use Rattle.corner_lift.specs.Case.{number}
use Rattle.lift_cert.specs.Reached.{Follows}
use Rattle.reward_cert.specs.Charges.{RewardData, common, charge}
use Rattle.reward_cert.specs.Expected.{expected_cost, memoryless_cost}

-- the cap, over the common denominator of the costs
abbrev pub unit : RewardData → ℤ
unit r = pos (r.cap * common r.costs)

-- ---- numbers beside what is paid and reached with so many of `all` runs

-- the cost is at most the number, in parts of the cap
abbrev pub IsCostAtMost : ℕ → RewardData → ℤ → ℤ → ℤ → Type 0
IsCostAtMost w r z all cost = (cost *ℤ pos (2 ^ w)) ≤ℤ (z *ℤ (unit r *ℤ all))

-- the cost is at least the number, where what has not reached the goal counts as the whole cap
abbrev pub IsCostAtLeastOrMissed : ℕ → RewardData → ℤ → ℤ → ℤ → ℤ → Type 0
IsCostAtLeastOrMissed w r y all cost reached = (y *ℤ (unit r *ℤ all)) ≤ℤ (pos (2 ^ w) *ℤ (cost +ℤ unit r *ℤ (all -ℤ reached)))

-- after j blocks of steps the cost is at least the number, less its part (1 - 2 ^ -m) ^ j
abbrev pub IsCostAtLeastAfter : ℕ → RewardData → ℤ → ℕ → ℕ → ℤ → ℤ → Type 0
IsCostAtLeastAfter w r y m j all cost = (y *ℤ (unit r *ℤ (all *ℤ (pos (2 ^ (m * j)) -ℤ pos ((2 ^ m - 1) ^ j))))) ≤ℤ (pos (2 ^ w) *ℤ (pos (2 ^ (m * j)) *ℤ cost))

-- after j blocks of steps at most (1 - 2 ^ -m) ^ j has not reached the goal
abbrev pub IsReachedAfter : ℕ → ℕ → ℤ → ℤ → Type 0
IsReachedAfter m j all reached = (pos (2 ^ (m * j)) *ℤ all) ≤ℤ (pos (2 ^ (m * j)) *ℤ reached +ℤ pos ((2 ^ m - 1) ^ j) *ℤ all)

-- ---- every scheduler, also one that tosses

-- each pays at most the number, within n steps for every n
abbrev pub EachPaysAtMost : ModelData → Valuation → ℕ → RewardData → ℕ → ℤ → Type 0
EachPaysAtMost m v w r s z =
    (q n : ℕ) (p : Plan) → Fits (process_at m v) q n s p
    → IsCostAtMost w r z (power (pos q *ℤ (process_at m v).total) n) (expected_cost (process_at m v) (charge r.costs) q n s p)

-- each pays at least the number or misses the goal, within n steps for every n
abbrev pub EachPaysOrMisses : ModelData → Valuation → ℕ → RewardData → ℕ → ℤ → Type 0
EachPaysOrMisses m v w r s y =
    (q n : ℕ) (p : Plan) → Fits (process_at m v) q n s p
    → IsCostAtLeastOrMissed w r y (power (pos q *ℤ (process_at m v).total) n) (expected_cost (process_at m v) (charge r.costs) q n s p) (reach (process_at m v) q n s p)

-- each reaches the goal in the end, by blocks of k steps, m being e k
abbrev pub EachReaches : ModelData → Valuation → RejectData → ℕ → Type 0
EachReaches model v c s =
    (q j : ℕ) (p : Plan) → Fits (process_at model v) q (c.k * j) s p
    → IsReachedAfter (c.e * c.k) j (power (pos q *ℤ (process_at model v).total) (c.k * j)) (reach (process_at model v) q (c.k * j) s p)

-- each pays at least the state's number in the end, by blocks of k steps, m being w + e k
abbrev pub EachPaysAfter : ModelData → Valuation → ℕ → RewardData → RejectData → ℕ → Type 0
EachPaysAfter model v w r c s =
    (q j : ℕ) (p : Plan) → Fits (process_at model v) q (c.k * j) s p
    → IsCostAtLeastAfter w r (number c.numbers s) (w + c.e * c.k) j (power (pos q *ℤ (process_at model v).total) (c.k * j)) (expected_cost (process_at model v) (charge r.costs) q (c.k * j) s p)

-- ---- the memoryless schedulers that follow the picks

-- each pays at most the number
abbrev pub FollowersPayAtMost : ModelData → Valuation → ℕ → RewardData → List ℕ → ℕ → ℤ → Type 0
FollowersPayAtMost m v w r picks s z =
    (choice : ℕ → ℕ) (n : ℕ) → Follows m picks choice
    → IsCostAtMost w r z (power (process_at m v).total n) (memoryless_cost (process_at m v) (charge r.costs) choice n s)

-- each pays at least the number or misses the goal
abbrev pub FollowersPayOrMiss : ModelData → Valuation → ℕ → RewardData → List ℕ → ℕ → ℤ → Type 0
FollowersPayOrMiss m v w r picks s y =
    (choice : ℕ → ℕ) (n : ℕ) → Follows m picks choice
    → IsCostAtLeastOrMissed w r y (power (process_at m v).total n) (memoryless_cost (process_at m v) (charge r.costs) choice n s) (memoryless_reach (process_at m v) choice n s)

-- each reaches the goal in the end
abbrev pub FollowersReach : ModelData → Valuation → RejectData → ℕ → Type 0
FollowersReach model v c s =
    (choice : ℕ → ℕ) (j : ℕ) → Follows model c.picks choice
    → IsReachedAfter (c.e * c.k) j (power (process_at model v).total (c.k * j)) (memoryless_reach (process_at model v) choice (c.k * j) s)

-- each pays at least the state's number in the end
abbrev pub FollowersPayAfter : ModelData → Valuation → ℕ → RewardData → RejectData → ℕ → Type 0
FollowersPayAfter model v w r c s =
    (choice : ℕ → ℕ) (j : ℕ) → Follows model c.picks choice
    → IsCostAtLeastAfter w r (number c.numbers s) (w + c.e * c.k) j (power (process_at model v).total (c.k * j)) (memoryless_cost (process_at model v) (charge r.costs) choice (c.k * j) s)
