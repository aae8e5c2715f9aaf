-- What certificates say of schedulers, by steps and probabilities alone: of reach, and of until.
use Rattle.std.specs.Prelude.{ℕ, ◌-◌, ◌*◌, ◌^◌, ◌≤◌, Bool, List, ℤ, pos, ◌+ℤ◌, ◌*ℤ◌, ◌≤ℤ◌}
use Rattle.lift_poly.specs.Polynomial.{Valuation}
use Rattle.lift_grid.specs.Tree.{RejectData}
use Rattle.lift_model.specs.Process.{power}
use Rattle.lift_model.specs.Plan.{Plan, Fits}
use Rattle.lift_model.specs.Reach.{reach}
use Rattle.lift_model.specs.Memoryless.{memoryless_reach}
use Rattle.lift_model.specs.Model.{ModelData, process_at}
use Rattle.property_text.specs.Until.{until, memoryless_until}
use Rattle.property_text.specs.Restricted.{is_safe}
use Rattle.corner_lift.specs.Case.{number}
use Rattle.lift_cert.specs.Reached.{Follows}

-- what is reached with so many of `all` runs is at most z over 2 ^ w
abbrev pub IsAtMost : ℕ → ℤ → ℤ → ℤ → Type 0
IsAtMost w z all reached = (reached *ℤ pos (2 ^ w)) ≤ℤ (z *ℤ all)

-- What is reached with so many of `all` runs, after j blocks of k steps, is at least z over 2 ^ w, less (1 - 2 ^ -m) ^ j, m being e k.
abbrev pub IsAtLeast : ℕ → ℤ → ℕ → ℕ → ℤ → ℤ → Type 0
IsAtLeast w z m j all reached = (z *ℤ (pos (2 ^ (m * j)) *ℤ all)) ≤ℤ (pos (2 ^ w) *ℤ (pos (2 ^ (m * j)) *ℤ reached +ℤ pos ((2 ^ m - 1) ^ j) *ℤ all))

-- every scheduler reaches the goal from the initial state with at least what the certificate tells
abbrev pub IsReachedByAllAt : ModelData → Valuation → ℕ → RejectData → Type 0
IsReachedByAllAt m v w r =
    (q j : ℕ) (p : Plan) → Fits (process_at m v) q (r.k * j) m.init p
    → IsAtLeast w (number r.numbers m.init) (r.e * r.k) j (power (pos q *ℤ (process_at m v).total) (r.k * j)) (reach (process_at m v) q (r.k * j) m.init p)

-- each memoryless scheduler that makes the printed choices reaches it with at most what the certificate tells
abbrev pub IsBoundedForOneAt : ModelData → Valuation → ℕ → List ℤ → List ℕ → Type 0
IsBoundedForOneAt m v w x picks =
    (choice : ℕ → ℕ) (n : ℕ) → Follows m picks choice
    → IsAtMost w (number x m.init) (power (process_at m v).total n) (memoryless_reach (process_at m v) choice n m.init)

-- ---- the same of until

-- each plan's until from the initial state is at least what the certificate tells
abbrev pub UntilOfAllIsAtLeast : ModelData → List Bool → Valuation → ℕ → RejectData → Type 0
UntilOfAllIsAtLeast m safe v w r =
    (q j : ℕ) (p : Plan) → Fits (process_at m v) q (r.k * j) m.init p
    → IsAtLeast w (number r.numbers m.init) (r.e * r.k) j (power (pos q *ℤ (process_at m v).total) (r.k * j)) (until (process_at m v) (is_safe safe) q (r.k * j) m.init p)

-- it is at most what the vector tells
abbrev pub UntilOfAllIsAtMost : ModelData → List Bool → Valuation → ℕ → List ℤ → Type 0
UntilOfAllIsAtMost m safe v w x =
    (q n : ℕ) (p : Plan) → 1 ≤ q → Fits (process_at m v) q n m.init p
    → IsAtMost w (number x m.init) (power (pos q *ℤ (process_at m v).total) n) (until (process_at m v) (is_safe safe) q n m.init p)

-- until of each memoryless scheduler that makes the printed choices is at most what the vector tells
abbrev pub UntilOfOneIsAtMost : ModelData → List Bool → Valuation → ℕ → List ℤ → List ℕ → Type 0
UntilOfOneIsAtMost m safe v w x picks =
    (choice : ℕ → ℕ) (n : ℕ) → Follows m picks choice
    → IsAtMost w (number x m.init) (power (process_at m v).total n) (memoryless_until (process_at m v) (is_safe safe) choice n m.init)

-- it is at least what the certificate tells
abbrev pub UntilOfOneIsAtLeast : ModelData → List Bool → Valuation → ℕ → RejectData → Type 0
UntilOfOneIsAtLeast m safe v w r =
    (choice : ℕ → ℕ) (j : ℕ) → Follows m r.picks choice
    → IsAtLeast w (number r.numbers m.init) (r.e * r.k) j (power (process_at m v).total (r.k * j)) (memoryless_until (process_at m v) (is_safe safe) choice (r.k * j) m.init)
