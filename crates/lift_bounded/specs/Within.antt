-- What certificates by steps say of a model's schedulers. It speaks of steps and probabilities alone.
use Rattle.std.specs.Prelude.{◌≡◌, ℕ, ◌+◌, ◌<◌, ◌≤◌, List, pos, ◌*ℤ◌, ◌≤ℤ◌, ◌<ℤ◌, length}
use Rattle.lift_poly.specs.Polynomial.{Valuation}
use Rattle.lift_model.specs.Process.{power}
use Rattle.lift_model.specs.Plan.{Plan, Fits}
use Rattle.lift_model.specs.Reach.{reach}
use Rattle.lift_model.specs.Model.{ModelData, choices, process_at}
use Rattle.lift_model.specs.Timed.{timed_reach}
use Rattle.corner_lift.specs.Certificate.{mark}
use Rattle.lift_cert.specs.declared.bound.Bound.{Bound}
use Rattle.lift_bounded.specs.Steps.{nth}

-- At the valuation every scheduler, also one that tosses, reaches the goal from the initial state within h steps with probability at most the bound.
abbrev pub IsBoundedWithin : ModelData → Valuation → Bound → ℕ → Type 0
IsBoundedWithin m v bound h =
    (q : ℕ) (p : Plan) → 1 ≤ q → Fits (process_at m v) q h m.init p →
    (reach (process_at m v) q h m.init p *ℤ pos bound.den) ≤ℤ (pos bound.num *ℤ power (pos q *ℤ (process_at m v).total) h)

-- where n + 1 steps are left, the scheduler makes the choice that list n has for a state, wherever it has one
abbrev pub FollowsTimed : ModelData → List (List ℕ) → (ℕ → ℕ → ℕ) → Type 0
FollowsTimed m picks choice = (n s : ℕ) → mark (nth picks n) s < length (choices m s) → choice (n + 1) s ≡ mark (nth picks n) s

-- At the valuation every scheduler that makes the printed choices reaches the goal from the initial state within h steps with a probability above the bound.
abbrev pub IsReachedWithin : ModelData → Valuation → Bound → ℕ → List (List ℕ) → Type 0
IsReachedWithin m v bound h picks =
    (choice : ℕ → ℕ → ℕ) → FollowsTimed m picks choice →
    (pos bound.num *ℤ power (process_at m v).total h) <ℤ (timed_reach (process_at m v) choice h m.init *ℤ pos bound.den)
