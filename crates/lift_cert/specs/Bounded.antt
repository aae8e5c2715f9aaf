-- What an accepting certificate says of a model's schedulers. It speaks of steps and probabilities alone.
use Rattle.std.specs.Prelude.{ℕ, ◌≤◌, pos, ◌*ℤ◌, ◌≤ℤ◌}
use Rattle.lift_poly.specs.Polynomial.{Valuation}
use Rattle.lift_model.specs.Process.{power}
use Rattle.lift_model.specs.Plan.{Plan, Fits}
use Rattle.lift_model.specs.Reach.{reach}
use Rattle.lift_model.specs.Model.{ModelData, process_at}
use Rattle.lift_cert.specs.declared.bound.Bound.{Bound}

-- At the valuation every scheduler, also one that tosses, reaches the goal from the initial state with probability at most the bound, within n steps for every n.
abbrev pub IsBoundedAt : ModelData → Valuation → Bound → Type 0
IsBoundedAt m v bound =
    (q n : ℕ) (p : Plan) → 1 ≤ q → Fits (process_at m v) q n m.init p →
    (reach (process_at m v) q n m.init p *ℤ pos bound.den) ≤ℤ (pos bound.num *ℤ power (pos q *ℤ (process_at m v).total) n)
