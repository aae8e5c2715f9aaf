-- What a rejecting certificate says of the schedulers that make its choices. It speaks of steps and probabilities alone.
use Rattle.std.specs.Prelude.{◌≡◌, ℕ, ◌-◌, ◌*◌, ◌^◌, ◌<◌, List, pos, ◌+ℤ◌, ◌*ℤ◌, ◌≤ℤ◌, length}
use Rattle.lift_poly.specs.Polynomial.{Valuation}
use Rattle.lift_grid.specs.Tree.{RejectData}
use Rattle.lift_model.specs.Process.{power}
use Rattle.lift_model.specs.Memoryless.{memoryless_reach}
use Rattle.lift_model.specs.Model.{ModelData, choices, process_at}
use Rattle.corner_lift.specs.Case.{number}
use Rattle.corner_lift.specs.Certificate.{mark}

-- the memoryless scheduler makes the choice that is printed for a state, wherever one is printed
abbrev pub Follows : ModelData → List ℕ → (ℕ → ℕ) → Type 0
Follows m picks choice = (s : ℕ) → mark picks s < length (choices m s) → choice s ≡ mark picks s

-- At the valuation every memoryless scheduler that makes the printed choices reaches the goal from the initial state within k j steps with probability at least b - (1 - 2 ^ -m) ^ j, for every j, where b is the initial state's number over 2 ^ w, and m is e k. Multiplied out, with N the process's total: b's numerator times 2 ^ (m j) N ^ (k j) is at most 2 ^ w times the sum of 2 ^ (m j) times what is reached and (2 ^ m - 1) ^ j N ^ (k j).
abbrev pub IsReachedAt : ModelData → Valuation → ℕ → RejectData → Type 0
IsReachedAt model v w r =
    (choice : ℕ → ℕ) (j : ℕ) → Follows model r.picks choice → let total = power (process_at model v).total (r.k * j) in
    let m = r.e * r.k in
    (number r.numbers model.init *ℤ (pos (2 ^ (m * j)) *ℤ total))
    ≤ℤ (pos (2 ^ w) *ℤ (pos (2 ^ (m * j)) *ℤ memoryless_reach (process_at model v) choice (r.k * j) model.init +ℤ pos ((2 ^ m - 1) ^ j) *ℤ total))
