-- Sums over weights as a table has them, and what keeps them within 128 bits.
use Rattle.std.specs.Prelude.{◌≡◌, ◌==◌, if◌then◌else◌, ℕ, ◌+◌, ◌*◌, ◌<◌, ◌≤◌, ◌^◌, List, [], ◌∷◌, length, take, drop, All, ℤ, pos, ◌+ℤ◌, ◌*ℤ◌, ◌≤ℤ◌, ◌<ℤ◌}
use Rattle.lift_model.specs.declared.layout.RowPlace.{RowPlace}
use Rattle.corner_lift.specs.Case.{engine_limit}

-- the sum of weight times the target's number
abbrev pub dot : (ℕ → ℤ) → List ℤ → List ℕ → ℤ
dot number [] targets = pos 0
dot number (weight ∷ weights) [] = pos 0
dot number (weight ∷ weights) (target ∷ targets) = weight *ℤ number target +ℤ dot number weights targets

-- 1 for the state, and 0 for any other
abbrev pub only_at : ℕ → ℕ → ℤ
only_at s t = if t == s then pos 1 else pos 0

-- the numbers of the states, but 0 for this one
abbrev pub but_at : ℕ → (ℕ → ℤ) → ℕ → ℤ
but_at s number t = if t == s then pos 0 else number t

-- the sum of the weights
abbrev pub total : List ℤ → ℤ
total [] = pos 0
total (weight ∷ weights) = weight +ℤ total weights

-- the weights of a corner of the row that stands at that place
abbrev pub corner_part : List ℤ → RowPlace → ℕ → List ℤ
corner_part weights place c = take place.count (drop (place.weights + place.count * c) weights)

-- the sum is within the engine's limit, and so is each part of it, as nothing is negative
pub record CanSum (number : ℕ → ℤ) (weights : List ℤ) (targets : List ℕ) : Type 0 where
  pub sizes : length weights ≡ length targets
  pub weights_least : All (λ weight. pos 0 ≤ℤ weight) weights
  pub numbers_least : (t : ℕ) → pos 0 ≤ℤ number t
  pub room : dot number weights targets <ℤ pos engine_limit

-- the sums at the corners of the row that stands at that place can be formed
pub record CanCompare (number : ℕ → ℤ) (weights : List ℤ) (targets : List ℕ) (place : RowPlace) : Type 0 where
  pub some : 1 ≤ place.corners
  pub ends : place.weights + place.count * place.corners ≤ length weights
  pub sums : (c : ℕ) → c < place.corners → CanSum number (corner_part weights place c) targets

-- the limit of a signed number of 64 bits
abbrev pub lane_limit : ℕ
lane_limit = 2 ^ 63

-- numbers of 64 bits hold the weights and the sum, and so each part of it
pub record FitsLane (number : ℕ → ℤ) (weights : List ℤ) (targets : List ℕ) : Type 0 where
  pub weights_fit : total weights <ℤ pos lane_limit
  pub sum_fits : dot number weights targets <ℤ pos lane_limit

-- they do at each corner of the row that stands at that place
abbrev pub FitsLaneAtCorners : (ℕ → ℤ) → List ℤ → List ℕ → RowPlace → Type 0
FitsLaneAtCorners number weights targets place = (c : ℕ) → c < place.corners → FitsLane number (corner_part weights place c) targets
