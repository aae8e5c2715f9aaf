-- A row as the code has it before it is weighed: where it stands in the table of a rectangle, and its targets.
use Rattle.std.specs.Prelude.{◌≡◌, ℕ, ◌+◌, ◌-◌, ◌*◌, ◌^◌, ◌<◌, ◌≤◌, List, ℤ, pos, ◌≤ℤ◌, ◌<ℤ◌, length, All}
use Rattle.lift_grid.specs.Rectangle.{Spans}
use Rattle.lift_model.specs.declared.layout.RowPlace.{RowPlace}
use Rattle.lift_model.specs.Model.{row_at}
use Rattle.lift_model.specs.Links.{targets_of}
use Rattle.corner_lift.specs.Corner.{corner_sum}
use Rattle.corner_lift.specs.Certificate.{AreNumbers}
use Rattle.corner_lift.specs.Case.{CaseData, IsCase, number, corner_count, row_whole}
use Rattle.corner_lift.specs.Dot.{dot, total, corner_part, CanSum, CanCompare, FitsLaneAtCorners}
use Rattle.corner_lift.specs.Table.{IsWhole}

-- a row's place in the table of a rectangle, with its targets: what they give at each corner is what the row gives there
pub record IsReadRow (k : CaseData) (spans : Spans) (weights : List ℤ) (s a : ℕ) (place : RowPlace) (targets : List ℕ) : Type 0 where
  pub case : IsCase k
  pub leads : targets ≡ targets_of (row_at k.model s a)
  pub inside : All (λ t. t < length k.model.states) targets
  pub count : place.count ≡ length targets
  pub corners : place.corners ≡ corner_count k s a
  pub some : 1 ≤ place.corners
  pub ends : place.weights + place.count * place.corners ≤ length weights
  pub sums : (c : ℕ) → c < place.corners → (x : ℕ → ℤ) → dot x (corner_part weights place c) targets ≡ corner_sum k.d spans (row_at k.model s a) c x
  pub least : (c : ℕ) → c < place.corners → All (λ weight. pos 0 ≤ℤ weight) (corner_part weights place c)
  pub totals : (c : ℕ) → c < place.corners → total (corner_part weights place c) ≡ row_whole k s a
  pub whole : IsWhole k s a (row_whole k s a)
  pub can_compare : (x : List ℤ) → AreNumbers k x → CanCompare (number x) weights targets place
  pub can_sum : (c : ℕ) → c < place.corners → (x : ℕ → ℤ) → ((t : ℕ) → (pos 0 ≤ℤ x t) × (x t ≤ℤ pos 1)) → CanSum x (corner_part weights place c) targets
  pub lane : (x : List ℤ) → AreNumbers k x → row_whole k s a <ℤ pos (2 ^ (63 - k.w)) → FitsLaneAtCorners (number x) weights targets place
