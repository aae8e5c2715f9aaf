-- What may be tested: vectors that have the form of a certificate.
use Rattle.std.specs.Prelude.{◌≡◌, ℕ, ◌<◌, ◌≤◌, ◌⊎◌, true, false, List, IfSome, length}
use Rattle.lift_grid.specs.Tree.{RejectData}
use Rattle.lift_model.specs.Model.{is_goal, choices}
use Rattle.corner_lift.specs.Case.{CaseData}
use Rattle.corner_lift.specs.Certificate.{AreNumbers, mark, unmarked, most_rate}
use Rattle.lift_cert.specs.RejectMiss.{most_height}
use Rattle.audit_cert.specs.Claim.{ClaimData}

-- a chosen row for each state: goal states have none, and any other state has one of its choices
pub record HasPicks (k : CaseData) (picks : List ℕ) : Type 0 where
  pub size : length picks ≡ length k.model.states
  pub goal : (s : ℕ) → is_goal k.model s ≡ true → mark picks s ≡ unmarked
  pub others : (s : ℕ) → s < length k.model.states → is_goal k.model s ≡ false → mark picks s < length (choices k.model s)

-- a rank for each state, a rate and a height: goal states have rank 0, and any other state has a rank from 1 to k, or none
pub record HasRanks (k : CaseData) (r : RejectData) : Type 0 where
  pub size : length r.ranks ≡ length k.model.states
  pub bounds : (r.e ≤ most_rate) × (1 ≤ r.k) × (r.k ≤ most_height)
  pub goal : (s : ℕ) → is_goal k.model s ≡ true → mark r.ranks s ≡ 0
  pub others : (s : ℕ) → is_goal k.model s ≡ false → (mark r.ranks s ≡ unmarked) ⊎ ((1 ≤ mark r.ranks s) × (mark r.ranks s ≤ r.k))

-- what a claim has to be before it is tested
pub record HasForm (k : CaseData) (c : ClaimData) : Type 0 where
  pub numbers : AreNumbers k c.numbers
  pub targets : AreNumbers k c.targets
  pub picks : IfSome c.picks (HasPicks k)
  pub ranking : IfSome c.ranking (HasRanks k)
