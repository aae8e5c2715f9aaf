-- The greatest lower vector for every scheduler, by its other side: what a scheduler does at most to come to the states without rank before the goal. Ranks are found first, as they depend on no vector.
use Rattle.std.specs.Prelude.{◌≡◌, ℕ, ◌^◌, ◌<◌, ◌≤◌, true, false, List, [], ℤ, pos, ◌-ℤ◌, ◌*ℤ◌, ◌≤ℤ◌, All, length}
use Rattle.lift_grid.specs.Rectangle.{Spans}
use Rattle.lift_grid.specs.Tree.{RejectData}
use Rattle.lift_model.specs.declared.entry.Entry.{Entry}
use Rattle.lift_model.specs.Model.{is_goal, choices}
use Rattle.corner_lift.specs.Corner.{AtCorners, corner_sum, whole}
use Rattle.corner_lift.specs.Case.{CaseData, IsCase, IsInside, number}
use Rattle.corner_lift.specs.Certificate.{AreNumbers, MeansAtMost, AtMost, unmarked, mark, ranked_below, most_rate}
use Rattle.corner_lift.specs.Stages.{LeadsBelow}
use Rattle.lift_dual.specs.Sides.{IsLowerAll}

-- ---- ranks

-- each choice of the state leads, at every corner and with positive weight, into states whose rank is below r
abbrev pub AllLeadBelow : CaseData → Spans → (ℕ → ℕ) → ℕ → ℕ → Type 0
AllLeadBelow k spans rank r s = (a : ℕ) → a < length (choices k.model s) → LeadsBelow k spans rank r s a

-- ranks by stages: rank 0 on goal states, and elsewhere the number of the first stage that has the state, each stage having every state all of whose choices lead into the stages before
pub record AreStagesOfAll (k : CaseData) (spans : Spans) (rank : ℕ → ℕ) : Type 0 where
  pub goal : (s : ℕ) → is_goal k.model s ≡ true → rank s ≡ 0
  pub reached : (s : ℕ) → is_goal k.model s ≡ false → rank s < unmarked → (1 ≤ rank s) × AllLeadBelow k spans rank (rank s) s
  pub first : (s : ℕ) → s < length k.model.states → is_goal k.model s ≡ false → (r : ℕ) → r < unmarked → AllLeadBelow k spans rank r s → rank s ≤ r

-- ---- vectors

-- An upper vector of what comes to the states without rank: 2 ^ w on these, 0 on goal states, and elsewhere at least the weighted mean, for each choice and at each corner.
pub record IsAvoiding (k : CaseData) (spans : Spans) (rank : ℕ → ℕ) (z : List ℤ) : Type 0 where
  pub numbers : AreNumbers k z
  pub goal : (s : ℕ) → is_goal k.model s ≡ true → number z s ≡ pos 0
  pub lost : (s : ℕ) → s < length k.model.states → is_goal k.model s ≡ false → unmarked ≤ rank s → number z s ≡ pos (2 ^ k.w)
  pub means : (s : ℕ) → is_goal k.model s ≡ false → rank s < unmarked → All (λ row. MeansAtMost k spans row z (number z s)) (choices k.model s)

-- the one that is least at each state
pub record IsLeastAvoiding (k : CaseData) (spans : Spans) (rank : ℕ → ℕ) (z : List ℤ) : Type 0 where
  pub avoiding : IsAvoiding k spans rank z
  pub least : (o : List ℤ) → IsAvoiding k spans rank o → AtMost z o

-- y is what is left of 2 ^ w
pub record IsRest (k : CaseData) (z y : List ℤ) : Type 0 where
  pub size : length y ≡ length k.model.states
  pub each : (s : ℕ) → s < length k.model.states → number y s ≡ pos (2 ^ k.w) -ℤ number z s

-- e is a rate of the row of a state: at each corner the weight into states of lower rank, times 2 ^ e, is at least the whole
abbrev pub IsRateOf : CaseData → Spans → (ℕ → ℕ) → ℕ → ℕ → List Entry → Type 0
IsRateOf k spans rank e s row = AtCorners spans row (λ c. whole k.model k.d spans row ≤ℤ (corner_sum k.d spans row c (ranked_below rank (rank s)) *ℤ pos (2 ^ e)))

-- of each choice of each ranked state that is no goal state
abbrev pub IsRateOfAll : CaseData → Spans → (ℕ → ℕ) → ℕ → Type 0
IsRateOfAll k spans rank e = (s : ℕ) → is_goal k.model s ≡ false → rank s < unmarked → All (IsRateOf k spans rank e s) (choices k.model s)

-- the least such e, and the least k
pub record HasLeast (k : CaseData) (spans : Spans) (r : RejectData) : Type 0 where
  pub rate : (r.e ≤ most_rate) × IsRateOfAll k spans (mark r.ranks) r.e
  pub least_rate : (e : ℕ) → IsRateOfAll k spans (mark r.ranks) e → r.e ≤ e
  pub height : (1 ≤ r.k) × (r.k < unmarked) × ((s : ℕ) → mark r.ranks s < unmarked → mark r.ranks s ≤ r.k)
  pub least_height : (j : ℕ) → 1 ≤ j → ((s : ℕ) → mark r.ranks s < unmarked → mark r.ranks s ≤ j) → r.k ≤ j

-- the lower vector for every scheduler that is greatest at each state, with the ranks of its stages, and the least e and k that these allow
pub record IsGreatestLowerAll (k : CaseData) (spans : Spans) (r : RejectData) : Type 0 where
  pub holds : IsLowerAll k spans r
  pub greatest : (o : RejectData) → IsLowerAll k spans o → AtMost o.numbers r.numbers
  pub stages : AreStagesOfAll k spans (mark r.ranks)
  pub has_least : HasLeast k spans r

-- ---- laws

-- no lower vector for every scheduler has a rank where the stages have none, or a lesser one
abbrev pub StagesAreLeast : Type 0
StagesAreLeast = (k : CaseData) (spans : Spans) (rank : ℕ → ℕ) (o : RejectData) → IsCase k → IsInside k.root spans → AreStagesOfAll k spans rank → IsLowerAll k spans o → (s : ℕ) → s < length k.model.states → mark o.ranks s < unmarked → rank s ≤ mark o.ranks s

-- what is left of a lower vector for every scheduler is avoiding
abbrev pub RestIsAvoiding : Type 0
RestIsAvoiding = (k : CaseData) (spans : Spans) (rank : ℕ → ℕ) (o : RejectData) → IsCase k → IsInside k.root spans → AreStagesOfAll k spans rank → IsLowerAll k spans o
    → (z : List ℤ) × (IsAvoiding k spans rank z × IsRest k o.numbers z)

-- what is left of the least upper vector of what comes to the states that the stages leave without rank is the greatest lower vector for every scheduler
abbrev pub RestIsGreatest : Type 0
RestIsGreatest = (k : CaseData) (spans : Spans) (z : List ℤ) (r : RejectData) → IsCase k → IsInside k.root spans
    → r.picks ≡ [] → length r.ranks ≡ length k.model.states → All (λ rank. rank ≤ unmarked) r.ranks
    → AreStagesOfAll k spans (mark r.ranks) → HasLeast k spans r → IsLeastAvoiding k spans (mark r.ranks) z → IsRest k z r.numbers
    → IsGreatestLowerAll k spans r
