-- Rows whose targets all have a low rank: all their weight leads there.
use Rattle.std.proofs.Common.{◌≡◌, ℕ, ◌<◌, List, [], All, length, pos, ◌*ℤ◌, ◌≤ℤ◌, ap, arith, lt-ltb}
use Rattle.std.proofs.lemmas.List.Elements.{All-map}
use Rattle.lift_poly.proofs.Ring.{linear, mul-comm, one-mul}
use Rattle.lift_grid.specs.Rectangle.{Spans}
use Rattle.lift_model.specs.declared.entry.Entry.{Entry}
use Rattle.lift_model.specs.Process.{power}
use Rattle.lift_model.specs.Model.{row_at}
use Rattle.lift_model.specs.Links.{HasChoice, targets_of}
use Rattle.corner_lift.specs.Corner.{AtCorners, corner_sum, whole}
use Rattle.corner_lift.specs.Case.{CaseData, IsCase, IsInside, row_whole}
use Rattle.corner_lift.specs.Certificate.{mark, ranked_below}
use Rattle.corner_lift.specs.Stages.{LeadsBelow}
use Rattle.corner_lift.specs.Laws.{ParametersAreTheRoots, SumsAreAtLeast}
use Rattle.robust_rank.specs.Rate.{IsRowRate, IsFirstFrom}
use Rattle.robust_rank.proofs.Means.{row_there, whole-positive}
use Rattle.robust_rank.proofs.Doubling.{enough_more}

-- a row leads to states
pub targets_inside : (k : CaseData) (s a n : ℕ) → IsCase k → HasChoice k.model s a → n ≡ length k.model.states → All (λ t. t < n) (targets_of (row_at k.model s a))
targets_inside k s a n is has size =
    let entries = (is.asked.model.rows s [] has.state a [] has.choice).entries in
    All-map (λ t. t < n) (λ (entry : Entry). entry.target) (row_at k.model s a) (λ i d lt. let entry = entries i d lt in omega (arith, entry.target, size))

module _ (k : CaseData) (spans : Spans) (is : IsCase k) (within : IsInside k.root spans) (parameters : ParametersAreTheRoots) (least : SumsAreAtLeast) where
  -- its weight there is the whole
  whole_below : (rank : ℕ → ℕ) (below s a : ℕ) → HasChoice k.model s a → All (λ t. rank t < below) (targets_of (row_at k.model s a))
      → AtCorners spans (row_at k.model s a) (λ c. whole k.model k.d spans (row_at k.model s a) ≤ℤ corner_sum k.d spans (row_at k.model s a) c (ranked_below rank below))
  whole_below rank below s a has all c lt =
      let row = row_at k.model s a in
      let ones : All (λ t. pos 1 ≤ℤ ranked_below rank below t) (targets_of row) = λ i d at. let there = lt-ltb (rank _) below (all i d at) in rw there (omega (arith, linear)) in
      let wholes : whole k.model k.d spans row ≡ row_whole k s a = ap (λ n. k.model.common *ℤ power k.d n) (parameters k spans row within.within) in
      omega (arith, linear, wholes, one-mul (row_whole k s a), least k spans s a (ranked_below rank below) (pos 1) is within (row_there k s a has.choice) ones c lt)

  -- so it leads below
  pub only_leads : (rank : ℕ → ℕ) (below s a : ℕ) → HasChoice k.model s a → All (λ t. rank t < below) (targets_of (row_at k.model s a)) → LeadsBelow k spans rank below s a
  only_leads rank below s a has all c lt = omega (arith, linear, whole_below rank below s a has all c lt, whole-positive k spans (row_at k.model s a) is)

  -- and each rate is one of the row
  pub only_rate : (ranks : List ℕ) (s a first : ℕ) → HasChoice k.model s a → All (λ t. mark ranks t < mark ranks s) (targets_of (row_at k.model s a)) → IsFirstFrom (IsRowRate k spans ranks s a) first first
  only_rate ranks s a first has all = record {
    from = omega arith;
    holds = λ c lt.
        let row = row_at k.model s a in
        let sum = corner_sum k.d spans row c (ranked_below (mark ranks) (mark ranks s)) in
        let once = mul-comm sum (pos 1) in
        enough_more sum (whole k.model k.d spans row) 0 first (whole-positive k spans row is) (omega arith) (omega (arith, linear, whole_below (mark ranks) (mark ranks s) s a has all c lt, once, one-mul sum));
    least = λ m le enough. le;
  }
