-- The targets of a row, one after another.
use Rattle.std.proofs.Common.{◌≡◌, ◌<◌, ◌≤◌, ◌^◌, ℕ, true, List, length, get_or, pos, ◌≤ℤ◌, All, nat_lt, subst, ap, arith}
use Rattle.std.proofs.lemmas.List.{get_or_default}
use Rattle.std.proofs.lemmas.Bool.{lt-ltb}
use Rattle.std.proofs.lemmas.Nat.{pow_pos}
use Rattle.lift_poly.proofs.Ring.{linear, mul-le, mul-comm, one-mul}
use Rattle.lift_grid.specs.Rectangle.{Spans}
use Rattle.lift_grid.specs.Tree.{RejectData}
use Rattle.lift_model.specs.Model.{support, row_at}
use Rattle.lift_model.specs.Links.{HasChoice, targets_of}
use Rattle.corner_lift.specs.Corner.{parameter_count}
use Rattle.corner_lift.specs.Case.{CaseData, IsCase, IsInside, row_whole, corner_count}
use Rattle.corner_lift.specs.Certificate.{mark, ranked_below}
use Rattle.corner_lift.specs.Laws.{HasRow, ParametersAreTheRoots, SumsAreAtLeast}
use Rattle.lift_cert.specs.RejectMiss.{IsFast, weight_below}

-- what holds of so many of them holds of each, if there are no more
pub all_targets : (P : ℕ → Type 0) (targets : List ℕ) (count : ℕ) → length targets ≤ count → ((i : ℕ) → i < count → P (get_or targets i 0))
    → All P targets
all_targets P targets count end holds k d lt = subst P (get_or_default targets k 0 d lt) (holds k (omega (arith, lt, end)))

-- ---- what they say of the row at its corners

module _ (parameters : ParametersAreTheRoots) (k : CaseData) (spans : Spans) (is : IsCase k) (inside : IsInside k.root spans) (s a : ℕ) (choice : HasChoice k.model s a) where
  there : HasRow k s a
  there = record { state = choice.state; choice = choice.choice }

  corner_there : (c : ℕ) → c < corner_count k s a → c < 2 ^ parameter_count spans (support (row_at k.model s a))
  corner_there c lt =
      let same : 2 ^ parameter_count spans (support (row_at k.model s a)) ≡ corner_count k s a = ap (λ n. 2 ^ n) (parameters k spans (row_at k.model s a) inside.within) in
      omega (arith, lt, same)

  -- a target of lower rank counts
  counts : (ranks : List ℕ) (rank t : ℕ) → mark ranks t < rank → pos 1 ≤ℤ ranked_below (mark ranks) rank t
  counts ranks rank t lt = let below : nat_lt (mark ranks t) rank ≡ true = lt-ltb (mark ranks t) rank lt in rw below (omega (arith, linear))

  pub fast : SumsAreAtLeast → (r : RejectData) → All (λ t. mark r.ranks t < mark r.ranks s) (targets_of (row_at k.model s a)) → (c : ℕ) → c < corner_count k s a → pos 0 ≤ℤ weight_below k spans r s a c → IsFast k spans r s a c
  fast least r all c lt positive =
      let weight = weight_below k spans r s a c in
      let enough = least k spans s a (ranked_below (mark r.ranks) (mark r.ranks s)) (pos 1) is inside there (λ t d at. counts r.ranks (mark r.ranks s) (get_or (targets_of (row_at k.model s a)) t d) (all t d at)) c (corner_there c lt) in
      let some : 1 ≤ 2 ^ r.e = pow_pos r.e in
      let more = mul-le weight (pos 1) (pos (2 ^ r.e)) positive (omega (arith, linear, some)) in
      omega (arith, linear, enough, more, one-mul (row_whole k s a), one-mul weight, mul-comm weight (pos 1))
