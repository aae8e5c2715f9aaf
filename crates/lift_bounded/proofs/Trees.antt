-- A case has a right tree for each bound and each number of steps: the last of the least upper vectors is within the bound at the initial state, or that of the greatest lower ones is beyond it, or the rectangle is open.
use Rattle.std.proofs.Common.{ℕ, ◌^◌, ◌⊎◌, inl, inr, ⊎_elim, ℤ, pos, ◌*ℤ◌}
use Rattle.std.proofs.lemmas.Int.{by_lt_z}
use Rattle.lift_grid.specs.Rectangle.{Spans}
use Rattle.corner_lift.specs.Case.{CaseData, IsCase, IsInside, number}
use Rattle.corner_lift.specs.Laws.{LiveHasSpan}
use Rattle.lift_cert.specs.Certificate.{IsWithin, IsBeyond}
use Rattle.lift_cert.specs.declared.bound.Bound.{Bound}
use Rattle.lift_walk.specs.Laws.{RootIsAtDepth, HalvesAreDeeper}
use Rattle.lift_bounded.specs.Steps.{nth}
use Rattle.lift_bounded.specs.Decided.{BoundedLeaf, DecidesWithin, IsOpenWithin}
use Rattle.lift_bounded.specs.Laws.{LeastUppersExist, GreatestLowersExist, LeastUppersRefute, GreatestLowersRefute, BoundedTreesExist}
use Rattle.lift_bounded.proofs.Halving.{right_tree}

within_or_beyond : (bound : Bound) (w : ℕ) (n : ℤ) → IsWithin bound w n ⊎ IsBeyond bound w n
within_or_beyond bound w n = by_lt_z (pos bound.num *ℤ pos (2 ^ w)) (n *ℤ pos bound.den) (λ lt. inr lt) (λ le. inl le)

module _ (uppers : LeastUppersExist) (lowers : GreatestLowersExist) (none_accept : LeastUppersRefute) (none_reject : GreatestLowersRefute) (k : CaseData) (bound : Bound) (h : ℕ) (is : IsCase k) where
  abbrev Outcome : Spans → Type 0
  Outcome ss = ((l : BoundedLeaf) × DecidesWithin k bound h ss l) ⊎ IsOpenWithin k bound h ss

  -- a leaf decides the rectangle, or it is open
  pub outcome : (ss : Spans) → IsInside k.root ss → Outcome ss
  outcome ss inside =
      let upper = uppers k ss h is inside in
      let lower = lowers k ss h is inside in
      let xs = upper.0 in
      let r = lower.0 in
      ⊎_elim
      (λ (within : IsWithin bound k.w (number (nth xs h) k.model.init)).
      let yes : Outcome ss = inl (BoundedLeaf.accept xs, (record { uppers = upper.1.uppers; limit = within }, upper.1)) in yes)
      (λ (past : IsBeyond bound k.w (number (nth xs h) k.model.init)).
      let none = none_accept k ss bound h xs upper.1 past in
      ⊎_elim
      (λ (within : IsWithin bound k.w (number (nth r.numbers h) k.model.init)).
      let open_one : Outcome ss = inr (none, none_reject k ss bound h r lower.1 within) in open_one)
      (λ (beyond : IsBeyond bound k.w (number (nth r.numbers h) k.model.init)).
      let no : Outcome ss = inl (BoundedLeaf.reject r, (none, record { lowers = lower.1.lowers; limit = beyond }, lower.1)) in no)
      (within_or_beyond bound k.w (number (nth r.numbers h) k.model.init)))
      (within_or_beyond bound k.w (number (nth xs h) k.model.init))

pub bounded_trees_exist : LeastUppersExist → GreatestLowersExist → LeastUppersRefute → GreatestLowersRefute → LiveHasSpan → RootIsAtDepth → HalvesAreDeeper → BoundedTreesExist
bounded_trees_exist uppers lowers none_accept none_reject has_span root halves k bound h is =
    right_tree (DecidesWithin k bound h) (IsOpenWithin k bound h) has_span halves k is (outcome uppers lowers none_accept none_reject k bound h is) (root k is)
