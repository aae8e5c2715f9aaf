-- The start: a vector that some corner of each choice keeps from rising.
use Rattle.std.proofs.Common.{◌≡◌, ℕ, zero, suc, ◌^◌, ◌<◌, Bool, false, ℤ, pos, ◌+ℤ◌, ◌≤ℤ◌, arith, nat_lt, ltb-true}
use Rattle.lift_poly.proofs.Ring.{linear, mul-comm, add-mul}
use Rattle.lift_grid.specs.Tree.{RejectData}
use Rattle.lift_grid.specs.Rectangle.{Spans}
use Rattle.corner_lift.specs.Corner.{whole}
use Rattle.corner_lift.specs.Case.{CaseData}
use Rattle.corner_lift.specs.Case.{number}
use Rattle.corner_lift.specs.Certificate.{mark, ranked_below, chosen_row, IsLower}
use Rattle.lower_cert.specs.Capping.{IsClosed, HasNoGoal}
use Rattle.lower_cert.specs.Laws.{ClosedIsAbove}
use Rattle.lower_cert.proofs.Means.{Premises, Place, stand, either_way, level, added, range, held_or_zero, below_lower}

module _ (k : CaseData) (spans : Spans) (inside : ℕ → Bool) (u : ℕ → ℤ) (place : Place k spans) (no_goal : HasNoGoal k inside) (least : (s : ℕ) → pos 0 ≤ℤ u s) (closed : IsClosed k spans inside u) (y : RejectData) (h : IsLower k spans y) (outside : (t : ℕ) → inside t ≡ false → number y.numbers t ≤ℤ u t) where
  -- one less, rank by rank
  sink : (gap : ℕ) → ((t : ℕ) → number y.numbers t ≤ℤ (u t +ℤ pos (suc gap))) → (r s : ℕ) → mark y.ranks s < r → number y.numbers s ≤ℤ (u s +ℤ pos gap)
  sink gap most zero s lt = absurd (omega arith)
  sink gap most (suc r) s lt =
      either_way (inside s)
      (λ i. held_or_zero k spans place y h s (no_goal s i)
      (λ held.
      let a = mark y.picks s in
      let row = chosen_row k y s in
      let w = whole k.model k.d spans row in
      let at = closed s a i held.pick in
      let low = ranked_below (mark y.ranks) (mark y.ranks s) in
      let fits : (t : ℕ) → (number y.numbers t +ℤ low t) ≤ℤ (u t +ℤ pos (suc gap)) =
      λ t. either_way (nat_lt (mark y.ranks t) (mark y.ranks s))
      (λ l. let less : mark y.ranks t < mark y.ranks s = ltb-true (mark y.ranks t) (mark y.ranks s) l in
      rw l (omega (arith, linear, sink gap most r t (omega (arith, less, lt)))))
      (λ l. rw l (omega (arith, linear, most t))) in
      let strict = below_lower k spans place y h s held at.0 at.1.0 (λ t. u t +ℤ pos (suc gap)) (u s +ℤ pos (suc gap)) fits
      (omega (arith, linear, at.1.1, added k spans place s a held.pick at.0 u (λ t. pos (suc gap)), level k spans place s a held.pick at.0 at.1.0 (pos (suc gap)), add-mul (u s) (pos (suc gap)) w, mul-comm w (pos (suc gap)))) in
      omega (arith, linear, strict))
      (λ none_there. omega (arith, linear, none_there, least s)))
      (λ o. omega (arith, linear, outside s o))

  every_gap : (gap : ℕ) → ((t : ℕ) → number y.numbers t ≤ℤ (u t +ℤ pos gap)) → (s : ℕ) → number y.numbers s ≤ℤ u s
  every_gap zero most s = omega (arith, linear, most s)
  every_gap (suc gap) most s = every_gap gap (λ t. sink gap most (suc (mark y.ranks t)) t (omega arith)) s

  pub lies_below : (s : ℕ) → number y.numbers s ≤ℤ u s
  lies_below s = every_gap (2 ^ k.w) (λ t. omega (arith, linear, (range k spans place y h t).1, least t)) s

pub closed_is_above : Premises → ClosedIsAbove
closed_is_above laws k spans inside u is within no_goal least outside closed y h s =
    lies_below k spans inside u (stand laws k spans is within) no_goal least closed y h (outside y h) s
