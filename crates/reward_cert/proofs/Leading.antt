-- Rows that lead to lower ranks, at a valuation; and values from 0 on.
use Rattle.std.proofs.Common.{ℕ, ◌^◌, ℤ, pos, ◌*ℤ◌, ◌≤ℤ◌, refl, ap, arith}
use Rattle.lift_poly.specs.Polynomial.{Valuation}
use Rattle.lift_poly.proofs.Ring.{linear, one-mul}
use Rattle.lift_grid.specs.Rectangle.{Spans, Inside}
use Rattle.lift_grid.specs.Tree.{RejectData}
use Rattle.lift_model.specs.Process.{weighted_sum}
use Rattle.lift_model.specs.Model.{support, row_at, moves_at, process_at}
use Rattle.corner_lift.specs.Corner.{corner, whole}
use Rattle.corner_lift.specs.Case.{CaseData, IsCase, IsInside}
use Rattle.corner_lift.specs.Certificate.{MeansAtLeast, mark, ranked_below}
use Rattle.corner_lift.specs.Laws.{MeansAtLeastInside}
use Rattle.reward_cert.specs.Rows.{LeadsOn}
use Rattle.reward_cert.proofs.Bounding.{sum-times}
use Rattle.reward_cert.proofs.Valuations.{row_of, row_is}

pub leads_inside : MeansAtLeastInside → (k : CaseData) (spans : Spans) (c : RejectData) → (is : IsCase k) → (within : IsInside k.root spans) → (v : Valuation) → (inside : Inside k.d spans v) → (s a : ℕ) → LeadsOn k spans c s a
    → (process_at k.model v).total ≤ℤ (weighted_sum (ranked_below (mark c.ranks) (mark c.ranks s)) (row_of (process_at k.model v) s a) *ℤ pos (2 ^ c.e))
leads_inside means k spans c is within v inside s a leads =
    let row = row_at k.model s a in
    let low = ranked_below (mark c.ranks) (mark c.ranks s) in
    let rate = pos (2 ^ c.e) in
    let scaled : MeansAtLeast k spans row (λ t. low t *ℤ rate) (pos 1) = λ b lt. omega (arith, linear, leads b lt, sum-times rate low (moves_at (corner k.d spans (support row) b) row), one-mul (whole k.model k.d spans row)) in
    let bound = means k spans row (λ t. low t *ℤ rate) (pos 1) is within scaled v inside in
    omega (arith, linear, bound, sum-times rate low (moves_at v row), one-mul (process_at k.model v).total, ap (λ moves. weighted_sum low moves *ℤ rate) (row_is k spans is within v inside s a))
