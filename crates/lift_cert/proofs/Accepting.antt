-- What an accepting certificate shows.
use Rattle.std.proofs.Common.{◌≡◌, ℕ, zero, suc, ◌^◌, List, [], ◌∷◌, map, get_or, All, ℤ, pos, ◌*ℤ◌, ◌≤ℤ◌, ◌<ℤ◌, arith}
use Rattle.std.specs.List.{AllByRecursion}
use Rattle.std.proofs.lemmas.Nat.{pow_pos}
use Rattle.std.proofs.lemmas.List.Elements.{All-head, All-tail}
use Rattle.lift_poly.specs.Polynomial.{Valuation, weight, denominator}
use Rattle.lift_poly.proofs.Ring.{linear, mul-comm, mul-le, mul-nonneg, mul-le_cancel, as_diff, diffs, diff-same}
use Rattle.lift_model.specs.Process.{Move, power, weighted_sum}
use Rattle.lift_model.specs.Reach.{reach}
use Rattle.lift_model.specs.Laws.{AreNonNegative}
use Rattle.lift_model.specs.Tossing.{TossesAreBounded}
use Rattle.lift_model.specs.declared.entry.Entry.{Entry}
use Rattle.lift_model.specs.Model.{ModelData, choices, moves_at, process_at}
use Rattle.lift_grid.specs.Rectangle.{Spans, Inside}
use Rattle.corner_lift.specs.Case.{CaseData, IsCase, IsInside, number}
use Rattle.corner_lift.specs.Certificate.{IsUpper}
use Rattle.corner_lift.specs.Laws.{NumbersAreInRange, WeightsInside, MeansAtMostInside}
use Rattle.lift_cert.specs.Certificate.{IsAccepting}
use Rattle.lift_cert.specs.Laws.{AcceptingBounds, LeastRefutes}
use Rattle.lift_cert.specs.declared.bound.Bound.{Bound}
use Rattle.lift_cert.specs.Bounded.{IsBoundedAt}
use Rattle.lift_cert.proofs.Inductive.{IsInductive, reach_bound, power-least}

swapped : (a r t : ℤ) → a *ℤ (r *ℤ t) ≡ t *ℤ (r *ℤ a)
swapped a r t = rw (as_diff a, as_diff r, as_diff t) (simp diffs (diff-same _ _ _ _ (omega arith)))

shuffled : (a x k : ℤ) → a *ℤ (x *ℤ k) ≡ k *ℤ (x *ℤ a)
shuffled a x k = rw (as_diff a, as_diff x, as_diff k) (simp diffs (diff-same _ _ _ _ (omega arith)))

shuffled_more : (k n t : ℤ) → k *ℤ (n *ℤ t) ≡ t *ℤ (n *ℤ k)
shuffled_more k n t = rw (as_diff k, as_diff n, as_diff t) (simp diffs (diff-same _ _ _ _ (omega arith)))

-- where the vector is inductive at the valuation, and within the bound at the initial state, every scheduler is bounded
pub inductive_bounded : TossesAreBounded → (m : ModelData) (v : Valuation) (w : ℕ) (x : List ℤ) (bound : Bound) → IsInductive (process_at m v) (pos (2 ^ w)) (number x) → (number x m.init *ℤ pos bound.den) ≤ℤ (pos bound.num *ℤ pos (2 ^ w)) → IsBoundedAt m v bound
inductive_bounded tosses m v w x bound inductive limit q n p from_one fits =
    let process = process_at m v in
    let top = pos (2 ^ w) in
    let k = power (pos q *ℤ process.total) n in
    let k_least : pos 0 ≤ℤ k = power-least (pos q *ℤ process.total) n (mul-nonneg (pos q) process.total (omega (arith, linear)) inductive.total) in
    let r = reach process q n m.init p in
    let reached = reach_bound tosses process top (number x) inductive q n m.init p fits in
    let first = mul-le (pos bound.den) (r *ℤ top) (number x m.init *ℤ k) (omega (arith, linear)) reached in
    let second = mul-le k _ _ k_least limit in
    let top_positive : pos 0 <ℤ top = omega (arith, linear, pow_pos w) in
    mul-le_cancel top (r *ℤ pos bound.den) (pos bound.num *ℤ k) top_positive
    (omega (arith, linear, first, second, swapped (pos bound.den) r top, shuffled (pos bound.den) (number x m.init) k, shuffled_more k (pos bound.num) top))

-- ---- cases

-- P holds of the moves of each row
all_moves : (P : List Move → Type 0) (v : Valuation) (rows : List (List Entry)) → All (λ row. P (moves_at v row)) rows → AllByRecursion P (map (moves_at v) rows)
all_moves P v [] h = tt
all_moves P v (row ∷ rows) h = let Holds : List Entry → Type 0 = λ (r : List Entry). P (moves_at v r) in (All-head Holds row rows h, all_moves P v rows (All-tail Holds row rows h))

-- P holds of what stands at a place, or beyond the last one
at_place : (P : List (List Entry) → Type 0) (states : List (List (List Entry))) (s : ℕ) → P [] → All P states → P (get_or states s [])
at_place P [] s none h = none
at_place P (state ∷ states) zero none h = All-head P state states h
at_place P (state ∷ states) (suc s) none h = at_place P states s none (All-tail P state states h)

pub denominator-least : (d : ℤ) (ss : Spans) (v : Valuation) → Inside d ss v → pos 0 ≤ℤ denominator v
denominator-least d [] [] h = omega (arith, linear)
denominator-least d (s ∷ ss) (x ∷ v) h = mul-nonneg x.1 (denominator v) (omega (arith, linear, h.0)) (denominator-least d ss v h.3)
denominator-least d [] (x ∷ v) h = absurd h
denominator-least d (s ∷ ss) [] h = absurd h

pub moves_least : (v : Valuation) (row : List Entry) → All (λ entry. pos 0 ≤ℤ weight v entry.poly) row → AreNonNegative (moves_at v row)
moves_least v [] h = tt
moves_least v (e ∷ row) h = let least : Entry → Type 0 = λ entry. pos 0 ≤ℤ weight v entry.poly in (All-head least e row h, moves_least v row (All-tail least e row h))

-- What the laws of rows give, for a rectangle of a case and a valuation inside it.
module _ (numbers : NumbersAreInRange) (weights : WeightsInside) (most : MeansAtMostInside) (k : CaseData) (spans : Spans) (is : IsCase k) (within : IsInside k.root spans) (v : Valuation) (inside : Inside k.d spans v) where
  -- an upper vector of the rectangle is inductive at each valuation inside
  pub upper_inductive : (x : List ℤ) → IsUpper k spans x → IsInductive (process_at k.model v) (pos (2 ^ k.w)) (number x)
  upper_inductive x upper =
      let process = process_at k.model v in
      let common_least : pos 0 ≤ℤ k.model.common = omega (arith, linear, is.asked.model.denominator.0) in
      record {
        total = mul-nonneg k.model.common (denominator v) common_least (denominator-least k.d spans v inside);
        least = λ s. (numbers k x s upper.numbers).0;
        goal = upper.goal;
        weights =
            λ s. at_place (λ rows. AllByRecursion AreNonNegative (map (moves_at v) rows)) k.model.states s tt
            (λ i d lt. all_moves AreNonNegative v (get_or k.model.states i d) (λ a r at. moves_least v (get_or (get_or k.model.states i d) a r) (weights k spans v is within inside i d lt a r at)));
        means =
            λ s e. all_moves (λ moves. weighted_sum (number x) moves ≤ℤ (number x s *ℤ process.total)) v (choices k.model s)
            (λ a r at. most k spans (get_or (choices k.model s) a r) x (number x s) is within (upper.means s e a r at) v inside);
      }

  bounded : TossesAreBounded → (bound : Bound) (x : List ℤ) → IsAccepting k spans bound x → IsBoundedAt k.model v bound
  bounded tosses bound x accepting = inductive_bounded tosses k.model v k.w x bound (upper_inductive x accepting.upper) accepting.limit

pub accepting_bounds : TossesAreBounded → NumbersAreInRange → WeightsInside → MeansAtMostInside → AcceptingBounds
accepting_bounds tosses numbers weights most k spans bound x is within accepting v inside = bounded numbers weights most k spans is within v inside tosses bound x accepting

-- ---- the least upper vector decides

pub least_refutes : LeastRefutes
least_refutes k spans bound x least beyond y accepting =
    let lower = mul-le (pos bound.den) (number x k.model.init) (number y k.model.init) (omega (arith, linear)) (least.least y accepting.upper k.model.init) in
    omega (arith, linear, beyond, accepting.limit, lower, mul-comm (number x k.model.init) (pos bound.den), mul-comm (number y k.model.init) (pos bound.den))
