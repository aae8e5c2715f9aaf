-- What a cost certificate shows: by induction on the steps.
use Rattle.std.proofs.Common.{◌≡◌, ℕ, zero, suc, ◌+◌, ◌*◌, ◌<◌, ◌≤◌, ◌^◌, Bool, true, false, cond, List, ℤ, pos, ◌+ℤ◌, ◌-ℤ◌, ◌*ℤ◌, ◌≤ℤ◌, ◌<ℤ◌, refl, arith, ◌⊎◌, inl, inr, IsTrue, get_or}
use Rattle.std.specs.List.{AllByRecursion}
use Rattle.std.proofs.lemmas.Nat.{pow_pos}
use Rattle.lift_poly.specs.Polynomial.{Valuation}
use Rattle.lift_poly.proofs.Ring.{linear, mul-comm, mul-assoc, zero-mul, add-mul, mul-le, mul-nonneg, mul-le_cancel, as_diff, diffs, diff-same, pos_diff}
use Rattle.lift_model.specs.Process.{Process, Move, power, weighted_sum}
use Rattle.lift_model.specs.Plan.{Plan, PlanFits, Fits}
use Rattle.lift_model.specs.Reach.{plan_reach}
use Rattle.lift_model.specs.Laws.{AreNonNegative}
use Rattle.lift_model.specs.Model.{ModelData, choices, moves_at, process_at}
use Rattle.lift_model.specs.Tossing.{TossesAreBounded}
use Rattle.lift_frac.specs.Laws.{LcmIsMultiple}
use Rattle.lift_grid.specs.Rectangle.{Spans, Inside}
use Rattle.corner_lift.specs.Case.{CaseData, IsCase, IsInside, number}
use Rattle.corner_lift.specs.Laws.{NumbersAreInRange, WeightsInside, MeansAtMostInside}
use Rattle.lift_costs.specs.Costs.{CostData}
use Rattle.rounded_iter.specs.Priced.{IsPriced}
use Rattle.lift_cost.specs.Expected.{AreCosts, common, charge, expected_cost}
use Rattle.lift_cost.specs.Certificate.{BudgetData, IsCostCertificate, price_over}
use Rattle.lift_cost.specs.Paid.{IsPaidAt}
use Rattle.lift_cost.specs.Laws.{CertificatesBoundCosts, LeastPricedRefutes}
use Rattle.lift_cost.proofs.Cases.{all_moves, weights-least, total-positive, power-least}
use Rattle.lift_cost.proofs.Covering.{reward_covers}

-- a charge over `scale` is at most its price over `top`, and elsewhere than on goal states z is at least the price and each choice's weighted mean
record IsCharged (process : Process) (top scale : ℤ) (charge : ℕ → ℕ) (price z : ℕ → ℤ) : Type 0 where
  total : pos 0 ≤ℤ process.total
  scale_least : pos 0 ≤ℤ scale
  least : (s : ℕ) → pos 0 ≤ℤ z s
  covered : (s : ℕ) → (pos (charge s) *ℤ top) ≤ℤ (price s *ℤ scale)
  weights : (s : ℕ) → AllByRecursion AreNonNegative (process.choices s)
  means : (s : ℕ) → process.goal s ≡ false → AllByRecursion (λ moves. weighted_sum z moves ≤ℤ ((z s -ℤ price s) *ℤ process.total)) (process.choices s)

at_step : (g : Bool) (top r b : ℤ) {F : Type 0} → pos 0 ≤ℤ b → (g ≡ false → F → (r *ℤ top) ≤ℤ b) → IsTrue g ⊎ F → (cond g (pos 0) r *ℤ top) ≤ℤ b
at_step true top r b least step f = omega (arith, linear, least, zero-mul top)
at_step false top r b least step (inl f) = cc
at_step false top r b least step (inr f) = step refl f

paid : (c u t p : ℤ) → (c *ℤ u +ℤ p) *ℤ t ≡ u *ℤ (c *ℤ t) +ℤ p *ℤ t
paid c u t p = rw (as_diff c, as_diff u, as_diff t, as_diff p) (simp diffs (diff-same _ _ _ _ (omega arith)))

gathered : (r z q n m k : ℤ) → ((q *ℤ n) *ℤ k) *ℤ (r *ℤ m) +ℤ (q *ℤ ((z -ℤ r) *ℤ n)) *ℤ (m *ℤ k) ≡ z *ℤ (m *ℤ ((q *ℤ n) *ℤ k))
gathered r z q n m k = rw (as_diff r, as_diff z, as_diff q, as_diff n, as_diff m, as_diff k) (simp diffs (diff-same _ _ _ _ (omega arith)))

-- what every plan pays within n steps, over `scale`, is at most z, over `top`
cost_bound : TossesAreBounded → (process : Process) (top scale : ℤ) (charge : ℕ → ℕ) (price z : ℕ → ℤ) → IsCharged process top scale charge price z → (q n s : ℕ) (p : Plan) → Fits process q n s p → (expected_cost process charge q n s p *ℤ top) ≤ℤ (z s *ℤ (scale *ℤ power (pos q *ℤ process.total) n))
cost_bound tosses process top scale charge price z is q zero s p f =
    let least = mul-nonneg (z s) (scale *ℤ pos 1) (is.least s) (mul-nonneg scale (pos 1) is.scale_least (omega (arith, linear))) in
    omega (arith, linear, least, zero-mul top)
cost_bound tosses process top scale charge price z is q (suc n) s p f =
    let base = pos q *ℤ process.total in
    let base_least : pos 0 ≤ℤ base = mul-nonneg (pos q) process.total (omega (arith, linear)) is.total in
    let k = power base n in
    let k_least : pos 0 ≤ℤ k = power-least base n base_least in
    let all : pos 0 ≤ℤ (base *ℤ k) = mul-nonneg base k base_least k_least in
    at_step (process.goal s) top _ (z s *ℤ (scale *ℤ (base *ℤ k))) (mul-nonneg (z s) (scale *ℤ (base *ℤ k)) (is.least s) (mul-nonneg scale (base *ℤ k) is.scale_least all))
    (λ g fits.
    let first = mul-le (base *ℤ k) (pos (charge s) *ℤ top) (price s *ℤ scale) all (is.covered s) in
    let second = tosses process (expected_cost process charge q n) z top (scale *ℤ k) ((z s -ℤ price s) *ℤ process.total) q n s p (λ t r h. cost_bound tosses process top scale charge price z is q n t r h) (mul-nonneg scale k is.scale_least k_least) (is.weights s) (is.means s g) fits in
    omega (arith, linear, first, second, paid (pos (charge s)) (base *ℤ k) top (plan_reach (expected_cost process charge q n) (process.choices s) p), gathered (price s) (z s) (pos q) process.total scale k))
    f

-- what is left of the bound behind the budget
spent : (z c d q k : ℤ) → d *ℤ (z *ℤ ((c *ℤ q) *ℤ k)) ≡ (q *ℤ k) *ℤ (z *ℤ (c *ℤ d))
spent z c d q k = rw (as_diff z, as_diff c, as_diff d, as_diff q, as_diff k) (simp diffs (diff-same _ _ _ _ (omega arith)))

granted : (b t q k : ℤ) → (q *ℤ k) *ℤ (b *ℤ t) ≡ t *ℤ ((b *ℤ q) *ℤ k)
granted b t q k = rw (as_diff b, as_diff t, as_diff q, as_diff k) (simp diffs (diff-same _ _ _ _ (omega arith)))

swapped : (a r t : ℤ) → a *ℤ (r *ℤ t) ≡ t *ℤ (r *ℤ a)
swapped a r t = rw (as_diff a, as_diff r, as_diff t) (simp diffs (diff-same _ _ _ _ (omega arith)))

product : (a b : ℕ) → pos (a * b) ≡ pos a *ℤ pos b
product a b = refl

module _ (tosses : TossesAreBounded) (multiple : LcmIsMultiple) (numbers : NumbersAreInRange) (weights : WeightsInside) (most : MeansAtMostInside) (k : CaseData) (spans : Spans) (is : IsCase k) (within : IsInside k.root spans) (v : Valuation) (inside : Inside k.d spans v) (costs : List CostData) (cap : ℕ) (are : AreCosts costs) (some : 1 ≤ cap) where
  priced_charged : (z : List ℤ) → IsPriced k spans (price_over k.w costs cap) z → IsCharged (process_at k.model v) (pos (2 ^ k.w)) (pos (cap * common costs)) (charge costs) (price_over k.w costs cap) (number z)
  priced_charged z priced = record {
    total = omega (arith, linear, total-positive weights k spans is within v inside);
    scale_least = omega (arith, linear);
    least = λ s. (numbers k z s priced.numbers).0;
    covered = λ s. reward_covers multiple costs cap k.w s are some;
    weights = weights-least weights k spans is within v inside;
    means = λ s g. all_moves (λ moves. weighted_sum (number z) moves ≤ℤ ((number z s -ℤ price_over k.w costs cap s) *ℤ (process_at k.model v).total)) v (choices k.model s)
        (λ a r at. most k spans (get_or (choices k.model s) a r) z (number z s -ℤ price_over k.w costs cap s) is within (priced.means s g a r at) v inside);
  }

  bounded : (budget : BudgetData) (z : List ℤ) → IsCostCertificate k spans costs cap budget z → IsPaidAt k.model v costs budget
  bounded budget z certificate q n p from_one fits =
      let process = process_at k.model v in
      let top = pos (2 ^ k.w) in
      let y = number z k.model.init in
      let c = power (pos q *ℤ process.total) n in
      let e = expected_cost process (charge costs) q n k.model.init p in
      let c_least : pos 0 ≤ℤ c = power-least (pos q *ℤ process.total) n (mul-nonneg (pos q) process.total (omega (arith, linear)) (omega (arith, linear, total-positive weights k spans is within v inside))) in
      let common_c : pos 0 ≤ℤ (pos (common costs) *ℤ c) = mul-nonneg (pos (common costs)) c (omega (arith, linear)) c_least in
      let reached = cost_bound tosses process top (pos (cap * common costs)) (charge costs) (price_over k.w costs cap) (number z) (priced_charged z certificate.priced) q n k.model.init p fits in
      let first = mul-le (pos budget.den) (e *ℤ top) (y *ℤ (pos (cap * common costs) *ℤ c)) (omega (arith, linear)) reached in
      let second = mul-le (pos (common costs) *ℤ c) _ _ common_c certificate.limit in
      let top_positive : pos 0 <ℤ top = omega (arith, linear, pow_pos k.w) in
      mul-le_cancel top (e *ℤ pos budget.den) (pos (budget.num * common costs) *ℤ c) top_positive
      (omega (arith, linear, first, second, swapped (pos budget.den) e top, spent y (pos cap) (pos budget.den) (pos (common costs)) c, granted (pos budget.num) top (pos (common costs)) c))

pub certificates_bound_costs : TossesAreBounded → LcmIsMultiple → NumbersAreInRange → WeightsInside → MeansAtMostInside → CertificatesBoundCosts
certificates_bound_costs tosses multiple numbers weights most k spans costs cap budget z is within are some certificate v inside =
    bounded tosses multiple numbers weights most k spans is within v inside costs cap are some budget z certificate

pub least_priced_refutes : LeastPricedRefutes
least_priced_refutes k spans costs cap budget z least beyond y certificate =
    let d = pos (cap * budget.den) in
    let n = number z k.model.init in
    let m = number y k.model.init in
    let below = mul-le d n m (omega (arith, linear)) (least.least y certificate.priced k.model.init) in
    omega (arith, linear, beyond, certificate.limit, below, mul-comm n d, mul-comm m d)
