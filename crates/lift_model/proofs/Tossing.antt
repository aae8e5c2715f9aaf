-- One step of a plan that tosses.
use Rattle.std.proofs.Common.{◌≡◌, ℕ, zero, suc, ◌+◌, List, [], ◌∷◌, ℤ, pos, ◌+ℤ◌, ◌*ℤ◌, ◌≤ℤ◌, ap, arith}
use Rattle.std.specs.List.{AllByRecursion}
use Rattle.lift_poly.proofs.Ring.{linear, mul-assoc, mul-comm, add-mul, zero-mul, mul-le, as_diff, diff-add, diff-mul, pos_diff, diff-same}
use Rattle.lift_model.specs.Process.{Move, weighted_sum}
use Rattle.lift_model.specs.Plan.{Plan, Parts, Plans, MovesFit, PartFits, PartsFit, PlanFits, Fits}
use Rattle.lift_model.specs.Plan.Plan.{stop, toss}
use Rattle.lift_model.specs.Plan.Parts.{no_parts, part}
use Rattle.lift_model.specs.Plan.Plans.{no_plans, plan}
use Rattle.lift_model.specs.Reach.{moves_reach, parts_reach, plan_reach}
use Rattle.lift_model.specs.Laws.{AreNonNegative}
use Rattle.lift_model.specs.Tossing.{TossesAreBounded}

spread : (m r rest t : ℤ) → (m *ℤ r +ℤ rest) *ℤ t ≡ m *ℤ (r *ℤ t) +ℤ rest *ℤ t
spread m r rest t = rw (as_diff m, as_diff r, as_diff rest, as_diff t) (simp (diff-add, diff-mul) (diff-same _ _ _ _ (omega arith)))

-- One step, where what follows is bounded: `rest` from a state is what the plan for it reaches in the remaining steps, k the power of q times the total for these steps.
module _ (rest : ℕ → Plan → ℤ) (fits : ℕ → Plan → Type 0) (x : ℕ → ℤ) (top k : ℤ) (below : (t : ℕ) (p : Plan) → fits t p → (rest t p *ℤ top) ≤ℤ (x t *ℤ k)) where
  moves_bound : (moves : List Move) (plans : Plans) → AreNonNegative moves → MovesFit fits moves plans → (moves_reach rest moves plans *ℤ top) ≤ℤ (weighted_sum x moves *ℤ k)
  moves_bound [] no_plans h f = omega (arith, linear, zero-mul top, zero-mul k)
  moves_bound (m ∷ moves) (plan p plans) h f =
      let first = mul-le m.1 (rest m.0 p *ℤ top) (x m.0 *ℤ k) h.0 (below m.0 p f.0) in
      omega (arith, linear, first, moves_bound moves plans h.1 f.1, spread m.1 (rest m.0 p) (moves_reach rest moves plans) top, spread m.1 (x m.0) (weighted_sum x moves) k)
  moves_bound [] (plan p plans) h f = absurd f
  moves_bound (m ∷ moves) no_plans h f = absurd f

  module _ (b : ℤ) (k_least : pos 0 ≤ℤ k) where
    part_bound : (moves : List Move) (u : ℕ) (plans : Plans) → AreNonNegative moves → weighted_sum x moves ≤ℤ b → PartFits fits moves u plans → ((pos u *ℤ moves_reach rest moves plans) *ℤ top) ≤ℤ ((pos u *ℤ b) *ℤ k)
    part_bound moves zero plans h l f = simp zero-mul (omega (arith, linear))
    part_bound moves (suc u) plans h l f =
        let first = moves_bound moves plans h f in
        let second : (weighted_sum x moves *ℤ k) ≤ℤ (b *ℤ k) = rw (mul-comm (weighted_sum x moves) k, mul-comm b k) (mul-le k (weighted_sum x moves) b k_least l) in
        rw (mul-assoc (pos (suc u)) (moves_reach rest moves plans) top, mul-assoc (pos (suc u)) b k) (mul-le (pos (suc u)) (moves_reach rest moves plans *ℤ top) (b *ℤ k) (omega (arith, linear)) (omega (arith, linear, first, second)))

    parts_bound : (q : ℕ) (choices : List (List Move)) (parts : Parts) → AllByRecursion AreNonNegative choices → AllByRecursion (λ moves. weighted_sum x moves ≤ℤ b) choices → PartsFit fits q choices parts → (parts_reach rest choices parts *ℤ top) ≤ℤ ((pos q *ℤ b) *ℤ k)
    parts_bound q [] no_parts h l f = rw f (omega (arith, linear, zero-mul top, zero-mul b, zero-mul k, ap (λ z. z *ℤ k) (zero-mul b)))
    parts_bound q (moves ∷ choices) (part u plans parts) h l f =
        let first = part_bound moves u plans h.0 l.0 f.0 in
        let others = parts_bound f.1.0 choices parts h.1 l.1 f.1.2 in
        rw f.1.1 (omega (arith, linear, first, others, share u f.1.0 b k, add-mul (pos u *ℤ moves_reach rest moves plans) (parts_reach rest choices parts) top))
      where
        share : (u r : ℕ) (b k : ℤ) → (pos (u + r) *ℤ b) *ℤ k ≡ (pos u *ℤ b) *ℤ k +ℤ (pos r *ℤ b) *ℤ k
        share u r b k = rw (pos_diff (u + r), pos_diff u, pos_diff r, as_diff b, as_diff k) (simp (diff-add, diff-mul) (diff-same _ _ _ _ (omega arith)))
    parts_bound q [] (part u plans parts) h l f = absurd f
    parts_bound q (moves ∷ choices) no_parts h l f = absurd f

    pub plan_bound : (q : ℕ) (choices : List (List Move)) (p : Plan) → AllByRecursion AreNonNegative choices → AllByRecursion (λ moves. weighted_sum x moves ≤ℤ b) choices → PlanFits fits q choices p → (plan_reach rest choices p *ℤ top) ≤ℤ ((pos q *ℤ b) *ℤ k)
    plan_bound q choices stop h l f = absurd f
    plan_bound q choices (toss parts) h l f = parts_bound q choices parts h l f

pub tosses_are_bounded : TossesAreBounded
tosses_are_bounded process rest number top k b q n s p below k_least weights sums h = plan_bound rest (Fits process q n) number top k below b k_least q (process.choices s) p weights sums h
