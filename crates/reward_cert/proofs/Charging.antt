-- Costs of states and of actions.
use Rattle.std.proofs.Common.{◌≡◌, ℕ, zero, suc, ◌+◌, ◌*◌, ◌/◌, false, List, [], ◌∷◌, ℤ, pos, ◌+ℤ◌, ◌*ℤ◌, refl, sym, ap, ◌∙◌, arith, ◌⊎◌, inl, inr, IsTrue, mul_comm, mul_assoc}
use Rattle.std.specs.Int.{◌∣◌}
use Rattle.std.proofs.Math.Nat.{div-mul_cancel}
use Rattle.lift_poly.proofs.Ring.{linear, mul-add, zero-mul, as_diff, pos_diff, diffs, diff-same}
use Rattle.lift_frac.specs.Gcd.{gcd}
use Rattle.lift_frac.specs.Laws.{GcdIsGreatest}
use Rattle.lift_model.specs.Process.{Move, power}
use Rattle.lift_model.specs.Plan.{Plan, Parts, Plans, MovesFit, PartFits, PartsFit, PlanFits, Fits}
use Rattle.lift_model.specs.Plan.Plan.{stop, toss}
use Rattle.lift_model.specs.Plan.Parts.{no_parts, part}
use Rattle.lift_model.specs.Plan.Plans.{no_plans, plan}
use Rattle.lift_model.specs.Reach.{moves_reach, parts_reach, plan_reach}
use Rattle.reward_cert.specs.Expected.{parts_cost, plan_cost, expected_cost}
use Rattle.reward_cert.specs.Laws.{SumIsExact, CostOfStatesIsExpected}
use Rattle.reward_cert.proofs.Steps.{either_way, no_goal}

crossed : (n d g : ℕ) → g ∣ n → g ∣ d → n / g * d ≡ n * (d / g)
crossed n d g by_n by_d =
    let num = div-mul_cancel g by_n in
    let den = div-mul_cancel g by_d in
    ap (λ x. n / g * x) (sym den ∙ mul_comm (d / g) g) ∙ sym (mul_assoc (n / g) g (d / g)) ∙ ap (λ x. x * (d / g)) num

pub sum_is_exact : GcdIsGreatest → SumIsExact
sum_is_exact greatest c d from_c from_d =
    let n = c.num * d.den + d.num * c.den in
    let m = c.den * d.den in
    let is = greatest n m in
    crossed n m (gcd n m) is.0 is.1

-- ---- where each choice of a state costs the same

both : (u h a f g : ℤ) → f ≡ g → u *ℤ (h *ℤ a +ℤ f) ≡ u *ℤ (h *ℤ a) +ℤ u *ℤ g
both u h a f g e = ap (λ z. u *ℤ (h *ℤ a +ℤ z)) e ∙ mul-add u (h *ℤ a) g

module _ (f g : ℕ → Plan → ℤ) (fits : ℕ → Plan → Type 0) (same : (t : ℕ) (p : Plan) → fits t p → f t p ≡ g t p) (h : ℕ) (all : ℤ) where
  moves_same : (moves : List Move) (plans : Plans) → MovesFit fits moves plans → moves_reach f moves plans ≡ moves_reach g moves plans
  moves_same [] no_plans fit = refl
  moves_same (m ∷ moves) (plan p plans) fit = omega (arith, linear, ap (λ z. m.1 *ℤ z) (same m.0 p fit.0), moves_same moves plans fit.1)
  moves_same [] (plan p plans) fit = absurd fit
  moves_same (m ∷ moves) no_plans fit = absurd fit

  part_same : (moves : List Move) (u : ℕ) (plans : Plans) → PartFits fits moves u plans → pos u *ℤ (pos h *ℤ all +ℤ moves_reach f moves plans) ≡ pos u *ℤ (pos h *ℤ all) +ℤ pos u *ℤ moves_reach g moves plans
  part_same moves zero plans fit = omega (arith, linear, zero-mul (pos h *ℤ all +ℤ moves_reach f moves plans), zero-mul (pos h *ℤ all), zero-mul (moves_reach g moves plans))
  part_same moves (suc u) plans fit = both (pos (suc u)) (pos h) all (moves_reach f moves plans) (moves_reach g moves plans) (moves_same moves plans fit)

  shared : (u r : ℕ) (b : ℤ) → pos (u + r) *ℤ b ≡ pos u *ℤ b +ℤ pos r *ℤ b
  shared u r b = rw (pos_diff (u + r), pos_diff u, pos_diff r, as_diff b) (simp diffs (diff-same _ _ _ _ (omega arith)))

  parts_same : (q : ℕ) (choices : List (List Move)) (parts : Parts) → PartsFit fits q choices parts → parts_cost (λ a. h) all f choices parts ≡ pos q *ℤ (pos h *ℤ all) +ℤ parts_reach g choices parts
  parts_same q [] no_parts fit = rw fit (omega (arith, linear, zero-mul (pos h *ℤ all)))
  parts_same q (moves ∷ choices) (part u plans parts) fit =
      rw fit.1.1 (omega (arith, linear, part_same moves u plans fit.0, parts_same fit.1.0 choices parts fit.1.2, shared u fit.1.0 (pos h *ℤ all)))
  parts_same q [] (part u plans parts) fit = absurd fit
  parts_same q (moves ∷ choices) no_parts fit = absurd fit

  plan_same : (q : ℕ) (choices : List (List Move)) (p : Plan) → PlanFits fits q choices p → plan_cost (λ a. h) all f choices p ≡ pos q *ℤ (pos h *ℤ all) +ℤ plan_reach g choices p
  plan_same q choices stop fit = absurd fit
  plan_same q choices (toss parts) fit = parts_same q choices parts fit

moved : (q h n k : ℤ) → q *ℤ (h *ℤ (n *ℤ k)) ≡ h *ℤ ((q *ℤ n) *ℤ k)
moved q h n k = rw (as_diff q, as_diff h, as_diff n, as_diff k) (simp diffs (diff-same _ _ _ _ (omega arith)))

pub cost_of_states_is_expected : CostOfStatesIsExpected
cost_of_states_is_expected process charge q cost is zero s p fits = sym (is.none s p)
cost_of_states_is_expected process charge q cost is (suc n) s p fits =
    let later = cost_of_states_is_expected process charge q cost is n in
    either_way (process.goal s)
    (λ g. rw (is.next n s p, g) refl)
    (λ g. rw (is.next n s p, g) (by_plan later g fits))
  where
    by_plan : ((t : ℕ) (r : Plan) → Fits process q n t r → expected_cost process (λ s a. charge s) q n t r ≡ cost n t r) → process.goal s ≡ false → IsTrue (process.goal s) ⊎ PlanFits (Fits process q n) q (process.choices s) p
        → plan_cost (λ a. charge s) (process.total *ℤ power (pos q *ℤ process.total) n) (expected_cost process (λ s a. charge s) q n) (process.choices s) p ≡ pos (charge s) *ℤ ((pos q *ℤ process.total) *ℤ power (pos q *ℤ process.total) n) +ℤ plan_reach (cost n) (process.choices s) p
    by_plan later g (inl t) = no_goal (process.goal s) g t
    by_plan later g (inr fit) =
        let k = power (pos q *ℤ process.total) n in
        plan_same (expected_cost process (λ s a. charge s) q n) (cost n) (Fits process q n) later (charge s) (process.total *ℤ k) q (process.choices s) p fit ∙ ap (λ z. z +ℤ plan_reach (cost n) (process.choices s) p) (moved (pos q) (pos (charge s)) process.total k)
