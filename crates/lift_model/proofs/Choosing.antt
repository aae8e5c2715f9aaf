-- Plans over 1 pick one choice, and reach what it reaches.
use Rattle.std.proofs.Common.{◌≡◌, ℕ, zero, suc, ◌<◌, Bool, true, false, List, [], ◌∷◌, length, get_or, ℤ, pos, refl, ap, subst, ◌∙◌, arith, inl, inr, IsTrue}
use Rattle.lift_poly.proofs.Ring.{linear, zero-mul, one-mul}
use Rattle.lift_model.specs.Process.{Move, Process}
use Rattle.lift_model.specs.Plan.{Plan, Parts, Plans, MovesFit, PartsFit, PlanFits, Fits}
use Rattle.lift_model.specs.Plan.Plan.{stop, toss}
use Rattle.lift_model.specs.Plan.Parts.{no_parts, part}
use Rattle.lift_model.specs.Plan.Plans.{no_plans}
use Rattle.lift_model.specs.Reach.{moves_reach, parts_reach, reach}
use Rattle.lift_model.specs.Pick.{no_weight, whole_weight, Picks, PicksFit, FitsPick, PicksReach}

-- ---- what a chosen row reaches

reach-no_weight : (rest : ℕ → Plan → ℤ) (choices : List (List Move)) → parts_reach rest choices (no_weight (length choices)) ≡ pos 0
reach-no_weight rest [] = refl
reach-no_weight rest (moves ∷ choices) = omega (arith, linear, zero-mul (moves_reach rest moves no_plans), reach-no_weight rest choices)

reach-whole_weight : (rest : ℕ → Plan → ℤ) (choices : List (List Move)) (a : ℕ) (plans : Plans) → a < length choices → parts_reach rest choices (whole_weight (length choices) a plans) ≡ moves_reach rest (get_or choices a []) plans
reach-whole_weight rest [] a plans lt = absurd (omega arith)
reach-whole_weight rest (moves ∷ choices) zero plans lt = omega (arith, linear, one-mul (moves_reach rest moves plans), reach-no_weight rest choices)
reach-whole_weight rest (moves ∷ choices) (suc a) plans lt = omega (arith, linear, zero-mul (moves_reach rest moves no_plans), reach-whole_weight rest choices a plans (omega arith))

-- ---- a chosen row fits

no_weight_fits : (fits : ℕ → Plan → Type 0) (choices : List (List Move)) → PartsFit fits 0 choices (no_weight (length choices))
no_weight_fits fits [] = refl
no_weight_fits fits (moves ∷ choices) = (refl, (0, refl, no_weight_fits fits choices))

whole_weight_fits : (fits : ℕ → Plan → Type 0) (choices : List (List Move)) (a : ℕ) (plans : Plans) → a < length choices → MovesFit fits (get_or choices a []) plans → PartsFit fits 1 choices (whole_weight (length choices) a plans)
whole_weight_fits fits [] a plans lt f = absurd (omega arith)
whole_weight_fits fits (moves ∷ choices) zero plans lt f = (f, (0, refl, no_weight_fits fits choices))
whole_weight_fits fits (moves ∷ choices) (suc a) plans lt f = (refl, (1, refl, whole_weight_fits fits choices a plans (omega arith) f))

-- ---- what fits is a chosen row

-- parts of weight 0 in all
no_weight_left : (fits : ℕ → Plan → Type 0) (choices : List (List Move)) (parts : Parts) → PartsFit fits 0 choices parts → parts ≡ no_weight (length choices)
no_weight_left fits [] no_parts f = refl
no_weight_left fits (moves ∷ choices) (part zero plans parts) f =
    let rest : PartsFit fits 0 choices parts = subst (λ r. PartsFit fits r choices parts) (omega (arith, f.1.1)) f.1.2 in
    let here = f.0 in
    let there = no_weight_left fits choices parts rest in cc
no_weight_left fits (moves ∷ choices) (part (suc u) plans parts) f = absurd (omega (arith, f.1.1))
no_weight_left fits [] (part u plans parts) f = absurd f
no_weight_left fits (moves ∷ choices) no_parts f = absurd f

-- parts of weight 1 in all
record IsWhole (fits : ℕ → Plan → Type 0) (choices : List (List Move)) (parts : Parts) : Type 0 where
  a : ℕ
  plans : Plans
  in_range : a < length choices
  fit : MovesFit fits (get_or choices a []) plans
  same : parts ≡ whole_weight (length choices) a plans

whole_weight_left : (fits : ℕ → Plan → Type 0) (choices : List (List Move)) (parts : Parts) → PartsFit fits 1 choices parts → IsWhole fits choices parts
whole_weight_left fits [] no_parts f = absurd (omega (arith, f))
whole_weight_left fits (moves ∷ choices) (part zero plans parts) f =
    let rest : PartsFit fits 1 choices parts = subst (λ r. PartsFit fits r choices parts) (omega (arith, f.1.1)) f.1.2 in
    let there = whole_weight_left fits choices parts rest in
    let here = f.0 in
    record { a = suc there.a; plans = there.plans; in_range = omega (arith, there.in_range); fit = there.fit; same = ap (λ ps. part zero ps parts) here ∙ ap (part zero no_plans) there.same }
whole_weight_left fits (moves ∷ choices) (part (suc zero) plans parts) f =
    let rest : PartsFit fits 0 choices parts = subst (λ r. PartsFit fits r choices parts) (omega (arith, f.1.1)) f.1.2 in
    record { a = 0; plans = plans; in_range = omega arith; fit = f.0; same = ap (part 1 plans) (no_weight_left fits choices parts rest) }
whole_weight_left fits (moves ∷ choices) (part (suc (suc u)) plans parts) f = absurd (omega (arith, f.1.1))
whole_weight_left fits [] (part u plans parts) f = absurd f
whole_weight_left fits (moves ∷ choices) no_parts f = absurd f

-- ---- the laws

choices_plan : (process : Process) (n s : ℕ) (p : Plan) → PlanFits (Fits process 1 n) 1 (process.choices s) p → (a : ℕ) × (plans : Plans) × Picks process n s p a plans
choices_plan process n s stop f = absurd f
choices_plan process n s (toss parts) f =
    let w = whole_weight_left (Fits process 1 n) (process.choices s) parts f in
    (w.a, w.plans, record { in_range = w.in_range; fit = w.fit; is_choice = ap toss w.same })

no_goal : {A : Type 0} (b : Bool) → b ≡ false → IsTrue b → A
no_goal true e t = cc
no_goal false e t = cc

pub choices_fit : PicksFit
choices_fit process n s p a plans goal picks = rw picks.is_choice (inr (whole_weight_fits (Fits process 1 n) (process.choices s) a plans picks.in_range picks.fit))

pub fits_choice : FitsPick
fits_choice process n s p goal (inl t) = no_goal (process.goal s) goal t
fits_choice process n s p goal (inr f) = choices_plan process n s p f

pub choices_reach : PicksReach
choices_reach process n s p a plans goal picks =
    rw (goal, picks.is_choice) (reach-whole_weight (reach process 1 n) (process.choices s) a plans picks.in_range)
