-- Every plan of a chain reaches what its only scheduler reaches, and there is such a plan.
use Rattle.std.proofs.Common.{◌≡◌, ◌⊎◌, inl, inr, ℕ, zero, suc, ◌<◌, Bool, true, false, cond, List, [], ◌∷◌, length, map, get_or, ℤ, pos, ◌+ℤ◌, ◌*ℤ◌, All, IsTrue, refl, sym, ap, ap₂, ◌∙◌, subst, arith}
use Rattle.std.proofs.lemmas.List.Elements.{All-head, All-tail}
use Rattle.lift_poly.proofs.Ring.{linear, mul-comm, mul-assoc, mul-add, mul-zero, zero-mul, one-mul}
use Rattle.lift_poly.specs.Polynomial.{Valuation, weight}
use Rattle.lift_model.specs.declared.kind.Kind.TheVariants.{Dtmc}
use Rattle.lift_model.specs.declared.entry.Entry.{Entry}
use Rattle.lift_model.specs.Process.{Move, Process, power, weighted_sum}
use Rattle.lift_model.specs.Plan.{Plan, Plans, MovesFit, PlanFits, Fits}
use Rattle.lift_model.specs.Plan.Plan.{stop, toss}
use Rattle.lift_model.specs.Plan.Parts.{no_parts, part}
use Rattle.lift_model.specs.Plan.Plans.{no_plans, plan}
use Rattle.lift_model.specs.Reach.{moves_reach, plan_reach, reach}
use Rattle.lift_model.specs.Model.{ModelData, is_goal, choices, row_at, moves_at, process_at}
use Rattle.lift_model.specs.Valid.{IsModel}
use Rattle.lift_lump.specs.Quotient.{hold}
use Rattle.lift_lump.specs.Laws.{ChainsHaveOnePlan, ChainsHaveAPlan}
use Rattle.lift_lump.proofs.Holding.{targets_inside}

power-mul : (a b : ℤ) (n : ℕ) → power (a *ℤ b) n ≡ power a n *ℤ power b n
power-mul a b zero = refl
power-mul a b (suc n) =
    ap (λ z. (a *ℤ b) *ℤ z) (power-mul a b n)
    ∙ mul-assoc a b (power a n *ℤ power b n)
    ∙ ap (λ z. a *ℤ z) (sym (mul-assoc b (power a n) (power b n)) ∙ ap (λ z. z *ℤ power b n) (mul-comm b (power a n)) ∙ mul-assoc (power a n) b (power b n))
    ∙ sym (mul-assoc a (power a n) (b *ℤ power b n))

-- a factor of each target's number is one of the sum
moves-scaled : (c : ℤ) (rest : ℕ → Plan → ℤ) (x : ℕ → ℤ) (fits : ℕ → Plan → Type 0) (v : Valuation) (count : ℕ) → ((t : ℕ) (p : Plan) → t < count → fits t p → rest t p ≡ c *ℤ x t)
    → (row : List Entry) → All (λ (e : Entry). e.target < count) row → (plans : Plans) → MovesFit fits (moves_at v row) plans → moves_reach rest (moves_at v row) plans ≡ c *ℤ weighted_sum x (moves_at v row)
moves-scaled c rest x fits v count same [] all no_plans f = sym (mul-zero c)
moves-scaled c rest x fits v count same [] all (plan p plans) f = absurd f
moves-scaled c rest x fits v count same (e ∷ row) all no_plans f = absurd f
moves-scaled c rest x fits v count same (e ∷ row) all (plan p plans) f =
    let w = weight v e.poly in
    ap₂ (λ a b. a +ℤ b)
    (ap (λ z. w *ℤ z) (same e.target p (All-head (λ (e : Entry). e.target < count) e row all) f.0) ∙ sym (mul-assoc w c (x e.target)) ∙ ap (λ z. z *ℤ x e.target) (mul-comm w c) ∙ mul-assoc c w (x e.target))
    (moves-scaled c rest x fits v count same row (All-tail (λ (e : Entry). e.target < count) e row all) plans f.1)
    ∙ sym (mul-add c (w *ℤ x e.target) (weighted_sum x (moves_at v row)))

-- of one choice a plan makes that one
one_choice : (c : ℤ) (rest : ℕ → Plan → ℤ) (x : ℕ → ℤ) (fits : ℕ → Plan → Type 0) (q : ℕ) (moves : List Move) → ((plans : Plans) → MovesFit fits moves plans → moves_reach rest moves plans ≡ c *ℤ weighted_sum x moves)
    → (p : Plan) → PlanFits fits q (moves ∷ []) p → plan_reach rest (moves ∷ []) p ≡ (pos q *ℤ c) *ℤ weighted_sum x moves
one_choice c rest x fits q moves scaled stop f = absurd f
one_choice c rest x fits q moves scaled (toss no_parts) f = absurd f
one_choice c rest x fits q moves scaled (toss (part u plans (part w more parts))) f = absurd f.1.2
one_choice c rest x fits q moves scaled (toss (part zero plans no_parts)) f =
    let none : pos 0 ≡ pos q = ap pos (let e : 0 ≡ q = omega (arith, f.1.1, f.1.2) in e) in
    omega (arith, linear, zero-mul (moves_reach rest moves plans), zero-mul (c *ℤ weighted_sum x moves), mul-assoc (pos q) c (weighted_sum x moves), ap (λ z. z *ℤ (c *ℤ weighted_sum x moves)) none)
one_choice c rest x fits q moves scaled (toss (part (suc u) plans no_parts)) f =
    let all : pos (suc u) ≡ pos q = ap pos (let e : suc u ≡ q = omega (arith, f.1.1, f.1.2) in e) in
    let sum = ap (λ z. pos (suc u) *ℤ z) (scaled plans f.0) in
    let apart = mul-assoc (pos q) c (weighted_sum x moves) in
    let by = ap (λ z. z *ℤ (c *ℤ weighted_sum x moves)) all in
    omega (arith, linear, sum, apart, by)

-- a plan for each move
plans_for : (fits : ℕ → Plan → Type 0) (v : Valuation) (count : ℕ) → ((t : ℕ) → t < count → (p : Plan) × fits t p) → (row : List Entry) → All (λ (e : Entry). e.target < count) row → (plans : Plans) × MovesFit fits (moves_at v row) plans
plans_for fits v count some [] all = (no_plans, tt)
plans_for fits v count some (e ∷ row) all =
    let first = some e.target (All-head (λ (e : Entry). e.target < count) e row all) in
    let others = plans_for fits v count some row (All-tail (λ (e : Entry). e.target < count) e row all) in
    (plan first.0 others.0, (first.1, others.1))

not_both : (b : Bool) → b ≡ false → IsTrue b → ⊥
not_both true e h = absurd (cc)
not_both false e h = absurd (cc)

one_row : (rows : List (List Entry)) → length rows ≡ 1 → rows ≡ get_or rows 0 [] ∷ []
one_row [] e = absurd (omega (arith, e))
one_row (row ∷ []) e = refl
one_row (row ∷ other ∷ rows) e = absurd (omega (arith, e))

module _ (m : ModelData) (v : Valuation) (is : IsModel m) (chain : m.kind ≡ Dtmc) where
  abbrev process : Process
  process = process_at m v

  -- a state's only choice
  one_move : (s : ℕ) → s < length m.states → process.choices s ≡ moves_at v (row_at m s 0) ∷ []
  one_move s lt = ap (map (moves_at v)) (one_row (choices m s) (is.one_choice chain s [] lt))

  module _ (q n s : ℕ) (p : Plan) where
    abbrev here : Bool → ℤ
    here b = cond b (power (pos q *ℤ process.total) (suc n)) (plan_reach (reach process q n) (process.choices s) p)

    abbrev there : Bool → ℤ
    there b = power (pos q) (suc n) *ℤ cond b (power process.total (suc n)) (weighted_sum (hold m v n) (get_or (process.choices s) 0 []))

    abbrev Same : Type 0
    Same = (t : ℕ) (r : Plan) → t < length m.states → Fits process q n t r → reach process q n t r ≡ power (pos q) n *ℤ hold m v n t

    by_choice : s < length m.states → Same → PlanFits (Fits process q n) q (process.choices s) p → plan_reach (reach process q n) (process.choices s) p ≡ power (pos q) (suc n) *ℤ weighted_sum (hold m v n) (get_or (process.choices s) 0 [])
    by_choice lt same =
        subst (λ (cs : List (List Move)). PlanFits (Fits process q n) q cs p → plan_reach (reach process q n) cs p ≡ power (pos q) (suc n) *ℤ weighted_sum (hold m v n) (get_or cs 0 [])) (sym (one_move s lt))
        (one_choice (power (pos q) n) (reach process q n) (hold m v n) (Fits process q n) q (moves_at v (row_at m s 0))
        (moves-scaled (power (pos q) n) (reach process q n) (hold m v n) (Fits process q n) v (length m.states) same (row_at m s 0) (targets_inside m is s)) p)

    step : s < length m.states → Same → (goal : Bool) → is_goal m s ≡ goal → IsTrue (is_goal m s) ⊎ PlanFits (Fits process q n) q (process.choices s) p → here (is_goal m s) ≡ there (is_goal m s)
    step lt same true is f = ap here is ∙ power-mul (pos q) process.total (suc n) ∙ sym (ap there is)
    step lt same false not (inl goal) = absurd (not_both (is_goal m s) not goal)
    step lt same false not (inr fit) = ap here not ∙ by_choice lt same fit ∙ sym (ap there not)

pub one_plan : ChainsHaveOnePlan
one_plan m v q zero s p is chain lt f = sym (one-mul (hold m v zero s))
one_plan m v q (suc n) s p is chain lt f = step m v is chain q n s p lt (λ t r below g. one_plan m v q n t r is chain below g) (is_goal m s) refl f

pub a_plan : ChainsHaveAPlan
a_plan m v zero s is chain lt = (stop, tt)
a_plan m v (suc n) s is chain lt =
    let plans = plans_for (Fits (process_at m v) 1 n) v (length m.states) (λ t below. a_plan m v n t is chain below) (row_at m s 0) (targets_inside m is s) in
    let p = toss (part 1 plans.0 no_parts) in
    (p, inr (subst (λ (cs : List (List Move)). PlanFits (Fits (process_at m v) 1 n) 1 cs p) (sym (one_move m v is chain s lt)) (plans.1, (0, refl, refl))))
