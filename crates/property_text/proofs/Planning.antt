-- A memoryless scheduler as a plan over 1.
use Rattle.std.proofs.Common.{◌≡◌, ◌⊎◌, ℕ, zero, suc, ◌<◌, ◌≤◌, Bool, true, false, cond, List, [], ◌∷◌, length, map, get_or, All, ℤ, pos, ◌+ℤ◌, ◌*ℤ◌, refl, sym, ap, ap₂, subst, ◌∙◌, arith, inl, inr}
use Rattle.std.proofs.lemmas.List.{get_or-map, get_or_past, length-map}
use Rattle.std.proofs.lemmas.List.Elements.{All-nil, All-cons, All-head, All-tail}
use Rattle.lift_poly.specs.Polynomial.{Valuation}
use Rattle.lift_poly.proofs.Ring.{linear, zero-mul, one-mul}
use Rattle.lift_model.specs.declared.entry.Entry.{Entry}
use Rattle.lift_model.specs.Process.{Process, Move, power, weighted_sum}
use Rattle.lift_model.specs.Plan.{Plan, Parts, Plans, MovesFit, PartsFit, Fits}
use Rattle.lift_model.specs.Plan.Plan.{stop, toss}
use Rattle.lift_model.specs.Plan.Parts.{no_parts, part}
use Rattle.lift_model.specs.Plan.Plans.{no_plans, plan}
use Rattle.lift_model.specs.Reach.{moves_reach, parts_reach}
use Rattle.lift_model.specs.Memoryless.{memoryless_reach}
use Rattle.lift_model.specs.Model.{ModelData, choices, moves_at}
use Rattle.lift_model.specs.Valid.{IsModel, IsEntry}
use Rattle.property_text.specs.Until.{until, memoryless_until}
use Rattle.property_text.specs.Laws.{HasStates, NamesChoices, MemorylessIsAPlan, MemorylessReachesAsAPlan, ModelsHaveStates}
use Rattle.property_text.proofs.Matching.{reach_is_until}

-- ---- one choice of some

-- of these choices weight 1 for one, and 0 for each other
abbrev none_of : List (List Move) → Parts
none_of [] = no_parts
none_of (moves ∷ rows) = part 0 no_plans (none_of rows)

abbrev one_of : List (List Move) → ℕ → Plans → Parts
one_of [] a plans = no_parts
one_of (moves ∷ rows) zero plans = part 1 plans (none_of rows)
one_of (moves ∷ rows) (suc a) plans = part 0 no_plans (one_of rows a plans)

none_fits : (fits : ℕ → Plan → Type 0) (rows : List (List Move)) → PartsFit fits 0 rows (none_of rows)
none_fits fits [] = refl
none_fits fits (moves ∷ rows) = (refl, (0, refl, none_fits fits rows))

one_fits : (fits : ℕ → Plan → Type 0) (rows : List (List Move)) (a : ℕ) (plans : Plans) → a < length rows → MovesFit fits (get_or rows a []) plans → PartsFit fits 1 rows (one_of rows a plans)
one_fits fits [] a plans lt f = absurd (omega (arith, lt))
one_fits fits (moves ∷ rows) zero plans lt f = (f, (0, refl, none_fits fits rows))
one_fits fits (moves ∷ rows) (suc a) plans lt f = (refl, (1, refl, one_fits fits rows a plans (omega (arith, lt)) f))

none_reaches : (rest : ℕ → Plan → ℤ) (rows : List (List Move)) → parts_reach rest rows (none_of rows) ≡ pos 0
none_reaches rest [] = refl
none_reaches rest (moves ∷ rows) = let others = none_reaches rest rows in omega (arith, linear, zero-mul (moves_reach rest moves no_plans), others)

one_reaches : (rest : ℕ → Plan → ℤ) (rows : List (List Move)) (a : ℕ) (plans : Plans) → a < length rows → parts_reach rest rows (one_of rows a plans) ≡ moves_reach rest (get_or rows a []) plans
one_reaches rest [] a plans lt = absurd (omega (arith, lt))
one_reaches rest (moves ∷ rows) zero plans lt = let others = none_reaches rest rows in omega (arith, linear, one-mul (moves_reach rest moves plans), others)
one_reaches rest (moves ∷ rows) (suc a) plans lt = let others = one_reaches rest rows a plans (omega (arith, lt)) in omega (arith, linear, zero-mul (moves_reach rest moves no_plans), others)

-- ---- plans for moves

-- plans for these moves, one each, which reach together what the targets' numbers sum to
record Planned (fits : ℕ → Plan → Type 0) (rest : ℕ → Plan → ℤ) (number : ℕ → ℤ) (moves : List Move) : Type 0 where
  plans : Plans
  fit : MovesFit fits moves plans
  same : moves_reach rest moves plans ≡ weighted_sum number moves

-- a plan for a target, which reaches its number
record PlannedAt (fits : ℕ → Plan → Type 0) (rest : ℕ → Plan → ℤ) (number : ℕ → ℤ) (t : ℕ) : Type 0 where
  plan_is : Plan
  fit : fits t plan_is
  same : rest t plan_is ≡ number t

planned : (fits : ℕ → Plan → Type 0) (rest : ℕ → Plan → ℤ) (number : ℕ → ℤ) (states : ℕ) → ((t : ℕ) → t < states → PlannedAt fits rest number t) → (moves : List Move) → All (λ (move : Move). move.0 < states) moves → Planned fits rest number moves
planned fits rest number states at [] all = record { plans = no_plans; fit = tt; same = refl }
planned fits rest number states at (move ∷ moves) all =
    let first = at move.0 (All-head (λ (m : Move). m.0 < states) move moves all) in
    let others = planned fits rest number states at moves (All-tail (λ (m : Move). m.0 < states) move moves all) in
    record { plans = plan first.plan_is others.plans; fit = (first.fit, others.fit); same = ap₂ (λ a b. move.1 *ℤ a +ℤ b) first.same others.same }

-- ---- the plan of a memoryless scheduler

module _ (process : Process) (states : ℕ) (safe : ℕ → Bool) (choice : ℕ → ℕ) (has : HasStates process states) (named : NamesChoices process states safe choice) where
  abbrev At : ℕ → ℕ → Type 0
  At n = PlannedAt (Fits process 1 n) (until process safe 1 n) (memoryless_until process safe choice n)

  power_one : (n : ℕ) → power (pos 1 *ℤ process.total) n ≡ power process.total n
  power_one n = ap (λ z. power z n) (one-mul process.total)

  step : (n s : ℕ) → s < states → ((t : ℕ) → t < states → At n t) → (goal is : Bool) → process.goal s ≡ goal → safe s ≡ is → At (suc n) s
  step n s lt at true is goal_is safe_is = record {
    plan_is = stop;
    fit = inl goal_is;
    same = rw goal_is (power_one (suc n));
  }
  step n s lt at false true goal_is safe_is =
      let a_in = named s lt goal_is safe_is in
      let next = planned (Fits process 1 n) (until process safe 1 n) (memoryless_until process safe choice n) states at (get_or (process.choices s) (choice s) []) (has.inside s (choice s) lt) in
      record {
        plan_is = toss (one_of (process.choices s) (choice s) next.plans);
        fit = inr (one_fits (Fits process 1 n) (process.choices s) (choice s) next.plans a_in next.fit);
        same = rw (goal_is, safe_is) (one_reaches (until process safe 1 n) (process.choices s) (choice s) next.plans a_in ∙ next.same);
      }
  step n s lt at false false goal_is safe_is =
      let next = planned (Fits process 1 n) (until process safe 1 n) (memoryless_until process safe choice n) states at (get_or (process.choices s) 0 []) (has.inside s 0 lt) in
      let some = has.some s lt goal_is in
      record {
        plan_is = toss (one_of (process.choices s) 0 next.plans);
        fit = inr (one_fits (Fits process 1 n) (process.choices s) 0 next.plans (omega (arith, some)) next.fit);
        same = rw (goal_is, safe_is) refl;
      }

  plan_of : (n s : ℕ) → s < states → At n s
  plan_of zero s lt = record { plan_is = stop; fit = tt; same = refl }
  plan_of (suc n) s lt = step n s lt (λ t below. plan_of n t below) (process.goal s) (safe s) refl refl

pub memoryless_is_a_plan : MemorylessIsAPlan
memoryless_is_a_plan process states safe choice has named n s lt =
    let at = plan_of process states safe choice has named n s lt in
    (at.plan_is, record { fits = at.fit; same = at.same })

-- where all states are safe, a memoryless scheduler's until is what it reaches
all_safe_same : (process : Process) (choice : ℕ → ℕ) (n s : ℕ) → memoryless_until process (λ t. true) choice n s ≡ memoryless_reach process choice n s
all_safe_same process choice zero s = refl
all_safe_same process choice (suc n) s = ap (cond (process.goal s) (power process.total (suc n))) (sums (get_or (process.choices s) (choice s) []) (λ t. all_safe_same process choice n t))
  where
    sums : (moves : List Move) → ((t : ℕ) → memoryless_until process (λ t. true) choice n t ≡ memoryless_reach process choice n t) → weighted_sum (memoryless_until process (λ t. true) choice n) moves ≡ weighted_sum (memoryless_reach process choice n) moves
    sums [] same = refl
    sums (move ∷ moves) same = ap₂ (λ a b. move.1 *ℤ a +ℤ b) (same move.0) (sums moves same)

pub memoryless_reaches_as_a_plan : MemorylessReachesAsAPlan
memoryless_reaches_as_a_plan process states choice has named n s lt =
    let at = plan_of process states (λ t. true) choice has named n s lt in
    (at.plan_is, record { fits = at.fit; same = sym (reach_is_until process 1 n s at.plan_is) ∙ at.same ∙ all_safe_same process choice n s })

-- ---- models

moves_inside : (v : Valuation) (states parameters : ℕ) (row : List Entry) → All (IsEntry states parameters) row → All (λ (move : Move). move.0 < states) (moves_at v row)
moves_inside v states parameters [] all = All-nil (λ (move : Move). move.0 < states)
moves_inside v states parameters (entry ∷ row) all =
    All-cons (λ (move : Move). move.0 < states) _ (moves_at v row) (All-head (IsEntry states parameters) entry row all).target (moves_inside v states parameters row (All-tail (IsEntry states parameters) entry row all))

choices_inside : (m : ModelData) (v : Valuation) → IsModel m → (s a : ℕ) → s < length m.states → All (λ (move : Move). move.0 < length m.states) (get_or (map (moves_at v) (choices m s)) a [])
choices_inside m v is s a lt = by (side a (length (choices m s)))
  where
    side : (i j : ℕ) → (i < j) ⊎ (j ≤ i)
    side i j = grind arith

    by : (a < length (choices m s)) ⊎ (length (choices m s) ≤ a) → All (λ (move : Move). move.0 < length m.states) (get_or (map (moves_at v) (choices m s)) a [])
    by (inl a_in) =
        subst (All (λ (move : Move). move.0 < length m.states)) (sym (get_or-map (moves_at v) (choices m s) a [] [] a_in))
        (moves_inside v (length m.states) (length m.names) (get_or (choices m s) a []) (is.rows s [] lt a [] a_in).entries)
    by (inr past) =
        subst (All (λ (move : Move). move.0 < length m.states)) (sym (get_or_past (map (moves_at v) (choices m s)) a [] (let same = length-map (choices m s) (moves_at v) in omega (arith, past, same))))
        (All-nil (λ (move : Move). move.0 < length m.states))

pub models_have_states : ModelsHaveStates
models_have_states m v is = record {
  some = λ s lt no_goal. let count = is.some_choice s [] lt in let same = length-map (choices m s) (moves_at v) in omega (arith, count, same);
  inside = λ s a lt. choices_inside m v is s a lt;
}
