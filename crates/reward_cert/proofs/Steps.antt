-- One step of a scheduler, where what follows is bounded from below: of what it pays times one number, less what it reaches times another.
use Rattle.std.proofs.Common.{◌≡◌, ℕ, zero, suc, ◌+◌, ◌<◌, Bool, true, false, cond, List, [], ◌∷◌, length, get_or, ℤ, pos, ◌+ℤ◌, ◌-ℤ◌, ◌*ℤ◌, ◌≤ℤ◌, refl, arith, ◌⊎◌, inl, inr, IsTrue}
use Rattle.std.specs.List.{AllByRecursion}
use Rattle.lift_poly.proofs.Ring.{linear, mul-comm, zero-mul, one-mul, mul-le, as_diff, pos_diff, diffs, diff-same}
use Rattle.lift_model.specs.Process.{Process, Move, power, weighted_sum}
use Rattle.lift_model.specs.Plan.{Plan, Parts, Plans, MovesFit, PartFits, PartsFit, PlanFits, Fits}
use Rattle.lift_model.specs.Plan.Plan.{stop, toss}
use Rattle.lift_model.specs.Plan.Parts.{no_parts, part}
use Rattle.lift_model.specs.Plan.Plans.{no_plans, plan}
use Rattle.lift_model.specs.Reach.{moves_reach, parts_reach, plan_reach, reach}
use Rattle.lift_model.specs.Memoryless.{chosen, memoryless_reach}
use Rattle.lift_model.specs.Laws.{AreNonNegative}
use Rattle.reward_cert.specs.Expected.{parts_cost, plan_cost, expected_cost, memoryless_cost}

pub either_way : {P : Type 0} (b : Bool) → (b ≡ true → P) → (b ≡ false → P) → P
either_way true f g = f refl
either_way false f g = g refl

-- each move leads to a state of the test, or has no weight
abbrev pub AreClosed : (ℕ → Bool) → List Move → Type 0
AreClosed held moves = AllByRecursion (λ move. (move.1 *ℤ cond (held move.0) (pos 0) (pos 1)) ≤ℤ pos 0) moves

-- what is paid, times top, less what is reached, times c
abbrev pub mixed : ℤ → ℤ → ℤ → ℤ → ℤ
mixed top c paid reached = paid *ℤ top -ℤ reached *ℤ c

apart : (w f r g t top c : ℤ) → mixed top c (w *ℤ f +ℤ r) (w *ℤ g +ℤ t) ≡ w *ℤ mixed top c f g +ℤ mixed top c r t
apart w f r g t top c = rw (as_diff w, as_diff f, as_diff r, as_diff g, as_diff t, as_diff top, as_diff c) (simp diffs (diff-same _ _ _ _ (omega arith)))

charged : (u h a f r g t top c : ℤ) → mixed top c (u *ℤ (h *ℤ a +ℤ f) +ℤ r) (u *ℤ g +ℤ t) ≡ u *ℤ ((h *ℤ top) *ℤ a +ℤ mixed top c f g) +ℤ mixed top c r t
charged u h a f r g t top c = rw (as_diff u, as_diff h, as_diff a, as_diff f, as_diff r, as_diff g, as_diff t, as_diff top, as_diff c) (simp diffs (diff-same _ _ _ _ (omega arith)))

no_weight : (w : ℤ) → pos 0 ≤ℤ w → (w *ℤ pos 1) ≤ℤ pos 0 → w ≡ pos 0
no_weight w least most = omega (arith, linear, least, most, mul-comm w (pos 1), one-mul w)

none_mixed : (top c : ℤ) → mixed top c (pos 0) (pos 0) ≡ pos 0
none_mixed top c = omega (arith, linear, zero-mul top, zero-mul c)

-- a move to a state of the test, or of no weight
one_move : (held : Bool) (w n v : ℤ) → pos 0 ≤ℤ w → (w *ℤ cond held (pos 0) (pos 1)) ≤ℤ pos 0 → (held ≡ true → n ≤ℤ v) → (w *ℤ n) ≤ℤ (w *ℤ v)
one_move true w n v least closed le = mul-le w n v least (le refl)
one_move false w n v least closed le = rw (no_weight w least closed) (omega (arith, linear, zero-mul n, zero-mul v))

-- ---- plans

module _ (f g : ℕ → Plan → ℤ) (top c : ℤ) (fits : ℕ → Plan → Type 0) (held : ℕ → Bool) (number : ℕ → ℤ) (below : (t : ℕ) (p : Plan) → held t ≡ true → fits t p → number t ≤ℤ mixed top c (f t p) (g t p)) where
  moves_step : (moves : List Move) (plans : Plans) → AreNonNegative moves → AreClosed held moves → MovesFit fits moves plans → weighted_sum number moves ≤ℤ mixed top c (moves_reach f moves plans) (moves_reach g moves plans)
  moves_step [] no_plans h closed fit = omega (arith, linear, none_mixed top c)
  moves_step (m ∷ moves) (plan p plans) h closed fit =
      let first = one_move (held m.0) m.1 (number m.0) (mixed top c (f m.0 p) (g m.0 p)) h.0 closed.0 (λ e. below m.0 p e fit.0) in
      omega (arith, linear, first, moves_step moves plans h.1 closed.1 fit.1, apart m.1 (f m.0 p) (moves_reach f moves plans) (g m.0 p) (moves_reach g moves plans) top c)
  moves_step [] (plan p plans) h closed fit = absurd fit
  moves_step (m ∷ moves) no_plans h closed fit = absurd fit

  module _ (all b : ℤ) where
    part_step : (moves : List Move) (h : ℕ) (u : ℕ) (plans : Plans) → AreNonNegative moves → AreClosed held moves → b ≤ℤ ((pos h *ℤ top) *ℤ all +ℤ weighted_sum number moves) → PartFits fits moves u plans
        → (pos u *ℤ b) ≤ℤ (pos u *ℤ ((pos h *ℤ top) *ℤ all +ℤ mixed top c (moves_reach f moves plans) (moves_reach g moves plans)))
    part_step moves h zero plans weights closed le fit = omega (arith, linear, zero-mul b, zero-mul ((pos h *ℤ top) *ℤ all +ℤ mixed top c (moves_reach f moves plans) (moves_reach g moves plans)))
    part_step moves h (suc u) plans weights closed le fit = mul-le (pos (suc u)) b _ (omega (arith, linear)) (omega (arith, linear, le, moves_step moves plans weights closed fit))

    shared : (u r : ℕ) (b : ℤ) → pos (u + r) *ℤ b ≡ pos u *ℤ b +ℤ pos r *ℤ b
    shared u r b = rw (pos_diff (u + r), pos_diff u, pos_diff r, as_diff b) (simp diffs (diff-same _ _ _ _ (omega arith)))

    parts_step : (q : ℕ) (charge : ℕ → ℕ) (choices : List (List Move)) (parts : Parts) → AllByRecursion AreNonNegative choices
        → ((a : ℕ) → a < length choices → AreClosed held (get_or choices a []) × (b ≤ℤ ((pos (charge a) *ℤ top) *ℤ all +ℤ weighted_sum number (get_or choices a []))))
        → PartsFit fits q choices parts → (pos q *ℤ b) ≤ℤ mixed top c (parts_cost charge all f choices parts) (parts_reach g choices parts)
    parts_step q charge [] no_parts weights rows fit = rw fit (omega (arith, linear, none_mixed top c, zero-mul b))
    parts_step q charge (moves ∷ choices) (part u plans parts) weights rows fit =
        let row = rows 0 (omega arith) in
        let first = part_step moves (charge 0) u plans weights.0 row.0 row.1 fit.0 in
        let others = parts_step fit.1.0 (λ a. charge (suc a)) choices parts weights.1 (λ a lt. rows (suc a) (omega (arith, lt))) fit.1.2 in
        rw fit.1.1 (omega (arith, linear, first, others, shared u fit.1.0 b, charged (pos u) (pos (charge 0)) all (moves_reach f moves plans) (parts_cost (λ a. charge (suc a)) all f choices parts) (moves_reach g moves plans) (parts_reach g choices parts) top c))
    parts_step q charge [] (part u plans parts) weights rows fit = absurd fit
    parts_step q charge (moves ∷ choices) no_parts weights rows fit = absurd fit

    plan_step : (q : ℕ) (charge : ℕ → ℕ) (choices : List (List Move)) (p : Plan) → AllByRecursion AreNonNegative choices
        → ((a : ℕ) → a < length choices → AreClosed held (get_or choices a []) × (b ≤ℤ ((pos (charge a) *ℤ top) *ℤ all +ℤ weighted_sum number (get_or choices a []))))
        → PlanFits fits q choices p → (pos q *ℤ b) ≤ℤ mixed top c (plan_cost charge all f choices p) (plan_reach g choices p)
    plan_step q charge choices stop weights rows fit = absurd fit
    plan_step q charge choices (toss parts) weights rows fit = parts_step q charge choices parts weights rows fit

-- what a plan pays in n steps, times top, less what it reaches, times c
abbrev pub plan_value : Process → (ℕ → ℕ → ℕ) → ℕ → ℤ → ℤ → ℕ → ℕ → Plan → ℤ
plan_value process charge q top c n s p = mixed top c (expected_cost process charge q n s p) (reach process q n s p)

pub no_goal : {A : Type 0} (b : Bool) → b ≡ false → IsTrue b → A
no_goal true e t = cc
no_goal false e t = cc

pub step_of_plan : (process : Process) (charge : ℕ → ℕ → ℕ) (q : ℕ) (top c : ℤ) (held : ℕ → Bool) (number : ℕ → ℤ) (b : ℤ) (n s : ℕ) (p : Plan) → process.goal s ≡ false → AllByRecursion AreNonNegative (process.choices s)
    → Fits process q (suc n) s p → ((t : ℕ) (r : Plan) → held t ≡ true → Fits process q n t r → number t ≤ℤ plan_value process charge q top c n t r)
    → ((a : ℕ) → a < length (process.choices s) → AreClosed held (get_or (process.choices s) a []) × (b ≤ℤ ((pos (charge s a) *ℤ top) *ℤ (process.total *ℤ power (pos q *ℤ process.total) n) +ℤ weighted_sum number (get_or (process.choices s) a []))))
    → (pos q *ℤ b) ≤ℤ plan_value process charge q top c (suc n) s p
step_of_plan process charge q top c held number b n s p g weights fits below rows = by_plan fits
  where
    by_plan : IsTrue (process.goal s) ⊎ PlanFits (Fits process q n) q (process.choices s) p → (pos q *ℤ b) ≤ℤ plan_value process charge q top c (suc n) s p
    by_plan (inl t) = no_goal (process.goal s) g t
    by_plan (inr fit) = rw g (plan_step (expected_cost process charge q n) (reach process q n) top c (Fits process q n) held number below (process.total *ℤ power (pos q *ℤ process.total) n) b q (charge s) (process.choices s) p weights rows fit)

-- ---- memoryless schedulers

module _ (f g : ℕ → ℤ) (top c : ℤ) (held : ℕ → Bool) (number : ℕ → ℤ) (below : (t : ℕ) → held t ≡ true → number t ≤ℤ mixed top c (f t) (g t)) where
  sums_step : (moves : List Move) → AreNonNegative moves → AreClosed held moves → weighted_sum number moves ≤ℤ mixed top c (weighted_sum f moves) (weighted_sum g moves)
  sums_step [] h closed = omega (arith, linear, none_mixed top c)
  sums_step (m ∷ moves) h closed =
      let first = one_move (held m.0) m.1 (number m.0) (mixed top c (f m.0) (g m.0)) h.0 closed.0 (λ e. below m.0 e) in
      omega (arith, linear, first, sums_step moves h.1 closed.1, apart m.1 (f m.0) (weighted_sum f moves) (g m.0) (weighted_sum g moves) top c)

abbrev pub choice_value : Process → (ℕ → ℕ → ℕ) → (ℕ → ℕ) → ℤ → ℤ → ℕ → ℕ → ℤ
choice_value process charge choice top c n s = mixed top c (memoryless_cost process charge choice n s) (memoryless_reach process choice n s)

added : (h a f g top c : ℤ) → mixed top c (h *ℤ a +ℤ f) g ≡ (h *ℤ top) *ℤ a +ℤ mixed top c f g
added h a f g top c = rw (as_diff h, as_diff a, as_diff f, as_diff g, as_diff top, as_diff c) (simp diffs (diff-same _ _ _ _ (omega arith)))

pub step_of_choice : (process : Process) (charge : ℕ → ℕ → ℕ) (choice : ℕ → ℕ) (top c : ℤ) (held : ℕ → Bool) (number : ℕ → ℤ) (b : ℤ) (n s : ℕ) → process.goal s ≡ false → AreNonNegative (chosen process choice s)
    → ((t : ℕ) → held t ≡ true → number t ≤ℤ choice_value process charge choice top c n t)
    → AreClosed held (chosen process choice s) × (b ≤ℤ ((pos (charge s (choice s)) *ℤ top) *ℤ power process.total (suc n) +ℤ weighted_sum number (chosen process choice s)))
    → b ≤ℤ choice_value process charge choice top c (suc n) s
step_of_choice process charge choice top c held number b n s g weights below row =
    let sum = sums_step (memoryless_cost process charge choice n) (memoryless_reach process choice n) top c held number below (chosen process choice s) weights row.0 in
    rw g (omega (arith, linear, row.1, sum, added (pos (charge s (choice s))) (power process.total (suc n)) (weighted_sum (memoryless_cost process charge choice n) (chosen process choice s)) (weighted_sum (memoryless_reach process choice n) (chosen process choice s)) top c))
