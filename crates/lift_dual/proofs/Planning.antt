-- What every plan reaches at least, where every choice supports a vector and leads to lower ranks.
use Rattle.std.proofs.Common.{◌≡◌, ℕ, zero, suc, ◌+◌, ◌*◌, ◌<◌, ◌≤◌, Bool, true, false, List, [], ◌∷◌, ℤ, pos, ◌+ℤ◌, ◌-ℤ◌, ◌*ℤ◌, neg_ℤ, ◌≤ℤ◌, refl, sym, ap, subst, ◌∙◌, arith, nat_lt, ltb-true, ltb-false, ◌⊎◌, inl, inr, IsTrue}
use Rattle.std.specs.List.{AllByRecursion}
use Rattle.lift_poly.proofs.Ring.{linear, mul-assoc, mul-comm, mul-zero, zero-mul, one-mul, mul-le, mul-nonneg, as_diff, diff-mul, diff-same, diffs}
use Rattle.lift_model.specs.Process.{Process, Move, power, weighted_sum}
use Rattle.lift_model.specs.Plan.{Plan, PlanFits, Fits}
use Rattle.lift_model.specs.Reach.{plan_reach, reach}
use Rattle.lift_model.specs.Laws.{AreNonNegative, WeightedSumsRise}
use Rattle.lift_model.specs.Tossing.{TossesAreBounded}
use Rattle.lift_dual.specs.Supported.{ranked_under, Supports, IsSupportedByAll}
use Rattle.lift_dual.specs.Laws.{SupportedPlansReach}
use Rattle.lift_dual.proofs.Inside.{either_way}
use Rattle.lift_dual.proofs.Sums.{sum-add, sum-times}

no_goal : {A : Type 0} (b : Bool) → b ≡ false → IsTrue b → A
no_goal true e t = cc
no_goal false e t = cc

-- ---- one step, where what follows is bounded from below: what bounds a step from above, of the numbers with the other sign

neg-times : (s j : ℤ) → s *ℤ neg_ℤ j ≡ neg_ℤ (s *ℤ j)
neg-times s j = rw (as_diff s, as_diff j) (simp diffs (diff-same _ _ _ _ (omega arith)))

times-neg : (s j : ℤ) → neg_ℤ s *ℤ j ≡ neg_ℤ (s *ℤ j)
times-neg s j = rw (as_diff s, as_diff j) (simp diffs (diff-same _ _ _ _ (omega arith)))

neg-share : (q b k : ℤ) → (q *ℤ neg_ℤ b) *ℤ k ≡ neg_ℤ ((q *ℤ b) *ℤ k)
neg-share q b k = ap (λ z. z *ℤ k) (neg-times q b) ∙ times-neg (q *ℤ b) k

neg-sum : (x : ℕ → ℤ) (moves : List Move) → weighted_sum (λ t. neg_ℤ (x t)) moves ≡ neg_ℤ (weighted_sum x moves)
neg-sum x [] = refl
neg-sum x (m ∷ moves) = omega (arith, linear, neg-sum x moves, neg-times m.1 (x m.0))

turned_rows : (b : ℤ) (x : ℕ → ℤ) (rows : List (List Move)) → AllByRecursion (λ moves. b ≤ℤ weighted_sum x moves) rows → AllByRecursion (λ moves. weighted_sum (λ t. neg_ℤ (x t)) moves ≤ℤ neg_ℤ b) rows
turned_rows b x [] h = tt
turned_rows b x (moves ∷ rows) h = (omega (arith, linear, h.0, neg-sum x moves), turned_rows b x rows h.1)

plan_above : TossesAreBounded → (process : Process) (rest : ℕ → Plan → ℤ) (x : ℕ → ℤ) (top k b : ℤ) (q n s : ℕ) (p : Plan) → ((t : ℕ) (r : Plan) → Fits process q n t r → (x t *ℤ k) ≤ℤ (rest t r *ℤ top)) → pos 0 ≤ℤ k
    → AllByRecursion AreNonNegative (process.choices s) → AllByRecursion (λ moves. b ≤ℤ weighted_sum x moves) (process.choices s) → PlanFits (Fits process q n) q (process.choices s) p
    → ((pos q *ℤ b) *ℤ k) ≤ℤ (plan_reach rest (process.choices s) p *ℤ top)
plan_above tosses process rest x top k b q n s p above least weights means fits =
    let reached = plan_reach rest (process.choices s) p in
    let bound = tosses process rest (λ t. neg_ℤ (x t)) (neg_ℤ top) k (neg_ℤ b) q n s p (λ t r f. omega (arith, linear, above t r f, neg-times (rest t r) top, times-neg (x t) k)) least weights (turned_rows b x (process.choices s) means) fits in
    omega (arith, linear, bound, neg-times reached top, neg-share (pos q) b k)

-- ---- sums and powers

power-least : (b : ℤ) (n : ℕ) → pos 0 ≤ℤ b → pos 0 ≤ℤ power b n
power-least b zero h = omega (arith, linear)
power-least b (suc n) h = mul-nonneg b (power b n) h (power-least b n h)

power-one : (b : ℤ) (n : ℕ) → pos 1 ≤ℤ b → pos 1 ≤ℤ power b n
power-one b zero h = omega (arith, linear)
power-one b (suc n) h =
    let l : pos 0 ≤ℤ b = omega (arith, linear) in
    omega (arith, linear, h, mul-le b (pos 1) (power b n) l (power-one b n h), mul-comm b (pos 1), one-mul b)

-- i more steps than n
abbrev after : ℕ → ℕ → ℕ
after zero n = n
after (suc i) n = suc (after i n)

after_is : (i n : ℕ) → after i n ≡ i + n
after_is zero n = omega arith
after_is (suc i) n = omega (arith, after_is i n)

-- ---- the ring steps

moved : (a x t d : ℤ) → a *ℤ (x *ℤ (t *ℤ d)) ≡ x *ℤ (t *ℤ (a *ℤ d))
moved a x t d = rw (as_diff a, as_diff x, as_diff t, as_diff d) (simp diff-mul (diff-same _ _ _ _ (omega arith)))

regroup : (q x n k : ℤ) → (q *ℤ (x *ℤ n)) *ℤ k ≡ x *ℤ ((q *ℤ n) *ℤ k)
regroup q x n k = rw (as_diff q, as_diff x, as_diff n, as_diff k) (simp diff-mul (diff-same _ _ _ _ (omega arith)))

-- what a state's number is after a step, in parts
opened : (c y d g p l : ℤ) → c *ℤ (y *ℤ d -ℤ g *ℤ (p -ℤ l)) ≡ y *ℤ (c *ℤ d) +ℤ ((g *ℤ c) *ℤ l -ℤ g *ℤ (c *ℤ p))
opened c y d g p l = rw (as_diff c, as_diff y, as_diff d, as_diff g, as_diff p, as_diff l) (simp diffs (diff-same _ _ _ _ (omega arith)))

owed : (y e g p l n : ℤ) → (y *ℤ e -ℤ g *ℤ (p -ℤ l)) *ℤ n ≡ e *ℤ (y *ℤ n) +ℤ ((g *ℤ l) *ℤ n -ℤ (g *ℤ p) *ℤ n)
owed y e g p l n = rw (as_diff y, as_diff e, as_diff g, as_diff p, as_diff l, as_diff n) (simp diffs (diff-same _ _ _ _ (omega arith)))

led : (g l s c : ℤ) → (g *ℤ l) *ℤ (s *ℤ c) ≡ s *ℤ ((g *ℤ c) *ℤ l)
led g l s c = rw (as_diff g, as_diff l, as_diff s, as_diff c) (simp diff-mul (diff-same _ _ _ _ (omega arith)))

passed : (w a l : ℤ) → w *ℤ (a *ℤ l) ≡ a *ℤ (w *ℤ l)
passed w a l = rw (as_diff w, as_diff a, as_diff l) (simp diff-mul (diff-same _ _ _ _ (omega arith)))

neg-swapped : (s j : ℤ) → s *ℤ neg_ℤ j ≡ neg_ℤ (j *ℤ s)
neg-swapped s j = rw (as_diff s, as_diff j) (simp diffs (diff-same _ _ _ _ (omega arith)))

one-sub : (a g l : ℤ) → l ≡ pos 0 → a -ℤ g *ℤ (pos 1 -ℤ l) ≡ a -ℤ g
one-sub a g l e = rw e (omega (arith, linear, mul-comm g (pos 1), one-mul g))

closing : (a g m l : ℤ) → l ≡ pos 0 → a -ℤ (g *ℤ (m -ℤ pos 1)) *ℤ (pos 1 -ℤ l) ≡ a -ℤ g *ℤ (m -ℤ pos 1)
closing a g m l e = rw e (omega (arith, linear, mul-comm (g *ℤ (m -ℤ pos 1)) (pos 1), one-mul (g *ℤ (m -ℤ pos 1))))

module _ (tosses : TossesAreBounded) (rise : WeightedSumsRise) (process : Process) (top : ℤ) (y : ℕ → ℤ) (rank : ℕ → ℕ) (rate : ℤ) (k : ℕ) (h : IsSupportedByAll process top y rank rate k) (q : ℕ) where
  abbrev steps : ℕ → ℤ
  steps n = power (pos q *ℤ process.total) n

  steps-least : (n : ℕ) → pos 0 ≤ℤ steps n
  steps-least n = power-least (pos q *ℤ process.total) n (mul-nonneg (pos q) process.total (omega (arith, linear)) h.total)

  abbrev low : ℕ → ℕ → ℤ
  low r s = ranked_under rank r s

  low-range : (r s : ℕ) → (pos 0 ≤ℤ low r s) × (low r s ≤ℤ pos 1)
  low-range r s = either_way (nat_lt (rank s) r) (λ e. rw e (omega (arith, linear), omega (arith, linear))) (λ e. rw e (omega (arith, linear), omega (arith, linear)))

  low-yes : (r s : ℕ) → rank s < r → low r s ≡ pos 1
  low-yes r s lt = either_way (nat_lt (rank s) r) (λ e. rw e refl) (λ e. absurd (omega (arith, lt, ltb-false (rank s) r e)))

  low-no : (r s : ℕ) → r ≤ rank s → low r s ≡ pos 0
  low-no r s le = either_way (nat_lt (rank s) r) (λ e. absurd (omega (arith, le, ltb-true (rank s) r e))) (λ e. rw e refl)

  -- what is promised of a state with i steps left of a block, when d stands for all parts, and g times p for the undecided ones
  abbrev promised : ℕ → ℤ → ℤ → ℤ → ℕ → ℤ
  promised i d g p s = y s *ℤ d -ℤ g *ℤ (p -ℤ low (suc i) s)

  abbrev Holds : ℕ → ℕ → ℤ → ℤ → ℤ → Type 0
  Holds n i d g p = (s : ℕ) (a : Plan) → Fits process q n s a → (promised i d g p s *ℤ steps n) ≤ℤ (reach process q n s a *ℤ (top *ℤ d))

  reach-least : (n s : ℕ) (a : Plan) → Fits process q n s a → pos 0 ≤ℤ reach process q n s a
  reach-least zero s a f = either_way (process.goal s) (λ e. rw e (omega (arith, linear))) (λ e. rw e (omega (arith, linear)))
  reach-least (suc n) s a f = either_way (process.goal s)
      (λ e. rw e (steps-least (suc n)))
      (λ e. rw e (some (λ t p g. reach-least n t p g) f e))
    where
      none : (moves : List (List Move)) → AllByRecursion (λ row. pos 0 ≤ℤ weighted_sum (λ t. pos 0) row) moves
      none [] = tt
      none (row ∷ rows) = (zeros row, none rows)
        where
          zeros : (row : List Move) → pos 0 ≤ℤ weighted_sum (λ t. pos 0) row
          zeros [] = omega (arith, linear)
          zeros (m ∷ row) = omega (arith, linear, mul-zero m.1, zeros row)

      some : ((t : ℕ) (p : Plan) → Fits process q n t p → pos 0 ≤ℤ reach process q n t p) → IsTrue (process.goal s) ⊎ PlanFits (Fits process q n) q (process.choices s) a → process.goal s ≡ false → pos 0 ≤ℤ plan_reach (reach process q n) (process.choices s) a
      some later (inl t) e = no_goal (process.goal s) e t
      some later (inr f) e =
          let bound = plan_above tosses process (reach process q n) (λ t. pos 0) (pos 1) (pos 1) (pos 0) q n s a (λ t p g. omega (arith, linear, later t p g, mul-comm (reach process q n t p) (pos 1), one-mul (reach process q n t p))) (omega (arith, linear)) (h.weights s) (none (process.choices s)) f in
          omega (arith, linear, bound, mul-zero (pos q), ap (λ z. z *ℤ pos 1) (mul-zero (pos q)), mul-comm (plan_reach (reach process q n) (process.choices s) a) (pos 1), one-mul (plan_reach (reach process q n) (process.choices s) a))

  goal-reach : (n s : ℕ) (a : Plan) → process.goal s ≡ true → reach process q n s a ≡ steps n
  goal-reach zero s a e = rw e refl
  goal-reach (suc n) s a e = rw e refl

  owes-least : (i : ℕ) (g p : ℤ) (s : ℕ) → pos 0 ≤ℤ g → pos 1 ≤ℤ p → pos 0 ≤ℤ (g *ℤ (p -ℤ low (suc i) s))
  owes-least i g p s g_least p_least = mul-nonneg g (p -ℤ low (suc i) s) g_least (omega (arith, linear, (low-range (suc i) s).1, p_least))

  -- goal states, and states whose rank is above k
  outside : (n i : ℕ) (d g p : ℤ) (s : ℕ) (a : Plan) → pos 0 ≤ℤ d → pos 0 ≤ℤ g → pos 1 ≤ℤ p → Fits process q n s a → (process.goal s ≡ false → k < rank s) → (promised i d g p s *ℤ steps n) ≤ℤ (reach process q n s a *ℤ (top *ℤ d))
  outside n i d g p s a d_least g_least p_least f beyond =
      let owes = owes-least i g p s g_least p_least in
      either_way (process.goal s)
      (λ e.
      let first = mul-le d (y s) top d_least (h.most s) in
      let second = mul-le (steps n) (promised i d g p s) (top *ℤ d) (steps-least n) (omega (arith, linear, first, owes, mul-comm d (y s), mul-comm d top)) in
      rw (goal-reach n s a e) (omega (arith, linear, second, mul-comm (steps n) (promised i d g p s))))
      (λ e.
      let first = mul-le d (y s) (pos 0) d_least (h.apart s e (beyond e)) in
      let second = mul-le (steps n) (promised i d g p s) (pos 0) (steps-least n) (omega (arith, linear, first, owes, mul-comm d (y s), mul-zero d)) in
      let third = mul-nonneg (reach process q n s a) (top *ℤ d) (reach-least n s a f) (mul-nonneg top d h.top_least d_least) in
      omega (arith, linear, second, third, mul-comm (steps n) (promised i d g p s), mul-zero (steps n)))

  -- ---- one step

  module _ (n i : ℕ) (d g p : ℤ) (d_least : pos 0 ≤ℤ d) (g_least : pos 0 ≤ℤ g) (p_least : pos 1 ≤ℤ p) (before : Holds n i d g p) where
    rate-from_zero : pos 0 ≤ℤ rate
    rate-from_zero = omega (arith, linear, h.rate_least)

    row_above : (s : ℕ) (moves : List Move) → AreNonNegative moves → Supports process.total y rank rate s moves → (promised (suc i) (rate *ℤ d) g (rate *ℤ p) s *ℤ process.total) ≤ℤ weighted_sum (λ t. rate *ℤ promised i d g p t) moves
    row_above s moves weights has =
        let e = rate *ℤ d in
        let l = low (suc (suc i)) s in
        let lead = (g *ℤ rate) *ℤ l in
        let owe = g *ℤ (rate *ℤ p) in
        let below = ranked_under rank (rank s) in
        let e_least : pos 0 ≤ℤ e = mul-nonneg rate d rate-from_zero d_least in
        let gc_least : pos 0 ≤ℤ (g *ℤ rate) = mul-nonneg g rate g_least rate-from_zero in
        let owe_least : pos 0 ≤ℤ owe = mul-nonneg g (rate *ℤ p) g_least (mul-nonneg rate p rate-from_zero (omega (arith, linear, p_least))) in
        let gl_least : pos 0 ≤ℤ (g *ℤ l) = mul-nonneg g l g_least (low-range (suc (suc i)) s).0 in
        let fewer : (t : ℕ) → (below t *ℤ l) ≤ℤ low (suc i) t = λ t. either_way (nat_lt (rank t) (rank s))
        (λ lower. either_way (nat_lt (rank s) (suc (suc i)))
        (λ near. rw (low-yes (suc i) t (omega (arith, ltb-true (rank t) (rank s) lower, ltb-true (rank s) (suc (suc i)) near)), lower, near) (omega (arith, linear)))
        (λ far. rw (lower, far) (omega (arith, linear, (low-range (suc i) t).0))))
        (λ higher. rw higher (omega (arith, linear, zero-mul l, (low-range (suc i) t).0))) in
        let each : (t : ℕ) → (y t *ℤ e +ℤ (below t *ℤ lead +ℤ pos 1 *ℤ neg_ℤ owe)) ≤ℤ (rate *ℤ promised i d g p t) =
        λ t. omega (arith, linear, opened rate (y t) d g p (low (suc i) t), mul-le (g *ℤ rate) (below t *ℤ l) (low (suc i) t) gc_least (fewer t), passed (below t) (g *ℤ rate) l, one-mul (neg_ℤ owe)) in
        let sum = rise (λ t. y t *ℤ e +ℤ (below t *ℤ lead +ℤ pos 1 *ℤ neg_ℤ owe)) (λ t. rate *ℤ promised i d g p t) moves each weights in
        let mean = mul-le e (y s *ℤ process.total) (weighted_sum y moves) e_least has.mean in
        let whole = mul-le owe (weighted_sum (λ t. pos 1) moves) process.total owe_least has.sum in
        let leads = mul-le (g *ℤ l) process.total (weighted_sum below moves *ℤ rate) gl_least has.lead in
        omega (
          arith,
          linear,
          sum,
          mean,
          whole,
          leads,
          sum-add (λ t. y t *ℤ e) (λ t. below t *ℤ lead +ℤ pos 1 *ℤ neg_ℤ owe) moves,
          sum-add (λ t. below t *ℤ lead) (λ t. pos 1 *ℤ neg_ℤ owe) moves,
          sum-times e y moves,
          sum-times lead below moves,
          sum-times (neg_ℤ owe) (λ t. pos 1) moves,
          mul-comm e (weighted_sum y moves),
          neg-swapped (weighted_sum (λ t. pos 1) moves) owe,
          led g l (weighted_sum below moves) rate,
          owed (y s) e g (rate *ℤ p) l process.total,
        )

    rows_above : (s : ℕ) (choices : List (List Move)) → AllByRecursion AreNonNegative choices → AllByRecursion (Supports process.total y rank rate s) choices
        → AllByRecursion (λ moves. (promised (suc i) (rate *ℤ d) g (rate *ℤ p) s *ℤ process.total) ≤ℤ weighted_sum (λ t. rate *ℤ promised i d g p t) moves) choices
    rows_above s [] weights has = tt
    rows_above s (moves ∷ choices) weights has = (row_above s moves weights.0 has.0, rows_above s choices weights.1 has.1)

    open_step : (s : ℕ) (a : Plan) → process.goal s ≡ false → rank s ≤ k → PlanFits (Fits process q n) q (process.choices s) a → (promised (suc i) (rate *ℤ d) g (rate *ℤ p) s *ℤ steps (suc n)) ≤ℤ (plan_reach (reach process q n) (process.choices s) a *ℤ (top *ℤ (rate *ℤ d)))
    open_step s a e le f =
        let x = promised (suc i) (rate *ℤ d) g (rate *ℤ p) s in
        let above : (t : ℕ) (b : Plan) → Fits process q n t b → ((rate *ℤ promised i d g p t) *ℤ steps n) ≤ℤ (reach process q n t b *ℤ (top *ℤ (rate *ℤ d))) =
        λ t b fits. omega (arith, linear, mul-le rate _ _ rate-from_zero (before t b fits), mul-assoc rate (promised i d g p t) (steps n), moved rate (reach process q n t b) top d) in
        let bound = plan_above tosses process (reach process q n) (λ t. rate *ℤ promised i d g p t) (top *ℤ (rate *ℤ d)) (steps n) (x *ℤ process.total) q n s a above (steps-least n) (h.weights s) (rows_above s (process.choices s) (h.weights s) (h.supports s e le)) f in
        omega (arith, linear, bound, regroup (pos q) x process.total (steps n))

    step : Holds (suc n) (suc i) (rate *ℤ d) g (rate *ℤ p)
    step s a f =
        let rated : pos 0 ≤ℤ (rate *ℤ d) = mul-nonneg rate d rate-from_zero d_least in
        let parts : pos 1 ≤ℤ (rate *ℤ p) = omega (arith, linear, mul-le rate (pos 1) p rate-from_zero p_least, mul-comm rate (pos 1), one-mul rate, h.rate_least) in
        either_way (nat_lt k (rank s))
        (λ far. outside (suc n) (suc i) (rate *ℤ d) g (rate *ℤ p) s a rated g_least parts f (λ e. ltb-true k (rank s) far))
        (λ near. either_way (process.goal s)
        (λ e. outside (suc n) (suc i) (rate *ℤ d) g (rate *ℤ p) s a rated g_least parts f (λ no. absurd (true-false (sym e ∙ no))))
        (λ e. by_plan e (ltb-false k (rank s) near) f))
      where
        true-false : true ≡ false → ⊥
        true-false e = cc

        by_plan : process.goal s ≡ false → rank s ≤ k → IsTrue (process.goal s) ⊎ PlanFits (Fits process q n) q (process.choices s) a → (promised (suc i) (rate *ℤ d) g (rate *ℤ p) s *ℤ steps (suc n)) ≤ℤ (reach process q (suc n) s a *ℤ (top *ℤ (rate *ℤ d)))
        by_plan e le (inl t) = no_goal (process.goal s) e t
        by_plan e le (inr f) = rw e (open_step s a e le f)

  -- ---- i steps

  grown : ℤ → ℕ → ℤ
  grown d zero = d
  grown d (suc i) = rate *ℤ grown d i

  grown-is : (d : ℤ) (i : ℕ) → grown d i ≡ power rate i *ℤ d
  unfolding grown
  grown-is d zero = sym (one-mul d)
  grown-is d (suc i) = ap (λ z. rate *ℤ z) (grown-is d i) ∙ sym (mul-assoc rate (power rate i) d)

  grown-one : (i : ℕ) → grown (pos 1) i ≡ power rate i
  grown-one i = grown-is (pos 1) i ∙ mul-comm (power rate i) (pos 1) ∙ one-mul (power rate i)

  power-rate : (i : ℕ) → pos 1 ≤ℤ power rate i
  power-rate i = power-one rate i h.rate_least

  many : (n i : ℕ) (d g : ℤ) → pos 0 ≤ℤ d → pos 0 ≤ℤ g → Holds n 0 d g (pos 1) → Holds (after i n) i (grown d i) g (grown (pos 1) i)
  unfolding grown
  many n zero d g d_least g_least start = start
  many n (suc i) d g d_least g_least start =
      step (after i n) i (grown d i) g (grown (pos 1) i)
      (rw (grown-is d i) (mul-nonneg (power rate i) d (omega (arith, linear, power-rate i)) d_least))
      g_least
      (rw (grown-one i) (power-rate i))
      (many n i d g d_least g_least start)

  -- ---- a block of k steps

  abbrev whole : ℤ
  whole = power rate k

  at_end : (n : ℕ) (d g : ℤ) → pos 0 ≤ℤ d → pos 0 ≤ℤ g → Holds n k d g whole → Holds n 0 d (g *ℤ (whole -ℤ pos 1)) (pos 1)
  at_end n d g d_least g_least before s a f =
      let more : pos 0 ≤ℤ (g *ℤ (whole -ℤ pos 1)) = mul-nonneg g (whole -ℤ pos 1) g_least (omega (arith, linear, power-rate k)) in
      either_way (nat_lt k (rank s))
      (λ far. outside n 0 d (g *ℤ (whole -ℤ pos 1)) (pos 1) s a d_least more (omega (arith, linear)) f (λ e. ltb-true k (rank s) far))
      (λ near. either_way (process.goal s)
      (λ e. outside n 0 d (g *ℤ (whole -ℤ pos 1)) (pos 1) s a d_least more (omega (arith, linear)) f (λ no. absurd (true-false (sym e ∙ no))))
      (λ e.
      let same : promised 0 d (g *ℤ (whole -ℤ pos 1)) (pos 1) s ≡ promised k d g whole s =
      closing (y s *ℤ d) g whole (low 1 s) (low-no 1 s (h.later s e)) ∙ ap (λ l. y s *ℤ d -ℤ g *ℤ (whole -ℤ l)) (sym (low-yes (suc k) s (omega (arith, ltb-false k (rank s) near)))) in
      subst (λ z. (z *ℤ steps n) ≤ℤ (reach process q n s a *ℤ (top *ℤ d))) (sym same) (before s a f)))
    where
      true-false : true ≡ false → ⊥
      true-false e = cc

  block : (n : ℕ) (d g : ℤ) → pos 0 ≤ℤ d → pos 0 ≤ℤ g → Holds n 0 d g (pos 1) → Holds (after k n) 0 (whole *ℤ d) (g *ℤ (whole -ℤ pos 1)) (pos 1)
  block n d g d_least g_least start =
      let all = many n k d g d_least g_least start in
      at_end (after k n) (whole *ℤ d) g (mul-nonneg whole d (omega (arith, linear, power-rate k)) d_least) g_least
      (subst (λ z. Holds (after k n) k z g whole) (grown-is d k) (subst (λ z. Holds (after k n) k (grown d k) g z) (grown-one k) all))

  -- ---- j blocks

  blocks : ℕ → ℕ
  blocks zero = 0
  blocks (suc j) = after k (blocks j)

  blocks-is : (j : ℕ) → blocks j ≡ k * j
  unfolding blocks
  blocks-is zero = omega arith
  blocks-is (suc j) = after_is k (blocks j) ∙ omega (arith, blocks-is j)

  at_start : Holds 0 0 (pos 1) top (pos 1)
  at_start s a f = either_way (nat_lt k (rank s))
      (λ far. outside 0 0 (pos 1) top (pos 1) s a (omega (arith, linear)) h.top_least (omega (arith, linear)) f (λ e. ltb-true k (rank s) far))
      (λ near. either_way (process.goal s)
      (λ e. outside 0 0 (pos 1) top (pos 1) s a (omega (arith, linear)) h.top_least (omega (arith, linear)) f (λ no. absurd (true-false (sym e ∙ no))))
      (λ e. rw (e, one-sub (y s *ℤ pos 1) top (low 1 s) (low-no 1 s (h.later s e))) (omega (arith, linear, h.most s, mul-comm (y s) (pos 1), one-mul (y s), mul-comm (y s *ℤ pos 1 -ℤ top) (pos 1), one-mul (y s *ℤ pos 1 -ℤ top), zero-mul (top *ℤ pos 1)))))
    where
      true-false : true ≡ false → ⊥
      true-false e = cc

  less-least : pos 0 ≤ℤ (whole -ℤ pos 1)
  less-least = omega (arith, linear, power-rate k)

  swapped : (t b m : ℤ) → (t *ℤ b) *ℤ m ≡ t *ℤ (m *ℤ b)
  swapped t b m = rw (as_diff t, as_diff b, as_diff m) (simp diff-mul (diff-same _ _ _ _ (omega arith)))

  all_blocks : (j : ℕ) → Holds (blocks j) 0 (power whole j) (top *ℤ power (whole -ℤ pos 1) j) (pos 1)
  unfolding blocks
  all_blocks zero = subst (λ g. Holds 0 0 (pos 1) g (pos 1)) (sym (mul-comm top (pos 1) ∙ one-mul top)) at_start
  all_blocks (suc j) =
      let before = block (blocks j) (power whole j) (top *ℤ power (whole -ℤ pos 1) j) (power-least whole j (omega (arith, linear, power-rate k))) (mul-nonneg top (power (whole -ℤ pos 1) j) h.top_least (power-least (whole -ℤ pos 1) j less-least)) (all_blocks j) in
      subst (λ g. Holds (after k (blocks j)) 0 (power whole (suc j)) g (pos 1)) (swapped top (power (whole -ℤ pos 1) j) (whole -ℤ pos 1)) before

  at_blocks : (j : ℕ) → Holds (k * j) 0 (power whole j) (top *ℤ power (whole -ℤ pos 1) j) (pos 1)
  at_blocks j = subst (λ n. Holds n 0 (power whole j) (top *ℤ power (whole -ℤ pos 1) j) (pos 1)) (blocks-is j) (all_blocks j)

  parted : (v d t b l n : ℤ) → (v *ℤ d -ℤ (t *ℤ b) *ℤ (pos 1 -ℤ l)) *ℤ n ≡ v *ℤ (d *ℤ n) -ℤ (t *ℤ (b *ℤ n)) *ℤ (pos 1 -ℤ l)
  parted v d t b l n = rw (as_diff v, as_diff d, as_diff t, as_diff b, as_diff l, as_diff n) (simp diffs (diff-same _ _ _ _ (omega arith)))

  joined : (r t d b n : ℤ) → t *ℤ (d *ℤ r +ℤ b *ℤ n) ≡ r *ℤ (t *ℤ d) +ℤ t *ℤ (b *ℤ n)
  joined r t d b n = rw (as_diff r, as_diff t, as_diff d, as_diff b, as_diff n) (simp diffs (diff-same _ _ _ _ (omega arith)))

  pub reaches : (j s : ℕ) (a : Plan) → Fits process q (k * j) s a
      → (y s *ℤ (power whole j *ℤ steps (k * j))) ≤ℤ (top *ℤ (power whole j *ℤ reach process q (k * j) s a +ℤ power (whole -ℤ pos 1) j *ℤ steps (k * j)))
  reaches j s a f =
      let n = k * j in
      let b = power (whole -ℤ pos 1) j in
      let owed_least : pos 0 ≤ℤ (top *ℤ (b *ℤ steps n)) = mul-nonneg top (b *ℤ steps n) h.top_least (mul-nonneg b (steps n) (power-least (whole -ℤ pos 1) j less-least) (steps-least n)) in
      let share = mul-le (top *ℤ (b *ℤ steps n)) (pos 1 -ℤ low 1 s) (pos 1) owed_least (omega (arith, linear, (low-range 1 s).0)) in
      omega (arith, linear, at_blocks j s a f, share, parted (y s) (power whole j) top b (low 1 s) (steps n), joined (reach process q n s a) top (power whole j) b (steps n), mul-comm (top *ℤ (b *ℤ steps n)) (pos 1), one-mul (top *ℤ (b *ℤ steps n)))

pub supported_plans_reach : TossesAreBounded → WeightedSumsRise → SupportedPlansReach
supported_plans_reach tosses rise process top y rank rate k h q j s p f = reaches tosses rise process top y rank rate k h q j s p f
