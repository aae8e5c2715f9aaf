-- What a memoryless scheduler reaches is at least a vector that its choices support, but for the runs that are still undecided; and these lose a fixed share in each block of steps.
use Rattle.std.proofs.Common.{◌≡◌, ℕ, zero, suc, ◌+◌, ◌*◌, ◌<◌, ◌≤◌, Bool, true, false, cond, List, [], ◌∷◌, ℤ, pos, ◌+ℤ◌, ◌-ℤ◌, ◌*ℤ◌, neg_ℤ, ◌≤ℤ◌, refl, ap, ap₂, ◌∙◌, arith, nat_lt, ltb-true}
use Rattle.lift_poly.proofs.Ring.{linear, mul-assoc, mul-comm, mul-add, add-mul, mul-zero, zero-mul, one-mul, mul-le, mul-nonneg, as_diff, diff-add, diff-mul, diff-neg, diff-same, diffs}
use Rattle.lift_model.specs.Process.{Process, Move, power, weighted_sum}
use Rattle.lift_model.specs.Memoryless.{chosen, memoryless_reach, undecided}
use Rattle.lift_model.specs.Laws.{AreNonNegative, WeightedSumsAreNotNegative, WeightedSumsRise}
use Rattle.corner_lift.specs.Certificate.{ranked_below}
use Rattle.lift_cert.proofs.Inductive.{power-least}

-- y is supported by the choices, and each chosen row leads to lower ranks with weight at least total / rate
pub record IsSupported (c : Process) (top : ℤ) (y : ℕ → ℤ) (pick : ℕ → ℕ) (test : ℕ → Bool) (rank : ℕ → ℕ) (rate : ℤ) (k : ℕ) : Type 0 where
  pub total : pos 0 ≤ℤ c.total
  pub top_least : pos 0 ≤ℤ top
  pub rate_least : pos 1 ≤ℤ rate
  pub most : (s : ℕ) → y s ≤ℤ top
  pub weights : (s : ℕ) → AreNonNegative (chosen c pick s)
  pub sums : (s : ℕ) → test s ≡ true → weighted_sum (λ t. pos 1) (chosen c pick s) ≤ℤ c.total
  pub goal : (s : ℕ) → c.goal s ≡ true → (y s ≡ top) × (test s ≡ false)
  pub apart : (s : ℕ) → c.goal s ≡ false → test s ≡ false → y s ≡ pos 0
  pub ranks : (s : ℕ) → test s ≡ true → (0 < rank s) × (rank s ≤ k)
  pub means : (s : ℕ) → test s ≡ true → (y s *ℤ c.total) ≤ℤ weighted_sum y (chosen c pick s)
  pub rates : (s : ℕ) → test s ≡ true → c.total ≤ℤ (weighted_sum (ranked_below rank (rank s)) (chosen c pick s) *ℤ rate)

pub sum-times : (k : ℤ) (f : ℕ → ℤ) (row : List Move) → weighted_sum (λ t. f t *ℤ k) row ≡ weighted_sum f row *ℤ k
sum-times k f [] = omega (arith, linear, zero-mul k)
sum-times k f (m ∷ row) = omega (arith, linear, sum-times k f row, add-mul (m.1 *ℤ f m.0) (weighted_sum f row) k, mul-assoc m.1 (f m.0) k)

pub sum-add : (f g : ℕ → ℤ) (row : List Move) → weighted_sum (λ t. f t +ℤ g t) row ≡ weighted_sum f row +ℤ weighted_sum g row
sum-add f g [] = omega (arith, linear)
sum-add f g (m ∷ row) = omega (arith, linear, sum-add f g row, mul-add m.1 (f m.0) (g m.0))

-- i more steps than n
abbrev pub after : ℕ → ℕ → ℕ
after zero n = n
after (suc i) n = suc (after i n)

pub either_way : {P : Type 0} (b : Bool) → (b ≡ true → P) → (b ≡ false → P) → P
either_way true f g = f refl
either_way false f g = g refl

power-one : (b : ℤ) (n : ℕ) → pos 1 ≤ℤ b → pos 1 ≤ℤ power b n
power-one b zero h = omega (arith, linear)
power-one b (suc n) h =
    let l : pos 0 ≤ℤ b = omega (arith, linear) in
    omega (arith, linear, h, mul-le b (pos 1) (power b n) l (power-one b n h), mul-comm b (pos 1), one-mul b)

-- the ring steps of one step's loss: e the rate, p its power so far, k the total's power, o and l the weights into all and into lower ranks
lost : (p b k : ℤ) → ((p -ℤ pos 1) *ℤ b) *ℤ k ≡ pos 1 *ℤ ((p *ℤ b) *ℤ k) +ℤ pos 1 *ℤ neg_ℤ (b *ℤ k)
lost p b k = rw (as_diff p, as_diff b, as_diff k) (simp diffs (diff-same _ _ _ _ (omega arith)))

kept : (p b k : ℤ) → p *ℤ (b *ℤ k) ≡ pos 1 *ℤ ((p *ℤ b) *ℤ k) +ℤ pos 0 *ℤ neg_ℤ (b *ℤ k)
kept p b k = rw (as_diff p, as_diff b, as_diff k) (simp diffs (diff-same _ _ _ _ (omega arith)))

turned : (a q p : ℤ) → a *ℤ (q *ℤ p) ≡ p *ℤ (a *ℤ q)
turned a q p = rw (as_diff a, as_diff q, as_diff p) (simp diff-mul (diff-same _ _ _ _ (omega arith)))

turned_again : (a q e p : ℤ) → a *ℤ (q *ℤ (e *ℤ p)) ≡ e *ℤ (a *ℤ (q *ℤ p))
turned_again a q e p = rw (as_diff a, as_diff q, as_diff e, as_diff p) (simp diff-mul (diff-same _ _ _ _ (omega arith)))

opened : (e o p b k l : ℤ) → e *ℤ (o *ℤ ((p *ℤ b) *ℤ k) +ℤ l *ℤ neg_ℤ (b *ℤ k)) ≡ (e *ℤ ((p *ℤ b) *ℤ k)) *ℤ o -ℤ (b *ℤ k) *ℤ (l *ℤ e)
opened e o p b k l = mul-add e _ _ ∙ ap₂ ◌+ℤ◌ (first e o ((p *ℤ b) *ℤ k)) (second e l (b *ℤ k))
  where
    first : (e o x : ℤ) → e *ℤ (o *ℤ x) ≡ (e *ℤ x) *ℤ o
    first e o x = rw (as_diff e, as_diff o, as_diff x) (simp diff-mul (diff-same _ _ _ _ (omega arith)))

    second : (e l x : ℤ) → e *ℤ (l *ℤ neg_ℤ x) ≡ neg_ℤ (x *ℤ (l *ℤ e))
    second e l x = rw (as_diff e, as_diff l, as_diff x) (simp (diff-mul, diff-neg) (diff-same _ _ _ _ (omega arith)))

together : (e p b k n : ℤ) → (e *ℤ ((p *ℤ b) *ℤ k)) *ℤ n -ℤ (b *ℤ k) *ℤ n ≡ ((e *ℤ p -ℤ pos 1) *ℤ b) *ℤ (n *ℤ k)
together e p b k n = rw (as_diff e, as_diff p, as_diff b, as_diff k, as_diff n) (simp diffs (diff-same _ _ _ _ (omega arith)))

after_is : (i n : ℕ) → after i n ≡ i + n
after_is zero n = omega arith
after_is (suc i) n = omega (arith, after_is i n)

moved : (a m p : ℤ) → a *ℤ (m *ℤ p) ≡ m *ℤ (a *ℤ p)
moved a m p = rw (as_diff a, as_diff m, as_diff p) (simp diff-mul (diff-same _ _ _ _ (omega arith)))

parted : (m t a b : ℤ) → m *ℤ (t *ℤ (a +ℤ b)) ≡ t *ℤ (m *ℤ a) +ℤ t *ℤ (b *ℤ m)
parted m t a b = rw (as_diff m, as_diff t, as_diff a, as_diff b) (simp (diff-add, diff-mul) (diff-same _ _ _ _ (omega arith)))

module _ (least : WeightedSumsAreNotNegative) (rise : WeightedSumsRise) (c : Process) (top : ℤ) (y : ℕ → ℤ) (pick : ℕ → ℕ) (test : ℕ → Bool) (rank : ℕ → ℕ) (rate : ℤ) (k : ℕ) (h : IsSupported c top y pick test rank rate k) where
  reach-least : (n s : ℕ) → pos 0 ≤ℤ memoryless_reach c pick n s
  reach-least zero s = elim (c.goal s) as (λ g. pos 0 ≤ℤ cond g (pos 1) (pos 0)) [ true ↦ omega (arith, linear) | false ↦ omega (arith, linear) ]
  reach-least (suc n) s =
      let p = power-least c.total (suc n) h.total in
      let r = least (memoryless_reach c pick n) (chosen c pick s) (reach-least n) (h.weights s) in
      elim (c.goal s) as (λ g. pos 0 ≤ℤ cond g (power c.total (suc n)) (weighted_sum (memoryless_reach c pick n) (chosen c pick s))) [ true ↦ p | false ↦ r ]

  undecided-least : (n s : ℕ) → pos 0 ≤ℤ undecided c pick test n s
  undecided-least zero s = elim (test s) as (λ g. pos 0 ≤ℤ cond g (pos 1) (pos 0)) [ true ↦ omega (arith, linear) | false ↦ omega (arith, linear) ]
  undecided-least (suc n) s =
      let r = least (undecided c pick test n) (chosen c pick s) (undecided-least n) (h.weights s) in
      elim (test s) as (λ g. pos 0 ≤ℤ cond g (weighted_sum (undecided c pick test n) (chosen c pick s)) (pos 0)) [ true ↦ r | false ↦ omega (arith, linear) ]

  -- the vector is at most the goal's value times what is reached or still undecided
  start : (g t : Bool) (ys : ℤ) → ys ≤ℤ top → (g ≡ true → (ys ≡ top) × (t ≡ false)) → (g ≡ false → t ≡ false → ys ≡ pos 0) → (ys *ℤ pos 1) ≤ℤ (top *ℤ (cond g (pos 1) (pos 0) +ℤ cond t (pos 1) (pos 0)))
  start true true ys m e f = let z = (e refl).1 in cc
  start true false ys m e f = rw ((e refl).0) (omega (arith, linear))
  start false true ys m e f = omega (arith, linear, mul-comm ys (pos 1), one-mul ys, mul-comm top (pos 1), one-mul top)
  start false false ys m e f = rw (f refl refl) (omega (arith, linear, mul-zero top, one-mul (pos 0)))

  later : (g t : Bool) (ys p mh mu : ℤ) → pos 0 ≤ℤ mh → (g ≡ true → (ys ≡ top) × (t ≡ false)) → (g ≡ false → t ≡ false → ys ≡ pos 0) → (t ≡ true → (ys *ℤ p) ≤ℤ (top *ℤ (mh +ℤ mu))) → (ys *ℤ p) ≤ℤ (top *ℤ (cond g p mh +ℤ cond t mu (pos 0)))
  later true true ys p mh mu l e f m = let z = (e refl).1 in cc
  later true false ys p mh mu l e f m = rw ((e refl).0, mul-add) (omega (arith, linear, mul-zero top))
  later false true ys p mh mu l e f m = m refl
  later false false ys p mh mu l e f m = rw (f refl refl, mul-add) (omega (arith, linear, mul-zero top, zero-mul p, mul-nonneg top mh h.top_least l))

  pub hold_bound : (n s : ℕ) → (y s *ℤ power c.total n) ≤ℤ (top *ℤ (memoryless_reach c pick n s +ℤ undecided c pick test n s))
  hold_bound zero s = start (c.goal s) (test s) (y s) (h.most s) (h.goal s) (h.apart s)
  hold_bound (suc n) s =
      let row = chosen c pick s in
      let held = memoryless_reach c pick n in
      let open_ = undecided c pick test n in
      later (c.goal s) (test s) (y s) (power c.total (suc n)) (weighted_sum held row) (weighted_sum open_ row)
      (least held row (reach-least n) (h.weights s)) (h.goal s) (h.apart s)
      (λ e.
      let first : (y s *ℤ c.total *ℤ power c.total n) ≤ℤ (weighted_sum y row *ℤ power c.total n) =
      rw (mul-comm (y s *ℤ c.total) (power c.total n), mul-comm (weighted_sum y row) (power c.total n)) (mul-le (power c.total n) (y s *ℤ c.total) (weighted_sum y row) (power-least c.total n h.total) (h.means s e)) in
      let second : weighted_sum (λ t. y t *ℤ power c.total n) row ≤ℤ weighted_sum (λ t. (held t +ℤ open_ t) *ℤ top) row =
      rise (λ t. y t *ℤ power c.total n) (λ t. (held t +ℤ open_ t) *ℤ top) row (λ t. rw (mul-comm (held t +ℤ open_ t) top) (hold_bound n t)) (h.weights s) in
      omega (arith, linear, first, second, sum-times (power c.total n) y row, sum-times top (λ t. held t +ℤ open_ t) row, sum-add held open_ row, mul-comm (weighted_sum (λ t. held t +ℤ open_ t) row) top, mul-assoc (y s) c.total (power c.total n), ap (λ z. top *ℤ z) (sum-add held open_ row)))

  closed : (n s : ℕ) → test s ≡ false → undecided c pick test n s ≡ pos 0
  closed zero s e = ap (λ g. cond g (pos 1) (pos 0)) e
  closed (suc n) s e = ap (λ g. cond g (weighted_sum (undecided c pick test n) (chosen c pick s)) (pos 0)) e

  open_step : (n s : ℕ) → test s ≡ true → undecided c pick test (suc n) s ≡ weighted_sum (undecided c pick test n) (chosen c pick s)
  open_step n s e = ap (λ g. cond g (weighted_sum (undecided c pick test n) (chosen c pick s)) (pos 0)) e

  module _ (n : ℕ) (b q : ℤ) (b_least : pos 0 ≤ℤ b) (q_least : pos 0 ≤ℤ q) (bound : (t : ℕ) → (undecided c pick test n t *ℤ q) ≤ℤ (b *ℤ power c.total n)) where
    keep : (i t : ℕ) → (undecided c pick test (after i n) t *ℤ q) ≤ℤ (b *ℤ power c.total (after i n))
    keep zero t = bound t
    keep (suc i) t =
        let u = undecided c pick test (after i n) in
        let p = power c.total (after i n) in
        let p_least : pos 0 ≤ℤ p = power-least c.total (after i n) h.total in
        let row = chosen c pick t in
        either_way (test t)
        (λ e.
        let bp_least : pos 0 ≤ℤ (b *ℤ p) = mul-nonneg b p b_least p_least in
        let first : weighted_sum (λ s. u s *ℤ q) row ≤ℤ weighted_sum (λ s. pos 1 *ℤ (b *ℤ p)) row =
        rise (λ s. u s *ℤ q) (λ s. pos 1 *ℤ (b *ℤ p)) row (λ s. rw one-mul (keep i s)) (h.weights t) in
        let second : ((b *ℤ p) *ℤ weighted_sum (λ s. pos 1) row) ≤ℤ ((b *ℤ p) *ℤ c.total) = mul-le (b *ℤ p) (weighted_sum (λ s. pos 1) row) c.total bp_least (h.sums t e) in
        rw (open_step (after i n) t e) (omega (arith, linear, first, second, sum-times q u row, sum-times (b *ℤ p) (λ s. pos 1) row, mul-comm (weighted_sum (λ s. pos 1) row) (b *ℤ p), mul-comm c.total p, mul-assoc b p c.total, ap (λ z. b *ℤ z) (mul-comm c.total p))))
        (λ e. rw (closed (suc (after i n)) t e, zero-mul) (mul-nonneg b (c.total *ℤ p) b_least (mul-nonneg c.total p h.total p_least)))

    pub lose : (i s : ℕ) → test s ≡ true → rank s ≤ i → (undecided c pick test (after i n) s *ℤ (q *ℤ power rate i)) ≤ℤ (((power rate i -ℤ pos 1) *ℤ b) *ℤ power c.total (after i n))
    lose zero s e r = absurd (omega (arith, (h.ranks s e).0))
    lose (suc i) s e r =
        let u = undecided c pick test (after i n) in
        let p = power rate i in
        let k = power c.total (after i n) in
        let row = chosen c pick s in
        let low = ranked_below rank (rank s) in
        let x = (p *ℤ b) *ℤ k in
        let p_one : pos 1 ≤ℤ p = power-one rate i h.rate_least in
        let k_least : pos 0 ≤ℤ k = power-least c.total (after i n) h.total in
        let bk_least : pos 0 ≤ℤ (b *ℤ k) = mul-nonneg b k b_least k_least in
        let rate_least : pos 0 ≤ℤ rate = omega (arith, linear, h.rate_least) in
        let ex_least : pos 0 ≤ℤ (rate *ℤ x) = mul-nonneg rate x rate_least (mul-nonneg (p *ℤ b) k (mul-nonneg p b (omega (arith, linear)) b_least) k_least) in
        let each : (t : ℕ) → (u t *ℤ (q *ℤ p)) ≤ℤ (pos 1 *ℤ x +ℤ low t *ℤ neg_ℤ (b *ℤ k)) =
        λ t. either_way (nat_lt (rank t) (rank s))
        (λ f. let less : rank t < rank s = ltb-true (rank t) (rank s) f in
        rw f (rw (← lost p b k)
        (either_way (test t)
        (λ g. lose i t g (omega arith))
        (λ g. rw (closed (after i n) t g, zero-mul) (mul-nonneg ((p -ℤ pos 1) *ℤ b) k (mul-nonneg (p -ℤ pos 1) b (omega (arith, linear)) b_least) k_least)))))
        (λ f. rw f (rw (← kept p b k, turned (u t) q p) (mul-le p (u t *ℤ q) (b *ℤ k) (omega (arith, linear)) (keep i t)))) in
        let all : weighted_sum (λ t. u t *ℤ (q *ℤ p)) row ≤ℤ weighted_sum (λ t. pos 1 *ℤ x +ℤ low t *ℤ neg_ℤ (b *ℤ k)) row = rise (λ t. u t *ℤ (q *ℤ p)) (λ t. pos 1 *ℤ x +ℤ low t *ℤ neg_ℤ (b *ℤ k)) row each (h.weights s) in
        let sum : (weighted_sum u row *ℤ (q *ℤ p)) ≤ℤ (weighted_sum (λ t. pos 1) row *ℤ x +ℤ weighted_sum low row *ℤ neg_ℤ (b *ℤ k)) =
        omega (arith, linear, all, sum-times (q *ℤ p) u row, sum-add (λ t. pos 1 *ℤ x) (λ t. low t *ℤ neg_ℤ (b *ℤ k)) row, sum-times x (λ t. pos 1) row, sum-times (neg_ℤ (b *ℤ k)) low row) in
        let raised = mul-le rate _ _ rate_least sum in
        let above = mul-le (rate *ℤ x) (weighted_sum (λ t. pos 1) row) c.total ex_least (h.sums s e) in
        let below = mul-le (b *ℤ k) c.total (weighted_sum low row *ℤ rate) bk_least (h.rates s e) in
        rw (open_step (after i n) s e)
        (omega (arith, linear, raised, above, below, turned_again (weighted_sum u row) q rate p, opened rate (weighted_sum (λ t. pos 1) row) p b k (weighted_sum low row), together rate p b k c.total))

  -- j blocks of k steps
  pub blocks : ℕ → ℕ
  blocks zero = 0
  blocks (suc j) = after k (blocks j)

  module _ (j : ℕ) (before : (t : ℕ) → (undecided c pick test (blocks j) t *ℤ power (power rate k) j) ≤ℤ (power (power rate k -ℤ pos 1) j *ℤ power c.total (blocks j))) where
    next_block : (s : ℕ) → (undecided c pick test (after k (blocks j)) s *ℤ (power rate k *ℤ power (power rate k) j)) ≤ℤ (((power rate k -ℤ pos 1) *ℤ power (power rate k -ℤ pos 1) j) *ℤ power c.total (after k (blocks j)))
    next_block s =
        let m = power rate k in
        let one : pos 1 ≤ℤ m = power-one rate k h.rate_least in
        let b = power (m -ℤ pos 1) j in
        let q = power m j in
        let b_least : pos 0 ≤ℤ b = power-least (m -ℤ pos 1) j (omega (arith, linear)) in
        let q_least : pos 0 ≤ℤ q = power-least m j (omega (arith, linear)) in
        either_way (test s)
        (λ e. rw (mul-comm m q) (lose (blocks j) b q b_least q_least before k s e (h.ranks s e).1))
        (λ e. rw (closed (after k (blocks j)) s e, zero-mul) (mul-nonneg ((m -ℤ pos 1) *ℤ b) (power c.total (after k (blocks j))) (mul-nonneg (m -ℤ pos 1) b (omega (arith, linear)) b_least) (power-least c.total (after k (blocks j)) h.total)))

  -- in each block of k steps the undecided runs lose at least one part in rate ^ k
  pub undecided_bound : (j s : ℕ) → (undecided c pick test (blocks j) s *ℤ power (power rate k) j) ≤ℤ (power (power rate k -ℤ pos 1) j *ℤ power c.total (blocks j))
  unfolding blocks
  undecided_bound zero s = at_first (test s)
    where
      at_first : (g : Bool) → (cond g (pos 1) (pos 0) *ℤ pos 1) ≤ℤ (pos 1 *ℤ pos 1)
      at_first true = omega (arith, linear)
      at_first false = omega (arith, linear)
  undecided_bound (suc j) s = next_block j (undecided_bound j) s

  pub blocks_is : (j : ℕ) → blocks j ≡ k * j
  unfolding blocks
  blocks_is zero = omega arith
  blocks_is (suc j) = after_is k (blocks j) ∙ omega (arith, blocks_is j)

  pub undecided_at : (j s : ℕ) → (undecided c pick test (k * j) s *ℤ power (power rate k) j) ≤ℤ (power (power rate k -ℤ pos 1) j *ℤ power c.total (k * j))
  undecided_at j s = rw (← blocks_is j) (undecided_bound j s)

  -- what the choices reach in j blocks of k steps, at least
  pub held_bound : (j s : ℕ) → (y s *ℤ (power (power rate k) j *ℤ power c.total (k * j))) ≤ℤ (top *ℤ (power (power rate k) j *ℤ memoryless_reach c pick (k * j) s) +ℤ top *ℤ (power (power rate k -ℤ pos 1) j *ℤ power c.total (k * j)))
  held_bound j s =
      let m = power (power rate k) j in
      let m_least : pos 0 ≤ℤ m = power-least (power rate k) j (omega (arith, linear, power-one rate k h.rate_least)) in
      let first = mul-le m _ _ m_least (hold_bound (k * j) s) in
      let second : (undecided c pick test (k * j) s *ℤ m) ≤ℤ (power (power rate k -ℤ pos 1) j *ℤ power c.total (k * j)) = rw (← blocks_is j) (undecided_bound j s) in
      let third = mul-le top _ _ h.top_least second in
      omega (arith, linear, first, third, moved (y s) m (power c.total (k * j)), parted m top (memoryless_reach c pick (k * j) s) (undecided c pick test (k * j) s))
