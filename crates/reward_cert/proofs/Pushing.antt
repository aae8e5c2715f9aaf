-- What a scheduler's value comes to in the end, by blocks of k steps, where each row of a ranked state keeps up the numbers, and gains a unit or leads to lower ranks.
use Rattle.std.proofs.Common.{◌≡◌, ℕ, zero, suc, ◌+◌, ◌*◌, ◌<◌, ◌≤◌, Bool, true, false, List, [], ◌∷◌, ℤ, pos, ◌+ℤ◌, ◌-ℤ◌, ◌*ℤ◌, ◌≤ℤ◌, refl, sym, ap, subst, ◌∙◌, arith, nat_lt, ltb-true, ltb-false, ◌⊎◌, ⊎_elim}
use Rattle.lift_poly.proofs.Ring.{linear, mul-comm, mul-assoc, mul-add, mul-zero, zero-mul, one-mul, mul-le, mul-nonneg, as_diff, diffs, diff-same}
use Rattle.lift_model.specs.Process.{Move, power, weighted_sum}
use Rattle.lift_model.specs.Laws.{AreNonNegative, WeightedSumsAreNotNegative, WeightedSumsRise}
use Rattle.corner_lift.specs.Certificate.{ranked_below}
use Rattle.reward_cert.proofs.Steps.{either_way}
use Rattle.reward_cert.proofs.Bounding.{Stepping, Growing, sum-times, power-least}
use Rattle.reward_cert.proofs.Valuations.{every, all_closed}

-- d of the gain g is spent on the state's number; it is a unit, or the row leads to lower ranks
pub record IsPushing (total : ℤ) (y : ℕ → ℤ) (rank : ℕ → ℕ) (unit rate g : ℤ) (s : ℕ) (moves : List Move) : Type 0 where
  pub spent : ℤ
  pub least : pos 0 ≤ℤ spent
  pub gain : spent ≤ℤ g
  pub mean : ((y s -ℤ spent) *ℤ total) ≤ℤ weighted_sum y moves
  pub on : (unit ≤ℤ spent) ⊎ (total ≤ℤ (weighted_sum (ranked_below rank (rank s)) moves *ℤ rate))

sum-add : (f g : ℕ → ℤ) (row : List Move) → weighted_sum (λ t. f t +ℤ g t) row ≡ weighted_sum f row +ℤ weighted_sum g row
sum-add f g [] = omega (arith, linear)
sum-add f g (m ∷ row) = omega (arith, linear, sum-add f g row, mul-add m.1 (f m.0) (g m.0))

power-one : (b : ℤ) (n : ℕ) → pos 1 ≤ℤ b → pos 1 ≤ℤ power b n
power-one b zero h = omega (arith, linear)
power-one b (suc n) h =
    let l : pos 0 ≤ℤ b = omega (arith, linear, h) in
    omega (arith, linear, h, mul-le b (pos 1) (power b n) l (power-one b n h), mul-comm b (pos 1), one-mul b)

-- the powers of less are no more
power-less : (b : ℤ) (n : ℕ) → pos 1 ≤ℤ b → power (b -ℤ pos 1) n ≤ℤ power b n
power-less b zero h = omega (arith, linear)
power-less b (suc n) h =
    let less : pos 0 ≤ℤ (b -ℤ pos 1) = omega (arith, linear, h) in
    omega (arith, linear, mul-le (b -ℤ pos 1) (power (b -ℤ pos 1) n) (power b n) less (power-less b n h), mul-le (power b n) (b -ℤ pos 1) b (power-least b n (omega (arith, linear, h))) (omega (arith, linear)), mul-comm (power b n) (b -ℤ pos 1), mul-comm (power b n) b)

-- i more steps than n
after : ℕ → ℕ → ℕ
after zero n = n
after (suc i) n = suc (after i n)

after_is : (i n : ℕ) → after i n ≡ i + n
unfolding after
after_is zero n = omega arith
after_is (suc i) n = omega (arith, after_is i n)

-- ---- the ring steps

-- what a goal state gives
given : (y t h g l k v : ℤ) → (y *ℤ (t -ℤ h) +ℤ g *ℤ l) *ℤ k ≡ (t -ℤ h) *ℤ (y *ℤ k) +ℤ (g *ℤ l) *ℤ k
given y t h g l k v = rw (as_diff y, as_diff t, as_diff h, as_diff g, as_diff l, as_diff k) (simp diffs (diff-same _ _ _ _ (omega arith)))

parted : (v t h : ℤ) → v *ℤ t ≡ (t -ℤ h) *ℤ v +ℤ h *ℤ v
parted v t h = rw (as_diff v, as_diff t, as_diff h) (simp diffs (diff-same _ _ _ _ (omega arith)))

module _ (goal : ℕ → Bool) (total : ℤ) (row : ℕ → ℕ → List Move) (may : ℕ → ℕ → Type 0) (P : Type 0) (fits : ℕ → ℕ → P → Type 0) (value : ℕ → ℕ → P → ℤ) (gain : ℕ → ℕ → ℤ) (q : ℕ) (steps : ℕ → ℤ) (stepping : Stepping goal total row may P fits value gain q steps) (growing : Growing q total steps) (nonnegative : WeightedSumsAreNotNegative) (rise : WeightedSumsRise) (weights : (s a : ℕ) → AreNonNegative (row s a)) (total_least : pos 0 ≤ℤ total) (y : ℕ → ℤ) (rank : ℕ → ℕ) (unit rate cap : ℤ) (k : ℕ) (unit_least : pos 0 ≤ℤ unit) (rate_least : pos 1 ≤ℤ rate) (cap_least : pos 1 ≤ℤ cap) (most : (s : ℕ) → y s ≤ℤ (unit *ℤ cap)) (value_least : (n s : ℕ) (p : P) → fits n s p → pos 0 ≤ℤ value n s p) (goals : (n s : ℕ) (p : P) → goal s ≡ true → ((y s *ℤ steps n) ≤ℤ value n s p) × (rank s ≤ k → (unit *ℤ steps n) ≤ℤ value n s p)) (far : (s : ℕ) → goal s ≡ false → k < rank s → y s ≤ℤ pos 0) (later : (s : ℕ) → goal s ≡ false → 1 ≤ rank s) (rows : (s a : ℕ) → goal s ≡ false → rank s ≤ k → may s a → IsPushing total y rank unit rate (gain s a) s (row s a)) where
  abbrev near : ℕ → ℕ → ℤ
  near i s = ranked_below rank (suc i) s

  low-range : (r s : ℕ) → (pos 0 ≤ℤ ranked_below rank r s) × (ranked_below rank r s ≤ℤ pos 1)
  low-range r s = either_way (nat_lt (rank s) r) (λ e. rw e (omega (arith, linear), omega (arith, linear))) (λ e. rw e (omega (arith, linear), omega (arith, linear)))

  low-yes : (r s : ℕ) → rank s < r → ranked_below rank r s ≡ pos 1
  low-yes r s lt = either_way (nat_lt (rank s) r) (λ e. rw e refl) (λ e. absurd (omega (arith, lt, ltb-false (rank s) r e)))

  low-no : (r s : ℕ) → r ≤ rank s → ranked_below rank r s ≡ pos 0
  low-no r s le = either_way (nat_lt (rank s) r) (λ e. absurd (omega (arith, le, ltb-true (rank s) r e))) (λ e. rw e refl)

  -- With i steps of a block gone: of t parts all but h are promised of each state's number, and g besides where the rank is at most i.
  abbrev Holds : ℕ → ℕ → ℤ → ℤ → ℤ → Type 0
  Holds n i t h g = (s : ℕ) (p : P) → fits n s p → ((y s *ℤ (t -ℤ h) +ℤ g *ℤ near i s) *ℤ steps n) ≤ℤ (value n s p *ℤ t)

  -- goal states
  at_goal : (n i : ℕ) (t h g : ℤ) (s : ℕ) (p : P) → i ≤ k → pos 0 ≤ℤ h → h ≤ℤ t → pos 0 ≤ℤ g → g ≤ℤ (h *ℤ unit) → goal s ≡ true → fits n s p → ((y s *ℤ (t -ℤ h) +ℤ g *ℤ near i s) *ℤ steps n) ≤ℤ (value n s p *ℤ t)
  at_goal n i t h g s p small h_least h_most g_least g_most e f =
      let v = value n s p in
      let has = goals n s p e in
      let first = mul-le (t -ℤ h) (y s *ℤ steps n) v (omega (arith, linear, h_most)) has.0 in
      let second : ((g *ℤ near i s) *ℤ steps n) ≤ℤ (h *ℤ v) = either_way (nat_lt (rank s) (suc i))
      (λ e. let one = has.1 (omega (arith, small, ltb-true (rank s) (suc i) e)) in
      let more = mul-le h (unit *ℤ steps n) v h_least one in
      let less = mul-le (steps n) g (h *ℤ unit) (growing.1.1 n) g_most in
      rw e (omega (arith, linear, more, less, mul-comm (steps n) g, mul-comm (steps n) (h *ℤ unit), mul-assoc h unit (steps n), ap (λ z. z *ℤ steps n) (mul-comm g (pos 1) ∙ one-mul g))))
      (λ e. rw e (omega (arith, linear, mul-nonneg h v h_least (value_least n s p f), ap (λ z. z *ℤ steps n) (mul-zero g), zero-mul (steps n)))) in
      omega (arith, linear, first, second, given (y s) t h g (near i s) (steps n) v, parted v t h)

  -- states of no rank
  at_far : (n i : ℕ) (t h g : ℤ) (s : ℕ) (p : P) → i ≤ k → pos 0 ≤ℤ h → h ≤ℤ t → goal s ≡ false → k < rank s → fits n s p → ((y s *ℤ (t -ℤ h) +ℤ g *ℤ near i s) *ℤ steps n) ≤ℤ (value n s p *ℤ t)
  at_far n i t h g s p small h_least h_most e past f =
      let v = value n s p in
      let none = low-no (suc i) s (omega (arith, small, past)) in
      let all = mul-nonneg v t (value_least n s p f) (omega (arith, linear, h_least, h_most)) in
      let first = mul-le (t -ℤ h) (y s *ℤ steps n) (pos 0) (omega (arith, linear, h_most)) (omega (arith, linear, mul-le (steps n) (y s) (pos 0) (growing.1.1 n) (far s e past), mul-comm (steps n) (y s), mul-zero (steps n))) in
      omega (arith, linear, all, first, given (y s) t h g (near i s) (steps n) v, mul-zero (t -ℤ h), ap (λ z. (g *ℤ z) *ℤ steps n) none, ap (λ z. z *ℤ steps n) (mul-zero g), zero-mul (steps n))

  module _ (n i : ℕ) (t h g : ℤ) (small : suc i ≤ k) (h_least : pos 0 ≤ℤ h) (h_most : h ≤ℤ t) (g_least : pos 0 ≤ℤ g) (g_most : g ≤ℤ (h *ℤ unit)) (before : Holds n i t h g) where
    rate-from_zero : pos 0 ≤ℤ rate
    rate-from_zero = omega (arith, linear, rate_least)

    abbrev rt : ℤ
    rt = rate *ℤ t

    abbrev rh : ℤ
    rh = rate *ℤ h

    abbrev rg : ℤ
    rg = rate *ℤ g

    rt-least : pos 0 ≤ℤ rt
    rt-least = mul-nonneg rate t rate-from_zero (omega (arith, linear, h_least, h_most))

    rh-least : pos 0 ≤ℤ rh
    rh-least = mul-nonneg rate h rate-from_zero h_least

    rh-most : rh ≤ℤ rt
    rh-most = mul-le rate h t rate-from_zero h_most

    rg-least : pos 0 ≤ℤ rg
    rg-least = mul-nonneg rate g rate-from_zero g_least

    h-rh : h ≤ℤ rh
    h-rh = omega (arith, linear, mul-le h (pos 1) rate h_least rate_least, mul-comm h (pos 1), one-mul h, mul-comm h rate)

    g-rh : g ≤ℤ (rh *ℤ unit)
    g-rh = omega (arith, linear, g_most, mul-le unit h rh unit_least h-rh, mul-comm unit h, mul-comm unit rh)

    -- a unit, or what is led to lower ranks, is what is promised besides
    row_on : (s : ℕ) (d : ℤ) (moves : List Move) → AreNonNegative moves → pos 0 ≤ℤ d → (unit ≤ℤ d) ⊎ (total ≤ℤ (weighted_sum (ranked_below rank (rank s)) moves *ℤ rate))
        → ((g *ℤ near (suc i) s) *ℤ total) ≤ℤ ((d *ℤ rh) *ℤ total +ℤ weighted_sum (near i) moves *ℤ rg)
    row_on s d moves weigh d_least on =
        let sum = weighted_sum (near i) moves in
        let sum-least : pos 0 ≤ℤ (sum *ℤ rg) = mul-nonneg sum rg (nonnegative (near i) moves (λ u. (low-range (suc i) u).0) weigh) rg-least in
        let spent-least : pos 0 ≤ℤ ((d *ℤ rh) *ℤ total) = mul-nonneg (d *ℤ rh) total (mul-nonneg d rh d_least rh-least) total_least in
        let g-total : pos 0 ≤ℤ (g *ℤ total) = mul-nonneg g total g_least total_least in
        either_way (nat_lt (rank s) (suc (suc i)))
        (λ e. rw e (⊎_elim
        (λ (pays : unit ≤ℤ d).
        let more = mul-le rh unit d rh-least pays in
        let all = mul-le total g (d *ℤ rh) total_least (omega (arith, linear, g-rh, more, mul-comm rh d)) in
        omega (arith, linear, all, sum-least, ap (λ z. z *ℤ total) (mul-comm g (pos 1) ∙ one-mul g), mul-comm total g, mul-comm total (d *ℤ rh)))
        (λ (leads : total ≤ℤ (weighted_sum (ranked_below rank (rank s)) moves *ℤ rate)).
        let fewer = rise (ranked_below rank (rank s)) (near i) moves (λ u. lower u (ltb-true (rank s) (suc (suc i)) e)) weigh in
        let low = weighted_sum (ranked_below rank (rank s)) moves in
        let many = mul-le rg low sum rg-least fewer in
        let enough = mul-le g total (low *ℤ rate) g_least leads in
        omega (arith, linear, many, enough, spent-least, ap (λ z. z *ℤ total) (mul-comm g (pos 1) ∙ one-mul g), mul-comm rg low, mul-comm rg sum, led g low rate))
        on))
        (λ e. rw e (omega (arith, linear, sum-least, spent-least, ap (λ z. z *ℤ total) (mul-zero g), zero-mul total)))
      where
        lower : (u : ℕ) → rank s < suc (suc i) → ranked_below rank (rank s) u ≤ℤ near i u
        lower u lt = either_way (nat_lt (rank u) (rank s))
            (λ e. rw (e, low-yes (suc i) u (omega (arith, lt, ltb-true (rank u) (rank s) e))) (omega (arith, linear)))
            (λ e. rw e ((low-range (suc i) u).0))

        led : (g l r : ℤ) → g *ℤ (l *ℤ r) ≡ l *ℤ (r *ℤ g)
        led g l r = rw (as_diff g, as_diff l, as_diff r) (simp diffs (diff-same _ _ _ _ (omega arith)))

    -- what is promised of the targets, after the step
    abbrev promised : ℕ → ℤ
    promised u = y u *ℤ (rt -ℤ rh) +ℤ near i u *ℤ rg

    row_above : (s a : ℕ) → goal s ≡ false → rank s ≤ k → may s a
        → ((y s *ℤ (rt -ℤ rh) +ℤ g *ℤ near (suc i) s) *ℤ total) ≤ℤ ((gain s a *ℤ rt) *ℤ total +ℤ weighted_sum promised (row s a))
    row_above s a e le choice =
        let has = rows s a e le choice in
        let d = has.spent in
        let on = row_on s d (row s a) (weights s a) has.least has.on in
        let gains = mul-le total (d *ℤ rt) (gain s a *ℤ rt) total_least (omega (arith, linear, mul-le rt d (gain s a) rt-least has.gain, mul-comm rt d, mul-comm rt (gain s a))) in
        let mean = mul-le (rt -ℤ rh) ((y s -ℤ d) *ℤ total) (weighted_sum y (row s a)) (omega (arith, linear, rh-most)) has.mean in
        omega (
          arith,
          linear,
          on,
          gains,
          mean,
          mul-comm total (d *ℤ rt),
          mul-comm total (gain s a *ℤ rt),
          sum-add (λ u. y u *ℤ (rt -ℤ rh)) (λ u. near i u *ℤ rg) (row s a),
          sum-times (rt -ℤ rh) y (row s a),
          sum-times rg (near i) (row s a),
          mul-comm (rt -ℤ rh) (weighted_sum y (row s a)),
          opened (y s) d rt rh (g *ℤ near (suc i) s) total,
        )
      where
        opened : (y d t h l n : ℤ) → (y *ℤ (t -ℤ h) +ℤ l) *ℤ n ≡ (d *ℤ t) *ℤ n +ℤ ((t -ℤ h) *ℤ ((y -ℤ d) *ℤ n) +ℤ (l *ℤ n -ℤ (d *ℤ h) *ℤ n))
        opened y d t h l n = rw (as_diff y, as_diff d, as_diff t, as_diff h, as_diff l, as_diff n) (simp diffs (diff-same _ _ _ _ (omega arith)))

    at_row : (s : ℕ) (p : P) → goal s ≡ false → rank s ≤ k → fits (suc n) s p → ((y s *ℤ (rt -ℤ rh) +ℤ g *ℤ near (suc i) s) *ℤ steps (suc n)) ≤ℤ (value (suc n) s p *ℤ rt)
    at_row s p e le f =
        let x = y s *ℤ (rt -ℤ rh) +ℤ g *ℤ near (suc i) s in
        let kn = steps n in
        let step = stepping every (λ u. promised u *ℤ kn) (x *ℤ (total *ℤ kn)) rt n s p e f
        (λ u r yes fit. omega (arith, linear, mul-le rate _ _ rate-from_zero (before u r fit), rated rate (y u) t h g (near i u) kn, moved rate (value n u r) t))
        (λ a choice.
        let more = mul-le kn _ _ (growing.1.1 n) (row_above s a e le choice) in
        (all_closed (row s a), omega (arith, linear, more, sum-times kn promised (row s a), shifted x total kn, spread (gain s a *ℤ rt) total (weighted_sum promised (row s a)) kn))) in
        omega (arith, linear, step, ap (λ z. x *ℤ z) (growing.1.0 n), regroup x total kn (pos q))
      where
        rated : (r y t h g l k : ℤ) → r *ℤ ((y *ℤ (t -ℤ h) +ℤ g *ℤ l) *ℤ k) ≡ (y *ℤ (r *ℤ t -ℤ r *ℤ h) +ℤ l *ℤ (r *ℤ g)) *ℤ k
        rated r y t h g l k = rw (as_diff r, as_diff y, as_diff t, as_diff h, as_diff g, as_diff l, as_diff k) (simp diffs (diff-same _ _ _ _ (omega arith)))

        moved : (r v t : ℤ) → r *ℤ (v *ℤ t) ≡ v *ℤ (r *ℤ t)
        moved r v t = rw (as_diff r, as_diff v, as_diff t) (simp diffs (diff-same _ _ _ _ (omega arith)))

        shifted : (x n k : ℤ) → k *ℤ (x *ℤ n) ≡ x *ℤ (n *ℤ k)
        shifted x n k = rw (as_diff x, as_diff n, as_diff k) (simp diffs (diff-same _ _ _ _ (omega arith)))

        spread : (g n w k : ℤ) → k *ℤ (g *ℤ n +ℤ w) ≡ g *ℤ (n *ℤ k) +ℤ w *ℤ k
        spread g n w k = rw (as_diff g, as_diff n, as_diff w, as_diff k) (simp diffs (diff-same _ _ _ _ (omega arith)))

        regroup : (x n k q : ℤ) → q *ℤ (x *ℤ (n *ℤ k)) ≡ x *ℤ ((q *ℤ n) *ℤ k)
        regroup x n k q = rw (as_diff x, as_diff n, as_diff k, as_diff q) (simp diffs (diff-same _ _ _ _ (omega arith)))

    pub step : Holds (suc n) (suc i) rt rh g
    step s p f = either_way (goal s)
        (λ e. at_goal (suc n) (suc i) rt rh g s p small rh-least rh-most g_least g-rh e f)
        (λ e. either_way (nat_lt k (rank s))
        (λ past. at_far (suc n) (suc i) rt rh g s p small rh-least rh-most e (ltb-true k (rank s) past) f)
        (λ le. at_row s p e (ltb-false k (rank s) le) f))

  -- ---- i steps

  scaled-least : (i : ℕ) (h : ℤ) → pos 0 ≤ℤ h → pos 0 ≤ℤ (power rate i *ℤ h)
  scaled-least i h least = mul-nonneg (power rate i) h (omega (arith, linear, power-one rate i rate_least)) least

  scaled-most : (i : ℕ) (h t : ℤ) → h ≤ℤ t → (power rate i *ℤ h) ≤ℤ (power rate i *ℤ t)
  scaled-most i h t le = mul-le (power rate i) h t (omega (arith, linear, power-one rate i rate_least)) le

  scaled-more : (i : ℕ) (h g : ℤ) → pos 0 ≤ℤ h → g ≤ℤ (h *ℤ unit) → g ≤ℤ ((power rate i *ℤ h) *ℤ unit)
  scaled-more i h g least le =
      let more = mul-le (h *ℤ unit) (pos 1) (power rate i) (mul-nonneg h unit least unit_least) (power-one rate i rate_least) in
      omega (arith, linear, le, more, mul-comm (h *ℤ unit) (pos 1), one-mul (h *ℤ unit), mul-comm (h *ℤ unit) (power rate i), mul-assoc (power rate i) h unit)

  many : (n i : ℕ) (t h g : ℤ) → i ≤ k → pos 0 ≤ℤ h → h ≤ℤ t → pos 0 ≤ℤ g → g ≤ℤ (h *ℤ unit) → Holds n 0 t h g → Holds (after i n) i (power rate i *ℤ t) (power rate i *ℤ h) g
  unfolding after
  many n zero t h g small h_least h_most g_least g_most start = subst (λ a. Holds n 0 a (pos 1 *ℤ h) g) (sym (one-mul t)) (subst (λ a. Holds n 0 t a g) (sym (one-mul h)) start)
  many n (suc i) t h g small h_least h_most g_least g_most start =
      let next = step (after i n) i (power rate i *ℤ t) (power rate i *ℤ h) g small (scaled-least i h h_least) (scaled-most i h t h_most) g_least (scaled-more i h g h_least g_most)
      (many n i t h g (omega (arith, small)) h_least h_most g_least g_most start) in
      subst (λ a. Holds (suc (after i n)) (suc i) a ((rate *ℤ power rate i) *ℤ h) g) (sym (mul-assoc rate (power rate i) t)) (subst (λ a. Holds (suc (after i n)) (suc i) (rate *ℤ (power rate i *ℤ t)) a g) (sym (mul-assoc rate (power rate i) h)) next)

  -- ---- a block of k steps

  -- of t parts all but h are reached of each state's number
  abbrev Reaches : ℕ → ℤ → ℤ → Type 0
  Reaches n t h = (s : ℕ) (p : P) → fits n s p → ((y s *ℤ (t -ℤ h)) *ℤ steps n) ≤ℤ (value n s p *ℤ t)

  abbrev parts : ℤ
  parts = power rate k *ℤ cap

  parts-one : pos 1 ≤ℤ parts
  parts-one = omega (arith, linear, power-one rate k rate_least, cap_least, mul-le (power rate k) (pos 1) cap (omega (arith, linear, power-one rate k rate_least)) cap_least, mul-comm (power rate k) (pos 1), one-mul (power rate k))

  begun : (n : ℕ) (t h : ℤ) → pos 0 ≤ℤ h → h ≤ℤ t → Reaches n t h → Holds n 0 t h (h *ℤ unit)
  begun n t h h_least h_most reaches s p f = either_way (goal s)
      (λ e. at_goal n 0 t h (h *ℤ unit) s p (omega arith) h_least h_most (mul-nonneg h unit h_least unit_least) (omega (arith, linear)) e f)
      (λ e. omega (arith, linear, reaches s p f, given (y s) t h (h *ℤ unit) (near 0 s) (steps n) t, ap (λ z. ((h *ℤ unit) *ℤ z) *ℤ steps n) (low-no 1 s (later s e)), ap (λ z. z *ℤ steps n) (mul-zero (h *ℤ unit)), zero-mul (steps n), turned (y s) (t -ℤ h) (steps n)))
    where
      turned : (y d k : ℤ) → (y *ℤ d) *ℤ k ≡ d *ℤ (y *ℤ k)
      turned y d k = rw (as_diff y, as_diff d, as_diff k) (simp diffs (diff-same _ _ _ _ (omega arith)))

  module _ (n : ℕ) (t h : ℤ) (h_least : pos 0 ≤ℤ h) (h_most : h ≤ℤ t) (ended : Holds n k (power rate k *ℤ t) (power rate k *ℤ h) (h *ℤ unit)) where
    abbrev pt : ℤ
    pt = parts *ℤ t

    abbrev ph : ℤ
    ph = (parts -ℤ pos 1) *ℤ h

    left : (d t h : ℤ) → d *ℤ t -ℤ (d -ℤ pos 1) *ℤ h ≡ d *ℤ (t -ℤ h) +ℤ h
    left d t h = rw (as_diff d, as_diff t, as_diff h) (simp diffs (diff-same _ _ _ _ (omega arith)))

    left-least : pos 0 ≤ℤ (pt -ℤ ph)
    left-least = omega (arith, linear, left parts t h, h_least, mul-nonneg parts (t -ℤ h) (omega (arith, linear, parts-one)) (omega (arith, linear, h_most)))

    ph-least : pos 0 ≤ℤ ph
    ph-least = mul-nonneg (parts -ℤ pos 1) h (omega (arith, linear, parts-one)) h_least

    ph-most : ph ≤ℤ pt
    ph-most = omega (arith, linear, left-least)

    turned : (y d k : ℤ) → (y *ℤ d) *ℤ k ≡ d *ℤ (y *ℤ k)
    turned y d k = rw (as_diff y, as_diff d, as_diff k) (simp diffs (diff-same _ _ _ _ (omega arith)))

    end_near : (s : ℕ) (p : P) → rank s ≤ k → fits n s p → ((y s *ℤ (pt -ℤ ph)) *ℤ steps n) ≤ℤ (value n s p *ℤ pt)
    end_near s p le f =
        let r = power rate k in
        let kn = steps n in
        let all : ((y s *ℤ (r *ℤ t -ℤ r *ℤ h) +ℤ (h *ℤ unit) *ℤ pos 1) *ℤ kn) ≤ℤ (value n s p *ℤ (r *ℤ t)) = subst (λ z. ((y s *ℤ (r *ℤ t -ℤ r *ℤ h) +ℤ (h *ℤ unit) *ℤ z) *ℤ kn) ≤ℤ (value n s p *ℤ (r *ℤ t))) (low-yes (suc k) s (omega (arith, le))) (ended s p f) in
        let more = mul-le cap _ _ (omega (arith, linear, cap_least)) all in
        let share = mul-le (h *ℤ kn) (y s) (unit *ℤ cap) (mul-nonneg h kn h_least (growing.1.1 n)) (most s) in
        omega (arith, linear, more, share, opened (y s) r t h unit cap kn, moved (value n s p) r t cap)
      where
        opened : (y r t h u w k : ℤ) → w *ℤ ((y *ℤ (r *ℤ t -ℤ r *ℤ h) +ℤ (h *ℤ u) *ℤ pos 1) *ℤ k) ≡ (y *ℤ ((r *ℤ w) *ℤ t -ℤ (r *ℤ w -ℤ pos 1) *ℤ h)) *ℤ k +ℤ ((h *ℤ k) *ℤ (u *ℤ w) -ℤ (h *ℤ k) *ℤ y)
        opened y r t h u w k = rw (as_diff y, as_diff r, as_diff t, as_diff h, as_diff u, as_diff w, as_diff k) (simp diffs (diff-same _ _ _ _ (omega arith)))

        moved : (v r t w : ℤ) → w *ℤ (v *ℤ (r *ℤ t)) ≡ v *ℤ ((r *ℤ w) *ℤ t)
        moved v r t w = rw (as_diff v, as_diff r, as_diff t, as_diff w) (simp diffs (diff-same _ _ _ _ (omega arith)))

    -- a state whose value is at least its number, or whose number is nothing
    end_else : (s : ℕ) (p : P) → fits n s p → (y s *ℤ steps n) ≤ℤ value n s p → ((y s *ℤ (pt -ℤ ph)) *ℤ steps n) ≤ℤ (value n s p *ℤ pt)
    end_else s p f enough =
        let v = value n s p in
        let first = mul-le (pt -ℤ ph) (y s *ℤ steps n) v left-least enough in
        let second = mul-nonneg ph v ph-least (value_least n s p f) in
        omega (arith, linear, first, second, turned (y s) (pt -ℤ ph) (steps n), parted v pt ph)

    closed : Reaches n pt ph
    closed s p f = either_way (goal s)
        (λ e. end_else s p f (goals n s p e).0)
        (λ e. either_way (nat_lt k (rank s))
        (λ past. end_else s p f (omega (arith, linear, value_least n s p f, mul-le (steps n) (y s) (pos 0) (growing.1.1 n) (far s e (ltb-true k (rank s) past)), mul-comm (steps n) (y s), mul-zero (steps n))))
        (λ le. end_near s p (ltb-false k (rank s) le) f))

  block : (n : ℕ) (t h : ℤ) → pos 0 ≤ℤ h → h ≤ℤ t → Reaches n t h → Reaches (after k n) (parts *ℤ t) ((parts -ℤ pos 1) *ℤ h)
  block n t h h_least h_most reaches =
      closed (after k n) t h h_least h_most (many n k t h (h *ℤ unit) (omega arith) h_least h_most (mul-nonneg h unit h_least unit_least) (omega (arith, linear)) (begun n t h h_least h_most reaches))

  -- ---- j blocks

  blocks : ℕ → ℕ
  blocks zero = 0
  blocks (suc j) = after k (blocks j)

  blocks-is : (j : ℕ) → blocks j ≡ k * j
  unfolding blocks
  blocks-is zero = omega arith
  blocks-is (suc j) = after_is k (blocks j) ∙ omega (arith, blocks-is j)

  all_blocks : (j : ℕ) → Reaches (blocks j) (power parts j) (power (parts -ℤ pos 1) j)
  unfolding blocks
  all_blocks zero = λ s p f. omega (arith, linear, value_least 0 s p f, mul-comm (value 0 s p) (pos 1), one-mul (value 0 s p), nothing (y s) (steps 0))
    where
      nothing : (y k : ℤ) → (y *ℤ (pos 1 -ℤ pos 1)) *ℤ k ≡ pos 0
      nothing y k = ap (λ z. z *ℤ k) (mul-zero y) ∙ zero-mul k
  all_blocks (suc j) =
      block (blocks j) (power parts j) (power (parts -ℤ pos 1) j) (power-least (parts -ℤ pos 1) j (omega (arith, linear, parts-one))) (power-less parts j parts-one) (all_blocks j)

  pub reaches : (j s : ℕ) (p : P) → fits (k * j) s p → ((y s *ℤ (power (power rate k *ℤ cap) j -ℤ power (power rate k *ℤ cap -ℤ pos 1) j)) *ℤ steps (k * j)) ≤ℤ (value (k * j) s p *ℤ power (power rate k *ℤ cap) j)
  reaches j = subst (λ n. Reaches n (power parts j) (power (parts -ℤ pos 1) j)) (blocks-is j) (all_blocks j)
