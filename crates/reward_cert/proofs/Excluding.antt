-- No certificate from below is above one from above, where both speak of one valuation: in the end the one scheduler that both speak of would pay too little or too much.
use Rattle.std.proofs.Common.{◌≡◌, ℕ, zero, suc, ◌+◌, ◌-◌, ◌*◌, ◌<◌, ◌≤◌, true, cond, List, [], ◌∷◌, length, get_or, fold, All, ℤ, pos, negsuc, ◌+ℤ◌, ◌-ℤ◌, ◌*ℤ◌, ◌≤ℤ◌, ◌<ℤ◌, int_le, refl, ap, arith, nat_lt, ltb-true}
use Rattle.std.proofs.lemmas.Bool.{lt-ltb}
use Rattle.std.proofs.lemmas.Int.{by_lt_z}
use Rattle.std.proofs.lemmas.List.Elements.{All-head, All-tail}
use Rattle.lift_poly.proofs.Ring.{linear, mul-comm, mul-zero, one-mul, mul-le, mul-lt, mul-nonneg, mul-le_cancel, as_diff, diffs, diff-same}
use Rattle.lift_frac.specs.Gcd.{lcm}
use Rattle.lift_frac.specs.Laws.{LcmIsAtLeast}
use Rattle.lift_costs.specs.Costs.{CostData, IsCost}
use Rattle.lift_model.specs.Process.{power}
use Rattle.lift_model.specs.Model.{ModelData, choices}
use Rattle.lift_cert.specs.Reached.{Follows}
use Rattle.corner_lift.specs.Case.{CaseData, IsCase}
use Rattle.corner_lift.specs.Certificate.{mark}
use Rattle.reward_cert.specs.Charges.{RewardData, AreRewards, common}
use Rattle.reward_cert.specs.Said.{unit}
use Rattle.reward_cert.proofs.Steps.{either_way}
use Rattle.reward_cert.proofs.Bounding.{power-least}

-- ---- what is at most a vanishing part is nothing

grows : (d g e n : ℤ) → ((d -ℤ pos 1) *ℤ g) *ℤ (d +ℤ (n +ℤ pos 1)) ≡ d *ℤ (g *ℤ (d +ℤ n)) -ℤ g *ℤ (n +ℤ pos 1)
grows d g e n = rw (as_diff d, as_diff g, as_diff n) (simp diffs (diff-same _ _ _ _ (omega arith)))

-- (d - 1) ^ j (d + j) is at most d ^ j d
pub vanishes : (d : ℤ) (j : ℕ) → pos 1 ≤ℤ d → (power (d -ℤ pos 1) j *ℤ (d +ℤ pos j)) ≤ℤ (power d j *ℤ d)
vanishes d zero h = omega (arith, linear, one-mul d, one-mul (d +ℤ pos 0))
vanishes d (suc j) h =
    let g = power (d -ℤ pos 1) j in
    let before = mul-le d _ _ (omega (arith, linear, h)) (vanishes d j h) in
    let least = mul-nonneg g (pos j +ℤ pos 1) (power-least (d -ℤ pos 1) j (omega (arith, linear, h))) (omega (arith, linear)) in
    let next : d +ℤ pos (suc j) ≡ d +ℤ (pos j +ℤ pos 1) = omega (arith, linear) in
    omega (arith, linear, before, least, grows d g d (pos j), ap (λ z. ((d -ℤ pos 1) *ℤ g) *ℤ z) next, turned d (power d j))
  where
    turned : (d p : ℤ) → d *ℤ (p *ℤ d) ≡ (d *ℤ p) *ℤ d
    turned d p = rw (as_diff d, as_diff p) (simp diffs (diff-same _ _ _ _ (omega arith)))

power-positive : (d : ℤ) (j : ℕ) → pos 1 ≤ℤ d → pos 0 <ℤ power d j
power-positive d zero h = omega (arith, linear)
power-positive d (suc j) h = omega (arith, linear, mul-lt d (pos 0) (power d j) (omega (arith, linear, h)) (power-positive d j h), mul-zero d)

-- x of d ^ j is at most b of (d - 1) ^ j, for each j
pub squeezed : (x : ℤ) (b : ℕ) (d : ℕ) → 1 ≤ d → ((j : ℕ) → (x *ℤ power (pos d) j) ≤ℤ (pos b *ℤ power (pos d -ℤ pos 1) j)) → x ≤ℤ pos 0
squeezed x b d some small = by_lt_z (pos 0) x (λ positive. absurd (too_large positive)) (λ le. le)
  where
    opened : (b h e : ℤ) → e *ℤ (b *ℤ h) ≡ b *ℤ (h *ℤ e)
    opened b h e = rw (as_diff b, as_diff h, as_diff e) (simp diffs (diff-same _ _ _ _ (omega arith)))

    closed : (x p e : ℤ) → e *ℤ (x *ℤ p) ≡ p *ℤ (x *ℤ e)
    closed x p e = rw (as_diff x, as_diff p, as_diff e) (simp diffs (diff-same _ _ _ _ (omega arith)))

    shared : (b p d : ℤ) → b *ℤ (p *ℤ d) ≡ p *ℤ (b *ℤ d)
    shared b p d = rw (as_diff b, as_diff p, as_diff d) (simp diffs (diff-same _ _ _ _ (omega arith)))

    too_large : pos 0 <ℤ x → ⊥
    too_large positive =
        let j = b * d in
        let p = power (pos d) j in
        let h = power (pos d -ℤ pos 1) j in
        let e = pos d +ℤ pos j in
        let first = mul-le e _ _ (omega (arith, linear)) (small j) in
        let second = mul-le (pos b) _ _ (omega (arith, linear)) (vanishes (pos d) j (omega (arith, linear, some))) in
        let all : (p *ℤ (x *ℤ e)) ≤ℤ (p *ℤ (pos b *ℤ pos d)) = omega (arith, linear, first, second, opened (pos b) h e, closed x p e, shared (pos b) p (pos d)) in
        let bare = mul-le_cancel p (x *ℤ e) (pos b *ℤ pos d) (power-positive (pos d) j (omega (arith, linear, some))) all in
        let more = mul-le e (pos 1) x (omega (arith, linear)) (omega (arith, linear, positive)) in
        omega (arith, linear, bare, more, some, mul-comm e x, mul-comm e (pos 1), one-mul e)

-- ---- the cap over the common denominator is some

row_positive : LcmIsAtLeast → (row : List CostData) (q : ℕ) → All IsCost row → 1 ≤ q → 1 ≤ fold (λ m c. lcm m c.den) q row
row_positive at_least [] q are some = some
row_positive at_least (c ∷ row) q are some = let one = All-head IsCost c row are in row_positive at_least row (lcm q c.den) (All-tail IsCost c row are) (omega (arith, some, at_least q c.den one.positive))

common_positive : LcmIsAtLeast → (costs : List (List CostData)) (q : ℕ) → All (All IsCost) costs → 1 ≤ q → 1 ≤ fold (λ q row. fold (λ m c. lcm m c.den) q row) q costs
common_positive at_least [] q are some = some
common_positive at_least (row ∷ costs) q are some = let Every : List CostData → Type 0 = λ (r : List CostData). All IsCost r in common_positive at_least costs (fold (λ m c. lcm m c.den) q row) (All-tail Every row costs are) (row_positive at_least row q (All-head Every row costs are) some)

pub unit_positive : LcmIsAtLeast → (r : RewardData) → AreRewards r → pos 0 <ℤ unit r
unit_positive at_least r are =
    let all = common_positive at_least r.costs 1 are.costs (omega arith) in
    omega (arith, linear, mul-lt (pos r.cap) (pos 0) (pos (common r.costs)) (omega (arith, linear, are.cap)) (omega (arith, linear, all)), mul-zero (pos r.cap))

-- ---- a scheduler that follows the picks, and picks some choice everywhere

abbrev pub made : ModelData → List ℕ → ℕ → ℕ
made m picks s = cond (nat_lt (mark picks s) (length (choices m s))) (mark picks s) 0

pub made_follows : (m : ModelData) (picks : List ℕ) → Follows m picks (made m picks)
made_follows m picks s lt = rw (lt-ltb (mark picks s) (length (choices m s)) lt) refl

pub made_inside : (k : CaseData) (picks : List ℕ) (s : ℕ) → IsCase k → s < length k.model.states → made k.model picks s < length (choices k.model s)
made_inside k picks s is lt = either_way (nat_lt (mark picks s) (length (choices k.model s)))
    (λ e. rw e (ltb-true (mark picks s) (length (choices k.model s)) e))
    (λ e. rw e (omega (arith, is.asked.model.some_choice s [] lt)))

pub has_inside : (z : List ℤ) (s : ℕ) → int_le (pos 0) (get_or z s (negsuc 0)) ≡ true → s < length z
has_inside [] s e = cc
has_inside (n ∷ z) zero e = omega arith
has_inside (n ∷ z) (suc s) e = omega (arith, has_inside z s e)

-- ---- both bounds of what that scheduler pays

-- cost at most z, and at least y but for a vanishing part of it
pub collected_apart : (y z u k t cost : ℤ) (d j : ℕ) → pos 0 <ℤ (u *ℤ k) → (cost *ℤ t) ≤ℤ (z *ℤ (u *ℤ k)) → (y *ℤ (u *ℤ (k *ℤ (power (pos d) j -ℤ power (pos d -ℤ pos 1) j)))) ≤ℤ (t *ℤ (power (pos d) j *ℤ cost)) → pos 0 ≤ℤ power (pos d) j
    → ((y -ℤ z) *ℤ power (pos d) j) ≤ℤ (y *ℤ power (pos d -ℤ pos 1) j)
collected_apart y z u k t cost d j positive most least p_least =
    let p = power (pos d) j in
    let h = power (pos d -ℤ pos 1) j in
    let scaled = mul-le p _ _ p_least most in
    mul-le_cancel (u *ℤ k) ((y -ℤ z) *ℤ p) (y *ℤ h) positive (omega (arith, linear, scaled, least, left y z u k p h, right t p cost, both z u k p))
  where
    left : (y z u k p h : ℤ) → (u *ℤ k) *ℤ ((y -ℤ z) *ℤ p) ≡ y *ℤ (u *ℤ (k *ℤ (p -ℤ h))) +ℤ ((u *ℤ k) *ℤ (y *ℤ h) -ℤ (u *ℤ k) *ℤ (z *ℤ p))
    left y z u k p h = rw (as_diff y, as_diff z, as_diff u, as_diff k, as_diff p, as_diff h) (simp diffs (diff-same _ _ _ _ (omega arith)))

    right : (t p c : ℤ) → t *ℤ (p *ℤ c) ≡ p *ℤ (c *ℤ t)
    right t p c = rw (as_diff t, as_diff p, as_diff c) (simp diffs (diff-same _ _ _ _ (omega arith)))

    both : (z u k p : ℤ) → p *ℤ (z *ℤ (u *ℤ k)) ≡ (u *ℤ k) *ℤ (z *ℤ p)
    both z u k p = rw (as_diff z, as_diff u, as_diff k, as_diff p) (simp diffs (diff-same _ _ _ _ (omega arith)))

-- cost at most z, at least y but for what misses the goal, which vanishes
pub reaching_apart : (y z u k t cost reached : ℤ) (d j : ℕ) → pos 0 <ℤ (u *ℤ k) → pos 0 ≤ℤ (t *ℤ u) → (cost *ℤ t) ≤ℤ (z *ℤ (u *ℤ k)) → (y *ℤ (u *ℤ k)) ≤ℤ (t *ℤ (cost +ℤ u *ℤ (k -ℤ reached))) → (power (pos d) j *ℤ k) ≤ℤ (power (pos d) j *ℤ reached +ℤ power (pos d -ℤ pos 1) j *ℤ k) → pos 0 ≤ℤ power (pos d) j
    → ((y -ℤ z) *ℤ power (pos d) j) ≤ℤ (t *ℤ power (pos d -ℤ pos 1) j)
reaching_apart y z u k t cost reached d j positive scale_least most least missed p_least =
    let p = power (pos d) j in
    let h = power (pos d -ℤ pos 1) j in
    let upper = mul-le p _ _ p_least most in
    let lower = mul-le p _ _ p_least least in
    let gone = mul-le (t *ℤ u) _ _ scale_least missed in
    mul-le_cancel (u *ℤ k) ((y -ℤ z) *ℤ p) (t *ℤ h) positive (omega (arith, linear, upper, lower, gone, left y z u k p, right t u p h k reached cost, far t u p h k reached, both t u k h))
  where
    left : (y z u k p : ℤ) → (u *ℤ k) *ℤ ((y -ℤ z) *ℤ p) ≡ p *ℤ (y *ℤ (u *ℤ k)) -ℤ p *ℤ (z *ℤ (u *ℤ k))
    left y z u k p = rw (as_diff y, as_diff z, as_diff u, as_diff k, as_diff p) (simp diffs (diff-same _ _ _ _ (omega arith)))

    right : (t u p h k r c : ℤ) → p *ℤ (t *ℤ (c +ℤ u *ℤ (k -ℤ r))) ≡ p *ℤ (c *ℤ t) +ℤ ((t *ℤ u) *ℤ (p *ℤ k) -ℤ (t *ℤ u) *ℤ (p *ℤ r))
    right t u p h k r c = rw (as_diff t, as_diff u, as_diff p, as_diff k, as_diff r, as_diff c) (simp diffs (diff-same _ _ _ _ (omega arith)))

    far : (t u p h k r : ℤ) → (t *ℤ u) *ℤ (p *ℤ r +ℤ h *ℤ k) ≡ (t *ℤ u) *ℤ (p *ℤ r) +ℤ (t *ℤ u) *ℤ (h *ℤ k)
    far t u p h k r = rw (as_diff t, as_diff u, as_diff p, as_diff h, as_diff k, as_diff r) (simp diffs (diff-same _ _ _ _ (omega arith)))

    both : (t u k h : ℤ) → (u *ℤ k) *ℤ (t *ℤ h) ≡ (t *ℤ u) *ℤ (h *ℤ k)
    both t u k h = rw (as_diff t, as_diff u, as_diff k, as_diff h) (simp diffs (diff-same _ _ _ _ (omega arith)))
