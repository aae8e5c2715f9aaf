-- Each operation, in numbers: what two fractions denote gives what their sum, product and quotient denote.
use Rattle.std.proofs.Common.{◌≡◌, ℤ, pos, ◌+ℤ◌, ◌*ℤ◌, ◌<ℤ◌, ◌≤ℤ◌, sym, ap, ◌∙◌, arith}
use Rattle.lift_poly.proofs.Ring.{linear, mul-zero, mul-lt, mul-le_cancel, as_diff, diff-same, diffs}

pub cancel : (a b c : ℤ) → pos 0 <ℤ a → a *ℤ b ≡ a *ℤ c → b ≡ c
cancel a b c h e =
    let le : b ≤ℤ c = mul-le_cancel a b c h (omega (arith, linear, e)) in
    let ge : c ≤ℤ b = mul-le_cancel a c b h (omega (arith, linear, e)) in
    omega (arith, linear, le, ge)

pub positive_product : (a b : ℤ) → pos 0 <ℤ a → pos 0 <ℤ b → pos 0 <ℤ (a *ℤ b)
positive_product a b h k = omega (arith, linear, mul-lt a (pos 0) b h k, mul-zero a)

move : (a p m : ℤ) → a *ℤ (p *ℤ m) ≡ (p *ℤ a) *ℤ m
move a p m = rw (as_diff a, as_diff p, as_diff m) (simp diffs (diff-same _ _ _ _ (omega arith)))

spread : (dx dy x y s1 r1 : ℤ) → (dy *ℤ x +ℤ dx *ℤ y) *ℤ (r1 *ℤ s1) ≡ (dy *ℤ s1) *ℤ (x *ℤ r1) +ℤ (dx *ℤ r1) *ℤ (y *ℤ s1)
spread dx dy x y s1 r1 = rw (as_diff dx, as_diff dy, as_diff x, as_diff y, as_diff s1, as_diff r1) (simp diffs (diff-same _ _ _ _ (omega arith)))

swap_last : (t p m : ℤ) → (t *ℤ p) *ℤ m ≡ (t *ℤ m) *ℤ p
swap_last t p m = rw (as_diff t, as_diff p, as_diff m) (simp diffs (diff-same _ _ _ _ (omega arith)))

left_part : (dx dy s1 r0 d : ℤ) → (dy *ℤ s1) *ℤ ((r0 *ℤ dx) *ℤ d) ≡ (dx *ℤ dy) *ℤ ((r0 *ℤ s1) *ℤ d)
left_part dx dy s1 r0 d = rw (as_diff dx, as_diff dy, as_diff s1, as_diff r0, as_diff d) (simp diffs (diff-same _ _ _ _ (omega arith)))

right_part : (dx dy r1 s0 d : ℤ) → (dx *ℤ r1) *ℤ ((s0 *ℤ dy) *ℤ d) ≡ (dx *ℤ dy) *ℤ ((s0 *ℤ r1) *ℤ d)
right_part dx dy r1 s0 d = rw (as_diff dx, as_diff dy, as_diff r1, as_diff s0, as_diff d) (simp diffs (diff-same _ _ _ _ (omega arith)))

gather : (a u w d p : ℤ) → (a *ℤ (u *ℤ d) +ℤ a *ℤ (w *ℤ d)) *ℤ p ≡ a *ℤ (((u +ℤ w) *ℤ p) *ℤ d)
gather a u w d p = rw (as_diff a, as_diff u, as_diff w, as_diff d, as_diff p) (simp diffs (diff-same _ _ _ _ (omega arith)))

pub sum_step : (P X Y T dx dy dp r0 r1 s0 s1 D : ℤ) → pos 0 <ℤ dx → pos 0 <ℤ dy → X *ℤ r1 ≡ (r0 *ℤ dx) *ℤ D → Y *ℤ s1 ≡ (s0 *ℤ dy) *ℤ D
    → T ≡ dy *ℤ X +ℤ dx *ℤ Y → P *ℤ (dx *ℤ dy) ≡ T *ℤ dp → P *ℤ (r1 *ℤ s1) ≡ ((r0 *ℤ s1 +ℤ s0 *ℤ r1) *ℤ dp) *ℤ D
sum_step P X Y T dx dy dp r0 r1 s0 s1 D hx hy x y t p =
    cancel (dx *ℤ dy) _ _ (positive_product dx dy hx hy)
    (move (dx *ℤ dy) P (r1 *ℤ s1) ∙ ap (λ k. k *ℤ (r1 *ℤ s1)) p ∙ swap_last T dp (r1 *ℤ s1)
    ∙ ap (λ k. (k *ℤ (r1 *ℤ s1)) *ℤ dp) t ∙ ap (λ k. k *ℤ dp) (spread dx dy X Y s1 r1)
    ∙ ap (λ k. ((dy *ℤ s1) *ℤ k +ℤ (dx *ℤ r1) *ℤ (Y *ℤ s1)) *ℤ dp) x ∙ ap (λ k. ((dy *ℤ s1) *ℤ ((r0 *ℤ dx) *ℤ D) +ℤ (dx *ℤ r1) *ℤ k) *ℤ dp) y
    ∙ ap (λ k. (k +ℤ (dx *ℤ r1) *ℤ ((s0 *ℤ dy) *ℤ D)) *ℤ dp) (left_part dx dy s1 r0 D)
    ∙ ap (λ k. ((dx *ℤ dy) *ℤ ((r0 *ℤ s1) *ℤ D) +ℤ k) *ℤ dp) (right_part dx dy r1 s0 D)
    ∙ gather (dx *ℤ dy) (r0 *ℤ s1) (s0 *ℤ r1) D dp)

pairs : (t p m d : ℤ) → (t *ℤ p) *ℤ (m *ℤ d) ≡ (t *ℤ d) *ℤ (p *ℤ m)
pairs t p m d = rw (as_diff t, as_diff p, as_diff m, as_diff d) (simp diffs (diff-same _ _ _ _ (omega arith)))

move_two : (a d p m : ℤ) → (a *ℤ d) *ℤ (p *ℤ m) ≡ (p *ℤ a) *ℤ (m *ℤ d)
move_two a d p m = rw (as_diff a, as_diff d, as_diff p, as_diff m) (simp diffs (diff-same _ _ _ _ (omega arith)))

cross : (x y p r1 s1 : ℤ) → (x *ℤ y) *ℤ (p *ℤ (r1 *ℤ s1)) ≡ ((x *ℤ r1) *ℤ (y *ℤ s1)) *ℤ p
cross x y p r1 s1 = rw (as_diff x, as_diff y, as_diff p, as_diff r1, as_diff s1) (simp diffs (diff-same _ _ _ _ (omega arith)))

outer : (a b d : ℤ) → (a *ℤ d) *ℤ (b *ℤ d) ≡ ((a *ℤ b) *ℤ d) *ℤ d
outer a b d = rw (as_diff a, as_diff b, as_diff d) (simp diffs (diff-same _ _ _ _ (omega arith)))

inner : (r0 dx s0 dy : ℤ) → (r0 *ℤ dx) *ℤ (s0 *ℤ dy) ≡ (dx *ℤ dy) *ℤ (r0 *ℤ s0)
inner r0 dx s0 dy = rw (as_diff r0, as_diff dx, as_diff s0, as_diff dy) (simp diffs (diff-same _ _ _ _ (omega arith)))

last : (a m d p : ℤ) → (((a *ℤ m) *ℤ d) *ℤ d) *ℤ p ≡ (a *ℤ d) *ℤ ((m *ℤ p) *ℤ d)
last a m d p = rw (as_diff a, as_diff m, as_diff d, as_diff p) (simp diffs (diff-same _ _ _ _ (omega arith)))

pub product_step : (P X Y T dx dy dp r0 r1 s0 s1 D : ℤ) → pos 0 <ℤ dx → pos 0 <ℤ dy → pos 0 <ℤ D → X *ℤ r1 ≡ (r0 *ℤ dx) *ℤ D → Y *ℤ s1 ≡ (s0 *ℤ dy) *ℤ D
    → T *ℤ D ≡ X *ℤ Y → P *ℤ (dx *ℤ dy) ≡ T *ℤ dp → P *ℤ (r1 *ℤ s1) ≡ ((r0 *ℤ s0) *ℤ dp) *ℤ D
product_step P X Y T dx dy dp r0 r1 s0 s1 D hx hy hd x y t p =
    cancel ((dx *ℤ dy) *ℤ D) _ _ (positive_product (dx *ℤ dy) D (positive_product dx dy hx hy) hd)
    (move_two (dx *ℤ dy) D P (r1 *ℤ s1) ∙ ap (λ k. k *ℤ ((r1 *ℤ s1) *ℤ D)) p ∙ pairs T dp (r1 *ℤ s1) D ∙ ap (λ k. k *ℤ (dp *ℤ (r1 *ℤ s1))) t
    ∙ cross X Y dp r1 s1 ∙ ap (λ k. (k *ℤ (Y *ℤ s1)) *ℤ dp) x ∙ ap (λ k. (((r0 *ℤ dx) *ℤ D) *ℤ k) *ℤ dp) y
    ∙ ap (λ k. k *ℤ dp) (outer (r0 *ℤ dx) (s0 *ℤ dy) D) ∙ ap (λ k. ((k *ℤ D) *ℤ D) *ℤ dp) (inner r0 dx s0 dy) ∙ last (dx *ℤ dy) (r0 *ℤ s0) D dp)

apart_again : (dy x p r1 t : ℤ) → ((dy *ℤ x) *ℤ p) *ℤ (r1 *ℤ t) ≡ (x *ℤ r1) *ℤ ((t *ℤ dy) *ℤ p)
apart_again dy x p r1 t = rw (as_diff dy, as_diff x, as_diff p, as_diff r1, as_diff t) (simp diffs (diff-same _ _ _ _ (omega arith)))

together : (r0 dx d c s1 p : ℤ) → ((r0 *ℤ dx) *ℤ d) *ℤ ((c *ℤ s1) *ℤ p) ≡ (dx *ℤ c) *ℤ (((r0 *ℤ s1) *ℤ p) *ℤ d)
together r0 dx d c s1 p = rw (as_diff r0, as_diff dx, as_diff d, as_diff c, as_diff s1, as_diff p) (simp diffs (diff-same _ _ _ _ (omega arith)))

-- by `c / dy`, where t over s1 is the same fraction
pub quotient_step : (P X dx dy dp r0 r1 c t s1 D : ℤ) → pos 0 <ℤ dx → pos 0 <ℤ c → X *ℤ r1 ≡ (r0 *ℤ dx) *ℤ D → c *ℤ s1 ≡ t *ℤ dy
    → P *ℤ (dx *ℤ c) ≡ (dy *ℤ X) *ℤ dp → P *ℤ (r1 *ℤ t) ≡ ((r0 *ℤ s1) *ℤ dp) *ℤ D
quotient_step P X dx dy dp r0 r1 c t s1 D hx hc x y p =
    cancel (dx *ℤ c) _ _ (positive_product dx c hx hc)
    (move (dx *ℤ c) P (r1 *ℤ t) ∙ ap (λ k. k *ℤ (r1 *ℤ t)) p ∙ apart_again dy X dp r1 t
    ∙ ap (λ k. k *ℤ ((t *ℤ dy) *ℤ dp)) x ∙ ap (λ k. ((r0 *ℤ dx) *ℤ D) *ℤ (k *ℤ dp)) (sym y) ∙ together r0 dx D c s1 dp)
