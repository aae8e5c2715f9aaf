-- Whole numbers as an ordered ring, and an interval whose ends keep their order over a grid.
use Rattle.std.proofs.Common.{◌≡◌, ℕ, ◌<◌, ◌+◌, ◌*◌, ◌/◌, ℤ, pos, negsuc, ◌*ℤ◌, ◌≤ℤ◌, ◌<ℤ◌, sym, ap, ◌∙◌, refl, subst, arith, mul-le-mul_left, mul-lt-mul_of_pos_right, mul-pos}
use borrow.Author.Differences.{up, down, same_in, same_out, lt_out, le_out, below_in, at_most_in, sum_is_lem, neg_is, product_is}
use Rattle.std.specs.Prelude.{unsigned_abs}
use Rattle.std.specs.Int.{◌∣◌}
use Rattle.std.proofs.Math.Nat.{div-mul_cancel}
use Rattle.std.proofs.lemmas.Int.{by_lt_z}

ruleset linear = (same_in, same_out, lt_out, le_out, below_in, at_most_in, sum_is_lem, neg_is)

mul-comm : (a b : ℤ) → a *ℤ b ≡ b *ℤ a
mul-comm a b = omega (arith, linear, product_is)

mul-assoc : (a b c : ℤ) → (a *ℤ b) *ℤ c ≡ a *ℤ (b *ℤ c)
mul-assoc a b c =
    let ab = product_is a b in
    let bc = product_is b c in
    let by = λ (k : ℕ) (m n : ℕ) (e : m ≡ n). ap (λ x. x * k) e in
    let left = product_is (a *ℤ b) c in
    let right = product_is a (b *ℤ c) in
    let ups : up ((a *ℤ b) *ℤ c) ≡ up (a *ℤ (b *ℤ c)) =
    omega (arith, by (up c) _ _ ab.0, by (down c) _ _ ab.1, by (up a) _ _ bc.0, by (down a) _ _ bc.1) in
    let downs : down ((a *ℤ b) *ℤ c) ≡ down (a *ℤ (b *ℤ c)) =
    omega (arith, by (down c) _ _ ab.0, by (up c) _ _ ab.1, by (down a) _ _ bc.0, by (up a) _ _ bc.1) in
    same_in _ _ (λ i. ups i + sym downs i)

-- a factor of 0 or more keeps the order
mul-le : (a b c : ℤ) → pos 0 ≤ℤ a → b ≤ℤ c → (a *ℤ b) ≤ℤ (a *ℤ c)
mul-le (pos n) b c h k = omega (arith, linear, product_is, mul-le-mul_left n (le_out b c k))
mul-le (negsuc n) b c h k = omega (arith, linear)

-- a factor above 0 keeps a strict order
mul-lt : (a b c : ℤ) → pos 0 <ℤ a → b <ℤ c → (a *ℤ b) <ℤ (a *ℤ c)
mul-lt (pos n) b c h k = omega (arith, linear, product_is, mul-lt-mul_of_pos_right (lt_out b c k) (lt_out (pos 0) (pos n) h))
mul-lt (negsuc n) b c h k = omega (arith, linear)

mul-lt_cancel : (a b c : ℤ) → pos 0 ≤ℤ a → (a *ℤ b) <ℤ (a *ℤ c) → b <ℤ c
mul-lt_cancel a b c h k = by_lt_z b c (λ lt. lt) (λ le. absurd (omega (arith, linear, mul-le a c b h le)))

-- four factors in another order
regroup : (k a n b : ℤ) → (k *ℤ a) *ℤ (n *ℤ b) ≡ (a *ℤ b) *ℤ (n *ℤ k)
regroup k a n b =
    ap (λ x. x *ℤ (n *ℤ b)) (mul-comm k a)
    ∙ mul-assoc a k (n *ℤ b)
    ∙ ap (λ x. a *ℤ x) (sym (mul-assoc k n b) ∙ mul-comm (k *ℤ n) b ∙ ap (λ x. b *ℤ x) (mul-comm k n))
    ∙ sym (mul-assoc a b (n *ℤ k))

-- a number above 0 is its size
pub is_size : (z : ℤ) → pos 0 <ℤ z → z ≡ pos (unsigned_abs z)
is_size (pos n) h = refl
is_size (negsuc n) h = absurd (omega (arith, linear))

-- one number below another, each over its divisor, and both over a common multiple
rises : (total a b up_to down_to : ℕ) (low high : ℤ) → 0 < total → down_to * a ≡ total → up_to * b ≡ total
    → (low *ℤ pos b) <ℤ (high *ℤ pos a) → (low *ℤ pos down_to) <ℤ (high *ℤ pos up_to)
rises total a b up_to down_to low high above is_low is_high below =
    let left : pos total *ℤ (low *ℤ pos b) ≡ pos (a * b) *ℤ (low *ℤ pos down_to) = rw (← is_low) (regroup (pos down_to) (pos a) low (pos b)) in
    let right : pos total *ℤ (high *ℤ pos a) ≡ pos (b * a) *ℤ (high *ℤ pos up_to) = rw (← is_high) (regroup (pos up_to) (pos b) high (pos a)) in
    let swap : b * a ≡ a * b = omega arith in
    let apart : (pos total *ℤ (low *ℤ pos b)) <ℤ (pos total *ℤ (high *ℤ pos a)) = mul-lt (pos total) _ _ (omega (arith, linear)) below in
    let same : pos total *ℤ (high *ℤ pos a) ≡ pos (a * b) *ℤ (high *ℤ pos up_to) = right ∙ ap (λ k. pos k *ℤ (high *ℤ pos up_to)) swap in
    mul-lt_cancel (pos (a * b)) _ _ (omega (arith, linear)) (rw (left, same) at apart)

-- a grid's step for a denominator that divides it
step-den : (d a power : ℕ) → a ∣ d → d / a * power * a ≡ d * power
step-den d a power h = let same : d / a * a ≡ d = div-mul_cancel a h in omega (arith, ap (λ k. k * power) same)

-- the ends of an interval keep their order over a grid
pub span-rises : (d power : ℕ) (low_num low_den high_num high_den : ℤ) → 0 < d → 0 < power → pos 0 <ℤ low_den → pos 0 <ℤ high_den
    → unsigned_abs low_den ∣ d → unsigned_abs high_den ∣ d → (low_num *ℤ high_den) <ℤ (high_num *ℤ low_den)
    → (low_num *ℤ pos (d / unsigned_abs low_den * power)) <ℤ (high_num *ℤ pos (d / unsigned_abs high_den * power))
span-rises d power low_num low_den high_num high_den above some p q divides_low divides_high below =
    let over_high : (low_num *ℤ pos (unsigned_abs high_den)) <ℤ (high_num *ℤ low_den) = let P : ℤ → Type 0 = λ z. (low_num *ℤ z) <ℤ (high_num *ℤ low_den) in subst P (is_size high_den q) below in
    let over_low : (low_num *ℤ pos (unsigned_abs high_den)) <ℤ (high_num *ℤ pos (unsigned_abs low_den)) = let P : ℤ → Type 0 = λ z. (low_num *ℤ pos (unsigned_abs high_den)) <ℤ (high_num *ℤ z) in subst P (is_size low_den p) over_high in
    rises (d * power) (unsigned_abs low_den) (unsigned_abs high_den) _ _ low_num high_num (mul-pos above some)
    (step-den d (unsigned_abs low_den) power divides_low) (step-den d (unsigned_abs high_den) power divides_high) over_low

-- an end over a grid is a multiple of the power
pub number-multiple : (n : ℤ) (step power : ℕ) → n *ℤ pos (step * power) ≡ (n *ℤ pos step) *ℤ pos power
number-multiple n step power = sym (mul-assoc n (pos step) (pos power))

-- a number over a grid is worth its fraction
pub number-exact : (d power : ℕ) (num den : ℤ) → pos 0 <ℤ den → unsigned_abs den ∣ d → (num *ℤ pos (d / unsigned_abs den * power)) *ℤ den ≡ num *ℤ pos (d * power)
number-exact d power num den above divides =
    ap (λ z. (num *ℤ pos (d / unsigned_abs den * power)) *ℤ z) (is_size den above)
    ∙ mul-assoc num (pos (d / unsigned_abs den * power)) (pos (unsigned_abs den))
    ∙ ap (λ k. num *ℤ pos k) (step-den d (unsigned_abs den) power divides)
