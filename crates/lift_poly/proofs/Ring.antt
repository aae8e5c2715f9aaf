-- The integers as an ordered ring. `linear` is for `omega`: sums, differences and orders, each product an atom.
use Rattle.std.proofs.Common.{◌≡◌, ℕ, ◌+◌, ◌*◌, ℤ, pos, negsuc, ◌+ℤ◌, ◌-ℤ◌, ◌*ℤ◌, neg_ℤ, ◌≤ℤ◌, ◌<ℤ◌, Bool, true, false, T, int_le, refl, sym, ap, subst, ◌∙◌, arith, mul-le-mul_left, mul-lt-mul_of_pos_right}
use borrow.Author.Differences.{up, down, same_in, same_out, lt_out, le_out, below_in, at_most_in, sum_is_lem, neg_is, product_is}
use Rattle.std.proofs.lemmas.Int.{by_lt_z}
use Rattle.std.specs.Int.Signed.{le_z_yes}

pub ruleset linear = (same_in, same_out, lt_out, le_out, below_in, at_most_in, sum_is_lem, neg_is)

pub mul-comm : (a b : ℤ) → a *ℤ b ≡ b *ℤ a
mul-comm a b = omega (arith, linear, product_is)

pub mul-assoc : (a b c : ℤ) → (a *ℤ b) *ℤ c ≡ a *ℤ (b *ℤ c)
mul-assoc a b c =
    let ab = product_is a b in
    let bc = product_is b c in
    let by = λ (k : ℕ) (m n : ℕ) (e : m ≡ n). ap (λ x. x * k) e in
    let left = product_is (a *ℤ b) c in
    let right = product_is a (b *ℤ c) in
    let ups : up ((a *ℤ b) *ℤ c) ≡ up (a *ℤ (b *ℤ c)) =
    omega (arith, by (up c) _ _ ab.0, by (down c) _ _ ab.1, by (up a) _ _ bc.0, by (down a) _ _ bc.1) in
    let downs : down ((a *ℤ b) *ℤ c) ≡ down (a *ℤ (b *ℤ c)) =
    omega (arith, by (down c) _ _ ab.0, by (up c) _ _ ab.1, by (down a) _ _ bc.0, by (up a) _ _ bc.1) in
    same_in _ _ (λ i. ups i + sym downs i)

pub mul-add : (a b c : ℤ) → a *ℤ (b +ℤ c) ≡ a *ℤ b +ℤ a *ℤ c
mul-add a b c =
    let s = sum_is_lem b c in
    let by = λ (k : ℕ) (m n : ℕ) (e : m ≡ n). ap (λ x. k * x) e in
    omega (arith, linear, product_is, by (up a) _ _ s, by (down a) _ _ s)

pub add-mul : (a b c : ℤ) → (a +ℤ b) *ℤ c ≡ a *ℤ c +ℤ b *ℤ c
add-mul a b c = mul-comm (a +ℤ b) c ∙ mul-add c a b ∙ ap (λ x. x +ℤ c *ℤ b) (mul-comm c a) ∙ ap (λ x. a *ℤ c +ℤ x) (mul-comm c b)

pub mul-neg : (a b : ℤ) → a *ℤ neg_ℤ b ≡ neg_ℤ (a *ℤ b)
mul-neg a b =
    let e = neg_is b in
    let by = λ (k : ℕ) (m n : ℕ) (e : m ≡ n). ap (λ x. k * x) e in
    omega (arith, linear, product_is, by (up a) _ _ e.0, by (down a) _ _ e.0, by (up a) _ _ e.1, by (down a) _ _ e.1)

pub one-mul : (a : ℤ) → pos 1 *ℤ a ≡ a
one-mul a = omega (arith, linear, product_is)

pub zero-mul : (a : ℤ) → pos 0 *ℤ a ≡ pos 0
zero-mul a = omega (arith, linear, product_is)

pub mul-zero : (a : ℤ) → a *ℤ pos 0 ≡ pos 0
mul-zero a = omega (arith, linear, product_is)

-- a factor of 0 or more keeps the order
pub mul-le : (a b c : ℤ) → pos 0 ≤ℤ a → b ≤ℤ c → (a *ℤ b) ≤ℤ (a *ℤ c)
mul-le (pos n) b c h k = omega (arith, linear, product_is, mul-le-mul_left n (le_out b c k))
mul-le (negsuc n) b c h k = omega (arith, linear)

pub mul-nonneg : (a b : ℤ) → pos 0 ≤ℤ a → pos 0 ≤ℤ b → pos 0 ≤ℤ (a *ℤ b)
mul-nonneg a b h k = omega (arith, linear, mul-le a (pos 0) b h k, mul-zero a)

pub mul-lt : (a b c : ℤ) → pos 0 <ℤ a → b <ℤ c → (a *ℤ b) <ℤ (a *ℤ c)
mul-lt (pos n) b c h k = omega (arith, linear, product_is, mul-lt-mul_of_pos_right (lt_out b c k) (lt_out (pos 0) (pos n) h))
mul-lt (negsuc n) b c h k = omega (arith, linear)

pub mul-le_cancel : (a b c : ℤ) → pos 0 <ℤ a → (a *ℤ b) ≤ℤ (a *ℤ c) → b ≤ℤ c
mul-le_cancel a b c h k = by_lt_z c b (λ lt. omega (arith, linear, mul-lt a c b h lt)) (λ le. le)

-- ---- ring identities: each integer as a difference of two naturals, and then `omega` over the naturals

unfoldable pub diff : ℕ → ℕ → ℤ
diff u d = pos u -ℤ pos d

pub as_diff : (z : ℤ) → z ≡ diff (up z) (down z)
unfolding diff
as_diff z = omega (arith, linear)

pub diff-same : (a b c d : ℕ) → a + d ≡ c + b → diff a b ≡ diff c d
unfolding diff
diff-same a b c d e = omega (arith, linear)

pub diff-add : (a b c d : ℕ) → diff a b +ℤ diff c d ≡ diff (a + c) (b + d)
unfolding diff
diff-add a b c d = omega (arith, linear)

pub diff-neg : (a b : ℕ) → neg_ℤ (diff a b) ≡ diff b a
unfolding diff
diff-neg a b = omega (arith, linear)

pub pos_diff : (n : ℕ) → pos n ≡ diff n 0
unfolding diff
pos_diff n = omega (arith, linear)

pub negsuc_diff : (n : ℕ) → negsuc n ≡ diff 0 (n + 1)
unfolding diff
negsuc_diff n = omega (arith, linear)

pub diff-mul : (a b c d : ℕ) → diff a b *ℤ diff c d ≡ diff (a * c + b * d) (a * d + b * c)
unfolding diff
diff-mul a b c d =
    let x : up (pos a -ℤ pos b) + b ≡ down (pos a -ℤ pos b) + a = omega (arith, linear) in
    let y : up (pos c -ℤ pos d) + d ≡ down (pos c -ℤ pos d) + c = omega (arith, linear) in
    let by = λ (k : ℕ) (m n : ℕ) (e : m ≡ n). ap (λ x. k * x) e in
    let p = product_is (pos a -ℤ pos b) (pos c -ℤ pos d) in
    same_in _ _ (omega (arith, linear, p.0, p.1, by (up (pos c -ℤ pos d)) _ _ x, by (down (pos c -ℤ pos d)) _ _ x, by a _ _ y, by b _ _ y))

-- turns an integer term over `diff`s into one `diff`
pub ruleset diffs = (diff-add, diff-mul, diff-neg, pos_diff, negsuc_diff)

-- ---- the test of an order

pub le_from_test : (a b : ℤ) → int_le a b ≡ true → a ≤ℤ b
le_from_test a b e = le_z_yes (subst T (sym e) tt)

passed : (b : Bool) → T b → b ≡ true
passed true h = refl
passed false h = absurd h

pub test_from_le : (a b : ℤ) → a ≤ℤ b → int_le a b ≡ true
test_from_le a b h = passed (int_le a b) h.le
