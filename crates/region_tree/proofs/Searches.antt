-- Searches that end: among finitely many numbers, for the least number, and down a measure. And the list of a function's values.
use Rattle.std.proofs.Common.{◌≡◌, ℕ, zero, suc, ◌+◌, ◌<◌, ◌≤◌, ◌⊎◌, inl, inr, ⊎_elim, Bool, true, false, List, length, map, get_or, ℤ, ◌≤ℤ◌, ◌<ℤ◌, refl, sym, ◌∙◌, arith, subst, nat_lt, ltb-true, ltb-false}
use Rattle.std.specs.List.{range_with_len}
use Rattle.std.proofs.lemmas.Bool.{cases_lt, cases_Bool, both_ways}
use Rattle.std.proofs.lemmas.Int.{by_lt_z}
use Rattle.std.proofs.lemmas.List.{get_or_past}
use Rattle.std.proofs.lemmas.List.FromFn.{length-map-range_with_len, get_or-map-range_with_len}
use Rattle.lift_poly.proofs.Ring.{linear}

pub same_function : {A B : Type 0} (f g : A → B) → ((x : A) → f x ≡ g x) → f ≡ g
same_function f g same = λ i x. same x i

-- ---- by cases

pub either_way : {P : Type 0} (b : Bool) → (b ≡ true → P) → (b ≡ false → P) → P
either_way true f g = f refl
either_way false f g = g refl

pub trichotomy : {P : Type 0} (a b : ℕ) → (a < b → P) → (a ≡ b → P) → (b < a → P) → P
trichotomy a b f g h =
    either_way (nat_lt a b)
    (λ e. f (ltb-true a b e))
    (λ e. either_way (nat_lt b a) (λ k. h (ltb-true b a k)) (λ k. g (omega (arith, ltb-false a b e, ltb-false b a k))))

-- ---- what holds or doesn't

pub less_or_not : (m n : ℕ) → (m < n) ⊎ (m < n → ⊥)
less_or_not m n = ⊎_elim (λ (lt : m < n). inl lt) (λ (le : n ≤ m). inr (λ lt. omega (arith, lt, le))) (cases_lt m n)

pub at_most_or_not : (m n : ℕ) → (m ≤ n) ⊎ (m ≤ n → ⊥)
at_most_or_not m n = ⊎_elim (λ (lt : n < m). inr (λ le. omega (arith, lt, le))) (λ (le : m ≤ n). inl le) (cases_lt n m)

pub less_or_not_z : (a b : ℤ) → (a <ℤ b) ⊎ (a <ℤ b → ⊥)
less_or_not_z a b = by_lt_z a b (λ lt. inl lt) (λ le. inr (λ lt. omega (arith, linear, lt, le)))

pub at_most_or_not_z : (a b : ℤ) → (a ≤ℤ b) ⊎ (a ≤ℤ b → ⊥)
at_most_or_not_z a b = by_lt_z b a (λ lt. inr (λ le. omega (arith, linear, lt, le))) (λ le. inl le)

pub true_or_not : (b : Bool) → (b ≡ true) ⊎ (b ≡ true → ⊥)
true_or_not b = ⊎_elim (λ (e : b ≡ true). inl e) (λ (e : b ≡ false). inr (λ t. both_ways b e t)) (cases_Bool b)

pub false_or_not : (b : Bool) → (b ≡ false) ⊎ (b ≡ false → ⊥)
false_or_not b = ⊎_elim (λ (e : b ≡ true). inr (λ f. both_ways b f e)) (λ (e : b ≡ false). inl e) (cases_Bool b)

pub both_or_not : {P Q : Type 0} → P ⊎ (P → ⊥) → Q ⊎ (Q → ⊥) → (P × Q) ⊎ (P × Q → ⊥)
both_or_not (inl p) (inl q) = inl (p, q)
both_or_not (inl p) (inr o) = inr (λ both. o both.1)
both_or_not (inr o) d = inr (λ both. o both.0)

pub implied_or_not : {P Q : Type 0} → P ⊎ (P → ⊥) → Q ⊎ (Q → ⊥) → (P → Q) ⊎ ((P → Q) → ⊥)
implied_or_not (inl p) (inl q) = inl (λ h. q)
implied_or_not (inl p) (inr o) = inr (λ f. o (f p))
implied_or_not (inr o) d = inl (λ h. absurd (o h))

-- ---- finitely many numbers

-- of the numbers below n, each has P or one has Q
pub all_or_one : (P Q : ℕ → Type 0) → ((i : ℕ) → P i ⊎ Q i) → (n : ℕ) → ((i : ℕ) → i < n → P i) ⊎ ((i : ℕ) × ((i < n) × Q i))
all_or_one P Q each zero = inl (λ i lt. absurd (omega arith))
all_or_one P Q each (suc n) =
    ⊎_elim
    (λ (all : (i : ℕ) → i < n → P i).
    ⊎_elim
    (λ (here : P n). inl (λ i lt. ⊎_elim (λ (before : i < n). all i before) (λ (past : n ≤ i). let same : n ≡ i = omega (arith, past, lt) in subst P same here) (cases_lt i n)))
    (λ (other : Q n). inr (n, (omega arith, other)))
    (each n))
    (λ (one : (i : ℕ) × ((i < n) × Q i)). inr (one.0, (omega (arith, one.1.0), one.1.1)))
    (all_or_one P Q each n)

-- whether all of them have P
pub all_or_not : (P : ℕ → Type 0) → ((i : ℕ) → P i ⊎ (P i → ⊥)) → (n : ℕ) → ((i : ℕ) → i < n → P i) ⊎ (((i : ℕ) → i < n → P i) → ⊥)
all_or_not P decide n =
    ⊎_elim
    (λ (all : (i : ℕ) → i < n → P i). inl all)
    (λ (one : (i : ℕ) × ((i < n) × (P i → ⊥))). inr (λ all. one.1.1 (all one.0 one.1.0)))
    (all_or_one P (λ i. P i → ⊥) decide n)

-- ---- the least number

-- the least number that has P
pub record IsFirst (P : ℕ → Type 0) (n : ℕ) : Type 0 where
  pub holds : P n
  pub least : (m : ℕ) → P m → n ≤ m

-- none of the numbers below n has P, or the least that has it is one of them
pub first_below : (P : ℕ → Type 0) → ((i : ℕ) → P i ⊎ (P i → ⊥)) → (n : ℕ) → ((i : ℕ) → i < n → P i → ⊥) ⊎ ((m : ℕ) × ((m < n) × IsFirst P m))
first_below P decide zero = inl (λ i lt p. absurd (omega arith))
first_below P decide (suc n) =
    ⊎_elim
    (λ (none : (i : ℕ) → i < n → P i → ⊥).
    ⊎_elim
    (λ (here : P n). inr (n, (omega arith, record { holds = here; least = λ m p. ⊎_elim (λ (before : m < n). absurd (none m before p)) (λ (past : n ≤ m). past) (cases_lt m n) })))
    (λ (other : P n → ⊥). inl (λ i lt p. ⊎_elim (λ (before : i < n). none i before p) (λ (past : n ≤ i). let same : i ≡ n = omega (arith, past, lt) in other (subst P same p)) (cases_lt i n)))
    (decide n))
    (λ (found : (m : ℕ) × ((m < n) × IsFirst P m)). inr (found.0, (omega (arith, found.1.0), found.1.1)))
    (first_below P decide n)

-- where a number has P, there is a least one
pub first : (P : ℕ → Type 0) → ((i : ℕ) → P i ⊎ (P i → ⊥)) → (n : ℕ) → P n → (m : ℕ) × IsFirst P m
first P decide n holds =
    ⊎_elim
    (λ (none : (i : ℕ) → i < suc n → P i → ⊥). absurd (none n (omega arith) holds))
    (λ (found : (m : ℕ) × ((m < suc n) × IsFirst P m)). (found.0, found.1.1))
    (first_below P decide (suc n))

-- ---- down a measure

module _ {A B : Type 0} (measure : A → ℕ) (step : (a : A) → B ⊎ ((b : A) × (measure b < measure a))) where
  descends : (fuel : ℕ) (a : A) → measure a ≤ fuel → B
  descends zero a le = ⊎_elim (λ (done : B). done) (λ (next : (b : A) × (measure b < measure a)). absurd (omega (arith, next.1, le))) (step a)
  descends (suc fuel) a le = ⊎_elim (λ (done : B). done) (λ (next : (b : A) × (measure b < measure a)). descends fuel next.0 (omega (arith, next.1, le))) (step a)

  -- steps that each end or go on below come to an end
  pub descend : A → B
  descend a = descends (measure a) a (omega arith)

-- ---- sums

-- the sum of the values at the numbers below n
abbrev pub sum_to : (ℕ → ℕ) → ℕ → ℕ
sum_to f zero = 0
sum_to f (suc n) = f n + sum_to f n

sum-le : (f g : ℕ → ℕ) (n : ℕ) → ((i : ℕ) → i < n → f i ≤ g i) → sum_to f n ≤ sum_to g n
sum-le f g zero le = omega arith
sum-le f g (suc n) le = let here = le n (omega arith) in let rest = sum-le f g n (λ i lt. le i (omega (arith, lt))) in omega (arith, here, rest)

pub sum-lt : (f g : ℕ → ℕ) (n i : ℕ) → ((j : ℕ) → j < n → f j ≤ g j) → i < n → f i < g i → sum_to f n < sum_to g n
sum-lt f g zero i le lt less = absurd (omega (arith, lt))
sum-lt f g (suc n) i le lt less =
    ⊎_elim
    (λ (before : i < n).
    let here = le n (omega arith) in
    let rest = sum-lt f g n i (λ j l. le j (omega (arith, l))) before less in
    omega (arith, here, rest))
    (λ (past : n ≤ i).
    let same : i ≡ n = omega (arith, past, lt) in
    let here = subst (λ j. f j < g j) same less in
    let rest = sum-le f g n (λ j l. le j (omega (arith, l))) in
    omega (arith, here, rest))
    (cases_lt i n)

-- a summand is at most the sum
pub sum-at : (f : ℕ → ℕ) (n i : ℕ) → i < n → f i ≤ sum_to f n
sum-at f zero i lt = absurd (omega (arith, lt))
sum-at f (suc n) i lt =
    ⊎_elim
    (λ (before : i < n). let rest = sum-at f n i before in omega (arith, rest))
    (λ (past : n ≤ i). let same : i ≡ n = omega (arith, past, lt) in subst (λ j. f j ≤ f n + sum_to f n) (sym same) (omega arith))
    (cases_lt i n)

-- a sum of numbers of at most 1
pub sum-most : (f : ℕ → ℕ) (n : ℕ) → ((i : ℕ) → f i ≤ 1) → sum_to f n ≤ n
sum-most f zero most = omega arith
sum-most f (suc n) most = let rest = sum-most f n most in omega (arith, most n, rest)

-- ---- lists

-- the values at the numbers below n
abbrev pub listed : {A : Type 0} → (ℕ → A) → ℕ → List A
listed f n = map f (range_with_len 0 n)

pub listed-length : {A : Type 0} (f : ℕ → A) (n : ℕ) → length (listed f n) ≡ n
listed-length f n = length-map-range_with_len f 0 n

-- a function whose value from n on is d is what the list gives, with d past its end
pub listed-is : {A : Type 0} (f : ℕ → A) (n : ℕ) (d : A) → ((i : ℕ) → n ≤ i → f i ≡ d) → (λ (i : ℕ). get_or (listed f n) i d) ≡ f
listed-is f n d past =
    same_function (λ (i : ℕ). get_or (listed f n) i d) f
    (λ i. ⊎_elim
    (λ (lt : i < n). get_or-map-range_with_len f 0 n i i d lt (omega arith))
    (λ (le : n ≤ i).
    let beyond : length (listed f n) ≤ i = omega (arith, le, listed-length f n) in
    get_or_past (listed f n) i d beyond ∙ sym (past i le))
    (cases_lt i n))
