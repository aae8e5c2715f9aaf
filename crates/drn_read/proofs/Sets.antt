-- Sets of parameters as numbers: a set within another has no more members, and a set of so many members has 2 to the power of that many subsets.
use Rattle.std.proofs.Common.{◌≡◌, ◌==◌, ℕ, zero, suc, ◌+◌, ◌*◌, ◌/◌, ◌%◌, ◌^◌, ◌<◌, ◌≤◌, ◌⊎◌, inl, inr, Bool, true, false, cond, List, [], ◌∷◌, length, get_or, map, ℤ, pos, ◌+ℤ◌, ◌*ℤ◌, int_eq, bit_or, count_ones, All, AllPairs, sym, ap, subst, arith, pow-suc}
use Rattle.std.specs.Prelude.{nat_lt}
use Rattle.std.specs.Int.{bit_at}
use lib.Count.{ones_step}
use Rattle.std.proofs.lemmas.Bool.{cases_order}
use Rattle.std.proofs.lemmas.List.{get_or-map, length-map}
use Rattle.std.proofs.lemmas.List.Elements.{All-nil, All-cons, All-head, All-tail, All-map}
use Rattle.std.proofs.lemmas.List.Kept.{AllPairs-from_increasing}
use Rattle.std.proofs.lemmas.Nat.{or_lt, pow_pos}
use Rattle.std.proofs.lemmas.Nat.Bits.{bit_at_lowest, bit_at-suc, bit_at-zero, bit_at_or}
use Rattle.lift_poly.specs.Polynomial.{Term, IsPolynomial}
use Rattle.lift_poly.specs.Arithmetic.{kept, with_term, collected, times, scaled, support}

-- ---- a set within another

-- each member of the first is one of the second
pub record IsWithin (a b : ℕ) : Type 0 where
  pub each : (i : ℕ) → bit_at a i ≤ bit_at b i

none_within : (b : ℕ) → IsWithin 0 b
none_within b = record { each = λ i. omega (arith, bit_at-zero i) }

first_within : (a b : ℕ) → IsWithin a (bit_or a b)
first_within a b = record { each = λ i. omega (arith, bit_at_or a b i) }

more_within : (a b c : ℕ) → IsWithin a c → IsWithin a (bit_or b c)
more_within a b c h = record { each = λ i. omega (arith, bit_at_or b c i, h.each i) }

both_within : (a b c : ℕ) → IsWithin a c → IsWithin b c → IsWithin (bit_or a b) c
both_within a b c h k = record { each = λ i. omega (arith, bit_at_or a b i, h.each i, k.each i) }

halves_within : (a b : ℕ) → IsWithin a b → IsWithin (a / 2) (b / 2)
halves_within a b h = record { each = λ i. omega (arith, bit_at-suc a i, bit_at-suc b i, h.each (suc i)) }

lowest_within : (a b : ℕ) → IsWithin a b → a % 2 ≤ b % 2
lowest_within a b h = omega (arith, bit_at_lowest a, bit_at_lowest b, h.each 0)

half_below : (k a : ℕ) → a < 2 ^ suc k → a / 2 < 2 ^ k
half_below k a h = omega (arith, h, pow-suc 2 k)

-- it has no more members
pub ones_within : (k a b : ℕ) → a < 2 ^ k → b < 2 ^ k → IsWithin a b → count_ones a ≤ count_ones b
ones_within zero a b la lb h = let e : a ≡ b = omega arith in omega (arith, ap count_ones e)
ones_within (suc k) a b la lb h =
    omega (arith, ones_step a, ones_step b, lowest_within a b h, ones_within k (a / 2) (b / 2) (half_below k a la) (half_below k b lb) (halves_within a b h))

-- ---- the subsets of a set

-- a number by whether the lowest bit counts, by that bit, and by the others
joined : ℕ → ℕ → ℕ → ℕ
joined zero low rest = rest
joined (suc m) low rest = low + 2 * rest

-- the place of a set among the subsets of another: its bits at the members of that one alone
place : ℕ → ℕ → ℕ → ℕ
place zero all set = 0
place (suc k) all set = joined (all % 2) (set % 2) (place k (all / 2) (set / 2))

joined_below : (m low rest ones : ℕ) → m ≤ 1 → low ≤ m → rest < 2 ^ ones → joined m low rest < 2 ^ (m + ones)
unfolding joined
joined_below zero low rest ones le l h = let e : 0 + ones ≡ ones = omega arith in subst (λ n. rest < 2 ^ n) (sym e) h
joined_below (suc m) low rest ones le l h =
    let e : suc m + ones ≡ suc ones = omega arith in
    let twice : low + 2 * rest < 2 ^ suc ones = omega (arith, pow-suc 2 ones) in
    subst (λ n. low + 2 * rest < 2 ^ n) (sym e) twice

place_below : (k all set : ℕ) → IsWithin set all → place k all set < 2 ^ count_ones all
unfolding place
place_below zero all set h = pow_pos (count_ones all)
place_below (suc k) all set h =
    let least : all % 2 ≤ 1 = omega arith in
    subst (λ n. joined (all % 2) (set % 2) (place k (all / 2) (set / 2)) < 2 ^ n) (sym (ones_step all))
    (joined_below (all % 2) (set % 2) (place k (all / 2) (set / 2)) (count_ones (all / 2)) least (lowest_within set all h) (place_below k (all / 2) (set / 2) (halves_within set all h)))

joined_rises : (m a b c d : ℕ) → m ≤ 1 → a ≤ m → b ≤ m → (c < d) ⊎ ((c ≡ d) × (a < b)) → joined m a c < joined m b d
unfolding joined
joined_rises zero a b c d le la lb (inl h) = h
joined_rises zero a b c d le la lb (inr h) = let x = h.1 in absurd (omega arith)
joined_rises (suc m) a b c d le la lb (inl h) = omega arith
joined_rises (suc m) a b c d le la lb (inr h) = let x = h.0 in let y = h.1 in omega arith

place_rises : (k all a b : ℕ) → b < 2 ^ k → IsWithin a all → IsWithin b all → a < b → place k all a < place k all b
unfolding place
place_rises zero all a b below h i lt = absurd (omega arith)
place_rises (suc k) all a b below h i lt =
    let least : all % 2 ≤ 1 = omega arith in
    joined_rises (all % 2) (a % 2) (b % 2) (place k (all / 2) (a / 2)) (place k (all / 2) (b / 2)) least (lowest_within a all h) (lowest_within b all i)
    (by_half (cases_order (a / 2) (b / 2)) (place_rises k (all / 2) (a / 2) (b / 2) (half_below k b below) (halves_within a all h) (halves_within b all i)))
  where
    by_half : (a / 2 ≡ b / 2) ⊎ ((a / 2 < b / 2) ⊎ (b / 2 < a / 2)) → (a / 2 < b / 2 → place k (all / 2) (a / 2) < place k (all / 2) (b / 2))
        → (place k (all / 2) (a / 2) < place k (all / 2) (b / 2)) ⊎ ((place k (all / 2) (a / 2) ≡ place k (all / 2) (b / 2)) × (a % 2 < b % 2))
    by_half (inl e) next = inr (ap (place k (all / 2)) e, omega (arith, e))
    by_half (inr (inl less)) next = inl (next less)
    by_half (inr (inr more)) next = absurd (omega arith)

-- as many as there are places from the first one on
few : {A : Type 0} (f : A → ℕ) (xs : List A) (low limit : ℕ) → low ≤ limit → All (λ x. (low ≤ f x) × (f x < limit)) xs → AllPairs (λ x y. f x < f y) xs → length xs + low ≤ limit
few f [] low limit le each rising = omega arith
few f (x ∷ xs) low limit le each rising =
    let first = All-head (λ y. (low ≤ f y) × (f y < limit)) x xs each in
    let a : low ≤ f x = first.0 in
    let b : f x < limit = first.1 in
    let more = few f xs (f x + 1) limit (omega arith)
    (λ k d lt. (let up = rising 0 (suc k) d (omega arith) (omega arith) in omega (arith, up), (each (suc k) d (omega arith)).1))
    (λ i j d lt within. rising (suc i) (suc j) d (omega arith) (omega arith)) in
    omega (arith, more, a, b)

-- ---- the parameters of terms

pub support_holds : (ts : List Term) → All (λ t. IsWithin t.0 (support ts)) ts
support_holds [] = All-nil (λ t. IsWithin t.0 0)
support_holds (t ∷ ts) =
    All-cons (λ u. IsWithin u.0 (bit_or t.0 (support ts))) t ts (first_within t.0 (support ts)) (λ k d lt. more_within (get_or ts k d).0 t.0 (support ts) (support_holds ts k d lt))

pub support_below : (k : ℕ) (ts : List Term) → All (λ t. t.0 < 2 ^ k) ts → support ts < 2 ^ k
support_below k [] h = pow_pos k
support_below k (t ∷ ts) h = or_lt k t.0 (support ts) (All-head (λ u. u.0 < 2 ^ k) t ts h) (support_below k ts (All-tail (λ u. u.0 < 2 ^ k) t ts h))

support_within : (all : ℕ) (ts : List Term) → All (λ t. IsWithin t.0 all) ts → IsWithin (support ts) all
support_within all [] h = none_within all
support_within all (t ∷ ts) h =
    both_within t.0 (support ts) all (All-head (λ u. IsWithin u.0 all) t ts h) (support_within all ts (All-tail (λ u. IsWithin u.0 all) t ts h))

-- at most as many terms as there are sets of their parameters
pub few_terms : (k : ℕ) (ts : List Term) → IsPolynomial ts → All (λ t. t.0 < 2 ^ k) ts → length ts ≤ 2 ^ count_ones (support ts)
few_terms k ts p below =
    let all : ℕ = support ts in
    let f : Term → ℕ = λ t. place k all t.0 in
    let rising : AllPairs (λ (t u : Term). f t < f u) ts =
    λ i j d lt within.
    let sets = AllPairs-from_increasing (map (λ (t : Term). t.0) ts) p.ascending i j d.0 lt (omega (arith, within, length-map ts (λ (t : Term). t.0))) in
    let a = get_or-map (λ (t : Term). t.0) ts i d d.0 (omega arith) in
    let b = get_or-map (λ (t : Term). t.0) ts j d d.0 within in
    place_rises k all (get_or ts i d).0 (get_or ts j d).0 (below j d within) (support_holds ts i d (omega arith)) (support_holds ts j d within) (omega (arith, sets, a, b)) in
    let whole = few f ts 0 (2 ^ count_ones all) (omega arith) (λ i d lt. (omega arith, place_below k all (get_or ts i d).0 (support_holds ts i d lt))) rising in
    omega (arith, whole)

-- ---- multiples

chosen : {A : Type 0} (Q : A → Type 0) (b : Bool) (x y : A) → Q x → Q y → Q (cond b x y)
chosen Q true x y h k = h
chosen Q false x y h k = k

-- what holds of the sets of terms holds of those of their sum
kept_hold : (Q : ℕ → Type 0) (t : Term) (ts : List Term) → Q t.0 → All (λ u. Q u.0) ts → All (λ u. Q u.0) (kept t ts)
kept_hold Q t ts q h = chosen (All (λ (u : Term). Q u.0)) (int_eq t.1 (pos 0)) ts (t ∷ ts) h (All-cons (λ (u : Term). Q u.0) t ts q h)

with_holds : (Q : ℕ → Type 0) (t : Term) (us : List Term) → Q t.0 → All (λ u. Q u.0) us → All (λ u. Q u.0) (with_term t us)
with_holds Q t [] q h = kept_hold Q t [] q h
with_holds Q t (u ∷ us) q h =
    let first = All-head (λ (w : Term). Q w.0) u us h in
    let others = All-tail (λ (w : Term). Q w.0) u us h in
    chosen (All (λ (w : Term). Q w.0)) (nat_lt t.0 u.0) (kept t (u ∷ us)) (cond (t.0 == u.0) (kept (u.0, t.1 +ℤ u.1) us) (u ∷ with_term t us))
    (kept_hold Q t (u ∷ us) q h)
    (chosen (All (λ (w : Term). Q w.0)) (t.0 == u.0) (kept (u.0, t.1 +ℤ u.1) us) (u ∷ with_term t us)
    (kept_hold Q (u.0, t.1 +ℤ u.1) us first others)
    (All-cons (λ (w : Term). Q w.0) u (with_term t us) first (with_holds Q t us q others)))

collected_hold : (Q : ℕ → Type 0) (ts : List Term) → All (λ u. Q u.0) ts → All (λ u. Q u.0) (collected ts)
collected_hold Q [] h = h
collected_hold Q (t ∷ ts) h = with_holds Q t (collected ts) (All-head (λ (u : Term). Q u.0) t ts h) (collected_hold Q ts (All-tail (λ (u : Term). Q u.0) t ts h))

pub scaled_hold : (Q : ℕ → Type 0) (by : ℤ) (ts : List Term) → All (λ u. Q u.0) ts → All (λ u. Q u.0) (scaled by ts)
scaled_hold Q by ts h = collected_hold Q (times by ts) (All-map (λ (u : Term). Q u.0) (λ (t : Term). (t.0, by *ℤ t.1)) ts h)

-- a multiple has no more parameters
pub scaled_few : (k : ℕ) (by : ℤ) (ts : List Term) → All (λ t. t.0 < 2 ^ k) ts → count_ones (support (scaled by ts)) ≤ count_ones (support ts)
scaled_few k by ts below =
    ones_within k (support (scaled by ts)) (support ts) (support_below k (scaled by ts) (scaled_hold (λ s. s < 2 ^ k) by ts below)) (support_below k ts below)
    (support_within (support ts) (scaled by ts) (scaled_hold (λ s. IsWithin s (support ts)) by ts (support_holds ts)))
