-- How many terms a polynomial has at most: as many as there are sets of its parameters.
use Rattle.std.proofs.Common.{◌≡◌, ◌⊎◌, inl, inr, ℕ, zero, suc, ◌+◌, ◌*◌, ◌/◌, ◌%◌, ◌^◌, ◌<◌, ◌≤◌, List, [], ◌∷◌, length, get_or, map, bit_or, count_ones, All, AllPairs, sym, ap, ◌∙◌, subst, arith, pow-suc}
use lib.Count.{ones_step}
use Rattle.std.proofs.Math.Nat.{pow-le-pow_right}
use Rattle.std.proofs.lemmas.Bool.{cases_order}
use Rattle.std.proofs.lemmas.List.{get_or-map, get_or_default, length-map}
use Rattle.std.proofs.lemmas.List.Elements.{All-head}
use Rattle.std.proofs.lemmas.List.Kept.{AllPairs-from_increasing}
use Rattle.std.proofs.lemmas.Nat.{or_mod, le_or_l, pow_pos}
use Rattle.lift_poly.specs.Polynomial.{Term, IsPolynomial}
use Rattle.lift_poly.specs.Arithmetic as polynomial
use Rattle.lift_model.specs.Model.{choices, row_at, support}
use Rattle.corner_lift.specs.Case.{CaseData, IsCase, row_parameters, most_row_parameters}
use Rattle.corner_lift.specs.Laws.{BitsAreParameters}
use Rattle.lift_lump.specs.Laws.{HasFewTerms, CasesHaveFewTerms}
use Rattle.lift_lump.proofs.Sets.{PartOf, halved, row_part, poly_within}

-- ---- a set that is part of another

part_below : (a b : ℕ) → PartOf a b → a ≤ b
part_below a b h = let low : a ≤ bit_or a b = le_or_l a b in omega (arith, low, h)

part_lowest : (a b : ℕ) → PartOf a b → a % 2 ≤ b % 2
part_lowest a b h =
    let low : a % 2 ≤ bit_or (a % 2) (b % 2) = le_or_l (a % 2) (b % 2) in
    let same : bit_or (a % 2) (b % 2) ≡ b % 2 = sym (or_mod a b 1) ∙ ap (λ k. k % 2) h in
    omega (arith, low, same)

above_power : (n : ℕ) → n < 2 ^ n
above_power zero = omega arith
above_power (suc n) = omega (arith, above_power n, pow-suc 2 n)

half_below : (k a : ℕ) → a < 2 ^ suc k → a / 2 < 2 ^ k
half_below k a h = omega (arith, h, pow-suc 2 k)

-- it has no more members
ones_within : (k a b : ℕ) → b < 2 ^ k → PartOf a b → count_ones a ≤ count_ones b
ones_within zero a b below h = let le = part_below a b h in let e : a ≡ b = omega (arith, below, le) in omega (arith, ap count_ones e)
ones_within (suc k) a b below h = omega (arith, ones_step a, ones_step b, part_lowest a b h, ones_within k (a / 2) (b / 2) (half_below k b below) (halved a b h))

-- ---- the places of sets among the subsets of another

-- a number by whether the lowest bit counts, by that bit, and by the others
joined : ℕ → ℕ → ℕ → ℕ
joined zero low rest = rest
joined (suc m) low rest = low + 2 * rest

-- the place of a set among the subsets of another: its bits at the members of that one alone
place : ℕ → ℕ → ℕ → ℕ
place zero all set = 0
place (suc k) all set = joined (all % 2) (set % 2) (place k (all / 2) (set / 2))

joined_below : (m low rest ones : ℕ) → m ≤ 1 → low ≤ m → rest < 2 ^ ones → joined m low rest < 2 ^ (m + ones)
unfolding joined
joined_below zero low rest ones le l h = let e : 0 + ones ≡ ones = omega arith in subst (λ n. rest < 2 ^ n) (sym e) h
joined_below (suc m) low rest ones le l h =
    let e : suc m + ones ≡ suc ones = omega arith in
    let twice : low + 2 * rest < 2 ^ suc ones = omega (arith, pow-suc 2 ones) in
    subst (λ n. low + 2 * rest < 2 ^ n) (sym e) twice

place_below : (k all set : ℕ) → PartOf set all → place k all set < 2 ^ count_ones all
unfolding place
place_below zero all set h = pow_pos (count_ones all)
place_below (suc k) all set h =
    let least : all % 2 ≤ 1 = omega arith in
    subst (λ n. joined (all % 2) (set % 2) (place k (all / 2) (set / 2)) < 2 ^ n) (sym (ones_step all))
    (joined_below (all % 2) (set % 2) (place k (all / 2) (set / 2)) (count_ones (all / 2)) least (part_lowest set all h) (place_below k (all / 2) (set / 2) (halved set all h)))

joined_rises : (m a b c d : ℕ) → m ≤ 1 → a ≤ m → b ≤ m → (c < d) ⊎ ((c ≡ d) × (a < b)) → joined m a c < joined m b d
unfolding joined
joined_rises zero a b c d le la lb (inl h) = h
joined_rises zero a b c d le la lb (inr h) = let x = h.1 in absurd (omega arith)
joined_rises (suc m) a b c d le la lb (inl h) = omega arith
joined_rises (suc m) a b c d le la lb (inr h) = let x = h.0 in let y = h.1 in omega arith

place_rises : (k all a b : ℕ) → b < 2 ^ k → PartOf a all → PartOf b all → a < b → place k all a < place k all b
unfolding place
place_rises zero all a b below h i lt = absurd (omega arith)
place_rises (suc k) all a b below h i lt =
    let least : all % 2 ≤ 1 = omega arith in
    joined_rises (all % 2) (a % 2) (b % 2) (place k (all / 2) (a / 2)) (place k (all / 2) (b / 2)) least (part_lowest a all h) (part_lowest b all i)
    (by_half (cases_order (a / 2) (b / 2)) (place_rises k (all / 2) (a / 2) (b / 2) (half_below k b below) (halved a all h) (halved b all i)))
  where
    by_half : (a / 2 ≡ b / 2) ⊎ ((a / 2 < b / 2) ⊎ (b / 2 < a / 2)) → (a / 2 < b / 2 → place k (all / 2) (a / 2) < place k (all / 2) (b / 2))
        → (place k (all / 2) (a / 2) < place k (all / 2) (b / 2)) ⊎ ((place k (all / 2) (a / 2) ≡ place k (all / 2) (b / 2)) × (a % 2 < b % 2))
    by_half (inl e) next = inr (ap (place k (all / 2)) e, omega (arith, e))
    by_half (inr (inl less)) next = inl (next less)
    by_half (inr (inr more)) next = absurd (omega arith)

-- as many as there are places from the first one on
few : {A : Type 0} (f : A → ℕ) (xs : List A) (low limit : ℕ) → low ≤ limit → All (λ x. (low ≤ f x) × (f x < limit)) xs → AllPairs (λ x y. f x < f y) xs → length xs + low ≤ limit
few f [] low limit le each rising = omega arith
few f (x ∷ xs) low limit le each rising =
    let first = All-head (λ y. (low ≤ f y) × (f y < limit)) x xs each in
    let a : low ≤ f x = first.0 in
    let b : f x < limit = first.1 in
    let more = few f xs (f x + 1) limit (omega arith)
    (λ k d lt. (let up = rising 0 (suc k) d (omega arith) (omega arith) in omega (arith, up), (each (suc k) d (omega arith)).1))
    (λ i j d lt within. rising (suc i) (suc j) d (omega arith) (omega arith)) in
    omega (arith, more, a, b)

-- a polynomial whose sets are part of another has at most as many terms as that has subsets
few_terms : (all : ℕ) (ts : List Term) → IsPolynomial ts → All (λ (t : Term). PartOf t.0 all) ts → length ts ≤ 2 ^ count_ones all
few_terms all ts p part =
    let f : Term → ℕ = λ t. place all all t.0 in
    let rising : AllPairs (λ (t u : Term). f t < f u) ts =
    λ i j d lt within.
    let sets = AllPairs-from_increasing (map (λ (t : Term). t.0) ts) p.ascending i j d.0 lt (omega (arith, within, length-map ts (λ (t : Term). t.0))) in
    let a = get_or-map (λ (t : Term). t.0) ts i d d.0 (omega arith) in
    let b = get_or-map (λ (t : Term). t.0) ts j d d.0 within in
    let low = part_below (get_or ts j d).0 all (part j d within) in
    let top = above_power all in
    place_rises all all (get_or ts i d).0 (get_or ts j d).0 (omega (arith, low, top)) (part i d (omega arith)) (part j d within) (omega (arith, sets, a, b)) in
    let whole = few f ts 0 (2 ^ count_ones all) (omega arith) (λ i d lt. (omega arith, place_below all all (get_or ts i d).0 (part i d lt))) rising in
    omega (arith, whole)

-- ---- the entries of a case

small_row : BitsAreParameters → (k : CaseData) → IsCase k → (s a : ℕ) → s < length k.model.states → a < length (choices k.model s) → All HasFewTerms (row_at k.model s a)
small_row bits k is s a lt below =
    let row = row_at k.model s a in
    let set = support row in
    let most : row_parameters k row ≤ most_row_parameters = (is.admitted s [] lt a [] below).few in
    let ones : count_ones set ≤ most_row_parameters = omega (arith, most, bits k s a is.asked (record { state = lt; choice = below })) in
    let power : 2 ^ count_ones set ≤ 2 ^ most_row_parameters = pow-le-pow_right {n = 2} (omega arith) ones in
    λ i e inside.
    let ts = (get_or row i e).poly in
    let part = row_part row i e inside in
    let less = ones_within set (polynomial.support ts) set (above_power set) (poly_within set ts part) in
    let few = few_terms set ts ((is.asked.model.rows s [] lt a [] below).entries i e inside).polynomial part in
    record { parameters = omega (arith, less, ones); terms = omega (arith, few, power) }

pub cases_have_few_terms : BitsAreParameters → CasesHaveFewTerms
cases_have_few_terms bits k is s none lt =
    subst (All (All HasFewTerms)) (get_or_default k.model.states s [] none lt)
    (λ a row below. subst (All HasFewTerms) (get_or_default (choices k.model s) a [] row below) (small_row bits k is s a lt below))
