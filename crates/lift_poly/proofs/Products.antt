-- Products of terms, one by one, and a polynomial times a number.
use Rattle.std.proofs.Common.{◌≡◌, ◌≢◌, ℕ, zero, suc, ◌+◌, ◌-◌, ◌<◌, ◌≤◌, Bool, true, false, ◌||◌, List, [], ◌∷◌, ◌++◌, length, get_or, set, take, drop, ℤ, pos, ◌+ℤ◌, ◌*ℤ◌, All, ⊎_elim, unsigned_abs, bit_and, bit_or, refl, sym, ap, ap₂, ◌∙◌, subst, arith, append_assoc, add-one, drop-cons}
use Rattle.std.specs.List.{list_any}
use Rattle.std.specs.List.Sorted.{IsPermutation, IsNonDecreasingBy}
use Rattle.std.proofs.lemmas.Bool.{cases_eq, cases_Bool}
use Rattle.std.proofs.lemmas.Grind.{common_steps}
use Rattle.std.proofs.lemmas.List.{get_or-map, length-map, length-take, length-take-le, get_or-take, take_more, take_all, drop_all, append-nil, get_or_append_left, get_or_default, get_or_at, set_at}
use Rattle.std.proofs.lemmas.List.Elements.{All-nil, All-cons, All-head, All-tail, All-append, All-map, All-weaker}
use Rattle.std.proofs.lemmas.List.Folds.{list_any-append, list_any_at}
use Rattle.std.proofs.lemmas.Nat.{or_lt, or_comm}
use Rattle.lift_poly.specs.Limits.{set_limit, term_limit}
use Rattle.lift_poly.specs.Polynomial.{Term, IsPolynomial}
use Rattle.lift_poly.specs.Arithmetic.{coefficient, times, scaled, products_of, products, product, support}
use Rattle.lift_poly.specs.MultiAffine.{IsMultiAffine, is_wide}
use Rattle.lift_poly.proofs.Canonical.{Canonical, canonical_from_polynomial, polynomial_from_canonical, coefficient-here, coefficient-other, coefficient-append, coefficient-collected, polynomial-collected, collected_is}
use Rattle.lift_poly.proofs.Merging.{Small, multi_affine_from, narrow_size}
use Rattle.lift_poly.proofs.Counts.{mul-some, distinct_products, sorted_is, wide_collected}
use Rattle.lift_poly.proofs.Sets.{zero-or}
use Rattle.lift_poly.proofs.Ring.{linear, mul-comm, mul-add, mul-zero, zero-mul}

-- the product of two terms
abbrev pub joined : Term → Term → Term
joined t u = (bit_or t.0 u.0, t.1 *ℤ u.1)

pub products_of_more : (t : Term) (us : List Term) (i : ℕ) (d : Term) → i < length us → products_of t (take (i + 1) us) ≡ products_of t (take i us) ++ joined t (get_or us i d) ∷ []
products_of_more t us i d lt = grind (arith, common_steps)

-- a product that is too large is among them
pub wide_product : (t : Term) (us : List Term) (i : ℕ) (d : Term) → i < length us → is_wide (joined t (get_or us i d)) ≡ true → list_any is_wide (products_of t us) ≡ true
wide_product t us i d lt wide =
    list_any_at is_wide (products_of t us) i (joined t d) (omega (arith, length-map us (joined t)))
    (ap is_wide (get_or-map (joined t) us i d (joined t d) lt) ∙ wide)

-- terms and more terms, none of them too large
fits_both : (ts us : List Term) → list_any is_wide ts ≡ false → list_any is_wide us ≡ false → list_any is_wide (ts ++ us) ≡ false
fits_both ts us h k = list_any-append is_wide ts us ∙ ap (λ b. b || list_any is_wide us) h ∙ k

-- one product more that isn't too large
pub fits_more : (t : Term) (us : List Term) (i : ℕ) (d : Term) → i < length us → list_any is_wide (products_of t (take i us)) ≡ false → is_wide (joined t (get_or us i d)) ≡ false → list_any is_wide (products_of t (take (i + 1) us)) ≡ false
fits_more t us i d lt before fits =
    ap (list_any is_wide) (products_of_more t us i d lt)
    ∙ fits_both (products_of t (take i us)) (joined t (get_or us i d) ∷ []) before (ap (λ b. b || false) fits)

pub narrow_sizes : (ts : List Term) → list_any is_wide ts ≡ false → All (λ t. unsigned_abs t.1 < term_limit) ts
narrow_sizes [] h = All-nil (λ u. unsigned_abs u.1 < term_limit)
narrow_sizes (t ∷ ts) h =
    ⊎_elim
    (λ (first : is_wide t ≡ true). let wrong : true ≡ false = sym (ap (λ b. b || list_any is_wide ts) first) ∙ h in cc)
    (λ (first : is_wide t ≡ false).
    All-cons (λ u. unsigned_abs u.1 < term_limit) t ts (narrow_size t first) (narrow_sizes ts (sym (ap (λ b. b || list_any is_wide ts) first) ∙ h)))
    (cases_Bool (is_wide t))

-- ---- products of two polynomials

products-append : (ts us right : List Term) → products (ts ++ us) right ≡ products ts right ++ products us right
products-append [] us right = refl
products-append (t ∷ ts) us right = ap (λ ws. products_of t right ++ ws) (products-append ts us right) ∙ sym (append_assoc (products_of t right) (products ts right) (products us right))

pub products_more : (left right : List Term) (i : ℕ) (d : Term) → i < length left → products (take (i + 1) left) right ≡ products (take i left) right ++ products_of (get_or left i d) right
products_more left right i d lt =
    ap (λ ts. products ts right) (take_more left i d lt) ∙ products-append (take i left) (get_or left i d ∷ []) right
    ∙ ap (λ ws. products (take i left) right ++ ws) (append-nil (products_of (get_or left i d) right))

pub products_fit_more : (left right : List Term) (i : ℕ) (d : Term) → i < length left → list_any is_wide (products (take i left) right) ≡ false → list_any is_wide (products_of (get_or left i d) right) ≡ false
    → list_any is_wide (products (take (i + 1) left) right) ≡ false
products_fit_more left right i d lt h k =
    ap (list_any is_wide) (products_more left right i d lt) ∙ fits_both (products (take i left) right) (products_of (get_or left i d) right) h k

or_right : (b : Bool) → (b || true) ≡ true
or_right true = refl
or_right false = refl

wide_among : (left right : List Term) (i : ℕ) (d : Term) → i < length left → list_any is_wide (products_of (get_or left i d) right) ≡ true → list_any is_wide (products left right) ≡ true
wide_among [] right i d lt wide = absurd (omega arith)
wide_among (t ∷ left) right zero d lt wide = list_any-append is_wide (products_of t right) (products left right) ∙ ap (λ b. b || list_any is_wide (products left right)) wide
wide_among (t ∷ left) right (suc i) d lt wide =
    list_any-append is_wide (products_of t right) (products left right)
    ∙ ap (λ b. list_any is_wide (products_of t right) || b) (wide_among left right i d (omega arith) wide) ∙ or_right (list_any is_wide (products_of t right))

-- a term whose products are too large makes the product too large
pub wide_row : (left right : List Term) (i : ℕ) (d : Term) → IsPolynomial left → IsPolynomial right → bit_and (support left) (support right) ≡ 0 → i < length left
    → list_any is_wide (products_of (get_or left i d) right) ≡ true → list_any is_wide (product left right) ≡ true
wide_row left right i d h k none lt wide = wide_collected (products left right) (distinct_products left right h k none) (wide_among left right i d lt wide)

-- ---- the factors in the other order

joined-comm : (t u : Term) → joined t u ≡ joined u t
joined-comm t u = ap₂ (λ n z. (n, z)) (or_comm t.0 u.0) (mul-comm t.1 u.1)

products-none : (ts : List Term) → products ts [] ≡ []
products-none [] = refl
products-none (t ∷ ts) = products-none ts

-- one term more in the right factor
coefficient-more : (set : ℕ) (t : Term) (left right : List Term) → coefficient set (products left (t ∷ right)) ≡ coefficient set (products_of t left) +ℤ coefficient set (products left right)
coefficient-more set t [] right = refl
coefficient-more set t (u ∷ left) right =
    omega (
      arith,
      linear,
      coefficient-append set (products_of u (t ∷ right)) (products left (t ∷ right)),
      coefficient-append set (products_of u right) (products left right),
      coefficient-more set t left right,
      ap (λ w. coefficient set (w ∷ products_of u right)) (joined-comm u t),
    )

coefficient-swapped : (set : ℕ) (left right : List Term) → coefficient set (products left right) ≡ coefficient set (products right left)
coefficient-swapped set [] right = sym (ap (coefficient set) (products-none right))
coefficient-swapped set (t ∷ left) right =
    omega (arith, linear, coefficient-append set (products_of t right) (products left right), coefficient-more set t right left, coefficient-swapped set left right)

pub product-comm : (left right : List Term) → product left right ≡ product right left
product-comm left right =
    collected_is (product left right) (products right left) (polynomial-collected (products left right))
    (λ set. coefficient-collected set (products left right) ∙ coefficient-swapped set left right)

-- a set of 16 parameters, and a coefficient that isn't 0
abbrev Proper : Term → Type 0
Proper t = (t.0 < set_limit) × (t.1 ≢ pos 0)

proper_products_of : (t : Term) (us : List Term) → Proper t → All Proper us → All Proper (products_of t us)
proper_products_of t us h k = All-map Proper (joined t) us (All-weaker Proper (λ u. Proper (joined t u)) (λ u p. (or_lt 16 t.0 u.0 h.0 p.0, mul-some t.1 u.1 h.1 p.1)) us k)

proper_products : (ts us : List Term) → All Proper ts → All Proper us → All Proper (products ts us)
proper_products [] us h k = All-nil Proper
proper_products (t ∷ ts) us h k =
    All-append Proper (products_of t us) (products ts us) (proper_products_of t us (All-head Proper t ts h) k) (proper_products ts us (All-tail Proper t ts h) k)

proper_from : (ts : List Term) → IsMultiAffine ts → All Proper ts
proper_from ts h k d lt = (h.sets k d lt, h.polynomial.coefficients k d lt)

some_products : (left right : List Term) → IsMultiAffine left → IsMultiAffine right → All (λ t. t.1 ≢ pos 0) (products left right)
some_products left right h k = All-weaker Proper (λ t. t.1 ≢ pos 0) (λ t p. p.1) (products left right) (proper_products left right (proper_from left h) (proper_from right k))

small_products : (left right : List Term) → IsMultiAffine left → IsMultiAffine right → list_any is_wide (products left right) ≡ false → All Small (products left right)
small_products left right h k fits i d lt =
    ((proper_products left right (proper_from left h) (proper_from right k) i d lt).0, narrow_sizes (products left right) fits i d lt)

-- the products of two polynomials that share no parameter, once they are sorted, are their product
pub sorted_products : (left right us : List Term) → IsMultiAffine left → IsMultiAffine right → bit_and (support left) (support right) ≡ 0 → list_any is_wide (products left right) ≡ false
    → IsPermutation (products left right) us → IsNonDecreasingBy (λ (t : Term). t.0) us → IsMultiAffine us × (us ≡ product left right)
sorted_products left right us h k none fits moved sorted =
    sorted_is (products left right) us (distinct_products left right h.polynomial k.polynomial none) (some_products left right h k) (small_products left right h k fits) moved sorted

-- ---- a polynomial times a number

pub products_of-number : (by : ℤ) (ts : List Term) → products_of (0, by) ts ≡ times by ts
products_of-number by [] = refl
products_of-number by (t ∷ ts) = ap₂ (λ n us. (n, by *ℤ t.1) ∷ us) (zero-or t.0) (products_of-number by ts)

pub coefficient-times : (set : ℕ) (by : ℤ) (ts : List Term) → coefficient set (times by ts) ≡ by *ℤ coefficient set ts
coefficient-times set by [] = sym (mul-zero by)
coefficient-times set by (t ∷ ts) =
    ⊎_elim
    (λ (e : t.0 ≡ set).
    coefficient-here set (t.0, by *ℤ t.1) (times by ts) e ∙ ap (λ z. by *ℤ t.1 +ℤ z) (coefficient-times set by ts)
    ∙ sym (ap (λ z. by *ℤ z) (coefficient-here set t ts e) ∙ mul-add by t.1 (coefficient set ts)))
    (λ (ne : t.0 ≡ set → ⊥).
    coefficient-other set (t.0, by *ℤ t.1) (times by ts) ne ∙ coefficient-times set by ts ∙ sym (ap (λ z. by *ℤ z) (coefficient-other set t ts ne)))
    (cases_eq t.0 set)

canonical-times : (low : ℕ) (by : ℤ) (ts : List Term) → by ≢ pos 0 → Canonical low ts → Canonical low (times by ts)
canonical-times low by [] ne h = tt
canonical-times low by (t ∷ ts) ne h = (h.0, mul-some by t.1 ne h.1, canonical-times (suc t.0) by ts ne h.2)

-- a number that isn't 0 leaves each term in its place
pub times_is : (by : ℤ) (ts : List Term) → by ≢ pos 0 → IsPolynomial ts → times by ts ≡ scaled by ts
times_is by ts ne h =
    collected_is (times by ts) (times by ts) (polynomial_from_canonical 0 (times by ts) (canonical-times 0 by ts ne (canonical_from_polynomial ts h))) (λ set. refl)

-- 0 times a polynomial is the polynomial 0
pub scaled_none : (by : ℤ) (ts : List Term) → by ≡ pos 0 → [] ≡ scaled by ts
scaled_none by ts e =
    collected_is [] (times by ts) (polynomial_from_canonical 0 [] tt)
    (λ set. sym (coefficient-times set by ts ∙ ap (λ z. z *ℤ coefficient set ts) e ∙ zero-mul (coefficient set ts)))

pub scaled_fits : (by : ℤ) (ts : List Term) → by ≢ pos 0 → IsMultiAffine ts → list_any is_wide (times by ts) ≡ false → IsMultiAffine (times by ts)
scaled_fits by ts ne h fits =
    multi_affine_from (times by ts) (canonical-times 0 by ts ne (canonical_from_polynomial ts h.polynomial))
    (λ k d lt. (sets k d lt, narrow_sizes (times by ts) fits k d lt))
  where
    sets : All (λ t. t.0 < set_limit) (times by ts)
    sets = All-map (λ t. t.0 < set_limit) (λ (t : Term). (t.0, by *ℤ t.1)) ts h.sets

-- ---- products in a row, in the place of what they are made of

-- a term in front of a list is still there behind more terms
pub read_front : (items ts more : List Term) (i : ℕ) (x d : Term) → items ≡ ts ++ more → i < length ts → x ≡ get_or items i x → x ≡ get_or ts i d
read_front items ts more i x d e lt h = h ∙ ap (λ us. get_or us i x) e ∙ get_or_append_left ts more x i lt ∙ get_or_default ts i x d lt

row_length : (t : Term) (ts : List Term) (i : ℕ) → i < length ts → length (products_of t (take i ts)) ≡ i
row_length t ts i lt = length-map (take i ts) (joined t) ∙ length-take-le i ts (omega arith)

-- what stands where the next product belongs
pub read_next : (t : Term) (items ts : List Term) (i : ℕ) (x d : Term) → items ≡ products_of t (take i ts) ++ drop i ts → i < length ts → x ≡ get_or items i x → x ≡ get_or ts i d
read_next t items ts i x d e lt h =
    h ∙ ap (λ us. get_or us i x) (e ∙ ap (λ us. products_of t (take i ts) ++ us) (drop-cons ts i d lt))
    ∙ get_or_at (products_of t (take i ts)) (get_or ts i d) (drop (suc i) ts) x i (row_length t ts i lt)

-- one product more in its place
pub write_next : (t : Term) (items ts : List Term) (i : ℕ) (y d : Term) → items ≡ products_of t (take i ts) ++ drop i ts → i < length ts → y ≡ joined t (get_or ts i d) → set items i y ≡ products_of t (take (i + 1) ts) ++ drop (i + 1) ts
write_next t items ts i y d e lt h =
    let row = products_of t (take i ts) in
    ap (λ us. set us i y) (e ∙ ap (λ us. row ++ us) (drop-cons ts i d lt))
    ∙ set_at row (get_or ts i d) (drop (suc i) ts) y i (row_length t ts i lt)
    ∙ sym (append_assoc row (y ∷ []) (drop (suc i) ts))
    ∙ ap₂ (λ us ws. us ++ ws) (ap (λ u. row ++ u ∷ []) h ∙ sym (products_of_more t ts i d lt)) (ap (λ k. drop k ts) (sym (add-one i)))

-- a product that is too large is among those of the first terms
pub wide_row_of : (t : Term) (ts : List Term) (count i : ℕ) (d : Term) → i < count → i < length ts → is_wide (joined t (get_or ts i d)) ≡ true → list_any is_wide (products_of t (take count ts)) ≡ true
wide_row_of t ts count i d before lt wide =
    wide_product t (take count ts) i d (omega (arith, before, lt, length-take count ts)) (ap (λ u. is_wide (joined t u)) (get_or-take count ts i d before) ∙ wide)

-- the products with all terms
pub whole_row : (t : Term) (ts : List Term) (n : ℕ) → length ts ≤ n → products_of t (take n ts) ++ drop n ts ≡ products_of t ts
whole_row t ts n le = ap₂ (λ us ws. products_of t us ++ ws) (take_all n ts le) (drop_all n ts le) ∙ append-nil (products_of t ts)

-- ---- the first term of a factor, and the others

pub first_and_others : (ts : List Term) (d : Term) → 0 < length ts → ts ≡ get_or ts 0 d ∷ take (length ts - 1) (drop 1 ts)
first_and_others [] d lt = absurd (omega arith)
first_and_others (t ∷ ts) d lt = ap (λ us. t ∷ us) (sym (take_all (length (t ∷ ts) - 1) ts (omega arith)))

-- a term behind the first one whose products are too large makes the product too large
pub wide_behind : (left right others : List Term) (first : Term) (i : ℕ) (d : Term) → right ≡ first ∷ others → IsMultiAffine left → IsMultiAffine right → bit_and (support right) (support left) ≡ 0 → i < length others
    → list_any is_wide (products_of (get_or others i d) left) ≡ true → list_any is_wide (product right left) ≡ true
wide_behind left right others first i d e h k none lt wide =
    ap (λ ts. list_any is_wide (product ts left)) e
    ∙ wide_row (first ∷ others) left (suc i) d (subst IsMultiAffine e k).polynomial h.polynomial (subst (λ ts. bit_and (support ts) (support left) ≡ 0) e none) (omega arith) wide

-- so does the first one
pub wide_first : (left right others : List Term) (first : Term) → right ≡ first ∷ others → IsMultiAffine left → IsMultiAffine right → bit_and (support right) (support left) ≡ 0
    → list_any is_wide (products_of first left) ≡ true → list_any is_wide (product right left) ≡ true
wide_first left right others first e h k none wide =
    ap (λ ts. list_any is_wide (product ts left)) e
    ∙ wide_row (first ∷ others) left 0 first (subst IsMultiAffine e k).polynomial h.polynomial (subst (λ ts. bit_and (support ts) (support left) ≡ 0) e none) (omega arith) wide

-- the products with the first term and with the others, once they are sorted, are the product
pub sorted_rows : (left right others us : List Term) (first : Term) → right ≡ first ∷ others → IsMultiAffine left → IsMultiAffine right → bit_and (support right) (support left) ≡ 0
    → list_any is_wide (products_of first left) ≡ false → list_any is_wide (products others left) ≡ false → IsPermutation (products_of first left ++ products others left) us → IsNonDecreasingBy (λ (t : Term). t.0) us
    → IsMultiAffine us × (us ≡ product right left)
sorted_rows left right others us first e h k none front behind moved sorted =
    let r = sorted_products (first ∷ others) left us (subst IsMultiAffine e k) h (subst (λ ts. bit_and (support ts) (support left) ≡ 0) e none)
    (fits_both (products_of first left) (products others left) front behind) moved sorted in
    (r.0, r.1 ∙ ap (λ ts. product ts left) (sym e))
