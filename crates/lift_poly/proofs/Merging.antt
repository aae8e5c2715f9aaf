-- One merge of two polynomials: what is done, and what is left of each.
use Rattle.std.proofs.Common.{◌≡◌, ℕ, suc, ◌+◌, ◌-◌, ◌<◌, ◌≤◌, Bool, true, false, ◌||◌, List, [], ◌∷◌, ◌++◌, length, map, get_or, drop, ℤ, pos, ◌+ℤ◌, All, ◌⊎◌, ⊎_elim, FitsSigned, negsuc, unsigned_abs, refl, sym, ap, ◌∙◌, subst, arith, append_assoc, add-one, drop-cons}
use Rattle.std.specs.Int.{w128}
use Rattle.std.specs.List.{list_any}
use Rattle.std.proofs.lemmas.Int.{fits_signed_from_abs}
use Rattle.std.proofs.lemmas.Bool.{cases_eq}
use Rattle.std.proofs.lemmas.Bool.Decides.{nat_tests}
use Rattle.std.proofs.lemmas.List.{drop_all, append-nil, drop-drop, length-map, get_or-map, get_or_default}
use Rattle.std.proofs.lemmas.List.Elements.{All-nil, All-cons, All-append, All-drop, All-weaker}
use Rattle.lift_poly.specs.Limits.{set_limit, term_limit}
use Rattle.lift_poly.specs.Polynomial.{Term}
use Rattle.lift_poly.specs.Arithmetic.{coefficient, kept, sum}
use Rattle.lift_poly.specs.MultiAffine.{IsMultiAffine, is_wide}
use Rattle.lift_poly.proofs.Canonical.{Canonical, canonical_lower, canonical_from_polynomial, polynomial_from_canonical, kept_case, coefficient-here, coefficient-other, coefficient_below, coefficient-append, coefficient-kept, coefficient-joined, coefficient-collected, canonical-collected, collected_is}
use Rattle.lift_poly.proofs.Ring.{linear}

-- a term of a set of 16 parameters, and not too large
abbrev pub Small : Term → Type 0
Small t = (t.0 < set_limit) × (unsigned_abs t.1 < term_limit)

pub record Merging (left right done xs ys : List Term) : Type 0 where
  pub lefts : Canonical 0 (done ++ xs)
  pub rights : Canonical 0 (done ++ ys)
  pub small : All Small done
  pub coefficients : (set : ℕ) → coefficient set done +ℤ (coefficient set xs +ℤ coefficient set ys) ≡ coefficient set left +ℤ coefficient set right

-- one term more of its own list
ahead : (a : Term) (done xs : List Term) → Canonical 0 (done ++ a ∷ xs) → Canonical 0 ((done ++ a ∷ []) ++ xs)
ahead a done xs h = rw append_assoc h

-- one term more of the other list
across : (low : ℕ) (a b : Term) (done xs ys : List Term) → Canonical low (done ++ a ∷ xs) → Canonical low (done ++ b ∷ ys) → a.0 < b.0 → Canonical low ((done ++ a ∷ []) ++ b ∷ ys)
across low a b [] xs ys h k lt = (h.0, h.1, (omega arith, k.1, k.2))
across low a b (d ∷ done) xs ys h k lt = (h.0, h.1, across (suc d.0) a b done xs ys h.2 k.2 lt)

-- the first term with another coefficient, which may be 0
replaced : (low : ℕ) (a : Term) (number : ℤ) (done xs : List Term) → Canonical low (done ++ a ∷ xs) → Canonical low ((done ++ kept (a.0, number) []) ++ xs)
replaced low a number [] xs h = kept_case (λ us. Canonical low (us ++ xs)) (a.0, number) [] (λ e. canonical_lower low (suc a.0) xs (omega (arith, h.0)) h.2) (λ ne. (h.0, ne, h.2))
replaced low a number (d ∷ done) xs h = (h.0, h.1, replaced (suc d.0) a number done xs h.2)

small-kept : (t : Term) → Small t → All Small (kept t [])
small-kept t h = kept_case (All Small) t [] (λ e. All-nil Small) (λ ne. All-cons Small t [] h (All-nil Small))

pub merging_left : (left right done xs ys : List Term) (a b : Term) → Merging left right done (a ∷ xs) (b ∷ ys) → a.0 < b.0 → Small a → Merging left right (done ++ a ∷ []) xs (b ∷ ys)
merging_left left right done xs ys a b m lt small = record {
  lefts = ahead a done xs m.lefts;
  rights = across 0 a b done xs ys m.lefts m.rights lt;
  small = All-append Small done (a ∷ []) m.small (All-cons Small a [] small (All-nil Small));
  coefficients = λ set. omega (arith, linear, m.coefficients set, coefficient-append set done (a ∷ []));
}

pub merging_right : (left right done xs ys : List Term) (a b : Term) → Merging left right done (a ∷ xs) (b ∷ ys) → b.0 < a.0 → Small b → Merging left right (done ++ b ∷ []) (a ∷ xs) ys
merging_right left right done xs ys a b m lt small = record {
  lefts = across 0 b a done ys xs m.rights m.lefts lt;
  rights = ahead b done ys m.rights;
  small = All-append Small done (b ∷ []) m.small (All-cons Small b [] small (All-nil Small));
  coefficients = λ set. omega (arith, linear, m.coefficients set, coefficient-append set done (b ∷ []));
}

pub merging_both : (left right done xs ys : List Term) (a b : Term) → Merging left right done (a ∷ xs) (b ∷ ys) → a.0 ≡ b.0 → Small (a.0, a.1 +ℤ b.1) → Merging left right (done ++ kept (a.0, a.1 +ℤ b.1) []) xs ys
merging_both left right done xs ys a b m e small =
    let next = kept (a.0, a.1 +ℤ b.1) [] in
    record {
      lefts = replaced 0 a (a.1 +ℤ b.1) done xs m.lefts;
      rights = subst (λ n. Canonical 0 ((done ++ kept (n, a.1 +ℤ b.1) []) ++ ys)) (sym e) (replaced 0 b (a.1 +ℤ b.1) done ys m.rights);
      small = All-append Small done next m.small (small-kept (a.0, a.1 +ℤ b.1) small);
      coefficients = λ set.
          omega (
            arith,
            linear,
            m.coefficients set,
            coefficient-append set done next,
            coefficient-kept set (a.0, a.1 +ℤ b.1) [],
            coefficient-joined set a.0 a.1 b.1 [],
            ap (λ n. coefficient set ((n, b.1) ∷ [])) e,
          );
    }

-- ---- coefficients that are too large

-- before a term stands none of its set
pub coefficient_before : (low : ℕ) (a : Term) (done xs : List Term) → Canonical low (done ++ a ∷ xs) → coefficient a.0 done ≡ pos 0
coefficient_before low a [] xs h = refl
coefficient_before low a (d ∷ done) xs h = coefficient-other a.0 d done (omega (arith, below (suc d.0) done h.2)) ∙ coefficient_before (suc d.0) a done xs h.2
  where
    below : (low : ℕ) (done : List Term) → Canonical low (done ++ a ∷ xs) → low ≤ a.0
    below low [] h = h.0
    below low (d ∷ done) h = omega (arith, h.0, below (suc d.0) done h.2)

or_right : (b : Bool) → (b || true) ≡ true
or_right true = refl
or_right false = refl

-- a polynomial with a coefficient that is too large has a term that is
pub wide_at : (set low : ℕ) (ts : List Term) → Canonical low ts → term_limit ≤ unsigned_abs (coefficient set ts) → list_any is_wide ts ≡ true
wide_at set low [] h wide = absurd (omega arith)
wide_at set low (t ∷ ts) h wide =
    ⊎_elim
    (λ (s : t.0 ≡ set).
    let number : coefficient set (t ∷ ts) ≡ t.1 = omega (arith, linear, coefficient-here set t ts s, coefficient_below set (suc t.0) ts h.2 (omega arith)) in
    let large : term_limit ≤ unsigned_abs t.1 = subst (λ z. term_limit ≤ unsigned_abs z) number wide in
    let first : is_wide t ≡ true = grind (arith, nat_tests) in
    ap (λ b. b || list_any is_wide ts) first)
    (λ (s : t.0 ≡ set → ⊥).
    let rest = wide_at set (suc t.0) ts h.2 (subst (λ z. term_limit ≤ unsigned_abs z) (coefficient-other set t ts s) wide) in
    ap (λ b. is_wide t || b) rest ∙ or_right (is_wide t))
    (cases_eq t.0 set)

pub merging_wide : (left right done xs ys : List Term) (a b : Term) → Merging left right done (a ∷ xs) (b ∷ ys) → a.0 ≡ b.0 → is_wide (a.0, a.1 +ℤ b.1) ≡ true → list_any is_wide (sum left right) ≡ true
merging_wide left right done xs ys a b m e wide =
    let before = coefficient_before 0 a done xs m.lefts in
    let number : coefficient a.0 (sum left right) ≡ a.1 +ℤ b.1 =
    omega (
      arith,
      linear,
      m.coefficients a.0,
      before,
      coefficient-collected a.0 (left ++ right),
      coefficient-append a.0 left right,
      coefficient-here a.0 a xs refl,
      coefficient-here a.0 b ys (sym e),
      behind 0 a done xs m.lefts a.0 (omega arith),
      behind 0 b done ys m.rights a.0 (omega arith),
    ) in
    let large : term_limit ≤ unsigned_abs (a.1 +ℤ b.1) = grind (arith, nat_tests) in
    wide_at a.0 0 (sum left right) (canonical-collected (left ++ right)) (subst (λ z. term_limit ≤ unsigned_abs z) (sym number) large)
  where
    behind : (low : ℕ) (a : Term) (done xs : List Term) → Canonical low (done ++ a ∷ xs) → (set : ℕ) → set ≤ a.0 → coefficient set xs ≡ pos 0
    behind low a [] xs h set le = coefficient_below set (suc a.0) xs h.2 (omega arith)
    behind low a (d ∷ done) xs h set le = behind (suc d.0) a done xs h.2 set le

-- ---- the two ends

pub small_from : (ts : List Term) → IsMultiAffine ts → All Small ts
small_from ts h k d lt = (h.sets k d lt, h.sizes k d lt)

pub multi_affine_from : (ts : List Term) → Canonical 0 ts → All Small ts → IsMultiAffine ts
multi_affine_from ts h small = record {
  polynomial = polynomial_from_canonical 0 ts h;
  sets = All-weaker Small (λ t. t.0 < set_limit) (λ t s. s.0) ts small;
  sizes = All-weaker Small (λ t. unsigned_abs t.1 < term_limit) (λ t s. s.1) ts small;
}

-- the polynomial 0
pub no_terms : IsMultiAffine []
no_terms = multi_affine_from [] tt (All-nil Small)

pub merging_none : (left right : List Term) → IsMultiAffine left → IsMultiAffine right → Merging left right [] left right
merging_none left right h k = record {
  lefts = canonical_from_polynomial left h.polynomial;
  rights = canonical_from_polynomial right k.polynomial;
  small = All-nil Small;
  coefficients = λ set. omega (arith, linear);
}

-- what is left of the one list stands at the end, where nothing is left of the other
pub merged_left : (left right done xs : List Term) → Merging left right done xs [] → All Small xs → IsMultiAffine (done ++ xs) × (done ++ xs ≡ sum left right)
merged_left left right done xs m small = (
  multi_affine_from (done ++ xs) m.lefts (All-append Small done xs m.small small),
  collected_is (done ++ xs) (left ++ right) (polynomial_from_canonical 0 (done ++ xs) m.lefts)
      (λ set. omega (arith, linear, m.coefficients set, coefficient-append set done xs, coefficient-append set left right)),
)

pub merged_right : (left right done ys : List Term) → Merging left right done [] ys → All Small ys → IsMultiAffine (done ++ ys) × (done ++ ys ≡ sum left right)
merged_right left right done ys m small = (
  multi_affine_from (done ++ ys) m.rights (All-append Small done ys m.small small),
  collected_is (done ++ ys) (left ++ right) (polynomial_from_canonical 0 (done ++ ys) m.rights)
      (λ set. omega (arith, linear, m.coefficients set, coefficient-append set done ys, coefficient-append set left right)),
)

-- ---- the same by places, as the loop has them

step : {left right done xs ys : List Term} {xs' ys' : List Term} → xs ≡ xs' → ys ≡ ys' → Merging left right done xs ys → Merging left right done xs' ys'
step {left} {right} {done} {xs} {ys} {xs'} {ys'} e f m = subst (λ us. Merging left right done us ys') e (subst (λ us. Merging left right done xs us) f m)

next_is : (ts : List Term) (i : ℕ) → drop (suc i) ts ≡ drop (i + 1) ts
next_is ts i = ap (λ k. drop k ts) (sym (add-one i))

pub merging_left_at : (left right done items : List Term) (i j : ℕ) (d : Term) → Merging left right done (drop i left) (drop j right) → i < length left → j < length right → (get_or left i d).0 < (get_or right j d).0 → All Small left → items ≡ done ++ get_or left i d ∷ [] → Merging left right items (drop (i + 1) left) (drop j right)
merging_left_at left right done items i j d m h k lt small e =
    subst (λ ts. Merging left right ts (drop (i + 1) left) (drop j right)) (sym e)
    (step (next_is left i) (sym (drop-cons right j d k))
    (merging_left left right done (drop (suc i) left) (drop (suc j) right) (get_or left i d) (get_or right j d)
    (step (drop-cons left i d h) (drop-cons right j d k) m) lt (small i d h)))

pub merging_right_at : (left right done items : List Term) (i j : ℕ) (d : Term) → Merging left right done (drop i left) (drop j right) → i < length left → j < length right → (get_or right j d).0 < (get_or left i d).0 → All Small right → items ≡ done ++ get_or right j d ∷ [] → Merging left right items (drop i left) (drop (j + 1) right)
merging_right_at left right done items i j d m h k lt small e =
    subst (λ ts. Merging left right ts (drop i left) (drop (j + 1) right)) (sym e)
    (step (sym (drop-cons left i d h)) (next_is right j)
    (merging_right left right done (drop (suc i) left) (drop (suc j) right) (get_or left i d) (get_or right j d)
    (step (drop-cons left i d h) (drop-cons right j d k) m) lt (small j d k)))

-- a term that isn't too large
pub narrow_size : (t : Term) → is_wide t ≡ false → unsigned_abs t.1 < term_limit
narrow_size t h = grind (arith, nat_tests)

pub merging_both_at : (left right done items : List Term) (i j : ℕ) (d : Term) → Merging left right done (drop i left) (drop j right) → i < length left → j < length right → (get_or left i d).0 ≡ (get_or right j d).0 → All Small left
    → is_wide ((get_or left i d).0, (get_or left i d).1 +ℤ (get_or right j d).1) ≡ false
    → items ≡ done ++ kept ((get_or left i d).0, (get_or left i d).1 +ℤ (get_or right j d).1) [] → Merging left right items (drop (i + 1) left) (drop (j + 1) right)
merging_both_at left right done items i j d m h k same small fits e =
    let a = get_or left i d in
    let b = get_or right j d in
    subst (λ ts. Merging left right ts (drop (i + 1) left) (drop (j + 1) right)) (sym e)
    (step (next_is left i) (next_is right j)
    (merging_both left right done (drop (suc i) left) (drop (suc j) right) a b
    (step (drop-cons left i d h) (drop-cons right j d k) m) same ((small i d h).0, narrow_size (a.0, a.1 +ℤ b.1) fits)))

pub merging_wide_at : (left right done : List Term) (i j : ℕ) (d : Term) → Merging left right done (drop i left) (drop j right) → i < length left → j < length right → (get_or left i d).0 ≡ (get_or right j d).0
    → is_wide ((get_or left i d).0, (get_or left i d).1 +ℤ (get_or right j d).1) ≡ true → list_any is_wide (sum left right) ≡ true
merging_wide_at left right done i j d m h k same wide =
    merging_wide left right done (drop (suc i) left) (drop (suc j) right) (get_or left i d) (get_or right j d)
    (step (drop-cons left i d h) (drop-cons right j d k) m) same wide

pub merged_all : (left right done items : List Term) (i j : ℕ) → Merging left right done (drop i left) (drop j right) → (length left ≤ i) ⊎ (length right ≤ j) → All Small left → All Small right
    → items ≡ (done ++ drop i left) ++ drop j right → IsMultiAffine items × (items ≡ sum left right)
merged_all left right done items i j m end small_left small_right e =
    ⊎_elim
    (λ (h : length left ≤ i).
    let none = drop_all i left h in
    let all : items ≡ done ++ drop j right = e ∙ ap (λ us. (done ++ us) ++ drop j right) none ∙ ap (λ us. us ++ drop j right) (append-nil done) in
    let r = merged_right left right done (drop j right) (step none refl m) (All-drop Small j right small_right) in
    (subst IsMultiAffine (sym all) r.0, all ∙ r.1))
    (λ (h : length right ≤ j).
    let none = drop_all j right h in
    let all : items ≡ done ++ drop i left = e ∙ ap (λ us. (done ++ drop i left) ++ us) none ∙ append-nil (done ++ drop i left) in
    let r = merged_left left right done (drop i left) (step refl none m) (All-drop Small i left small_left) in
    (subst IsMultiAffine (sym all) r.0, all ∙ r.1))
    end

pub unsigned_abs-add : (z a b : ℤ) → z ≡ a +ℤ b → unsigned_abs z ≤ unsigned_abs a + unsigned_abs b
unsigned_abs-add (pos n) (pos a) (pos b) e = omega (arith, linear)
unsigned_abs-add (pos n) (pos a) (negsuc b) e = omega (arith, linear)
unsigned_abs-add (pos n) (negsuc a) (pos b) e = omega (arith, linear)
unsigned_abs-add (pos n) (negsuc a) (negsuc b) e = omega (arith, linear)
unsigned_abs-add (negsuc n) (pos a) (pos b) e = omega (arith, linear)
unsigned_abs-add (negsuc n) (pos a) (negsuc b) e = omega (arith, linear)
unsigned_abs-add (negsuc n) (negsuc a) (pos b) e = omega (arith, linear)
unsigned_abs-add (negsuc n) (negsuc a) (negsuc b) e = omega (arith, linear)

-- two coefficients that aren't too large have a sum that the machine holds
pub sum_fits : (a b : Term) → Small a → Small b → FitsSigned w128 (a.1 +ℤ b.1)
sum_fits a b h k = fits_signed_from_abs w128 (a.1 +ℤ b.1) (omega (arith, unsigned_abs-add (a.1 +ℤ b.1) a.1 b.1 refl, h.1, k.1))

-- ---- two polynomials with terms at the same sets, in the place of the left

-- what stands at a place, and behind it, is what stood there
pub next_behind : (items ts : List Term) (i : ℕ) (d : Term) → i < length items → i < length ts → drop i items ≡ drop i ts → (get_or items i d ≡ get_or ts i d) × (drop (i + 1) items ≡ drop (i + 1) ts)
next_behind items ts i d h k e =
    let parts = sym (drop-cons items i d h) ∙ e ∙ drop-cons ts i d k in
    (ap (λ us. get_or us 0 d) parts, sym (next_is items i) ∙ ap (drop 1) parts ∙ next_is ts i)

pub same_behind : (before after : List Term) (end i : ℕ) → end ≤ i → drop (end + 1) after ≡ drop (end + 1) before → drop (i + 1) after ≡ drop (i + 1) before
same_behind before after end i le e =
    let place : (end + 1) + (i - end) ≡ i + 1 = omega arith in
    ap (λ k. drop k after) (sym place) ∙ sym (drop-drop (i - end) (end + 1) after) ∙ ap (drop (i - end)) e ∙ drop-drop (i - end) (end + 1) before ∙ ap (λ k. drop k before) place

pub same_length : (ts us : List Term) → map (λ (t : Term). t.0) ts ≡ map (λ (t : Term). t.0) us → length ts ≡ length us
same_length ts us e = sym (length-map ts (λ (t : Term). t.0)) ∙ ap length e ∙ length-map us (λ (t : Term). t.0)

pub same_set : (ts us : List Term) (i : ℕ) (d : Term) → map (λ (t : Term). t.0) ts ≡ map (λ (t : Term). t.0) us → i < length us → (get_or ts i d).0 ≡ (get_or us i d).0
same_set ts us i d e lt =
    sym (get_or-map (λ (t : Term). t.0) ts i d 0 (omega (arith, lt, same_length ts us e))) ∙ ap (λ ns. get_or ns i 0) e ∙ get_or-map (λ (t : Term). t.0) us i d 0 lt

pub read_behind : (items ts us : List Term) (i : ℕ) (x d : Term) → drop i items ≡ drop i ts → length items ≡ length ts → map (λ (t : Term). t.0) ts ≡ map (λ (t : Term). t.0) us → i < length us → x ≡ get_or items i x → x ≡ get_or ts i d
read_behind items ts us i x d e n sets lt h =
    let inside : i < length ts = omega (arith, lt, same_length ts us sets) in
    let within : i < length items = omega (arith, n, inside) in
    h ∙ get_or_default items i x d within ∙ (next_behind items ts i d within inside e).0

pub sum_fits_at : (ts us : List Term) (i : ℕ) (x d : Term) → IsMultiAffine ts → IsMultiAffine us → map (λ (t : Term). t.0) ts ≡ map (λ (t : Term). t.0) us → i < length us → x ≡ get_or ts i d → FitsSigned w128 (x.1 +ℤ (get_or us i d).1)
sum_fits_at ts us i x d h k sets lt e =
    subst (λ (t : Term). FitsSigned w128 (t.1 +ℤ (get_or us i d).1)) (sym e)
    (sum_fits (get_or ts i d) (get_or us i d) (small_from ts h i d (omega (arith, lt, same_length ts us sets))) (small_from us k i d lt))
