-- A polynomial whose coefficients are all 0 weighs 0; so where each set's coefficients over a row sum as they should, the row's weights sum to the total at every valuation.
use Rattle.std.proofs.Common.{◌≡◌, ℕ, zero, suc, ◌≤◌, Bool, true, false, cond, List, [], ◌∷◌, ◌++◌, length, ℤ, pos, ◌+ℤ◌, ◌*ℤ◌, neg_ℤ, refl, sym, ap, ap₂, ◌∙◌, arith, nat_eq, eqb-true, eq-eqb, ne_eqb, true≢false}
use Rattle.lift_poly.specs.Polynomial.{Term, Valuation, monomial, weight, denominator}
use Rattle.lift_poly.specs.Arithmetic.{coefficient}
use Rattle.lift_poly.proofs.Ring.{linear, mul-comm, zero-mul, one-mul, add-mul}
use Rattle.lift_model.specs.declared.entry.Entry.{Entry}
use Rattle.corner_lift.specs.Case.{row_coefficient}
use Rattle.corner_lift.proofs.RowBound.{row_sum, scaled, row_terms, less, weight-append, weight-row_terms, weight-less}

-- the terms of every other set
without : ℕ → List Term → List Term
without set [] = []
without set (t ∷ ts) = cond (nat_eq t.0 set) (without set ts) (t ∷ without set ts)

either : {P : Type 0} (b : Bool) → (b ≡ true → P) → (b ≡ false → P) → P
either true f g = f refl
either false f g = g refl

weight-without : (v : Valuation) (set : ℕ) (ts : List Term) → weight v ts ≡ coefficient set ts *ℤ monomial v set +ℤ weight v (without set ts)
unfolding without
weight-without v set [] = omega (arith, linear, zero-mul (monomial v set))
weight-without v set (t ∷ ts) =
    either (nat_eq t.0 set)
    (λ e. let same : t.0 ≡ set = eqb-true t.0 set e in
    rw e (omega (arith, linear, weight-without v set ts, add-mul t.1 (coefficient set ts) (monomial v set), ap (λ m. t.1 *ℤ monomial v m) same)))
    (λ e. rw e (omega (arith, linear, weight-without v set ts, add-mul (pos 0) (coefficient set ts) (monomial v set), zero-mul (monomial v set))))

coefficient-none : (set : ℕ) (ts : List Term) → coefficient set (without set ts) ≡ pos 0
unfolding without
coefficient-none set [] = refl
coefficient-none set (t ∷ ts) =
    either (nat_eq t.0 set)
    (λ e. rw e (coefficient-none set ts))
    (λ e. rw e (rw e (omega (arith, linear, coefficient-none set ts))))

coefficient-other : (s set : ℕ) → nat_eq s set ≡ false → (ts : List Term) → coefficient s (without set ts) ≡ coefficient s ts
unfolding without
coefficient-other s set ne [] = refl
coefficient-other s set ne (t ∷ ts) =
    either (nat_eq t.0 set)
    (λ e. let same : t.0 ≡ set = eqb-true t.0 set e in
    let other : nat_eq t.0 s ≡ false = ne_eqb t.0 s (λ k. true≢false (sym (ap (λ x. nat_eq x set) (sym k) ∙ e) ∙ ne)) in
    rw (e, other) (omega (arith, linear, coefficient-other s set ne ts)))
    (λ e. rw e (omega (arith, linear, coefficient-other s set ne ts)))

coefficient-without : (s set : ℕ) (ts : List Term) → coefficient s ts ≡ pos 0 → coefficient s (without set ts) ≡ pos 0
coefficient-without s set ts h =
    either (nat_eq s set)
    (λ e. let same : s ≡ set = eqb-true s set e in rw same (coefficient-none set ts))
    (λ e. coefficient-other s set e ts ∙ h)

length-without : (set : ℕ) (ts : List Term) → length (without set ts) ≤ length ts
unfolding without
length-without set [] = omega arith
length-without set (t ∷ ts) = either (nat_eq t.0 set) (λ e. rw e (omega (arith, length-without set ts))) (λ e. rw e (omega (arith, length-without set ts)))

first_gone : (t : Term) (ts : List Term) (n : ℕ) → length (t ∷ ts) ≤ suc n → length (without t.0 (t ∷ ts)) ≤ n
unfolding without
first_gone t ts n l = let e : nat_eq t.0 t.0 ≡ true = eq-eqb t.0 t.0 refl in rw e (omega (arith, length-without t.0 ts))

weight-zero : (n : ℕ) (v : Valuation) (ts : List Term) → length ts ≤ n → ((set : ℕ) → coefficient set ts ≡ pos 0) → weight v ts ≡ pos 0
weight-zero n v [] l h = refl
weight-zero zero v (t ∷ ts) l h = absurd (omega arith)
weight-zero (suc n) v (t ∷ ts) l h =
    let others = without t.0 (t ∷ ts) in
    let shorter : length others ≤ n = first_gone t ts n l in
    let rest : weight v others ≡ pos 0 = weight-zero n v others shorter (λ set. coefficient-without set t.0 (t ∷ ts) (h set)) in
    weight-without v t.0 (t ∷ ts) ∙ rw (h t.0) (omega (arith, linear, rest, zero-mul (monomial v t.0)))

coefficient-append : (set : ℕ) (ts us : List Term) → coefficient set (ts ++ us) ≡ coefficient set ts +ℤ coefficient set us
coefficient-append set [] us = omega (arith, linear)
coefficient-append set (t ∷ ts) us = omega (arith, linear, coefficient-append set ts us)

coefficient-scaled_one : (set : ℕ) (ts : List Term) → coefficient set (scaled (pos 1) ts) ≡ coefficient set ts
unfolding scaled
coefficient-scaled_one set [] = refl
coefficient-scaled_one set (t ∷ ts) = ap₂ (λ c r. cond (nat_eq t.0 set) c (pos 0) +ℤ r) (mul-comm t.1 (pos 1) ∙ one-mul t.1) (coefficient-scaled_one set ts)

coefficient-row : (set : ℕ) (row : List Entry) → coefficient set (row_terms (λ s. pos 1) row) ≡ row_coefficient set row
unfolding row_terms
coefficient-row set [] = refl
coefficient-row set (e ∷ row) = coefficient-append set (scaled (pos 1) e.poly) (row_terms (λ s. pos 1) row) ∙ ap₂ ◌+ℤ◌ (coefficient-scaled_one set e.poly) (coefficient-row set row)

coefficient-less : (set : ℕ) (k : ℤ) → coefficient set (less k) ≡ neg_ℤ (cond (nat_eq set 0) k (pos 0))
unfolding less
coefficient-less zero k = omega (arith, linear)
coefficient-less (suc set) k =
    let first : nat_eq 0 (suc set) ≡ false = ne_eqb 0 (suc set) (omega arith) in
    let second : nat_eq (suc set) 0 ≡ false = ne_eqb (suc set) 0 (omega arith) in
    rw (first, second) refl

-- the row's weights sum to the total at every valuation
pub row_total : (common : ℤ) (row : List Entry) → ((set : ℕ) → row_coefficient set row ≡ cond (nat_eq set 0) common (pos 0)) → (v : Valuation) → row_sum v (λ s. pos 1) row ≡ common *ℤ denominator v
row_total common row h v =
    let all = row_terms (λ s. pos 1) row ++ less common in
    let none : (set : ℕ) → coefficient set all ≡ pos 0 =
    λ set. omega (arith, linear, coefficient-append set (row_terms (λ s. pos 1) row) (less common), coefficient-row set row, coefficient-less set common, h set) in
    omega (arith, linear, weight-zero (length all) v all (omega arith) none, weight-append v (row_terms (λ s. pos 1) row) (less common), weight-row_terms v (λ s. pos 1) row, weight-less v common)
