use Rattle.std.proofs.Common.{◌≡◌, ◌+◌, ◌<◌, ◌≤◌, Err, ◌∷◌, ◌++◌, [], ℕ, List, ◌+ℤ◌, take, drop, length, get_or, true, false, FitsSigned, sym, ap, ◌∙◌, subst, arith, rules}
use Rattle.std.specs.Int.{w128}
use Rattle.std.specs.List.Sorted.{IsBinarySearchResult}
use Rattle.std.specs.Ordering.{nat_cmp}
use Rattle.std.proofs.lemmas.Grind.{common_steps}
use Rattle.std.proofs.lemmas.Int.{to_z-of_z}
use Rattle.std.proofs.lemmas.List.Sorted.{answers_always}
use Rattle.lift_poly.specs.Polynomial.{Term}
use Rattle.lift_poly.specs.Arithmetic.{coefficient, kept}
use Rattle.lift_poly.specs.MultiAffine.{IsMultiAffine, is_wide}
use Rattle.lift_poly.proofs.Insertion.{inserted, replaced, joined_coefficient}
use Rattle.lift_poly.proofs.Lookup.{equal_set}
use Rattle.lift_poly.proofs.Merging.{Small, small_from, sum_fits}
use Rattle.lift_poly.proofs.terms.add_term.Goals as goal
use Rattle.lift_poly.proofs.terms.add_term.Goals.{After-replace_term}

-- the sum of the two coefficients is one that the machine holds
fits_here : (ts : List Term) (i : ℕ) (t u : Term) → i < length ts → IsMultiAffine ts → IsMultiAffine (t ∷ []) → u ≡ get_or ts i u → FitsSigned w128 (t.1 +ℤ u.1)
fits_here ts i t u lt h one e = sum_fits t u (small_from (t ∷ []) one 0 t (omega arith)) (subst Small (sym e) (small_from ts h i u lt))

pub overflow_add-term : goal.overflow_add-term
overflow_add-term c =
    let f : FitsSigned w128 c.args.term.1 = search rules in
    let g : FitsSigned w128 c.index.result.now.1 = search rules in
    let place : c.in-Ok.place < length c.args.terms.now.items = omega (arith, c.in-Ok.ensures.bound, ap length c.deref.ensures.value) in
    simp to_z-of_z (fits_here c.args.terms.now.items c.in-Ok.place c.args.term c.index.result.now place c.requires.terms c.requires.term c.index.ensures)

pub returns-in_err-coefficient-in-Ok-clause-causes : goal.returns-in_err-coefficient-in-Ok-clause-causes
returns-in_err-coefficient-in-Ok-clause-causes c =
    let ts = c.args.terms.now.items in
    let term = c.index.result.now in
    let f : FitsSigned w128 c.args.term.1 = search rules in
    let g : FitsSigned w128 term.1 = search rules in
    let place : c.in-Ok.place < length ts = omega (arith, c.in-Ok.ensures.bound, ap length c.deref.ensures.value) in
    let h : FitsSigned w128 (c.args.term.1 +ℤ term.1) = fits_here ts c.in-Ok.place c.args.term term place c.requires.terms c.requires.term c.index.ensures in
    let found = c.in-Ok.ensures.position (λ term. term.0) (answers_always _ _ _ (λ f a r g called. search rules)) in
    let same : (get_or ts c.in-Ok.place term).0 ≡ c.args.term.0 = ap (λ us. (get_or us c.in-Ok.place term).0) (sym c.deref.ensures.value) ∙ equal_set _ _ (found term) in
    let test = simp to_z-of_z at c.in_err-coefficient-in-Ok.ensures.wide.1 in
    let wide : is_wide (c.args.term.0, coefficient c.args.term.0 (c.args.term ∷ ts)) ≡ true =
    ap (λ z. is_wide (0, z)) (joined_coefficient ts c.in-Ok.place c.args.term term place c.requires.terms same ∙ ap (λ (t : Term). c.args.term.1 +ℤ t.1) (sym c.index.ensures)) ∙ test in
    grind (arith, common_steps)

-- the polynomial with the sum of the two coefficients
added : (c : After-replace_term) → IsMultiAffine c.replace_term.new.terms.items × ((set : ℕ) → coefficient set c.replace_term.new.terms.items ≡ coefficient set (c.args.term ∷ c.args.terms.now.items))
added c =
    let ts = c.args.terms.now.items in
    let term = c.index.result.now in
    let f : FitsSigned w128 c.args.term.1 = search rules in
    let g : FitsSigned w128 term.1 = search rules in
    let place : c.in-Ok.place < length ts = omega (arith, c.in-Ok.ensures.bound, ap length c.deref.ensures.value) in
    let h : FitsSigned w128 (c.args.term.1 +ℤ term.1) = fits_here ts c.in-Ok.place c.args.term term place c.requires.terms c.requires.term c.index.ensures in
    let found = c.in-Ok.ensures.position (λ term. term.0) (answers_always _ _ _ (λ f a r g called. search rules)) in
    let same : (get_or ts c.in-Ok.place term).0 ≡ c.args.term.0 = ap (λ us. (get_or us c.in-Ok.place term).0) (sym c.deref.ensures.value) ∙ equal_set _ _ (found term) in
    let number : c.in_ok-coefficient-in-Ok.coefficient ≡ c.args.term.1 +ℤ term.1 = simp to_z-of_z at c.in_ok-coefficient-in-Ok.ensures.value.0 in
    let k : FitsSigned w128 c.in_ok-coefficient-in-Ok.coefficient = search rules in
    let put = simp to_z-of_z at c.replace_term.ensures in
    let fits : is_wide (0, c.args.term.1 +ℤ term.1) ≡ false = simp to_z-of_z at c.in_ok-coefficient-in-Ok.ensures.value.1 in
    let there : c.args.term.1 +ℤ term.1 ≡ c.args.term.1 +ℤ (get_or ts c.in-Ok.place term).1 = ap (λ (t : Term). c.args.term.1 +ℤ t.1) c.index.ensures in
    let whole = put ∙ ap (λ z. take c.in-Ok.place ts ++ kept (c.args.term.0, z) (drop (c.in-Ok.place + 1) ts)) (number ∙ there) in
    let r = replaced ts c.in-Ok.place c.args.term term place c.requires.terms c.requires.term same (ap (λ z. is_wide (0, z)) (sym there) ∙ fits) in
    (subst IsMultiAffine (sym whole) r.0, λ set. ap (coefficient set) whole ∙ r.1 set)

pub returns-in_ok-coefficient-in-Ok-clause-sum : goal.returns-in_ok-coefficient-in-Ok-clause-sum
returns-in_ok-coefficient-in-Ok-clause-sum c = (added c).1

pub returns-in_ok-coefficient-in-Ok-clause-fits : goal.returns-in_ok-coefficient-in-Ok-clause-fits
returns-in_ok-coefficient-in-Ok-clause-fits c = (added c).0

pub returns-in_ok-insert_term-in-Err-clause-sum : goal.returns-in_ok-insert_term-in-Err-clause-sum
returns-in_ok-insert_term-in-Err-clause-sum c =
    let ts = c.args.terms.now.items in
    let found = c.in-Err.ensures.position (λ term. term.0) (answers_always _ _ _ (λ f a r g called. search rules)) in
    let place = subst (λ us. IsBinarySearchResult (λ u. nat_cmp u.0 c.args.term.0) us (Err c.in-Err.place)) c.deref.ensures.value found in
    let le : c.in-Err.place ≤ length ts = omega (arith, c.in-Err.ensures.bound, ap length c.deref.ensures.value) in
    λ set. ap (coefficient set) c.in_ok-insert_term-in-Err.ensures ∙ (inserted ts c.in-Err.place c.args.term le c.requires.terms c.requires.term place).1 set

pub returns-in_ok-insert_term-in-Err-clause-fits : goal.returns-in_ok-insert_term-in-Err-clause-fits
returns-in_ok-insert_term-in-Err-clause-fits c =
    let ts = c.args.terms.now.items in
    let found = c.in-Err.ensures.position (λ term. term.0) (answers_always _ _ _ (λ f a r g called. search rules)) in
    let place = subst (λ us. IsBinarySearchResult (λ u. nat_cmp u.0 c.args.term.0) us (Err c.in-Err.place)) c.deref.ensures.value found in
    let le : c.in-Err.place ≤ length ts = omega (arith, c.in-Err.ensures.bound, ap length c.deref.ensures.value) in
    subst IsMultiAffine (sym c.in_ok-insert_term-in-Err.ensures) (inserted ts c.in-Err.place c.args.term le c.requires.terms c.requires.term place).0
