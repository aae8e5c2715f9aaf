use Rattle.std.proofs.Common.{◌≡◌, ◌≢◌, ℤ, List, true, take, pos, to_z, of_z, FitsSigned, sym, ap, ◌∙◌, subst, arith}
use Rattle.std.specs.Int.{w128}
use Rattle.std.specs.List.{list_any}
use Rattle.std.proofs.lemmas.Grind.{common_steps}
use Rattle.std.proofs.lemmas.Int.{ints, to_z-of_z}
use Rattle.std.proofs.lemmas.List.{take_all}
use Rattle.lift_poly.specs.Polynomial.{Term}
use Rattle.lift_poly.specs.Arithmetic.{times, scaled, products_of}
use Rattle.lift_poly.specs.MultiAffine.{IsMultiAffine, is_wide}
use Rattle.lift_poly.proofs.Answers.{none_wide}
use Rattle.lift_poly.proofs.Products.{products_of-number, times_is, scaled_none, scaled_fits, whole_row}
use Rattle.lift_poly.proofs.terms.multiple_terms.Goals as goal
use Rattle.lift_poly.proofs.terms.multiple_terms.Goals.{In_ok-multiply_row}

-- a number that isn't 0, as the code tests it
some : (by : ℤ) → (of_z w128 by ≡ 0 → ⊥) → by ≢ pos 0
some by h e = h (ap (of_z w128) e)

-- the products with the number as a term of the empty set
passed : (by : ℤ) (terms : List Term) → FitsSigned w128 by → products_of (0, to_z w128 (of_z w128 by)) terms ≡ times by terms
passed by terms fits = ap (λ z. products_of (0, z) terms) (to_z-of_z w128 by fits) ∙ products_of-number by terms

pub returns-then-by-eq0-clause-multiple : goal.returns-then-by-eq0-clause-multiple
returns-then-by-eq0-clause-multiple c =
    let none : c.args.by ≡ pos 0 = omega (arith, ints) in
    c.clear.ensures.items ∙ scaled_none c.args.by c.args.terms.items none

pub multiply_row-requires-clause-narrow : goal.multiply_row-requires-clause-narrow
multiply_row-requires-clause-narrow c =
    ap (list_any is_wide) (take_all c.len-count.result c.args.terms.items (omega (arith, c.len-count.ensures))) ∙ none_wide c.args.terms.items c.requires

pub returns-in_err-multiply_row-clause-causes : goal.returns-in_err-multiply_row-clause-causes
returns-in_err-multiply_row-clause-causes c =
    let ts = c.args.terms.items in
    let same = passed c.args.by ts c.ranges.by ∙ times_is c.args.by ts (some c.args.by c.if-by-eq0.false) c.requires.polynomial in
    let all : take c.len-count.result ts ≡ ts = take_all c.len-count.result ts (omega (arith, c.len-count.ensures)) in
    let wide : list_any is_wide (scaled c.args.by ts) ≡ true =
    sym (ap (λ us. list_any is_wide (products_of (0, to_z w128 (of_z w128 c.args.by)) us)) all ∙ ap (list_any is_wide) same) ∙ c.in_err-multiply_row.ensures.causes.1 in
    grind (arith, common_steps)

-- what is there at the end
multiple : (c : In_ok-multiply_row) → c.multiply_row.new.terms.items ≡ times c.args.by c.args.terms.items
multiple c =
    c.in_ok-multiply_row.ensures.products ∙ whole_row (0, to_z w128 (of_z w128 c.args.by)) c.args.terms.items c.len-count.result (omega (arith, c.len-count.ensures))
    ∙ passed c.args.by c.args.terms.items c.ranges.by

pub returns-clause-multiple : goal.returns-clause-multiple
returns-clause-multiple c = multiple c ∙ times_is c.args.by c.args.terms.items (some c.args.by c.if-by-eq0.false) c.requires.polynomial

pub returns-clause-fits : goal.returns-clause-fits
returns-clause-fits c =
    let all = take_all c.len-count.result c.args.terms.items (omega (arith, c.len-count.ensures)) in
    subst IsMultiAffine (sym (multiple c))
    (scaled_fits c.args.by c.args.terms.items (some c.args.by c.if-by-eq0.false) c.requires
    (sym (ap (λ us. list_any is_wide (products_of (0, to_z w128 (of_z w128 c.args.by)) us)) all ∙ ap (list_any is_wide) (passed c.args.by c.args.terms.items c.ranges.by)) ∙ c.in_ok-multiply_row.ensures.fits))
