use Rattle.std.proofs.Common.{◌≡◌, ◌<◌, ◌++◌, List, length, take, drop, true, false, pos, ◌*ℤ◌, to_z, of_z, get_or, bit_or, FitsSigned, sym, ap, ap₂, ◌∙◌, arith, rules}
use Rattle.std.specs.Int.{w128}
use Rattle.std.proofs.lemmas.Grind.{common_steps}
use Rattle.std.proofs.lemmas.Int.{to_z-of_z}
use Rattle.std.specs.List.{list_any}
use Rattle.std.proofs.lemmas.List.{take-append-drop}
use Rattle.lift_poly.specs.Polynomial.{Term}
use Rattle.lift_poly.specs.Arithmetic.{products_of}
use Rattle.lift_poly.specs.MultiAffine.{is_wide}
use Rattle.lift_poly.proofs.Division.{times-one}
use Rattle.lift_poly.proofs.Products.{products_of-number, joined, fits_more, wide_row_of, read_next, write_next}
use Rattle.lift_poly.proofs.terms.multiply_row.Goals as goal

pub returns-in_err-coefficient-clause-causes : goal.returns-in_err-coefficient-clause-causes
returns-in_err-coefficient-clause-causes c =
    let ts = c.args.terms.now.items in
    let x = c.index-other.result.now in
    let within : c.loop-i.i < length ts = omega (arith, c.requires.within, c.loop-i-test.true) in
    let same = read_next c.args.term c.loop-i.terms.items ts c.loop-i.i x (0, pos 0) c.loop-i.invariant.0 within c.index-other.ensures in
    let f : FitsSigned w128 c.args.term.1 = search rules in
    let g : FitsSigned w128 x.1 = search rules in
    let test : is_wide (0, c.args.term.1 *ℤ x.1) ≡ true = simp to_z-of_z at c.in_err-coefficient.ensures.wide.1 in
    let wide = wide_row_of c.args.term ts c.args.count c.loop-i.i (0, pos 0) c.loop-i-test.true within (ap (λ u. is_wide (joined c.args.term u)) (sym same) ∙ test) in
    grind (arith, common_steps)

pub loop-i-preserved : goal.loop-i-preserved
loop-i-preserved c =
    let ts = c.args.terms.now.items in
    let x = c.index-other.result.now in
    let within : c.loop-i.i < length ts = omega (arith, c.requires.within, c.loop-i-test.true) in
    let same = read_next c.args.term c.loop-i.terms.items ts c.loop-i.i x (0, pos 0) c.loop-i.invariant.0 within c.index-other.ensures in
    let f : FitsSigned w128 c.args.term.1 = search rules in
    let g : FitsSigned w128 x.1 = search rules in
    let test : is_wide (0, c.args.term.1 *ℤ x.1) ≡ false = simp to_z-of_z at c.in_ok-coefficient.ensures.value.1 in
    let number : c.in_ok-coefficient.coefficient ≡ c.args.term.1 *ℤ x.1 = simp to_z-of_z at c.in_ok-coefficient.ensures.value.0 in
    let h : FitsSigned w128 c.in_ok-coefficient.coefficient = search rules in
    let product : (bit_or c.args.term.0 x.0, to_z w128 (of_z w128 c.in_ok-coefficient.coefficient)) ≡ joined c.args.term (get_or ts c.loop-i.i (0, pos 0)) =
    ap (λ z. (bit_or c.args.term.0 x.0, z)) (to_z-of_z w128 c.in_ok-coefficient.coefficient h ∙ number) ∙ ap (joined c.args.term) same in (
      write_next c.args.term c.loop-i.terms.items ts c.loop-i.i _ (0, pos 0) c.loop-i.invariant.0 within product,
      fits_more c.args.term ts c.loop-i.i (0, pos 0) within c.loop-i.invariant.1 (ap (λ u. is_wide (joined c.args.term u)) (sym same) ∙ test),
    )

-- the products with the number 1
by_one : (t : Term) (ts : List Term) → t.0 ≡ 0 → t.1 ≡ pos 1 → products_of t ts ≡ ts
by_one t ts e f = ap₂ (λ n z. products_of (n, z) ts) e f ∙ products_of-number (pos 1) ts ∙ times-one ts

pub returns-then-term-eq1-clause-products : goal.returns-then-term-eq1-clause-products
returns-then-term-eq1-clause-products c =
    let f : FitsSigned w128 c.args.term.1 = search rules in
    let one : c.args.term.1 ≡ pos 1 = sym (to_z-of_z w128 c.args.term.1 f) ∙ ap (to_z w128) c.if-term-eq1.true in
    let ts = c.args.terms.now.items in
    sym (ap (λ us. us ++ drop c.args.count ts) (by_one c.args.term (take c.args.count ts) c.if-term-eq0.true one) ∙ take-append-drop c.args.count ts)

pub returns-then-term-eq1-clause-fits : goal.returns-then-term-eq1-clause-fits
returns-then-term-eq1-clause-fits c =
    let f : FitsSigned w128 c.args.term.1 = search rules in
    let one : c.args.term.1 ≡ pos 1 = sym (to_z-of_z w128 c.args.term.1 f) ∙ ap (to_z w128) c.if-term-eq1.true in
    ap (list_any is_wide) (by_one c.args.term (take c.args.count c.args.terms.now.items) c.if-term-eq0.true one) ∙ c.requires.narrow
