use Rattle.std.proofs.Common.{◌≡◌, ◌<◌, ◌++◌, [], ◌∷◌, length, true, false, pos, ◌*ℤ◌, get_or, bit_or, FitsSigned, sym, ap, ◌∙◌, append_assoc, arith, rules}
use Rattle.std.specs.Int.{w128}
use Rattle.std.proofs.lemmas.Grind.{common_steps}
use Rattle.std.proofs.lemmas.Int.{to_z-of_z}
use Rattle.lift_poly.specs.MultiAffine.{is_wide}
use Rattle.lift_poly.proofs.Products.{joined, products_of_more, fits_more, wide_row_of, read_front}
use Rattle.lift_poly.proofs.terms.push_row.Goals as goal

pub returns-in_err-coefficient-clause-causes : goal.returns-in_err-coefficient-clause-causes
returns-in_err-coefficient-clause-causes c =
    let ts = c.args.terms.now.items in
    let x = c.index-other.result.now in
    let within : c.loop-i.i < length ts = omega (arith, c.requires, c.loop-i-test.true) in
    let same = read_front c.loop-i.terms.items ts _ c.loop-i.i x (0, pos 0) c.loop-i.invariant.0 within c.index-other.ensures in
    let f : FitsSigned w128 c.args.term.1 = search rules in
    let g : FitsSigned w128 x.1 = search rules in
    let test : is_wide (0, c.args.term.1 *ℤ x.1) ≡ true = simp to_z-of_z at c.in_err-coefficient.ensures.wide.1 in
    let wide = wide_row_of c.args.term ts c.args.count c.loop-i.i (0, pos 0) c.loop-i-test.true within (ap (λ u. is_wide (joined c.args.term u)) (sym same) ∙ test) in
    grind (arith, common_steps)

pub loop-i-preserved : goal.loop-i-preserved
loop-i-preserved c =
    let ts = c.args.terms.now.items in
    let items = c.loop-i.terms.items in
    let x = c.index-other.result.now in
    let within : c.loop-i.i < length ts = omega (arith, c.requires, c.loop-i-test.true) in
    let same = read_front items ts _ c.loop-i.i x (0, pos 0) c.loop-i.invariant.0 within c.index-other.ensures in
    let f : FitsSigned w128 c.args.term.1 = search rules in
    let g : FitsSigned w128 x.1 = search rules in
    let test : is_wide (0, c.args.term.1 *ℤ x.1) ≡ false = simp to_z-of_z at c.in_ok-coefficient.ensures.value.1 in
    let number : c.in_ok-coefficient.coefficient ≡ c.args.term.1 *ℤ x.1 = simp to_z-of_z at c.in_ok-coefficient.ensures.value.0 in
    let fits = fits_more c.args.term ts c.loop-i.i (0, pos 0) within c.loop-i.invariant.1 (ap (λ u. is_wide (joined c.args.term u)) (sym same) ∙ test) in
    let more = products_of_more c.args.term ts c.loop-i.i (0, pos 0) within in
    let h : FitsSigned w128 c.in_ok-coefficient.coefficient = search rules in
    let pushed : c.push_term.new.terms.items ≡ items ++ joined c.args.term (get_or ts c.loop-i.i (0, pos 0)) ∷ [] =
    c.in_ok-push_term.ensures ∙ ap (λ z. items ++ (bit_or c.args.term.0 x.0, z) ∷ []) (to_z-of_z w128 c.in_ok-coefficient.coefficient h ∙ number) ∙ ap (λ u. items ++ joined c.args.term u ∷ []) same in
    (pushed ∙ ap (λ us. us ++ joined c.args.term (get_or ts c.loop-i.i (0, pos 0)) ∷ []) c.loop-i.invariant.0 ∙ append_assoc ts _ _ ∙ ap (λ us. ts ++ us) (sym more), fits)
