use Rattle.std.proofs.Common.{◌≡◌, ◌++◌, [], List, length, sym, ap, ◌∙◌, subst}
use Rattle.std.proofs.lemmas.List.{append-nil}
use Rattle.std.proofs.lemmas.Result.{IfOk-weaker}
use Rattle.lift_poly.specs.Polynomial.{Term, IsPolynomial}
use Rattle.lift_poly.specs.Arithmetic.{collected, sum}
use Rattle.lift_lump.proofs.Adding.{none_from_length, own_sum}
use Rattle.lift_lump.proofs.sums.added.Goals as goal

pub returns-then-len-eq0 : goal.returns-then-len-eq0
returns-then-len-eq0 c =
    let laws = c.coefficients_determine.ensures in
    let old = c.args.old.now in
    let poly = c.args.poly.now in
    let none : old ≡ [] = none_from_length old (ap length (sym c.deref-2.ensures) ∙ sym c.len.ensures.value ∙ c.if-len-eq0.true) in
    let is : IsPolynomial poly = subst IsPolynomial c.deref.ensures c.len-terms.ensures.fits.polynomial in
    let same : poly ≡ sum old poly = own_sum laws.polynomial laws.coefficients laws.unique poly is ∙ ap (λ (ts : List Term). collected (ts ++ poly)) (sym none) in
    IfOk-weaker c.share.result (λ (p : List Term). p ≡ poly) (λ (p : List Term). p ≡ sum old poly) (λ p e. e ∙ same) c.share.ensures

pub returns-then-terms-eq0 : goal.returns-then-terms-eq0
returns-then-terms-eq0 c =
    let laws = c.coefficients_determine.ensures in
    let old = c.args.old.now in
    let poly = c.args.poly.now in
    let none : poly ≡ [] = none_from_length poly (ap length (sym c.deref.ensures) ∙ sym c.len-terms.ensures.value ∙ c.if-terms-eq0.true) in
    let is : IsPolynomial old = subst IsPolynomial c.deref-2.ensures c.len.ensures.fits.polynomial in
    let same : old ≡ sum old poly = own_sum laws.polynomial laws.coefficients laws.unique old is ∙ ap collected (sym (append-nil old)) ∙ ap (λ (ts : List Term). collected (old ++ ts)) (sym none) in
    IfOk-weaker c.share-then-terms-eq0.result (λ (p : List Term). p ≡ old) (λ (p : List Term). p ≡ sum old poly) (λ p e. e ∙ same) c.share-then-terms-eq0.ensures
