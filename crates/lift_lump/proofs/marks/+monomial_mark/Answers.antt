use Rattle.std.proofs.Common.{◌/◌, ◌-◌, ℕ, List, length, drop, sym, subst, arith, length-drop}
use Rattle.std.proofs.lemmas.List.{take_all}
use Rattle.lift_poly.specs.Polynomial.{monomial}
use Rattle.lift_lump.specs.Search.{whole, IsCongruent}
use Rattle.lift_lump.proofs.Marking.{none_mark, one_congruent, with_none, with_first}
use Rattle.lift_lump.proofs.marks.+monomial_mark.Goals as goal

pub returns-then-set-eq0-clause-same : goal.returns-then-set-eq0-clause-same
returns-then-set-eq0-clause-same t c =
    subst (λ s. IsCongruent 1 (monomial (whole c.args.point.now) s)) (sym c.if-set-eq0.true) (subst (IsCongruent 1) (sym (none_mark c.args.point.now)) one_congruent)

pub returns-in-empty-clause-same : goal.returns-in-empty-clause-same
returns-in-empty-clause-same t c = with_none c.args.point.now c.args.set c.in-empty.len_below

pub returns-then-set-eq1-clause-same : goal.returns-then-set-eq1-clause-same
returns-then-set-eq1-clause-same t c =
    subst (λ n. IsCongruent n (monomial (whole c.args.point.now) c.args.set)) (sym c.times.ensures)
    (with_first c.args.point.now c.args.set c.monomial_mark-product.result c.in-len1-up.len_at_least c.if-set-eq1.true
    (subst (λ (rest : List ℕ). IsCongruent c.monomial_mark-product.result (monomial (whole rest) (c.args.set / 2))) (take_all (length c.args.point.now - 1) (drop 1 c.args.point.now) (omega (arith, length-drop 1 c.args.point.now))) c.monomial_mark-product.ensures.same))
