use Rattle.std.proofs.Common.{◌<◌, ◌+◌, ◌%◌, FitsSigned, rules, take, sym, subst, arith}
use Rattle.std.specs.Int.{w128}
use Rattle.std.proofs.lemmas.Int.{to_z-of_z}
use Rattle.std.proofs.lemmas.Option.{get_or_from_slice_get}
use Rattle.lift_poly.specs.Polynomial.{weight}
use Rattle.lift_lump.specs.Search.{modulus, whole, IsCongruent}
use Rattle.lift_lump.proofs.Marking.{weighed_none, weighed_more}
use Rattle.lift_lump.proofs.marks.mark_of.Goals as goal

pub loop-index-init : goal.loop-index-init
loop-index-init c = record { below = omega arith; same = weighed_none (whole c.args.point.now) c.args.poly.now }

pub loop-index-preserved : goal.loop-index-preserved
loop-index-preserved c =
    let v = whole c.args.point.now in
    let i = c.loop-index.index in
    record {
      below = omega arith;
      same = subst (λ t. IsCongruent ((c.loop-index.sum + t) % modulus) (weight v (take (i + 1) c.args.poly.now))) (sym c.times.ensures)
          (weighed_more v c.args.poly.now i c.loop-index.sum c.residue.result c.monomial_mark.result c.term-set.result (subst (λ n. i < n) c.len-index-end.ensures.value c.loop-index-test.true)
          (get_or_from_slice_get c.args.poly.now i c.term-set.result c.term-set.result c.term-set.ensures) c.loop-index.invariant.same (let fits : FitsSigned w128 c.term-set.result.1 = search rules in subst (IsCongruent c.residue.result) (to_z-of_z w128 c.term-set.result.1 fits) c.residue.ensures.same) c.monomial_mark.ensures.same);
    }
