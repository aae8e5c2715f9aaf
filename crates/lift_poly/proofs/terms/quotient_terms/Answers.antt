use Rattle.std.proofs.Common.{take, sym, ap, ◌∙◌, subst}
use Rattle.std.specs.Int.{w128}
use Rattle.std.proofs.lemmas.Int.{to_z-of_z}
use Rattle.std.proofs.lemmas.List.{take_all}
use Rattle.lift_poly.specs.Arithmetic.{times, quotient}
use Rattle.lift_poly.specs.MultiAffine.{IsMultiAffine}
use Rattle.lift_poly.proofs.Division.{times-quotient, quotient_fits}
use Rattle.lift_poly.proofs.terms.quotient_terms.Goals as goal

pub returns-clause-exact : goal.returns-clause-exact
returns-clause-exact c =
    let items = c.loop-term.invariant ∙ ap (quotient (take c.loop-term.term-index c.args.terms.now)) (to_z-of_z w128 c.args.by c.ranges.by) ∙ ap (λ ts. quotient ts c.args.by) (take_all c.loop-term.term-index c.args.terms.now c.loop-term-test.false) in
    ap (times c.args.by) items ∙ times-quotient c.args.by c.args.terms.now c.requires.divides

pub returns-clause-fits : goal.returns-clause-fits
returns-clause-fits c =
    let items = c.loop-term.invariant ∙ ap (quotient (take c.loop-term.term-index c.args.terms.now)) (to_z-of_z w128 c.args.by c.ranges.by) ∙ ap (λ ts. quotient ts c.args.by) (take_all c.loop-term.term-index c.args.terms.now c.loop-term-test.false) in
    subst IsMultiAffine (sym items) (quotient_fits c.args.by c.args.terms.now c.requires.positive c.requires.divides c.requires.terms)
