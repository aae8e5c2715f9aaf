use Rattle.std.proofs.Common.{rules, arith, ◌+◌, ◌*◌, ◌%◌, length, ap, pos, slice_index_or, to_z-of_z, FitsSigned}
use mir.Syntax.{w128}
use Rattle.std.proofs.lemmas.List.{length-set}
use Rattle.lift_rows.proofs.Blocks.{coefficient_small, term_fits, added_in, left_out}
use Rattle.lift_rows.proofs.sums.add_terms.Goals as goal
use Rattle.lift_rows.proofs.sums.add_terms.Goals.{then-set-block, else-set-block}

pub overflow_add-sums : goal.overflow_add-sums
overflow_add-sums c =
    let term = c.term-set.result in
    let f : FitsSigned w128 (slice_index_or c.loop-i.sums (term.0 % 256) (pos 0)) = search rules in
    let g : FitsSigned w128 term.1 = search rules in
    rw (to_z-of_z f, to_z-of_z g) (term_fits c.args.poly.now c.loop-i.i term c.term-set.ensures c.args.block c.if-set-block.true c.coefficients_determine.ensures.found _ _ c.len-i-end.ensures.fits c.requires.small (c.requires.room (term.0 % 256) (omega arith)) (c.loop-i.invariant (term.0 % 256) (omega arith)))

pub loop-i-preserved : goal.loop-i-preserved
loop-i-preserved c = λ k lt.
    let term = c.term-set.result in
    let g : FitsSigned w128 term.1 = search rules in
    elim c.if-set-block.branch [
      | then-set-block w ↦
          let f : FitsSigned w128 (slice_index_or c.loop-i.sums (term.0 % 256) (pos 0)) = search rules in
          let h = term_fits c.args.poly.now c.loop-i.i term c.term-set.ensures c.args.block w.if-set-block.true c.coefficients_determine.ensures.found _ _ c.len-i-end.ensures.fits c.requires.small (c.requires.room (term.0 % 256) (omega arith)) (c.loop-i.invariant (term.0 % 256) (omega arith)) in
          rw (w.sums-is, to_z-of_z f, to_z-of_z g, to_z-of_z h) (added_in c.args.poly.now c.loop-i.i term c.term-set.ensures c.args.block w.if-set-block.true c.loop-i.sums k _ (omega (arith, c.if-set-block.array_long, simp length-set at (ap length w.sums-is))) lt (c.loop-i.invariant k lt))
      | else-set-block w ↦ rw w.sums-is (left_out c.args.poly.now c.loop-i.i term c.term-set.ensures (c.args.block * 256 + k) _ _ (λ e. w.if-set-block.false (omega arith)) (c.loop-i.invariant k lt))
    ]

pub returns-clause-sizes : goal.returns-clause-sizes
returns-clause-sizes c = coefficient_small c.coefficients_determine.ensures.found c.args.poly.now c.len-i-end.ensures.fits.polynomial c.requires.small
