use Rattle.std.proofs.Common.{FitsSigned, unsigned_abs, ap, arith, rules}
use Rattle.std.specs.Int.{w128}
use Rattle.std.proofs.lemmas.Int.{to_z-of_z}
use Rattle.drn_read.proofs.Building.{large_at, small_more}
use Rattle.drn_read.proofs.scaled.has_large.Goals as goal

pub returns-then-unsigned_abs-ge-COEFFICIENT_LIMIT : goal.returns-then-unsigned_abs-ge-COEFFICIENT_LIMIT
returns-then-unsigned_abs-ge-COEFFICIENT_LIMIT c =
    let fits : FitsSigned w128 c.term.result.1 = search rules in
    large_at c.args.poly.now c.loop-i.i c.term.result c.term.ensures (omega (arith, c.if-unsigned_abs-ge-COEFFICIENT_LIMIT.true, c.unsigned_abs.ensures.value, ap unsigned_abs (to_z-of_z w128 c.term.result.1 fits)))

pub loop-i-preserved : goal.loop-i-preserved
loop-i-preserved c =
    let fits : FitsSigned w128 c.term.result.1 = search rules in
    small_more c.args.poly.now c.loop-i.i c.term.result c.term.ensures (omega (arith, c.if-unsigned_abs-ge-COEFFICIENT_LIMIT.false, c.unsigned_abs.ensures.value, ap unsigned_abs (to_z-of_z w128 c.term.result.1 fits))) c.loop-i.invariant
