use Rattle.std.proofs.Common.{rules, ◌^◌, ◌≤◌, ◌∙◌, ◌*ℤ◌, ap₂, SFits, w64, to_z-of_z, unsigned_abs, arith}
use mir.Syntax.{w128}
use Rattle.std.proofs.lemmas.Int.{ints}
use Rattle.corner_lift.specs.Case.{number}
use Rattle.lower_cert.proofs.Beginning.{closed_of}
use Rattle.lower_cert.proofs.raise.is_closed_choice.Goals as goal

pub times-requires : goal.times-requires
times-requires g c =
    let n_fits : SFits w64 (number c.args.lane.now c.args.s) = search rules in
    let w_fits : SFits w128 c.table_least-sum.result.whole = search rules in
    let range = c.rows_at_corners.ensures.numbers c.args.rows.now.case c.args.lane.now c.args.s c.requires.0.numbers in
    let size : unsigned_abs (number c.args.lane.now c.args.s) ≤ 2 ^ c.args.rows.now.case.w = omega (arith, ints, range.0, range.1) in
    record { room = rw (to_z-of_z n_fits, to_z-of_z w_fits) (c.table_least-sum.ensures.whole.room _ size) }

pub returns : goal.returns
returns g c =
    let number_fits : SFits w64 (number c.args.lane.now c.args.s) = search rules in
    let whole_fits : SFits w128 c.table_least-sum.result.whole = search rules in
    let least_fits : SFits w128 c.table_least-sum.result.sum = search rules in
    let product_fits : SFits w128 c.times.result = search rules in
    let product = to_z-of_z product_fits ∙ c.times.ensures ∙ ap₂ ◌*ℤ◌ (to_z-of_z number_fits) (to_z-of_z whole_fits ∙ c.table_least-sum.ensures.whole.value) in
    let test = rw (to_z-of_z least_fits, product) at c.is_at_most.ensures in
    λ e. closed_of c.rows_at_corners.ensures.parameters c.args.rows.now.case g.spans c.args.lane.now c.args.s c.args.a c.table_least-sum.result.sum c.requires.0.table.inside c.table_least-sum.ensures.least (test.0 e)
