use Rattle.std.proofs.Common.{◌∙◌, arith, rules, SFits, w64, to_z-of_z}
use Rattle.lower_cert.proofs.Lowering.{start_high}
use Rattle.lower_cert.proofs.lower.start.Goals as goal

pub returns : goal.returns
returns g c =
    let fits : SFits w64 c.top-top.result = search rules in
    start_high c.rows_at_corners.ensures.numbers c.args.rows.now.case g.spans c.loop-s.lane c.w.ensures.case (omega (arith, c.loop-s.auto.lane, c.requires))
    (λ t lt. c.loop-s.invariant t (omega (arith, lt, c.loop-s-test.false, c.loop-s.auto.lane)) ∙ (to_z-of_z fits ∙ c.top-top.ensures))
