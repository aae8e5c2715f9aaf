use Rattle.std.proofs.Common.{rules, ◌^◌, ◌≤◌, pow_mono, pos, ◌-ℤ◌, ◌<ℤ◌, SFits, w64, to_z, of_z, to_z-of_z, arith}
use Rattle.lift_poly.proofs.Ring.{linear, le_from_test}
use Rattle.lower_cert.proofs.Exits.{lt_from_test}
use Rattle.lower_cert.proofs.Settling.{level_none, no_goals, less_fits}
use Rattle.lower_cert.proofs.descent.Descent.lower_once.Goals as goal

pub returns-then-level-le0-clause-settled : goal.returns-then-level-le0-clause-settled
returns-then-level-le0-clause-settled g c =
    let fits : SFits w64 c.stuck_level-level.result = search rules in
    λ none above. record {
      ranked = c.rank_states.ensures;
      none = level_none c.args.lane.now c.rank_states.new.ranks c.stuck_level-level.result c.stuck_level-level.ensures (rw (to_z-of_z fits) at (le_from_test (to_z w64 (of_z w64 c.stuck_level-level.result)) (pos 0) c.if-level-le0.true));
    }

pub lower_to_exit-requires : goal.lower_to_exit-requires
lower_to_exit-requires g c =
    let v = c.stuck_level-level.result in
    let fits : SFits w64 v = search rules in
    let positive : pos 0 <ℤ v = rw (to_z-of_z fits) at (lt_from_test (to_z w64 (of_z w64 v)) (pos 0) c.if-level-le0.false) in
    let at = c.stuck_level-level.ensures.attained positive in
    let range = c.rows_at_corners.ensures.numbers c.args.self.now.rows.now.case c.args.lane.now at.0 c.requires.1.0.numbers in
    let small : 2 ^ c.args.self.now.rows.now.case.w ≤ 2 ^ 40 = pow_mono c.w.ensures.case.asked.precision.1 in
    let less : SFits w64 (v -ℤ pos 1) = less_fits v positive (omega (arith, linear, range.1, at.1.2, small)) in
    rw (to_z-of_z fits, to_z-of_z less)
    (c.requires.0, (c.lower_level.ensures.high, ((c.rank_states.ensures.sizes, ((λ s free. no_goals c.args.self.now.rows.now.case g.spans c.args.lane.now c.rank_states.new.picks c.rank_states.new.ranks c.rank_states.ensures s free), (omega (arith, linear, positive), omega (arith, linear, range.1, at.1.2)))))))
