use Rattle.std.proofs.Common.{rules, ◌∙◌, ◌<ℤ◌, ◌-ℤ◌, ◌*ℤ◌, inr, ap₂, to_z, of_z, to_z-of_z, SFits, w64, arith}
use mir.Syntax.{w128}
use Rattle.lift_poly.proofs.Ring.{linear, mul-nonneg, mul-comm}
use Rattle.lower_cert.proofs.Exits.{exit_room, lt_from_test}
use Rattle.lower_cert.proofs.sweep.exit.Goals as goal

pub without-requires : goal.without-requires
without-requires c =
    let s_is = to_z-of_z c.ranges.sum in
    let n_is = to_z-of_z c.ranges.number in
    let i_is = to_z-of_z c.ranges.into in
    let q_fits : SFits w128 c.times-2.result = search rules in
    let q_is = to_z-of_z q_fits ∙ c.times-2.ensures ∙ ap₂ ◌*ℤ◌ n_is i_is in
    rw (s_is, q_is) (mul-nonneg c.args.number c.args.into c.requires.number.0 c.requires.into.0, c.requires.sum)

pub rounded_down-requires-clause-sum : goal.rounded_down-requires-clause-sum
rounded_down-requires-clause-sum c =
    let s_is = to_z-of_z c.ranges.sum in
    let n_is = to_z-of_z c.ranges.number in
    let i_is = to_z-of_z c.ranges.into in
    let q_fits : SFits w128 c.times-2.result = search rules in
    let q_is = to_z-of_z q_fits ∙ c.times-2.ensures ∙ ap₂ ◌*ℤ◌ n_is i_is in
    let r_fits : SFits w128 c.without.result = search rules in
    let r_is = to_z-of_z r_fits ∙ c.without.ensures ∙ ap₂ ◌-ℤ◌ s_is q_is in
    rw r_is (omega (arith, linear, c.requires.sum))

pub rounded_down-requires-clause-whole : goal.rounded_down-requires-clause-whole
rounded_down-requires-clause-whole c =
    let w_is = to_z-of_z c.ranges.whole in
    let i_is = to_z-of_z c.ranges.into in
    let l_fits : SFits w128 c.without-2.result = search rules in
    let l_is = to_z-of_z l_fits ∙ c.without-2.ensures ∙ ap₂ ◌-ℤ◌ w_is i_is in
    let less : c.args.into <ℤ c.args.whole = omega (arith, linear, lt_from_test (to_z w128 (of_z w128 c.args.whole)) (to_z w128 (of_z w128 c.args.into)) c.if-whole-into.false, w_is, i_is) in
    rw l_is (omega (arith, linear, less))

pub rounded_down-requires-clause-most : goal.rounded_down-requires-clause-most
rounded_down-requires-clause-most c =
    let s_is = to_z-of_z c.ranges.sum in
    let n_is = to_z-of_z c.ranges.number in
    let i_is = to_z-of_z c.ranges.into in
    let w_is = to_z-of_z c.ranges.whole in
    let p_fits : SFits w128 c.times.result = search rules in
    let p_is = to_z-of_z p_fits ∙ c.times.ensures ∙ ap₂ ◌*ℤ◌ n_is w_is in
    let q_fits : SFits w128 c.times-2.result = search rules in
    let q_is = to_z-of_z q_fits ∙ c.times-2.ensures ∙ ap₂ ◌*ℤ◌ n_is i_is in
    let r_fits : SFits w128 c.without.result = search rules in
    let r_is = to_z-of_z r_fits ∙ c.without.ensures ∙ ap₂ ◌-ℤ◌ s_is q_is in
    let l_fits : SFits w128 c.without-2.result = search rules in
    let l_is = to_z-of_z l_fits ∙ c.without-2.ensures ∙ ap₂ ◌-ℤ◌ w_is i_is in
    let less : c.args.into <ℤ c.args.whole = omega (arith, linear, lt_from_test (to_z w128 (of_z w128 c.args.whole)) (to_z w128 (of_z w128 c.args.into)) c.if-whole-into.false, w_is, i_is) in
    let short : c.args.sum <ℤ (c.args.number *ℤ c.args.whole) = omega (arith, linear, lt_from_test (to_z w128 (of_z w128 c.times.result)) (to_z w128 (of_z w128 c.args.sum)) c.if-times-sum.false, s_is, p_is) in
    rw (r_is, l_is) (exit_room c.args.number c.args.sum c.args.into c.args.whole c.requires.number.1 less short)

pub returns-clause-exit : goal.returns-clause-exit
returns-clause-exit c =
    let s_is = to_z-of_z c.ranges.sum in
    let n_is = to_z-of_z c.ranges.number in
    let i_is = to_z-of_z c.ranges.into in
    let w_is = to_z-of_z c.ranges.whole in
    let q_fits : SFits w128 c.times-2.result = search rules in
    let q_is = to_z-of_z q_fits ∙ c.times-2.ensures ∙ ap₂ ◌*ℤ◌ n_is i_is in
    let r_fits : SFits w128 c.without.result = search rules in
    let r_is = to_z-of_z r_fits ∙ c.without.ensures ∙ ap₂ ◌-ℤ◌ s_is q_is in
    let l_fits : SFits w128 c.without-2.result = search rules in
    let l_is = to_z-of_z l_fits ∙ c.without-2.ensures ∙ ap₂ ◌-ℤ◌ w_is i_is in
    λ low.
    let fits : SFits w64 c.rounded_down.result = search rules in
    let below = rw (r_is, l_is) at c.rounded_down.ensures.quotient.1 in
    rw (to_z-of_z fits) (inr (omega (arith, linear, below, mul-comm c.args.number c.args.into)))
