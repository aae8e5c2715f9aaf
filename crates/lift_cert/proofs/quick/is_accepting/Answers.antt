use Rattle.std.proofs.Common.{rules, ◌≡◌, ◌∙◌, ap, to_z, of_z, to_z-of_z, SFits, w64, arith}
use Rattle.lift_model.specs.Model.{ModelData}
use Rattle.corner_lift.specs.Case.{number}
use Rattle.lift_cert.specs.Miss.{IsAcceptedState}
use Rattle.lift_cert.proofs.Misses.{one_more, upper_from_states}
use Rattle.lift_cert.proofs.QuickTests.{refused, in_place, state_from_upper}
use Rattle.lift_cert.proofs.quick.is_accepting.Goals as goal

pub returns-then-not-is_state_accepted : goal.returns-then-not-is_state_accepted
returns-then-not-is_state_accepted g c =
    refused c.is_state_accepted.result (rw c.new-table.ensures at c.is_state_accepted.ensures) c.if-not-is_state_accepted.true
    (λ accepting. state_from_upper c.rows_at_corners.ensures.parameters c.args.case.now g.spans c.requires.1.0.inside.within c.args.x.now accepting.upper c.loop-state.state)

pub loop-state-preserved : goal.loop-state-preserved
loop-state-preserved g c = one_more (IsAcceptedState c.args.case.now g.spans c.args.x.now) c.loop-state.state c.loop-state.invariant
    ((rw c.new-table.ensures at c.is_state_accepted.ensures).0 c.if-not-is_state_accepted.false)

pub returns : goal.returns
returns g c =
    let k = c.args.case.now in
    let x = c.args.x.now in
    let all = rw (c.states-state-end.ensures.value, c.model-model.ensures.value) at c.loop-state-test.false in
    let fits : SFits w64 (number x c.init.result) = search rules in
    let at : to_z w64 (of_z w64 (number x c.init.result)) ≡ number x k.model.init = to_z-of_z fits ∙ ap (number x) (c.init.ensures.value ∙ ap (λ (m : ModelData). m.init) c.model-model.ensures.value) in
    in_place c.admits.result (rw (at, c.w.ensures.value) at c.admits.ensures)
    (λ limit. record {
      upper = upper_from_states c.rows_at_corners.ensures.parameters k g.spans c.requires.1.0.inside.within x c.w.ensures.case c.requires.1.1 (λ s lt. c.loop-state.invariant s (omega (arith, lt, all)));
      limit = limit;
    })
    (λ accepting. accepting.limit)
