use Rattle.std.proofs.Common.{rules, ◌≡◌, ◌∙◌, ap, to_z, of_z, to_z-of_z, SFits, w64, arith}
use Rattle.lift_model.specs.Model.{ModelData}
use Rattle.corner_lift.specs.Case.{number}
use Rattle.lift_cert.specs.RejectMiss.{IsHeldState}
use Rattle.lift_cert.proofs.Misses.{one_more}
use Rattle.lift_cert.proofs.RejectMisses.{lower_from_states, state_from_lower}
use Rattle.lift_cert.proofs.QuickTests.{refused, in_place, not_within}
use Rattle.lift_cert.proofs.quick.is_rejecting.Goals as goal

pub loop-state-preserved : goal.loop-state-preserved
loop-state-preserved g c = one_more (IsHeldState c.args.case.now g.spans c.args.r.now) c.loop-state.state c.loop-state.invariant
    ((rw c.new-table.ensures at c.is_state_held.ensures).0 c.if-not-is_state_held.false)

pub returns-then-not-is_state_held : goal.returns-then-not-is_state_held
returns-then-not-is_state_held g c =
    refused c.is_state_held.result (rw c.new-table.ensures at c.is_state_held.ensures) c.if-not-is_state_held.true
    (λ rejecting. state_from_lower c.rows_at_corners.ensures.parameters c.args.case.now g.spans c.requires.1.0.inside.within c.args.r.now
    rejecting.holds c.loop-state.state)

pub returns : goal.returns
returns g c =
    let k = c.args.case.now in
    let r = c.args.r.now in
    let all = rw (c.states-state-end.ensures.value, c.model-model.ensures.value) at c.loop-state-test.false in
    let fits : SFits w64 c.number.result = search rules in
    let at : to_z w64 (of_z w64 c.number.result) ≡ number r.numbers k.model.init = to_z-of_z fits ∙ c.number.ensures ∙ ap (number r.numbers) (c.init.ensures.value ∙ ap (λ (m : ModelData). m.init) c.model-model.ensures.value) in
    let test = rw (at, c.w.ensures.value) at c.admits.ensures in
    in_place _ (not_within c.args.bound k.w (number r.numbers k.model.init) c.admits.result test)
    (λ limit. record {
      holds = lower_from_states c.rows_at_corners.ensures.parameters k g.spans c.requires.1.0.inside.within r c.w.ensures.case
          c.requires.1.1 (λ s lt. c.loop-state.invariant s (omega (arith, lt, all)));
      limit = limit;
    })
    (λ rejecting. rejecting.limit)
