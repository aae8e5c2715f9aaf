use Rattle.std.proofs.Common.{◌≡◌, ◌<◌, ◌≤◌, length, arith}
use Rattle.lift_model.specs.Model.{choices}
use Rattle.lift_model.specs.Links.{row_number}
use Rattle.lower_cert.proofs.Lowering.{flagged_next, flagged_state, row_inside}
use Rattle.lower_cert.proofs.lower.allow_choices.Goals as goal

pub loop-a-preserved : goal.loop-a-preserved
loop-a-preserved g c =
    let k = c.args.rows.now.case in
    let row : c.row_place-row.result ≡ row_number k.model c.args.s c.loop-a.a = c.row_place-row.ensures in
    let choice : c.loop-a.a < length (choices k.model c.args.s) = omega (arith, c.loop-a-test.true, c.choice_count-a-end.ensures) in
    let room : row_number k.model c.args.s c.loop-a.a < length c.loop-a.allowed = omega (arith, row_inside k.model.states c.args.s c.loop-a.a choice, c.loop-a.auto.allowed, c.requires.1.1.1.0) in
    rw row (flagged_next k g.spans c.args.lane.now c.loop-a.allowed c.args.s c.loop-a.a c.loop-a.invariant c.flag.result room
    (λ e. c.is_allowed.ensures.0 (c.flag.ensures.no e), λ h. c.flag.ensures.yes (c.is_allowed.ensures.1 h)))

pub returns : goal.returns
returns g c =
    let all : length (choices c.args.rows.now.case.model c.args.s) ≤ c.loop-a.a = omega (arith, c.loop-a-test.false, c.choice_count-a-end.ensures) in
    record { flagged = flagged_state c.args.rows.now.case g.spans c.args.lane.now c.loop-a.allowed c.args.s c.loop-a.a c.loop-a.invariant all }
