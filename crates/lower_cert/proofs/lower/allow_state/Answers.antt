use Rattle.std.proofs.Common.{◌≡◌, ◌<◌, length, set, arith}
use Rattle.lift_model.specs.Model.{choices}
use Rattle.lift_model.specs.Links.{row_number}
use Rattle.lower_cert.specs.Lowering.{AreFlaggedBefore}
use Rattle.lower_cert.proofs.Lowering.{flagged_next, flagged_state, row_inside}
use Rattle.lower_cert.proofs.lower.allow_state.Goals as goal

pub returns-in-Some : goal.returns-in-Some
returns-in-Some g c =
    let k = c.args.rows.now.case in
    let only = c.in-Some.ensures.only in
    let row : c.row_place.result ≡ row_number k.model c.args.s 0 = c.row_place.ensures in
    let choice : 0 < length (choices k.model c.args.s) = omega (arith, only) in
    let room : row_number k.model c.args.s 0 < length c.args.allowed.now = omega (arith, row_inside k.model.states c.args.s 0 choice, c.requires.1.1.1.0) in
    let next : AreFlaggedBefore k g.spans c.args.lane.now (set c.args.allowed.now c.row_place.result c.flag.result) c.args.s 1 = rw row (flagged_next k g.spans c.args.lane.now c.args.allowed.now c.args.s 0 c.requires.1.1.1.1 c.flag.result room
    (λ e. c.in-Some.ensures.allowed.0 (c.flag.ensures.no e), λ h. c.flag.ensures.yes (c.in-Some.ensures.allowed.1 h))) in
    record { flagged = flagged_state k g.spans c.args.lane.now (set c.args.allowed.now c.row_place.result c.flag.result) c.args.s 1 next (omega (arith, only)) }
