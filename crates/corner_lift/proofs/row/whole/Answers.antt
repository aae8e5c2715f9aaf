use Rattle.std.proofs.Common.{rules, ◌≡◌, ◌∙◌, ◌<ℤ◌, pos, ap, count_ones, to_z, of_z, to_z-of_z, SFits, w64, arith}
use mir.Syntax.{w128}
use Rattle.lift_poly.proofs.Ring.{linear}
use Rattle.lift_model.specs.Process.{power}
use Rattle.lift_model.specs.Model.{ModelData, row_at, support}
use Rattle.corner_lift.specs.Corner.{parameter_count}
use Rattle.corner_lift.specs.Case.{IsCase, row_whole}
use Rattle.corner_lift.proofs.CornerBound.{mul-pos_lem}
use Rattle.corner_lift.proofs.RowBound.{power-pos}
use Rattle.corner_lift.proofs.Cases.{whole_room, number_room, admitted_row, parameters_in_root, power-size}
use Rattle.corner_lift.proofs.row.whole.Goals as goal
use Rattle.corner_lift.proofs.row.whole.Goals.{After-times_power}

pub times_power-requires-clause-room : goal.times_power-requires-clause-room
times_power-requires-clause-room c =
    let d_fits : SFits w64 c.grid.result.d = search rules in
    let common_fits : SFits w64 c.common.result = search rules in
    let k = c.args.case.now in
    let ones = ap count_ones (c.support-support.ensures ∙ ap support (c.row.ensures.value ∙ ap (λ m. row_at m c.args.s c.args.a) c.model-model.ensures.value)) ∙ parameters_in_root k c.args.s c.args.a c.model-model.ensures.case c.requires.state c.requires.choice in
    let common = c.common.ensures.value ∙ ap (λ (m : ModelData). m.common) c.model-model.ensures.value in
    rw (to_z-of_z d_fits, to_z-of_z common_fits, c.grid.ensures.d, common, ones)
    (whole_room k (row_at k.model c.args.s c.args.a) (admitted_row k c.args.s c.args.a c.model-model.ensures.case c.requires.state c.requires.choice))

value_is : (c : After-times_power) → to_z w128 (of_z w128 c.times_power.result) ≡ row_whole c.args.case.now c.args.s c.args.a
value_is c =
    let d_fits : SFits w64 c.grid.result.d = search rules in
    let common_fits : SFits w64 c.common.result = search rules in
    let fits : SFits w128 c.times_power.result = search rules in
    let ones = ap count_ones (c.support-support.ensures ∙ ap support (c.row.ensures.value ∙ ap (λ m. row_at m c.args.s c.args.a) c.model-model.ensures.value)) ∙ parameters_in_root c.args.case.now c.args.s c.args.a c.model-model.ensures.case c.requires.state c.requires.choice in
    let common = c.common.ensures.value ∙ ap (λ (m : ModelData). m.common) c.model-model.ensures.value in
    to_z-of_z fits ∙ rw (c.grid.ensures.d, common, ones) at (simp to_z-of_z at c.times_power.ensures)

pub returns-clause-value : goal.returns-clause-value
returns-clause-value c = value_is c

pub returns-clause-positive : goal.returns-clause-positive
returns-clause-positive c =
    let k = c.args.case.now in
    let is : IsCase k = c.model-model.ensures.case in
    let common : pos 0 <ℤ k.model.common = omega (arith, linear, is.asked.model.denominator.0) in
    let n = parameter_count k.root (support (row_at k.model c.args.s c.args.a)) in
    rw (value_is c) (omega (arith, linear, mul-pos_lem k.model.common (power k.d n) common (power-pos k.d n is.asked.grid.positive)))

pub returns-clause-size : goal.returns-clause-size
returns-clause-size c =
    let k = c.args.case.now in
    let n = parameter_count k.root (support (row_at k.model c.args.s c.args.a)) in
    rw (value_is c, power-size k.model.common k.d n)
    (whole_room k (row_at k.model c.args.s c.args.a) (admitted_row k c.args.s c.args.a c.model-model.ensures.case c.requires.state c.requires.choice))

pub returns-clause-room : goal.returns-clause-room
returns-clause-room c =
    let k = c.args.case.now in
    let row = row_at k.model c.args.s c.args.a in
    let admitted = admitted_row k c.args.s c.args.a c.model-model.ensures.case c.requires.state c.requires.choice in
    λ n le. rw (value_is c) (number_room k row n le admitted)
