use Rattle.std.proofs.Common.{rules, ◌≡◌, ◌<◌, ◌≤◌, true, List, length, map, get_or, sum_by, All, Contains, FitsSigned, to_z-of_z, subst, refl}
use mir.Syntax.{w64}
use Rattle.lift_model.specs.Valid.{most_choices, most_transitions}
use Rattle.lift_collapse.specs.Building.{HasTargets}
use Rattle.lift_collapse.proofs.Models.{built_is_model, parts_of}
use Rattle.lift_collapse.proofs.build.build.Goals as goal

pub new-requires : goal.new-requires
new-requires c =
    let m = c.args.model.now in
    let places = c.args.places.now in
    let kept = c.args.kept.now in
    let states = c.in_ok-states.states.items in
    let fits : FitsSigned w64 c.common.result = search rules in
    let few : length kept ≤ length m.states = search rules in
    let below : All (λ s. s < length m.states) kept = subst (λ n. All (λ s. s < n) kept) c.states-count.ensures.value (c.if-not-are_below.ensures refl) in
    let init : get_or places m.init 0 < length kept = search rules in
    let some : Contains c.in_ok-goal.goal.items true = search rules in
    let can : c.in_ok-can_be_built.field-0 ≡ true = search rules in
    let rows = subst (λ (list : List _). All (All (HasTargets (length list))) (map (λ v. v.items) list)) c.deref-else-not-has_mark.ensures.value (c.in_ok-can_be_built.ensures.rows can) in
    let choices = subst (λ (list : List _). sum_by length (map (λ v. v.items) list) ≤ most_choices) c.deref-else-not-has_mark.ensures.value (c.in_ok-can_be_built.ensures.choices can) in
    let transitions = subst (λ (list : List _). sum_by (sum_by length) (map (λ v. v.items) list) ≤ most_transitions) c.deref-else-not-has_mark.ensures.value (c.in_ok-can_be_built.ensures.transitions can) in
    let parts = parts_of (λ v. v.items) m places kept states c.in_ok-goal.goal.items c.in_ok-states.ensures c.in_ok-goal.ensures few below init some rows choices transitions in
    rw (c.kind.ensures, to_z-of_z fits, c.common.ensures.value, c.in_ok-names.ensures, c.names.ensures.value, c.in_ok-goal.ensures, c.number_at-init.ensures, c.init.ensures.value, c.in_ok-states.ensures) (built_is_model m places kept c.states-count.ensures.model parts)
