use Rattle.std.proofs.Common.{◌≡◌, ℕ, ◌<◌, ◌≤◌, List, length, map, get_or, Vec, Global, sum_by, ap, arith}
use Rattle.std.proofs.lemmas.List.{get_or-map, length-map}
use Rattle.std.proofs.lemmas.List.Sums.{get_or-le-sum_by}
use Rattle.lift_model.specs.declared.row.Row.{Row}
use Rattle.lift_model.specs.declared.entry.Entry.{Entry}
use Rattle.lift_model.specs.Model.{ModelData}
use Rattle.lift_model.proofs.model.Model.choices.Goals as goal

-- no state has more choices than the model
few : (vectors : List (Vec Row Global)) (v : Vec Row Global) (s : ℕ) → s < length vectors → v ≡ get_or vectors s v → sum_by length (map (λ w. w.items) vectors) ≤ 131072 → length v.items ≤ 131072
few vectors v s lt is most =
    let rows : Vec Row Global → List (List Entry) = λ w. w.items in
    omega (arith, most, ap (λ w. length (rows w)) is, ap length (get_or-map rows vectors s v (rows v) lt), get_or-le-sum_by length (map rows vectors) s (rows v) (omega (arith, length-map vectors rows)))

pub overflow_cast-result : goal.overflow_cast-result
overflow_cast-result c =
    let vectors = c.self.inside.states.items in
    let rows : Vec Row Global → List (List Entry) = λ w. w.items in
    let state = ap (λ (m : ModelData). length m.states) c.self.view_is in
    let small = few vectors c.index.result.now c.args.s (omega (arith, c.requires, state, length-map vectors rows)) c.index.ensures c.self.invariant.0.choices in
    record { fits = omega (arith, small, c.len.ensures) }
