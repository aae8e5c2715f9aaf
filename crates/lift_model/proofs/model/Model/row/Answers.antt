use Rattle.std.proofs.Common.{◌≡◌, ℕ, ◌<◌, List, [], length, map, get_or, All, subst, ap, sym, ◌∙◌}
use Rattle.std.proofs.Math.ListN.{get_or-map}
use Rattle.std.proofs.lemmas.List.{get_or_default}
use Rattle.lift_model.specs.declared.entry.Entry.{Entry}
use Rattle.lift_model.specs.Valid.{IsRow}
use Rattle.lift_model.proofs.model.Model.row.Goals as goal

-- what holds of each row of each state holds of this one
valid_at : {V : Type 0} (items : V → List (List Entry)) (states : List V) (v : V) (row : List Entry) (n p s a : ℕ) → v ≡ get_or states s v → row ≡ get_or (items v) a row
    → s < length (map items states) → a < length (get_or (map items states) s []) → All (All (IsRow n p)) (map items states) → IsRow n p row
valid_at items states v row n p s a v_is row_is state choice rows =
    let here : get_or (map items states) s (items v) ≡ items v = get_or-map items states s v ∙ sym (ap items v_is) in
    let all : All (IsRow n p) (items v) = subst (All (IsRow n p)) here (rows s (items v) state) in
    let lt : a < length (items v) = subst (λ x. a < length x) (get_or_default (map items states) s [] (items v) state ∙ here) choice in
    subst (IsRow n p) (sym row_is) (all a row lt)

pub returns-clause-valid : goal.returns-clause-valid
returns-clause-valid c =
    rw (← c.self.view_is)
    (valid_at (λ v. v.items) c.self.inside.states.items c.index.result.now c.index-2.result.now _ _ c.args.s c.args.a c.index.ensures c.index-2.ensures
    (rw (← c.self.view_is) at c.requires.state) (rw (← c.self.view_is) at c.requires.choice) c.self.invariant.0.rows)
