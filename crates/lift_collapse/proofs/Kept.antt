-- A state of the collapsed model has the choices of the state that it keeps, with each target at its place.
use Rattle.std.proofs.Common.{◌≡◌, ℕ, ◌<◌, List, [], length, get_or, ap, ◌∙◌}
use Rattle.std.proofs.lemmas.List.{get_or-map, length-map}
use Rattle.lift_model.specs.declared.entry.Entry.{Entry}
use Rattle.lift_model.specs.Model.{ModelData, choices, row_at}
use Rattle.lift_collapse.specs.Collapse.{CollapseData, IsCollapse, placed_row}

module _ (m : ModelData) (c : CollapseData) (is : IsCollapse m c) (i : ℕ) (state : i < length c.model.states) where
  pub choices_kept : length (choices c.model i) ≡ length (choices m (is.kept i))
  choices_kept = ap (λ rows. length rows) (is.keeps i state).choices ∙ length-map (choices m (is.kept i)) (placed_row c)

  pub row_kept : (a : ℕ) (d : List Entry) → a < length (choices m (is.kept i)) → get_or (choices c.model i) a d ≡ placed_row c (row_at m (is.kept i) a)
  row_kept a d lt = ap (λ rows. get_or rows a d) (is.keeps i state).choices ∙ get_or-map (placed_row c) (choices m (is.kept i)) a [] d lt
