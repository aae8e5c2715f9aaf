-- The case of a collapsed model is one: each of its rows is a row of the whole model with its targets at their places.
use Rattle.std.proofs.Common.{◌*◌, ◌^◌, ◌<◌, ◌≤◌, List, [], length, get_or, All, pos, ◌≤ℤ◌, sym, ap, subst, ◌∙◌, arith}
use Rattle.std.proofs.lemmas.List.{get_or_default}
use Rattle.lift_poly.specs.Polynomial.{weight}
use Rattle.lift_grid.specs.Rectangle.{IsOnGrid}
use Rattle.lift_model.specs.declared.entry.Entry.{Entry}
use Rattle.lift_model.specs.Model.{support, choices, row_at}
use Rattle.corner_lift.specs.Case.{CaseData, abs_sum, IsAdmittedRow, due, engine_limit, greatest_size, most_row_parameters}
use Rattle.corner_lift.specs.Corner.{corner, parameter_count}
use Rattle.lift_collapse.specs.Collapse.{CollapseData, IsCollapse, placed_row, collapsed}
use Rattle.lift_collapse.specs.Laws.{CollapsedIsCase}
use Rattle.lift_collapse.proofs.Rows.{support-placed, coefficient-placed, abs_sum-placed, weights-placed, corners_to}
use Rattle.lift_collapse.proofs.Kept.{choices_kept, row_kept}

module _ (k : CaseData) (c : CollapseData) (is : IsCollapse k.model c) where
  placed_is_admitted : (row : List Entry) → IsAdmittedRow k row → IsAdmittedRow (collapsed k c) (placed_row c row)
  placed_is_admitted row h =
      let same = support-placed c row in
      record {
        sum = λ set. coefficient-placed c set row ∙ h.sum set ∙ sym (ap (λ common. due common set) is.common);
        few = subst (λ set. parameter_count k.root set ≤ most_row_parameters) (sym same) h.few;
        narrow =
            subst (λ set. abs_sum (placed_row c row) * greatest_size k.d k.root ^ parameter_count k.root set * 2 ^ k.w < engine_limit) (sym same)
            (subst (λ n. n * greatest_size k.d k.root ^ parameter_count k.root (support row) * 2 ^ k.w < engine_limit) (sym (abs_sum-placed c row)) h.narrow);
        least =
            corners_to c (λ i. All (λ (entry : Entry). pos 0 ≤ℤ weight (corner k.d k.root (support (placed_row c row)) i) entry.poly) (placed_row c row)) k.root row
            (λ i lt. subst (λ set. All (λ (entry : Entry). pos 0 ≤ℤ weight (corner k.d k.root set i) entry.poly) (placed_row c row)) (sym same) (weights-placed c (corner k.d k.root (support row) i) row (h.least i lt)));
      }

pub collapsed_is_case : CollapsedIsCase
collapsed_is_case k c case is = record {
  asked = record {
    model = is.model;
    spans = case.asked.spans;
    grid = subst (λ names. IsOnGrid k.d k.depth (length names) k.root) (sym is.names) case.asked.grid;
    depth = case.asked.depth;
    precision = case.asked.precision;
  };
  admitted =
      λ i d lt a e there.
      let same = get_or_default c.model.states i d [] lt in
      let inside : a < length (choices k.model (is.kept i)) = omega (arith, there, ap (λ rows. length rows) same, choices_kept k.model c is i lt) in
      let state = (is.keeps i lt).inside in
      subst (IsAdmittedRow (collapsed k c)) (sym (ap (λ rows. get_or rows a e) same ∙ row_kept k.model c is i lt a e inside))
      (placed_is_admitted k c is (row_at k.model (is.kept i) a) (case.admitted (is.kept i) [] state a [] inside));
}
