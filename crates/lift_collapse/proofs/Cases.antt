-- The case of a collapsed model, as the code makes it.
use Rattle.std.proofs.Common.{◌≡◌, ℕ, ℤ, List, ◌++◌, take, length, ap, ◌∙◌, sym, subst}
use Rattle.std.proofs.Math.Seq.{take-append_seam}
use Rattle.lift_grid.specs.Parts.{region_of}
use Rattle.lift_grid.specs.Rectangle.{Spans}
use Rattle.lift_grid.specs.declared.rect.Grid.{Grid}
use Rattle.lift_model.specs.Model.{ModelData}
use Rattle.corner_lift.specs.Case.{CaseData, IsCase, case_of}
use Rattle.lift_collapse.specs.Collapse.{CollapseData, collapsed}

pub same_case : (k : CaseData) (c : CollapseData) (m : ModelData) (grid : Grid) (root : Spans) (w : ℕ) → m ≡ c.model → root ≡ k.root → grid.d ≡ k.d → grid.depth ≡ k.depth → w ≡ k.w → case_of m (region_of (grid, root)) w ≡ collapsed k c
same_case k c m grid root w model_is root_is d_is depth_is w_is =
    ap (λ (x : ModelData). case_of x (region_of (grid, root)) w) model_is
    ∙ ap (λ (x : Spans). case_of c.model (region_of (grid, x)) w) root_is
    ∙ ap (λ (x : ℕ). record { model = c.model; root = k.root; d = grid.d; depth = x; w = w }) depth_is
    ∙ ap (λ x. record { model = c.model; root = k.root; d = x; depth = k.depth; w = w }) d_is
    ∙ ap (λ (x : ℕ). record { model = c.model; root = k.root; d = k.d; depth = k.depth; w = x }) w_is

pub case_with : (k : CaseData) (c : CollapseData) (m : ModelData) → m ≡ c.model → IsCase (collapsed k c) → IsCase (record k { model = m })
case_with k c m model_is is = subst (λ (x : ModelData). let j : CaseData = record k { model = x } in IsCase j) (sym model_is) is

-- a list that was written over whole
pub written_over : (n : ℕ) (new rest : List ℤ) → length new ≡ n → take n (new ++ rest) ≡ new
written_over n new rest size = subst (λ m. take m (new ++ rest) ≡ new) size (take-append_seam new rest)
