-- What holds of the reports that are written, for who reasons about them.
use Rattle.std.specs.Prelude.{◌≡◌, ◌≤◌, ℕ, List, None, Ok}
use Rattle.std.specs.declared.option.Option.{Option}
use Rattle.lift_grid.specs.Region.{Region}
use Rattle.lift_grid.specs.Tree.{Tree}
use Rattle.lift_model.specs.Model.{ModelData}
use Rattle.corner_lift.specs.Case.{CaseData, IsCase, case_of}
use Rattle.lift_cert.specs.declared.bound.Bound.{Bound}
use Rattle.region_tree.specs.Right.{IsRightTree}
use Rattle.drn_read.specs.Reading.{drn}
use Rattle.model_gen.specs.Ladder.{most_blocks}
use Rattle.cert_text.specs.Report.{report_text}
use Rattle.cert_text.specs.Forms.{IsReportedBound}
use Rattle.cert_text.specs.Head.{HeadData}
use Rattle.cert_check.specs.Sound.{IsSound, IsSoundFile, leaf_counts}
use Rattle.lift_lump.specs.LumpedData.{LumpedData}
use Rattle.lift_lump.specs.Lumped.{IsLumped}
use Rattle.plift_top.specs.RightReport.{IsRange, least, version_of}
use Rattle.plift_top.specs.Lumped.{lumped_case}
use Rattle.plift_top.specs.Refine.{IsRefinedTree, RefinesTree, deeper_head}
use Rattle.plift_top.specs.Selftest.{IsLadderTree}

-- where a case is of a model that a text stands for, the report of its right tree is a sound file with that tree's leaves, of the second version where a range of precisions is told
abbrev pub RightReportsAreSound : Type 0
RightReportsAreSound = (text label : List ℕ) (m : ModelData) (root : Region) (w : ℕ) (from : Option ℕ) (bound : Bound) (tree : Tree) → drn text label ≡ Ok m → IsCase (case_of m root w) → IsRange (case_of m root w) from → IsReportedBound bound
    → IsRightTree (case_of m root w) (least (case_of m root w) from) bound tree → IsSoundFile (report_text (case_of m root w) from bound tree) (leaf_counts (version_of from) tree)

-- the same of the quotient of a chain that a text stands for
abbrev pub LumpedReportsAreSound : Type 0
LumpedReportsAreSound = (text label : List ℕ) (k : CaseData) (l : LumpedData) (bound : Bound) (tree : Tree) → drn text label ≡ Ok k.model → IsLumped k.model l → IsCase (lumped_case k l) → IsReportedBound bound
    → IsRightTree (lumped_case k l) k.w bound tree → IsSoundFile (report_text (lumped_case k l) None bound tree) (leaf_counts 1 tree)

-- where a report is sound, and its case is one at a greater depth, a tree that refines its tree there makes a sound report, which is the right one where the old one is
abbrev pub RefinedReportsAreSound : Type 0
RefinedReportsAreSound = (depth : ℕ) (h : HeadData) (t refined : Tree) → IsSound h t → h.asked.depth ≤ depth → IsCase (deeper_head depth h).asked → RefinesTree depth h t refined → IsRefinedTree depth h t refined

-- each ladder that can be asked for has a right tree
abbrev pub LaddersHaveTrees : Type 0
LaddersHaveTrees = (n : ℕ) → 1 ≤ n → n ≤ most_blocks → (tree : Tree) × IsLadderTree n tree
