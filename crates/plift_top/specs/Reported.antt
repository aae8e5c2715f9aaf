-- What an answer to a case is, whatever is asked of the case: the text of its right tree, and what the leaves of that tree say.
use Rattle.std.specs.Prelude.{⊤, ℕ, List, All, map}
use Rattle.std.specs.declared.option.Option.{Option}
use Rattle.std.specs.Io.KnownBytes.{Appends}
use Rattle.lift_base.specs.Outside.{AppendsFront}
use Rattle.lift_grid.specs.Rectangle.{Spans}
use Rattle.lift_grid.specs.Tree.{Tree, Leaf, Tiles, leaves}
use Rattle.corner_lift.specs.Case.{CaseData, IsCase}
use Rattle.lift_cert.specs.declared.bound.Bound.{Bound}
use Rattle.lift_rows.specs.Admitted.{HasWeightsFromZero, HasSumsOfTotal}
use Rattle.lift_walk.specs.Halved.{Halved}
use Rattle.region_tree.specs.Right.{IsRightTree}
use Rattle.cert_text.specs.Report.{report_text}
use Rattle.cert_check.specs.Trust.{LeafHolds}
use Rattle.plift_top.specs.Parts.{Part, parts}
use Rattle.plift_top.specs.RightReport.{IsRange, least}

-- What is asked of a case gives the trees and their leaves, what the case has to fit, which trees are right, the leaves of a tree with the rectangle of each and what it says, and the text of a tree.
pub record CaseQuestion : Type 1 where
  pub Trees : Type 0
  pub Leaves : Type 0
  pub Fits : Type 0
  pub IsRight : Trees → Type 0
  pub leaves_of : Trees → List Leaves
  pub spans_of : Leaves → Spans
  pub Holds : Leaves → Type 0
  pub text_of : Trees → List ℕ

-- The text of a case for what is asked was appended, whole: that of its right tree. The tree's leaves tile the root, and what each says holds. At each valuation inside the root each row of the case is a distribution.
pub record IsReported (old new : Option (List ℕ)) (k : CaseData) (q : CaseQuestion) : Type 0 where
  pub tree : q.Trees
  pub fits : q.Fits
  pub case : IsCase k
  pub weights : HasWeightsFromZero k
  pub sums : HasSumsOfTotal k
  pub right : q.IsRight tree
  pub tiles : Tiles k.d k.root (map q.spans_of (q.leaves_of tree))
  pub schedulers : All q.Holds (q.leaves_of tree)
  pub text : Appends old new (q.text_of tree)

-- A front of that text was appended: whichever tree is right, a front of its text.
pub record IsCutOff (old new : Option (List ℕ)) (k : CaseData) (q : CaseQuestion) : Type 0 where
  pub fits : q.Fits
  pub case : IsCase k
  pub weights : HasWeightsFromZero k
  pub sums : HasSumsOfTotal k
  pub front : (tree : q.Trees) → q.IsRight tree → AppendsFront old new (q.text_of tree)

-- Asked for a bound on any number of steps: the report of the tree that is right for the range of precisions from the one that is told, or for the case's own alone. What a leaf says holds everywhere inside its rectangle.
abbrev pub whole_question : CaseData → Option ℕ → Bound → CaseQuestion
whole_question k from bound = record {
  Trees = Tree;
  Leaves = Leaf;
  Fits = IsRange k from;
  IsRight = λ tree. IsRightTree k (least k from) bound tree;
  leaves_of = λ tree. leaves k.root 0 tree;
  spans_of = λ leaf. leaf.spans;
  Holds = λ leaf. LeafHolds k bound leaf;
  text_of = λ tree. report_text k from bound tree;
}

-- Asked for trees of halved rectangles with leaves of one kind.
abbrev pub halved_question : {L : Type 0} → CaseData → (Halved L → Type 0) → (Part L → Type 0) → (Halved L → List ℕ) → CaseQuestion
halved_question {L} k right holds text = record {
  Trees = Halved L;
  Leaves = Part L;
  Fits = ⊤;
  IsRight = right;
  leaves_of = λ tree. parts k.root tree;
  spans_of = λ part. part.spans;
  Holds = holds;
  text_of = text;
}
