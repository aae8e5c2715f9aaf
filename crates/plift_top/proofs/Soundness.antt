-- Why what is written is a sound file: its head can be told, and its right tree is sound and can be told.
use Rattle.std.proofs.Common.{ℕ, ◌+◌, List, ◌≤◌, All, refl, sym, subst, arith}
use Rattle.std.specs.Prelude.{None}
use Rattle.std.specs.declared.option.Option.{Option}
use Rattle.lift_grid.specs.Rectangle.{Spans}
use Rattle.lift_grid.specs.Tree.{Tree, lower_half, upper_half}
use Rattle.lift_grid.specs.Tree.Tree.{accept, reject, unknown, split}
use Rattle.lift_model.specs.declared.entry.Entry.{Entry}
use Rattle.lift_model.specs.Model.{ModelData}
use Rattle.corner_lift.specs.Case.{CaseData, IsCase, at, case_of}
use Rattle.corner_lift.specs.Laws.{LowerPrecisionIsCase}
use Rattle.lift_cert.specs.declared.bound.Bound.{Bound}
use Rattle.lower_cert.specs.AnyRanks.{HeightFits}
use Rattle.lift_lump.specs.Laws.{HasFewTerms, CasesHaveFewTerms}
use Rattle.region_tree.specs.Right.{IsRight, IsRightTree}
use Rattle.drn_read.specs.Laws as read
use Rattle.cert_text.specs.Head.{HeadData}
use Rattle.cert_text.specs.Report.{report_text}
use Rattle.cert_text.specs.Forms.{IsHead, IsShortName, IsSmallEntry, IsReportedBound}
use Rattle.cert_check.specs.Sound.{IsSoundTree, IsSoundFile, leaf_counts}
use Rattle.cert_check.specs.Laws.{CanBeReported, SoundTreesAreReports}
use Rattle.plift_top.specs.Lumped.{lumped_case}
use Rattle.plift_top.specs.Laws.{RightReportsAreSound, LumpedReportsAreSound}
use Rattle.plift_top.specs.RightReport.{IsRange, least, version_of}
use Rattle.plift_top.proofs.Leaves.{range_begins}

-- ---- the head

-- a name that was read is one that can be told
name : (word : List ℕ) → read.IsShortName word → IsShortName word
name word h = record { form = h.named; short = h.short }

names_reported : (m : ModelData) → read.IsReadModel m → All IsShortName m.names
names_reported m r i d h = name _ (r.names i d h)

-- and so is an entry
entry : (e : Entry) → read.IsSmallEntry e → IsSmallEntry e
entry e h = record { terms = h.terms; parameters = h.parameters }

-- and one of a case
case_entry : (e : Entry) → HasFewTerms e → IsSmallEntry e
case_entry e h = record { terms = h.terms; parameters = h.parameters }

-- the head of a case with such names and entries
head : (k : CaseData) (from : Option ℕ) (bound : Bound) → All IsShortName k.model.names → All (All (All IsSmallEntry)) k.model.states → IsCase k → IsRange k from → IsReportedBound bound → IsHead (record { asked = k; from = from; bound = bound })
head k from bound names entries case range reported = record {
  asked = case.asked;
  names = names;
  entries = entries;
  bound = reported;
  range = range_begins k from case range;
}

-- ---- the tree

module _ (fits : HeightFits) (lowers : LowerPrecisionIsCase) (k : CaseData) (from : Option ℕ) (bound : Bound) (case : IsCase k) (above : 1 ≤ least k from) where
  -- a right tree is sound
  sound_tree : (spans : Spans) (depth : ℕ) (tree : Tree) → IsRight k (least k from) spans bound depth tree → IsSoundTree k bound spans depth tree
  sound_tree spans depth (accept u x) h = h.accepting
  sound_tree spans depth (reject u r) h = h.rejecting
  sound_tree spans depth unknown h = h.1
  sound_tree spans depth (split axis lower upper) h =
      (record { left = h.1.left; axis_is = h.1.axis_is }, sound_tree (lower_half axis spans) (depth + 1) lower h.2, sound_tree (upper_half axis spans) (depth + 1) upper h.3)

  -- and can be told: no rank is above the number of states
  pub can_be_reported : (spans : Spans) (depth : ℕ) (tree : Tree) → IsRight k (least k from) spans bound depth tree → CanBeReported (record { asked = k; from = from; bound = bound }) tree
  can_be_reported spans depth (accept u x) h = h.first.between
  can_be_reported spans depth (reject u r) h =
      let between = h.first.between in
      let there : IsCase (at k u) = lowers k u case (omega (arith, above, between.0)) between.1 in
      let fit = fits (at k u) spans r there h.greatest in
      let few = case.asked.model.count.1 in
      (between, omega (arith, fit, few))
  can_be_reported spans depth unknown h = tt
  can_be_reported spans depth (split axis lower upper) h = (can_be_reported (lower_half axis spans) (depth + 1) lower h.2, can_be_reported (upper_half axis spans) (depth + 1) upper h.3)

-- ---- the file

report_is_sound : HeightFits → LowerPrecisionIsCase → SoundTreesAreReports → (k : CaseData) (from : Option ℕ) (bound : Bound) (tree : Tree) → All IsShortName k.model.names → All (All (All IsSmallEntry)) k.model.states → IsCase k → IsRange k from → IsReportedBound bound
    → IsRightTree k (least k from) bound tree → IsSoundFile (report_text k from bound tree) (leaf_counts (version_of from) tree)
report_is_sound fits lowers reports k from bound tree names entries is range reported right =
    let h : HeadData = record { asked = k; from = from; bound = bound } in
    let above = (range_begins k from is range).0 in
    record {
      head = h;
      tree = tree;
      sound = reports h tree (head k from bound names entries is range reported) is.admitted (sound_tree fits lowers k from bound is above k.root 0 tree right) (can_be_reported fits lowers k from bound is above k.root 0 tree right);
      text = refl;
      counts = refl;
    }

pub right_reports : read.TextsAreValid → HeightFits → LowerPrecisionIsCase → SoundTreesAreReports → RightReportsAreSound
right_reports valid fits lowers reports text label m root w from bound tree is case range reported right =
    let r = valid text label m is in
    report_is_sound fits lowers reports (case_of m root w) from bound tree (names_reported m r) (λ i c h j d g l e f. entry _ (r.entries i c h j d g l e f)) case range reported right

pub lumped_reports : read.TextsAreValid → HeightFits → LowerPrecisionIsCase → CasesHaveFewTerms → SoundTreesAreReports → LumpedReportsAreSound
lumped_reports valid fits lowers few reports text label k l bound tree is lumped case reported right =
    let names = subst (λ (q : ModelData). All IsShortName q.names) (sym lumped.model) (names_reported k.model (valid text label k.model is)) in
    let terms = few (lumped_case k l) case in
    report_is_sound fits lowers reports (lumped_case k l) None bound tree names (λ i c h j d g n e f. case_entry _ (terms i c h j d g n e f)) case (λ v e. absurd (cc)) reported right
