-- What calls come to that write a text while its tree is walked over.
use Rattle.std.proofs.Common.{◌≡◌, ℕ, List, ◌++◌, map, refl, sym, ap, ◌∙◌, subst, Option, Result, Ok, Err, MatchResult, append_assoc}
use Rattle.std.specs.Prelude.{All}
use Rattle.std.specs.List.{concat}
use Rattle.std.specs.Io.KnownBytes.{Appends}
use Rattle.std.proofs.KnownBytes.{Appends-trans}
use Rattle.lift_base.specs.Outside.{AppendsFront, Wrote, WroteSome}
use Rattle.lift_base.specs.Laws.{Written, WritesBoth, StopsBefore}
use Rattle.lift_base.specs.declared.output.WriteFault.{WriteFault}
use Rattle.lift_grid.specs.Tree.{Tree, Tiles}
use Rattle.lift_cert.specs.Laws.{AcceptingBounds, RejectingReaches}
use Rattle.lift_cert.specs.declared.bound.Bound.{Bound}
use Rattle.corner_lift.specs.Case.{CaseData}
use Rattle.corner_lift.specs.Laws.{LowerPrecisionIsCase}
use Rattle.region_tree.specs.Laws.{RootIsAtDepth, HalvesAreDeeper, RightTreesTile}
use Rattle.region_tree.specs.Nodes.{Node}
use Rattle.region_tree.specs.Visits.{Takes, Visits, Shows, entries}
use Rattle.region_tree.specs.declared.visitor.Seen.{Seen}
use Rattle.region_tree.specs.declared.visitor.Seen.TheVariants.{Kept, Failed}
use Rattle.cert_text.specs.Report.{tree_lines}
use Rattle.plift_words.specs.declared.query.Query.{Query}
use Rattle.plift_top.specs.Asked.{AskedModel}
use Rattle.plift_top.specs.Reported.{CaseQuestion, IsReported, IsCutOff, whole_question}
use Rattle.plift_top.specs.RightReport.{IsRange, IsRightReport, least}
use Rattle.plift_top.specs.Steps.{IsTestedCase, WritesText, AnswersCase}
use Rattle.plift_top.specs.Verify.{IsToldOf}
use Rattle.plift_top.specs.declared.refusal.Refusal.{Refusal}
use Rattle.plift_top.specs.declared.refusal.Refusal.TheVariants as refusal
use Rattle.plift_top.proofs.Leaves.{leaves_hold, range_begins}

-- what a visitor did, by what was written
pub visited : {K T E : Type 0} (taken : K → Option (List ℕ)) (faults : K → ℕ) (old new : K) (result : Result T E) (seen : Seen) (bytes : List ℕ)
    → Wrote taken faults old new result bytes → MatchResult result (λ _. seen ≡ Kept) (λ _. seen ≡ Failed) → Visits taken faults old new seen bytes
visited taken faults old new (Ok x) seen bytes w is =
    subst (λ s. Visits taken faults old new s bytes) (sym is) (record { took = w.whole; cause = λ f. absurd (cc); later = w.later })
visited taken faults old new (Err e) seen bytes w is =
    subst (λ s. Visits taken faults old new s bytes) (sym is) (record { took = w.part; cause = λ f. w.cause; later = w.later })

-- a decided leaf of which the first lines failed
pub stopped_visit : {K : Type 0} (taken : K → Option (List ℕ)) (faults : K → ℕ) → StopsBefore taken faults → (old new : K) (fault : WriteFault) (front back : List ℕ)
    → Wrote {T = Unit {0}} taken faults old new (Err fault) front → Visits taken faults old new Failed (front ++ back)
stopped_visit taken faults stops old new fault front back w =
    visited {T = Unit {0}} taken faults old new (Err fault) Failed (front ++ back) (stops old new fault front back (Err fault) refl w) refl

-- and one of which they were written
pub visited_then : {K : Type 0} (taken : K → Option (List ℕ)) (faults : K → ℕ) → WritesBoth taken faults → (old mid new : K) (result : Written) (seen : Seen) (front back : List ℕ)
    → Wrote {T = Unit {0}} {E = WriteFault} taken faults old mid (Ok tt) front → Wrote taken faults mid new result back → MatchResult result (λ _. seen ≡ Kept) (λ _. seen ≡ Failed)
    → Visits taken faults old new seen (front ++ back)
visited_then taken faults both old mid new result seen front back w v is = visited taken faults old new result seen (front ++ back) (both old mid new result front back w v) is

-- a front of what follows, behind what was appended
pub front_then : (a b c : Option (List ℕ)) (xs ys : List ℕ) → Appends a b xs → AppendsFront b c ys → AppendsFront a c (xs ++ ys)
front_then a b c xs ys h g = (xs ++ g.0, g.1, ap (λ r. xs ++ r) g.2 ∙ sym (append_assoc xs g.0 g.1), Appends-trans a b c xs g.0 h g.3)

-- a front, where more should follow
pub front_of : (a b : Option (List ℕ)) (xs ys : List ℕ) → AppendsFront a b xs → AppendsFront a b (xs ++ ys)
front_of a b xs ys h = (h.0, h.1 ++ ys, ap (λ r. r ++ ys) h.2 ∙ append_assoc h.0 h.1 ys, h.3)

-- what a walk showed went to the sink of its visitor: the entries of a tree's nodes
pub shown : {V K T E : Type 0} (out : V → K) (taken : K → Option (List ℕ)) (faults : K → ℕ) (Is : Tree → Type 0) (entry : Node → List ℕ) (text : Tree → List ℕ) → ((t : Tree) → entries entry t ≡ text t)
    → (old new : V) (seen : Seen) (result : Result T E) → MatchResult result (λ _. seen ≡ Kept) (λ _. seen ≡ Failed) → Shows Is (λ v. taken (out v)) (λ v. faults (out v)) entry old new seen
    → WroteSome (λ bytes. (t : Tree) × Is t × (bytes ≡ text t)) taken faults (out old) (out new) result
shown out taken faults Is entry text same old new seen (Ok x) is w = record {
  some = (let t = w.tree is in (text t.0, (t.0, t.1, refl)));
  whole = λ bytes h. (let (t, holds, e) = h in subst (Appends (taken (out old)) (taken (out new))) (same t ∙ sym e) (subst (λ (s : Seen). Takes (taken (out old)) (taken (out new)) s (entries entry t)) is (w.took t holds)));
  part = tt;
  cause = tt;
  later = w.later;
}
shown out taken faults Is entry text same old new seen (Err e) is w = record {
  some = tt;
  whole = tt;
  part = λ bytes h. (let (t, holds, e) = h in subst (AppendsFront (taken (out old)) (taken (out new))) (same t ∙ sym e) (subst (λ (s : Seen). Takes (taken (out old)) (taken (out new)) s (entries entry t)) is (w.took t holds)));
  cause = w.cause is;
  later = w.later;
}

-- ---- the whole report

-- The texts of which this holds tell what is asked of a case: each is that of a right tree, and that of each right tree is one. The leaves of a right tree tile the root, and what each says holds.
pub record Tells (k : CaseData) (q : CaseQuestion) (IsText : List ℕ → Type 0) : Type 0 where
  pub case : IsTestedCase k
  pub fits : q.Fits
  pub tree_of : (bytes : List ℕ) → IsText bytes → (tree : q.Trees) × q.IsRight tree
  pub text_of : (tree : q.Trees) → q.IsRight tree → IsText (q.text_of tree)
  pub tiles : (tree : q.Trees) → q.IsRight tree → Tiles k.d k.root (map q.spans_of (q.leaves_of tree))
  pub holds : (tree : q.Trees) → q.IsRight tree → All q.Holds (q.leaves_of tree)

-- where such a text was written, what is asked was answered
pub answers : {K T : Type 0} (taken : K → Option (List ℕ)) (counts : K → ℕ) (k : CaseData) (q : CaseQuestion) (IsText : List ℕ → Type 0) (asked : Query) (a : AskedModel) → ((Told : CaseData → CaseQuestion → Type 0) → Told k q → IsToldOf Told asked a k) → Tells k q IsText
    → (out out' : K) (result : Result T Refusal) → WritesText taken counts IsText out out' result → AnswersCase taken counts asked a k out out' result
answers taken counts k q IsText asked a told t out out' (Ok x) ((bytes, is), whole) =
    let (tree, right) = t.tree_of bytes is in
    told (IsReported (taken out) (taken out')) (record {
      tree = tree;
      fits = t.fits;
      case = t.case.case;
      weights = t.case.weights;
      sums = t.case.sums;
      right = right;
      tiles = t.tiles tree right;
      schedulers = t.holds tree right;
      text = whole (q.text_of tree) (t.text_of tree right);
    })
answers taken counts k q IsText asked a told t out out' (Err refusal.WriteFault) (part, rose) =
    (told (IsCutOff (taken out) (taken out')) (record { fits = t.fits; case = t.case.case; weights = t.case.weights; sums = t.case.sums; front = λ tree right. part (q.text_of tree) (t.text_of tree right) }), rose)
answers taken counts k q IsText asked a told t out out' (Err refusal.Memory) same = same
answers taken counts k q IsText asked a told t out out' (Err _) none = absurd none

-- the report of a case tells what is asked for a bound
pub tells_reach : AcceptingBounds → RejectingReaches → LowerPrecisionIsCase → RootIsAtDepth → HalvesAreDeeper → RightTreesTile → (k : CaseData) (from : Option ℕ) (bound : Bound) → IsTestedCase k → IsRange k from
    → Tells k (whole_question k from bound) (IsRightReport k from bound)
tells_reach accepting reached lower root deeper tile k from bound case range = record {
  case = case;
  fits = range;
  tree_of = λ bytes is. (let (nodes, are, e) = is in (are.0, are.1));
  text_of = λ tree right. (concat (tree_lines from k.model.init tree), (tree, right, refl), refl);
  tiles = λ tree right. tile k (least k from) bound tree case.case right;
  holds = λ tree right. leaves_hold accepting reached lower deeper k bound case.case (least k from) (range_begins k from case.case range).0 k.root 0 tree (root k case.case) right;
}
