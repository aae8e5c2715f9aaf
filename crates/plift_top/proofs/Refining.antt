-- Going on from a report: its text as a base, what is written, and what it comes to.
use Rattle.std.proofs.Common.{◌≡◌, ◌≤◌, ◌+◌, ◌-◌, ◌∙◌, ℕ, List, [], ◌∷◌, ◌++◌, refl, sym, ap, subst, arith, append-nil, append_assoc}
use Rattle.std.specs.declared.option.Option.{Option}
use Rattle.std.specs.Prelude.{is_some}
use Rattle.std.specs.List.{AllByRecursion, concat, flat_map}
use Rattle.std.proofs.lemmas.Nat.{pow_pos}
use Rattle.std.proofs.lemmas.List.Folds.{concat-append}
use Rattle.lift_grid.specs.Rectangle.{Spans}
use Rattle.lift_grid.specs.Tree.{Tree, lower_half, upper_half}
use Rattle.lift_grid.specs.Tree.Tree.{accept, reject, unknown, split}
use Rattle.corner_lift.specs.Case.{CaseData, IsCase}
use Rattle.corner_lift.specs.Laws.{LowerPrecisionIsCase}
use Rattle.lift_cert.specs.declared.bound.Bound.{Bound}
use Rattle.lower_cert.specs.AnyRanks.{HeightFits}
use Rattle.lift_finer.specs.Finer.{finer_spans}
use Rattle.lift_finer.specs.Refined.{IsBase}
use Rattle.lift_range.specs.Range.{Between}
use Rattle.lift_refine.specs.Deeper.{deeper_case}
use Rattle.lift_refine.specs.Laws.{CertifiedTreesAreBases, BasesWithRightTreesAreCertified, RefinedRightTrees}
use Rattle.region_tree.specs.Bases.{IsGiven, IsRefined, IsOffered, OffersOne, HasPrecisionsTo}
use Rattle.region_tree.specs.Laws.{RootIsAtDepth}
use Rattle.region_tree.specs.Nodes.{Node, nodes}
use Rattle.region_tree.specs.Nodes.Node.{split as split-node, accept as accept-node, reject as reject-node, unknown as unknown-node}
use Rattle.region_tree.specs.Visits.{Shows}
use Rattle.region_tree.specs.declared.base.Given.TheVariants as given
use Rattle.region_tree.specs.declared.visitor.Seen.{Seen}
use Rattle.cert_text.specs.Head.{HeadData, least_precision}
use Rattle.cert_text.specs.Forms.{IsHead, IsNode, IsTree}
use Rattle.cert_text.specs.Report.{line, version_words, model_lines, asked_lines, from_lines, top_lines, region_lines, head_lines, split_line, at_lines, accept_line, reject_lines, unknown_line}
use Rattle.cert_text.specs.Nodes as text
use Rattle.cert_text.specs.Cut.{node_bytes, top_bytes, IsSplitOn, IsAcceptOf, IsRejectOf, IsOpenLeaf}
use Rattle.cert_check.specs.Sound.{IsSound, IsSoundTree}
use Rattle.cert_check.specs.Laws.{CanBeReported, SoundTreesAreReports}
use Rattle.plift_top.specs.Laws.{RefinedReportsAreSound}
use Rattle.plift_top.specs.RightReport.{node_text}
use Rattle.plift_top.specs.Refine.{deeper_head, finer_by, IsOld, IsOldTree, CanGoOn, reported_node, IsAhead}
use Rattle.plift_top.proofs.Leaves.{entries_are}
use Rattle.plift_top.proofs.Soundness.{can_be_reported}

-- ---- the text of a node

node_is : (h : HeadData) (n : Node) → node_text h.asked h.from n ≡ node_bytes h (reported_node n)
node_is h (split-node axis) = sym (append-nil (split_line axis))
node_is h (accept-node u x) =
    ap (λ (l : List ℕ). concat (at_lines h.from u) ++ l) (sym (append-nil (accept_line x))) ∙ sym (concat-append (at_lines h.from u) (accept_line x ∷ []))
node_is h (reject-node u r) = sym (concat-append (at_lines h.from u) (reject_lines h.asked.model.init u r))
node_is h unknown-node = sym (append-nil unknown_line)

-- ---- a text as a base

-- a node that is ahead is cut off, and then what came after it is ahead
pub cut : (h : HeadData) (left rest : List ℕ) (Statement : HeadData → text.Node → Type 0) → ((g : HeadData) (n : text.Node) (more : List ℕ) → IsHead g → IsNode g n → left ≡ node_bytes g n ++ more → Statement g n × (rest ≡ more))
    → (n : Node) (ns : List Node) → IsAhead h left (n ∷ ns) → Statement h (reported_node n) × IsAhead h rest ns
cut h left rest Statement cuts n ns ahead =
    let more = flat_map (node_text h.asked h.from) ns in
    let c = cuts h (reported_node n) more ahead.head ahead.fit.0 (ahead.text ∙ ap (λ (l : List ℕ). l ++ more) (node_is h n)) in
    (c.0, record { head = ahead.head; fit = ahead.fit.1; text = c.1 })

pub given_split : (h : HeadData) (n : Node) (i : ℕ) (bytes : List ℕ) → IsSplitOn (reported_node n) i → IsGiven (node_text h.asked h.from) n (given.Split i) bytes
given_split h (split-node axis) i bytes is = is
given_split h _ i bytes is = absurd is

pub given_accept : (h : HeadData) (n : Node) (bytes : List ℕ) → IsAcceptOf h (reported_node n) bytes → IsGiven (node_text h.asked h.from) n given.Accept bytes
given_accept h (accept-node u x) bytes is = is ∙ sym (node_is h (accept-node u x))
given_accept h _ bytes is = absurd is

pub given_reject : (h : HeadData) (n : Node) (bytes : List ℕ) → IsRejectOf h (reported_node n) bytes → IsGiven (node_text h.asked h.from) n given.Reject bytes
given_reject h (reject-node u r) bytes is = is ∙ sym (node_is h (reject-node u r))
given_reject h _ bytes is = absurd is

pub given_unknown : (h : HeadData) (n : Node) (bytes : List ℕ) → IsOpenLeaf (reported_node n) → IsGiven (node_text h.asked h.from) n given.Unknown bytes
given_unknown h unknown-node bytes is = tt
given_unknown h _ bytes is = absurd is

-- ---- the base of a report

every : {A : Type 0} (P : A → Type 0) (xs ys : List A) → AllByRecursion P xs → AllByRecursion P ys → AllByRecursion P (xs ++ ys)
every P [] ys h g = g
every P (x ∷ xs) ys h g = (h.0, every P xs ys h.1 g)

nodes_fit : (h : HeadData) (t : Tree) → IsTree h t → AllByRecursion (λ n. IsNode h (reported_node n)) (nodes t)
nodes_fit h (split axis lower upper) fit = (fit.0, every (λ n. IsNode h (reported_node n)) (nodes lower) (nodes upper) (nodes_fit h lower fit.1) (nodes_fit h upper fit.2))
nodes_fit h _ fit = (fit, tt)

precise : (h : HeadData) (t : Tree) → IsTree h t → HasPrecisionsTo h.asked.w t
precise h (split axis lower upper) fit = (precise h lower fit.1, precise h upper fit.2)
precise h (accept u x) fit = fit.0.1
precise h (reject u r) fit = fit.0.1
precise h unknown fit = tt

-- a tree of a text is ahead
ahead_of : (h : HeadData) (left : List ℕ) (t : Tree) → IsOldTree h left t → IsAhead h left (nodes t ++ [])
ahead_of h left t old =
    let none : nodes t ++ [] ≡ nodes t = append-nil (nodes t) in
    subst (IsAhead h left) (sym none) (record {
      head = old.sound.report.head;
      fit = nodes_fit h t old.sound.report.nodes;
      text = old.text ∙ sym (entries_are h.asked h.from t);
    })

-- what was sound is a case
old_case : (h : HeadData) (t : Tree) → IsSound h t → IsCase h.asked
old_case h t s = record { asked = s.report.head.asked; admitted = s.admitted }

module _ (bases : CertifiedTreesAreBases) (roots : RootIsAtDepth) where
  -- a sound tree is a base at a greater depth
  base_of : (depth : ℕ) (h : HeadData) (t : Tree) → IsSound h t → h.asked.depth ≤ depth → IsBase (deeper_head depth h).asked h.bound (deeper_head depth h).asked.root 0 t
  base_of depth h t s le =
      let n : ℕ = finer_by depth h in
      let some : 1 ≤ n = omega (arith, pow_pos (depth - h.asked.depth)) in
      bases h.asked h.asked.root (finer_spans n h.asked.root) n depth h.bound 0 t (old_case h t s) (roots h.asked (old_case h t s)) some le s.tree

  pub offers : (k : CaseData) (h : HeadData) (left : List ℕ) → CanGoOn k h left → (t : Tree) → IsOldTree h left t → IsOffered (IsAhead h left) k h.bound k.root 0 t []
  offers k h left can t old = record {
    ahead = ahead_of h left t old;
    base = subst (λ (x : CaseData). IsBase x h.bound x.root 0 t) (sym can.deeper) (base_of k.depth h t old.sound can.above);
    precisions = subst (λ (x : CaseData). HasPrecisionsTo x.w t) (sym can.deeper) (precise h t old.sound.report.nodes);
  }

  pub offers_one : (k : CaseData) (h : HeadData) (left : List ℕ) → CanGoOn k h left → OffersOne (IsAhead h left) k h.bound k.root 0
  offers_one k h left can = (can.old.0, ([], offers k h left can can.old.0 can.old.1))

-- the nodes of a report have the same text at a greater depth
pub same_text : (k : CaseData) (h : HeadData) (left : List ℕ) → CanGoOn k h left → (n : Node) → node_text h.asked h.from n ≡ node_text k h.from n
same_text k h left can (split-node axis) = refl
same_text k h left can (accept-node u x) = refl
same_text k h left can (reject-node u r) = ap (λ (x : CaseData). concat (at_lines h.from u) ++ concat (reject_lines x.model.init u r)) (sym can.deeper)
same_text k h left can unknown-node = refl

pub least_between : (k : CaseData) (h : HeadData) (left : List ℕ) → CanGoOn k h left → Between 1 k.w (least_precision h)
least_between k h left can =
    let is = can.old.1.sound.report.head in
    let w : k.w ≡ h.asked.w = ap (λ (x : CaseData). x.w) can.deeper in
    (is.range.0, omega (arith, is.range.1, w))

-- what a walk showed, whichever tree the text has
pub whichever : {V : Type 0} (taken : V → Option (List ℕ)) (faults : V → ℕ) (k : CaseData) (h : HeadData) (left : List ℕ) (entry : Node → List ℕ) (was now : V) (seen : Seen) → IsOld h left
    → ((t : Tree) → IsOldTree h left t → Shows (λ refined. IsRefined k (least_precision h) h.bound k.root 0 t refined) taken faults entry was now seen)
    → Shows (λ refined. (t : Tree) × IsOldTree h left t × IsRefined k (least_precision h) h.bound k.root 0 t refined) taken faults entry was now seen
whichever taken faults k h left entry was now seen (s, old) each =
    let first = each s old in
    record {
      tree = λ kept. (let r = first.tree kept in (r.0, (s, old, r.1)));
      took = λ refined h. (let (t, is, r) = h in (each t is).took refined r);
      cause = first.cause;
      later = first.later;
    }

-- ---- the head at a greater depth

-- it has the top of the old one
top_same : (n depth : ℕ) (h : HeadData) → top_lines (deeper_case n depth h.asked) h.from h.bound ≡ top_lines h.asked h.from h.bound
unfolding asked_lines
top_same n depth h = refl

-- the parts of a head
top_and_region : (k : CaseData) (from : Option ℕ) (bound : Bound) → concat (top_lines k from bound) ++ concat (region_lines k) ≡ concat (head_lines k from bound)
top_and_region k from bound =
    let model = model_lines k.model in
    let asked = asked_lines k bound in
    let lines = from_lines from in
    let region = region_lines k in
    let joined : top_lines k from bound ++ region ≡ head_lines k from bound =
    ap (λ (ls : List (List ℕ)). line (version_words (is_some from)) ∷ ls) (append_assoc model (asked ++ lines) region ∙ ap (λ (ls : List (List ℕ)). model ++ ls) (append_assoc asked lines region)) in
    sym (concat-append (top_lines k from bound) region) ∙ ap concat joined

-- the head of a case that a report is gone on to is its top, and the region
pub deeper_head_is : (k : CaseData) (h : HeadData) (left : List ℕ) → CanGoOn k h left → top_bytes h ++ concat (region_lines k) ≡ concat (head_lines k h.from h.bound)
deeper_head_is k h left can =
    let above : concat (top_lines k h.from h.bound) ≡ top_bytes h = ap (λ (x : CaseData). concat (top_lines x h.from h.bound)) can.deeper ∙ ap concat (top_same (finer_by k.depth h) k.depth h) in
    ap (λ (t : List ℕ). t ++ concat (region_lines k)) (sym above) ∙ top_and_region k h.from h.bound

-- ---- the laws of a refined tree

module _ (fits : HeightFits) (lowers : LowerPrecisionIsCase) (depth : ℕ) (h : HeadData) (is : IsHead h) (case : IsCase (deeper_head depth h).asked) where
  refined_reported : (spans : Spans) (place : ℕ) (t refined : Tree) → IsTree h t → IsRefined (deeper_head depth h).asked (least_precision h) h.bound spans place t refined → CanBeReported (deeper_head depth h) refined
  refined_reported spans place (split axis lower upper) (split other low up) fit r = (refined_reported (lower_half axis spans) (place + 1) lower low fit.1 r.1, refined_reported (upper_half axis spans) (place + 1) upper up fit.2 r.2)
  refined_reported spans place (split axis lower upper) _ fit r = absurd r
  refined_reported spans place (accept u x) refined fit r = subst (CanBeReported (deeper_head depth h)) r fit.0
  refined_reported spans place (reject u q) refined fit r = subst (CanBeReported (deeper_head depth h)) r (fit.0, fit.1.rate.2)
  refined_reported spans place unknown refined fit r = can_be_reported fits lowers (deeper_head depth h).asked h.from h.bound case is.range.0 spans place refined r

pub refined_sound : HeightFits → LowerPrecisionIsCase → SoundTreesAreReports → RootIsAtDepth → CertifiedTreesAreBases → BasesWithRightTreesAreCertified → RefinedRightTrees → RefinedReportsAreSound
refined_sound fits lowers reports roots bases certified rights depth h t refined s le case r =
    let new = deeper_head depth h in
    let k = new.asked in
    let v = least_precision h in
    let some : 1 ≤ finer_by depth h = omega (arith, pow_pos (depth - h.asked.depth)) in
    let head : IsHead new = record { asked = case.asked; names = s.report.head.names; entries = s.report.head.entries; bound = s.report.head.bound; range = s.report.head.range } in
    let tree : IsSoundTree k h.bound k.root 0 refined = certified k v h.bound k.root 0 t refined (base_of bases roots depth h t s le) r in
    let reported = refined_reported fits lowers depth h s.report.head case k.root 0 t refined s.report.nodes r in
    record {
      refines = r;
      sound = record { head = new; tree = refined; sound = reports new refined head case.admitted tree reported; text = refl; counts = refl };
      right = λ right. rights h.asked (finer_by depth h) depth v h.bound t refined (old_case h t s) some le right r;
    }
