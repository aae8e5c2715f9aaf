-- A whole report, both ways.
use Rattle.std.proofs.Common.{◌≡◌, ℕ, zero, suc, ◌+◌, ◌<◌, ◌≤◌, [], ◌++◌, length, Ok, refl, sym, ap, subst, ◌∙◌, arith}
use Rattle.std.specs.List.{concat}
use Rattle.std.proofs.lemmas.List.{append-nil}
use Rattle.lift_grid.specs.Tree.{Tree}
use Rattle.lift_grid.specs.Tree.Tree.{split as splits, accept as accepts, reject as rejects, unknown as unknowns}
use Rattle.line_text.specs.declared.error.TextCause.TheVariants.{Limit}
use Rattle.cert_text.specs.Head.{HeadData}
use Rattle.cert_text.specs.Report.{head_lines, tree_lines}
use Rattle.line_text.specs.Reading.{Cursor, Reader, fault}
use Rattle.cert_text.specs.Nodes.{Node, split, accept, reject, unknown, node_lines}
use Rattle.cert_text.proofs.Steps.{ok_is}
use Rattle.cert_text.proofs.Inverting.{Lines, Anything, Inverts, Then, Done, inverts_pass, inverts_done, inverts_so}
use Rattle.cert_text.proofs.HeadLaws.{HeadForm, inverts_head}
use Rattle.std.proofs.lemmas.List.{length-append}
use Rattle.std.proofs.lemmas.List.Folds.{concat-append}
use Rattle.cert_text.specs.Laws.{reported_lines, text_of, line_count, HeadsAreReadBack, ReadHeadsAreReported, NodesAreReadBack, ReadNodesAreReported, ReportsAreReadBack, ReadReportsAreReported, TextsTellOneReport, PrefixesAreTruncated}
use Rattle.cert_text.proofs.HeadForms.{head_form, form_head}
use Rattle.cert_text.specs.Forms.{IsTree}
use Rattle.cert_text.specs.Whole.{height, branch_at, tree_at, report_at}
use Rattle.cert_text.proofs.NodeLaws.{NodeLines, inverts_node}

abbrev pub TreeLines : HeadData → ℕ → Tree → Lines → Type 0
TreeLines h levels t ls = (ls ≡ tree_lines h.from h.asked.model.init t) × IsTree h t × (height t ≤ levels)

abbrev Halves : (Tree → Lines → Type 0) → Node → Tree → Lines → Type 0
Halves S (split axis) t ls = Then S (λ lower. Then S (λ upper. Done (splits axis lower upper))) t ls
Halves S (accept u x) t ls = Done (accepts u x) t ls
Halves S (reject u r) t ls = Done (rejects u r) t ls
Halves S unknown t ls = Done unknowns t ls

inverts_halves : (S : Tree → Lines → Type 0) (next : Reader Tree) → Inverts Anything S next → (node : Node) → Inverts Anything (Halves S node) (branch_at next node)
inverts_halves S next h (split axis) = inverts_pass h (λ lower _ _. inverts_pass h (λ upper _ _. inverts_done Anything (splits axis lower upper)))
inverts_halves S next h (accept u x) = inverts_done Anything (accepts u x)
inverts_halves S next h (reject u r) = inverts_done Anything (rejects u r)
inverts_halves S next h unknown = inverts_done Anything unknowns

abbrev Never : Tree → Lines → Type 0
Never t ls = ⊥

inverts_never : Inverts Anything Never (λ c. fault c.0 Limit)
inverts_never = record { takes = λ n m text rest x e. absurd cc; again = λ n x ls rest s _. absurd s; short = λ n x ls front back s e some. absurd s; stops = λ n x ls more s p. absurd s; feeds = λ x ls s. absurd s }

-- a tree by its node and what stands behind it
module _ (h : HeadData) (S : Tree → Lines → Type 0) (levels : ℕ) (to : (t : Tree) (ls : Lines) → S t ls → (ls ≡ tree_lines h.from h.asked.model.init t) × IsTree h t × (height t < levels)) (from : (t : Tree) (ls : Lines) → ls ≡ tree_lines h.from h.asked.model.init t → IsTree h t → height t < levels → S t ls) where
  built : (t : Tree) (ls : Lines) → Then (NodeLines h) (Halves S) t ls → TreeLines h levels t ls
  built t ls (split axis, first, last, (is, low), (lower, a, bc, sl, (upper, b, c, su, (same, none), parts), whole), e) =
      let l = to lower a sl in
      let u = to upper b su in
      subst (λ y. TreeLines h levels y ls) same (
        e ∙ ap (λ t. t ++ last) is ∙ ap (λ t. node_lines h.from h.asked.model.init (split axis) ++ t) (whole ∙ ap (λ t. t ++ bc) l.0 ∙ ap (λ t. tree_lines h.from h.asked.model.init lower ++ t) (parts ∙ ap (λ t. b ++ t) none ∙ append-nil b ∙ u.0)),
        (low, l.1, u.1),
        omega (arith, l.2, u.2),
      )
  built t ls (accept u x, first, last, (is, fit), (same, none), e) = subst (λ y. TreeLines h levels y ls) same (e ∙ ap (λ t. t ++ last) is ∙ ap (λ t. node_lines h.from h.asked.model.init (accept u x) ++ t) none ∙ append-nil (node_lines h.from h.asked.model.init (accept u x)), fit, omega arith)
  built t ls (reject u r, first, last, (is, fit), (same, none), whole) = subst (λ y. TreeLines h levels y ls) same (whole ∙ ap (λ t. t ++ last) is ∙ ap (λ t. node_lines h.from h.asked.model.init (reject u r) ++ t) none ∙ append-nil (node_lines h.from h.asked.model.init (reject u r)), fit, omega arith)
  built t ls (unknown, first, last, (is, fit), (same, none), e) = subst (λ y. TreeLines h levels y ls) same (e ∙ ap (λ t. t ++ last) is ∙ ap (λ t. node_lines h.from h.asked.model.init unknown ++ t) none, tt, omega arith)

  cut_tree : (t : Tree) (ls : Lines) → TreeLines h levels t ls → Then (NodeLines h) (Halves S) t ls
  cut_tree (splits axis lower upper) ls (is, (low, l, u), high) =
      let a = tree_lines h.from h.asked.model.init lower in
      let b = tree_lines h.from h.asked.model.init upper in (
        split axis,
        node_lines h.from h.asked.model.init (split axis),
        a ++ b,
        (refl, low),
        (lower, a, b, from lower a refl l (omega (arith, high)), (upper, b, [], from upper b refl u (omega (arith, high)), (refl, refl), sym (append-nil b)), refl),
        is,
      )
  cut_tree (accepts u x) ls (is, fit, high) = (accept u x, node_lines h.from h.asked.model.init (accept u x), [], (refl, fit), (refl, refl), is ∙ sym (append-nil (node_lines h.from h.asked.model.init (accept u x))))
  cut_tree (rejects u r) ls (is, fit, high) = (reject u r, node_lines h.from h.asked.model.init (reject u r), [], (refl, fit), (refl, refl), is ∙ sym (append-nil (node_lines h.from h.asked.model.init (reject u r))))
  cut_tree unknowns ls (is, fit, high) = (unknown, node_lines h.from h.asked.model.init unknown, [], (refl, tt), (refl, refl), is)

pub inverts_tree : (h : HeadData) → HeadForm h → (levels : ℕ) → Inverts Anything (TreeLines h levels) (tree_at h levels)
unfolding tree_at
inverts_tree h k zero =
    inverts_so (inverts_pass (inverts_node h k) (λ node _ _. inverts_halves Never (λ c. fault c.0 Limit) inverts_never node)) (TreeLines h zero)
    (built h Never zero (λ t ls s. absurd s) (λ t ls e f low. absurd (omega (arith, low))))
    (cut_tree h Never zero (λ t ls s. absurd s) (λ t ls e f low. absurd (omega (arith, low))))
inverts_tree h k (suc levels) =
    inverts_so (inverts_pass (inverts_node h k) (λ node _ _. inverts_halves (TreeLines h levels) (tree_at h levels) (inverts_tree h k levels) node)) (TreeLines h (suc levels))
    (built h (TreeLines h levels) (suc levels) (λ t ls (is, fit, low). (is, fit, omega (arith, low))) (λ t ls e f low. (e, f, omega (arith, low))))
    (cut_tree h (TreeLines h levels) (suc levels) (λ t ls (is, fit, low). (is, fit, omega (arith, low))) (λ t ls e f low. (e, f, omega (arith, low))))

-- ---- the report

abbrev pub report_lines : HeadData → Tree → Lines
report_lines h t = head_lines h.asked h.from h.bound ++ tree_lines h.from h.asked.model.init t

abbrev pub ReportLines : ℕ → HeadData × Tree → Lines → Type 0
ReportLines levels r ls = (ls ≡ report_lines r.0 r.1) × HeadForm r.0 × IsTree r.0 r.1 × (height r.1 ≤ levels)

pub inverts_report : (levels : ℕ) → Inverts Anything (ReportLines levels) (report_at levels)
unfolding report_at
inverts_report levels =
    inverts_so (inverts_pass inverts_head (λ h _ (_, k). inverts_pass (inverts_tree h k levels) (λ t _ _. inverts_done Anything (h, t)))) (ReportLines levels)
    (λ r ls (h, first, last, (is, k), (t, mid, end, (are, fit, low), (same, none), parts), whole).
    subst (λ y. ReportLines levels y ls) same
    (whole ∙ ap (λ t. t ++ last) is ∙ ap (λ t. head_lines h.asked h.from h.bound ++ t) (parts ∙ ap (λ t. mid ++ t) none ∙ append-nil mid ∙ are), k, fit, low))
    (λ r ls (is, k, fit, low). (
      r.0,
      head_lines r.0.asked r.0.from r.0.bound,
      tree_lines r.0.from r.0.asked.model.init r.1,
      (refl, k),
      (r.1, tree_lines r.0.from r.0.asked.model.init r.1, [], (refl, fit, low), (refl, refl), sym (append-nil (tree_lines r.0.from r.0.asked.model.init r.1))),
      is,
    ))

-- ---- the laws

pub heads_back : HeadsAreReadBack
heads_back h n rest k = inverts_head.again n h (reported_lines h) rest (refl, head_form h k) tt

pub heads_reported : ReadHeadsAreReported
heads_reported h n m text rest e = let t = inverts_head.takes n m text rest h e in
    (form_head h t.1.1, t.2 ∙ ap (λ (ls : Lines). concat ls ++ rest) t.1.0, t.3 ∙ ap (λ (ls : Lines). n + length ls) t.1.0)

pub nodes_back : NodesAreReadBack
nodes_back h node n rest k fit = (inverts_node h (head_form h k)).again n node (node_lines h.from h.asked.model.init node) rest (refl, fit) tt

pub nodes_reported : ReadNodesAreReported
nodes_reported h node n m text rest k e = let t = (inverts_node h (head_form h k)).takes n m text rest node e in
    (t.1.1, t.2 ∙ ap (λ (ls : Lines). concat ls ++ rest) t.1.0, t.3 ∙ ap (λ (ls : Lines). n + length ls) t.1.0)

whole_text : (h : HeadData) (t : Tree) → concat (report_lines h t) ≡ text_of h t
whole_text h t = concat-append (reported_lines h) (tree_lines h.from h.asked.model.init t)

whole_count : (h : HeadData) (t : Tree) → length (report_lines h t) ≡ line_count h t
whole_count h t = length-append (reported_lines h) (tree_lines h.from h.asked.model.init t)

pub reports_back : ReportsAreReadBack
reports_back h t levels rest fit low =
    ap (λ x. report_at levels (1, x ++ rest)) (sym (whole_text h t))
    ∙ (inverts_report levels).again 1 (h, t) (report_lines h t) rest (refl, head_form h fit.head, fit.nodes, low) tt
    ∙ ap (λ k. Ok ((h, t), (1 + k, rest))) (whole_count h t)

pub reports_reported : ReadReportsAreReported
reports_reported h t levels m text rest e = let r = (inverts_report levels).takes 1 m text rest (h, t) e in (
  record { head = form_head h r.1.1; nodes = r.1.2 },
  r.1.3,
  r.2 ∙ ap (λ (ls : Lines). concat ls ++ rest) r.1.0 ∙ ap (λ x. x ++ rest) (whole_text h t),
  r.3 ∙ ap (λ (ls : Lines). 1 + length ls) r.1.0 ∙ ap (λ k. 1 + k) (whole_count h t),
)

pub one_report : TextsTellOneReport
one_report h g t s rest more fh fg e =
    let levels : ℕ = height t + height s in
    let one = reports_back h t levels rest fh (omega arith) in
    let two = reports_back g s levels more fg (omega arith) in
    let same : ((h, t), (1 + line_count h t, rest)) ≡ ((g, s), (1 + line_count g s, more)) = ok_is ((h, t), (1 + line_count h t, rest)) ((g, s), (1 + line_count g s, more)) (sym one ∙ ap (λ x. report_at levels (1, x)) e ∙ two) in
    (ap (λ (x : (HeadData × Tree) × Cursor). x.0.0) same, ap (λ (x : (HeadData × Tree) × Cursor). x.0.1) same, ap (λ (x : (HeadData × Tree) × Cursor). x.1.1) same)

pub prefixes_truncated : PrefixesAreTruncated
prefixes_truncated h t levels front back fit low e some = (inverts_report levels).short 1 (h, t) (report_lines h t) front back (refl, head_form h fit.head, fit.nodes, low) (whole_text h t ∙ e) some
