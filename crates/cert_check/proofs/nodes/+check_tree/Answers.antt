use Rattle.std.proofs.Common.{◌≡◌, ◌-◌, List, [], length, ℤ, Ok, Err, sym, ap, ◌∙◌, subst, arith, rules}
use Rattle.lift_grid.specs.Rectangle.{sides_of, spans_of}
use Rattle.lift_grid.specs.Splitting.{IsSplitAxis}
use Rattle.lift_grid.specs.Tree.{RejectData, lower_half}
use Rattle.lift_model.specs.Model.{live}
use Rattle.corner_lift.specs.Case.{CaseData}
use Rattle.lift_cert.specs.Miss.{IsFirstAcceptMiss}
use Rattle.lift_cert.specs.RejectMiss.{IsFirstRejectMiss}
use Rattle.line_text.specs.Follow.{place}
use Rattle.cert_text.specs.Leaf.{node_of}
use Rattle.cert_text.specs.Nodes.{split, accept, reject, unknown}
use Rattle.cert_text.specs.Head.{case_at}
use Rattle.cert_check.specs.Answer.{behind}
use Rattle.cert_check.specs.Shown.{IsPlaced, IsInProgress, came_of, reported}
use Rattle.cert_check.specs.declared.error.CheckError.TheVariants.{Memory}
use Rattle.cert_check.specs.declared.summary.Summary.{Summary}
use Rattle.cert_check.specs.declared.walk.Walk.{Walk}
use Rattle.cert_check.proofs.Forms.{reject_form}
use Rattle.cert_check.proofs.Precise.{precise}
use Rattle.cert_check.proofs.Walking.{begin, tail, unread, wanting}
use Rattle.cert_check.proofs.Steps.{Whole, accept_holds, accept_missed, few_given, few_visited, halves_begin, halves_of, leaf_passed, lower_fails, lower_passed, visited_accept, visited_reject, visited_same, visited_unknown, missed_calm, node_faulted, node_fits, node_given, node_read, not_read, reject_holds, reject_missed, depth_calm, split_calm, split_reported, unknown_deep, unknown_stands, progress_behind}
use Rattle.cert_check.proofs.nodes.+check_tree.Goals as goal

-- ---- a node

pub returns-in_err-node-clause-end : goal.returns-in_err-node-clause-end
returns-in_err-node-clause-end g t c =
    let h = c.args.report.now.head.now in
    let w = c.args.walk.now in
    let ss = spans_of c.args.sides.now in
    let adds = c.calls_add_up.ensures in
    let e = c.in_err-node.field-0.0 in
    let is : c.from_residual.result ≡ Err (reported e) = search rules in
    unread adds _ (begin adds (Whole h c.args.levels ss w) w.lines c.args.src.now) (not_read h c.args.levels ss w) e c.from_residual.result is c.in_err-node.ensures

-- ---- a split

pub returns-in_err-test_split-in-Split-clause-end : goal.returns-in_err-test_split-in-Split-clause-end
returns-in_err-test_split-in-Split-clause-end g t c =
    let h = c.args.report.now.head.now in
    let w = c.args.walk.now in
    let ss = spans_of c.args.sides.now in
    let k = c.args.report.now.case.now in
    let axis = c.in-Split.axis in
    let e = c.in_err-test_split-in-Split.field-0.0 in
    let l = c.read_node.new.lines in
    let is : c.from_residual-in_err-test_split-in-Split.result ≡ Err e = search rules in
    let node : node_of c.in_ok-node.node ≡ split axis = ap node_of c.in-Split.is in
    let f = c.in_ok-node.ensures in
    let adds = c.calls_add_up.ensures in
    let reported = c.in_err-test_split-in-Split.ensures in
    node_faulted adds h c.args.levels ss w _ e c.from_residual-in_err-test_split-in-Split.result is f.ran.left_with (split_calm (live k.model) c.args.levels ss w.node axis e reported)
    (node_read adds h c.args.levels ss w (split axis) node f (λ later answer. answer ≡ Err e)
    (λ rest later read answer same. subst (λ a. Whole h c.args.levels ss w rest a) (sym same) (split_reported h c.args.levels ss (came_of w rest) (place l later) axis k e read c.requires.asked reported)))

pub lower_half-requires-clause-halvable : goal.lower_half-requires-clause-halvable
lower_half-requires-clause-halvable g t c =
    let may = c.in_ok-test_split-in-Split.ensures in
    (halves_of c.rectangles_are_placed.ensures.halves c.args.report.now.case.now c.args.levels c.in-Split.axis (spans_of c.args.sides.now) c.w-2.ensures.case c.requires.placed may.0 may.1).0

pub returns-in_err-lower-in-Split-clause-end : goal.returns-in_err-lower-in-Split-clause-end
returns-in_err-lower-in-Split-clause-end g t c =
    let h = c.args.report.now.head.now in
    let w = c.args.walk.now in
    let ss = spans_of c.args.sides.now in
    let axis = c.in-Split.axis in
    let is : c.from_residual-in_err-lower-in-Split.result ≡ Err Memory = search rules in
    let node : node_of c.in_ok-node.node ≡ split axis = ap node_of c.in-Split.is in
    let f = c.in_ok-node.ensures in
    let adds = c.calls_add_up.ensures in
    wanting adds _ c.from_residual-in_err-lower-in-Split.result is f.ran.left_with
    (node_read adds h c.args.levels ss w (split axis) node f (λ later answer. ⊥) (λ rest later read answer bad. absurd bad))

pub pass-requires : goal.pass-requires
pass-requires g t c =
    let h = c.args.report.now.head.now in
    let w = c.args.walk.now in
    let f = c.in_ok-node.ensures in
    few_given w c.read_node.new.lines c.requires.progress (node_given c.nodes_are_read.ensures.reported h c.w.ensures.head f) f.ran.left_with c.given.ensures.counted c.given.ensures.limit c.given.ensures.small

pub check_tree-requires : goal.check_tree-requires
check_tree-requires g t c κs within =
    let k = c.args.report.now.case.now in
    let h = c.args.report.now.head.now in
    let w = c.args.walk.now in
    let x = c.pass.new.self in
    let axis = c.in-Split.axis in
    let ss = spans_of c.args.sides.now in
    let f = c.in_ok-node.ensures in
    let may = c.in_ok-test_split-in-Split.ensures in
    let halves = halves_of c.rectangles_are_placed.ensures.halves k c.args.levels axis ss c.w-2.ensures.case c.requires.placed may.0 may.1 in
    let same : c.deref_mut.result.now ≡ c.in_ok-lower-in-Split.lower.items = c.deref_mut.ensures.value in
    let stands : IsPlaced k (c.args.levels - 1) (spans_of c.deref_mut.result.now) = rw (same, c.in_ok-lower-in-Split.ensures.half) halves.1 in
    let paired : sides_of (spans_of c.deref_mut.result.now) ≡ c.deref_mut.result.now = rw same c.in_ok-lower-in-Split.ensures.paired in
    let progress : IsInProgress x = progress_behind w x c.read_node.new.lines w.weights w.leaves c.requires.progress (node_given c.nodes_are_read.ensures.reported h c.w.ensures.head f) f.ran.left_with c.pass.ensures (visited_same w.leaves) in
    let some = may.0 in
    (omega (arith, some, c.decreases), (within, (c.requires.asked, (c.requires.places, (ap (λ (y : Walk). length y.weights.items) c.pass.ensures ∙ c.requires.weights, (stands, (paired, progress)))))))

pub returns-in_err-check_tree-in-Split-clause-end : goal.returns-in_err-check_tree-in-Split-clause-end
returns-in_err-check_tree-in-Split-clause-end g t c =
    let h = c.args.report.now.head.now in
    let w = c.args.walk.now in
    let ss = spans_of c.args.sides.now in
    let axis = c.in-Split.axis in
    let may = c.in_ok-test_split-in-Split.ensures in
    let e = c.in_err-check_tree-in-Split.field-0.0 in
    let is : c.from_residual-in_err-check_tree-in-Split.result ≡ Err e = search rules in
    let node : node_of c.in_ok-node.node ≡ split axis = ap node_of c.in-Split.is in
    let adds = c.calls_add_up.ensures in
    let lower : spans_of c.deref_mut.result.now ≡ lower_half axis ss = ap (λ (s : List ℤ). spans_of s) c.deref_mut.ensures.value ∙ c.in_ok-lower-in-Split.ensures.half in
    let axis_is : IsSplitAxis (live h.asked.model) ss axis = subst (λ (a : CaseData). IsSplitAxis (live a.model) ss axis) c.requires.asked may.1 in
    let so = halves_begin adds h c.args.levels axis ss w c.pass.new.self w.weights c.pass.ensures node c.in_ok-node.ensures may.0 axis_is in
    lower_fails adds h c.args.levels axis ss w c.pass.new.self so (spans_of c.deref_mut.result.now) lower _ _ e c.from_residual-in_err-check_tree-in-Split.result is c.in_err-check_tree-in-Split.ensures.end

pub narrow-requires : goal.narrow-requires
narrow-requires g t c =
    let may = c.in_ok-test_split-in-Split.ensures in
    (halves_of c.rectangles_are_placed.ensures.halves c.args.report.now.case.now c.args.levels c.in-Split.axis (spans_of c.args.sides.now) c.w-2.ensures.case c.requires.placed may.0 may.1).0

pub check_tree-requires-in-Split : goal.check_tree-requires-in-Split
check_tree-requires-in-Split g t c κs within =
    let k = c.args.report.now.case.now in
    let axis = c.in-Split.axis in
    let ss = spans_of c.args.sides.now in
    let may = c.in_ok-test_split-in-Split.ensures in
    let halves = halves_of c.rectangles_are_placed.ensures.halves k c.args.levels axis ss c.w-2.ensures.case c.requires.placed may.0 may.1 in
    let stands : IsPlaced k (c.args.levels - 1) (spans_of c.narrow.new.sides) = rw c.narrow.ensures.half halves.2 in
    let some = may.0 in
    (omega (arith, some, c.decreases), (within, (c.requires.asked, (c.requires.places, (c.in_ok-check_tree-in-Split.ensures.weights ∙ ap (λ (y : Walk). length y.weights.items) c.pass.ensures ∙ c.requires.weights, (stands, (c.narrow.ensures.pairs c.requires.paired, c.in_ok-check_tree-in-Split.ensures.progress)))))))

pub returns-in_ok-check_tree-in-Split-clause-end : goal.returns-in_ok-check_tree-in-Split-clause-end
returns-in_ok-check_tree-in-Split-clause-end g t c =
    let h = c.args.report.now.head.now in
    let w = c.args.walk.now in
    let ss = spans_of c.args.sides.now in
    let axis = c.in-Split.axis in
    let may = c.in_ok-test_split-in-Split.ensures in
    let node : node_of c.in_ok-node.node ≡ split axis = ap node_of c.in-Split.is in
    let adds = c.calls_add_up.ensures in
    let lower : spans_of c.deref_mut.result.now ≡ lower_half axis ss = ap (λ (s : List ℤ). spans_of s) c.deref_mut.ensures.value ∙ c.in_ok-lower-in-Split.ensures.half in
    let axis_is : IsSplitAxis (live h.asked.model) ss axis = subst (λ (a : CaseData). IsSplitAxis (live a.model) ss axis) c.requires.asked may.1 in
    let so = halves_begin adds h c.args.levels axis ss w c.pass.new.self w.weights c.pass.ensures node c.in_ok-node.ensures may.0 axis_is in
    let so2 = lower_passed adds h c.args.levels axis ss w c.pass.new.self so (spans_of c.deref_mut.result.now) lower c.check_tree.new.walk c.in_ok-check_tree-in-Split.ensures.end in
    tail adds c.check_tree-in-Split.result so2 (rw c.narrow.ensures.half at c.check_tree-in-Split.ensures.end)

-- ---- leaves

pub asked_at-requires : goal.asked_at-requires
asked_at-requires g t c =
    let h = c.args.report.now.head.now in
    let node : node_of c.in_ok-node.node ≡ accept c.in-Accept.u c.in-Accept.x = ap node_of c.in-Accept.is in
    let fit = node_fits c.nodes_are_read.ensures.reported h c.w.ensures.head (accept c.in-Accept.u c.in-Accept.x) node c.in_ok-node.ensures in
    rw c.requires.asked (precise h c.in-Accept.u c.w.ensures.head fit.0)

pub asked_at-requires-in-Reject : goal.asked_at-requires-in-Reject
asked_at-requires-in-Reject g t c =
    let h = c.args.report.now.head.now in
    let r : RejectData = record { numbers = c.in-Reject.y; picks = c.in-Reject.picks; ranks = c.in-Reject.ranks; e = c.in-Reject.e; k = c.in-Reject.k } in
    let node : node_of c.in_ok-node.node ≡ reject c.in-Reject.u r = ap node_of c.in-Reject.is in
    let fit = node_fits c.nodes_are_read.ensures.reported h c.w.ensures.head (reject c.in-Reject.u r) node c.in_ok-node.ensures in
    rw c.requires.asked (precise h c.in-Reject.u c.w.ensures.head fit.0)

pub test_accept-requires-clause-numbers : goal.test_accept-requires-clause-numbers
test_accept-requires-clause-numbers g t c =
    let h = c.args.report.now.head.now in
    let node : node_of c.in_ok-node.node ≡ accept c.in-Accept.u c.in-Accept.x = ap node_of c.in-Accept.is in
    let fit = node_fits c.nodes_are_read.ensures.reported h c.w.ensures.head (accept c.in-Accept.u c.in-Accept.x) node c.in_ok-node.ensures in
    rw (c.as_slice.ensures, c.asked_at.ensures.case, c.requires.asked) fit.1

pub test_reject-requires-clause-form : goal.test_reject-requires-clause-form
test_reject-requires-clause-form g t c =
    let h = c.args.report.now.head.now in
    let r : RejectData = record { numbers = c.in-Reject.y; picks = c.in-Reject.picks; ranks = c.in-Reject.ranks; e = c.in-Reject.e; k = c.in-Reject.k } in
    let node : node_of c.in_ok-node.node ≡ reject c.in-Reject.u r = ap node_of c.in-Reject.is in
    let fit = node_fits c.nodes_are_read.ensures.reported h c.w.ensures.head (reject c.in-Reject.u r) node c.in_ok-node.ensures in
    rw (c.as_slice-in-Reject.ensures, c.as_slice-in-Reject-2.ensures, c.as_slice-in-Reject-3.ensures, c.asked_at-in-Reject.ensures.case, c.requires.asked) (reject_form (case_at c.in-Reject.u h.asked) r fit.1)

pub returns-in_err-test_accept-in-Accept-clause-end : goal.returns-in_err-test_accept-in-Accept-clause-end
returns-in_err-test_accept-in-Accept-clause-end g t c =
    let h = c.args.report.now.head.now in
    let w = c.args.walk.now in
    let ss = spans_of c.args.sides.now in
    let l = c.read_node.new.lines in
    let u = c.in-Accept.u in
    let e = c.in_err-test_accept-in-Accept.field-0.0 in
    let is : c.from_residual-in_err-test_accept-in-Accept.result ≡ Err e = search rules in
    let node : node_of c.in_ok-node.node ≡ accept u c.in-Accept.x = ap node_of c.in-Accept.is in
    let f = c.in_ok-node.ensures in
    let adds = c.calls_add_up.ensures in
    let missed = rw c.as_slice.ensures at c.in_err-test_accept-in-Accept.ensures.test in
    node_faulted adds h c.args.levels ss w _ e c.from_residual-in_err-test_accept-in-Accept.result is f.ran.left_with (missed_calm w.node (IsFirstAcceptMiss c.asked_at.result.case ss c.asked_at.result.bound c.in-Accept.x) e missed)
    (node_read adds h c.args.levels ss w (accept u c.in-Accept.x) node f (λ later answer. answer ≡ Err e)
    (λ rest later read answer same. subst (λ a. Whole h c.args.levels ss w rest a) (sym same) (accept_missed h c.args.levels ss (came_of w rest) (place l later) u c.in-Accept.x c.asked_at.result.case c.asked_at.result.bound e read (c.asked_at.ensures.case ∙ ap (case_at u) c.requires.asked) c.asked_at.ensures.bound missed)))

pub returns-in_ok-test_accept-in-Accept-clause-end : goal.returns-in_ok-test_accept-in-Accept-clause-end
returns-in_ok-test_accept-in-Accept-clause-end g t c =
    let h = c.args.report.now.head.now in
    let w = c.args.walk.now in
    let ss = spans_of c.args.sides.now in
    let l = c.read_node.new.lines in
    let u = c.in-Accept.u in
    let node : node_of c.in_ok-node.node ≡ accept u c.in-Accept.x = ap node_of c.in-Accept.is in
    let f = c.in_ok-node.ensures in
    let adds = c.calls_add_up.ensures in
    let holds = rw c.as_slice.ensures at c.in_ok-test_accept-in-Accept.ensures.test in
    leaf_passed adds h c.args.levels ss w c.pass-in-Accept.new.self _ c.one_accept.result c.pass-in-Accept.ensures f.ran.left_with
    (node_read adds h c.args.levels ss w (accept u c.in-Accept.x) node f (λ later answer. answer ≡ Ok (behind (came_of w []) (place l later) c.one_accept.result))
    (λ rest later read answer same. accept_holds h c.args.levels ss (came_of w rest) (place l later) u c.in-Accept.x c.asked_at.result.case c.asked_at.result.bound answer read (c.asked_at.ensures.case ∙ ap (case_at u) c.requires.asked) c.asked_at.ensures.bound holds
    (same ∙ ap (λ (s : Summary). Ok (behind (came_of w []) (place l later) s)) c.one_accept.ensures)))

pub returns-in_ok-test_accept-in-Accept-clause-progress : goal.returns-in_ok-test_accept-in-Accept-clause-progress
returns-in_ok-test_accept-in-Accept-clause-progress g t c =
    let w = c.args.walk.now in
    let f = c.in_ok-node.ensures in
    progress_behind w c.pass-in-Accept.new.self c.read_node.new.lines _ c.one_accept.result c.requires.progress (node_given c.nodes_are_read.ensures.reported c.args.report.now.head.now c.w.ensures.head f) f.ran.left_with c.pass-in-Accept.ensures (visited_accept w.leaves c.one_accept.result c.one_accept.ensures)

pub returns-in_err-test_reject-in-Reject-clause-end : goal.returns-in_err-test_reject-in-Reject-clause-end
returns-in_err-test_reject-in-Reject-clause-end g t c =
    let h = c.args.report.now.head.now in
    let w = c.args.walk.now in
    let ss = spans_of c.args.sides.now in
    let l = c.read_node.new.lines in
    let u = c.in-Reject.u in
    let r : RejectData = record { numbers = c.in-Reject.y; picks = c.in-Reject.picks; ranks = c.in-Reject.ranks; e = c.in-Reject.e; k = c.in-Reject.k } in
    let e = c.in_err-test_reject-in-Reject.field-0.0 in
    let is : c.from_residual-in_err-test_reject-in-Reject.result ≡ Err e = search rules in
    let node : node_of c.in_ok-node.node ≡ reject u r = ap node_of c.in-Reject.is in
    let f = c.in_ok-node.ensures in
    let adds = c.calls_add_up.ensures in
    let missed = rw (c.as_slice-in-Reject.ensures, c.as_slice-in-Reject-2.ensures, c.as_slice-in-Reject-3.ensures) at c.in_err-test_reject-in-Reject.ensures.test in
    node_faulted adds h c.args.levels ss w _ e c.from_residual-in_err-test_reject-in-Reject.result is f.ran.left_with (missed_calm w.node (IsFirstRejectMiss c.asked_at-in-Reject.result.case ss c.asked_at-in-Reject.result.bound r) e missed)
    (node_read adds h c.args.levels ss w (reject u r) node f (λ later answer. answer ≡ Err e)
    (λ rest later read answer same. subst (λ a. Whole h c.args.levels ss w rest a) (sym same) (reject_missed h c.args.levels ss (came_of w rest) (place l later) u r c.asked_at-in-Reject.result.case c.asked_at-in-Reject.result.bound e read (c.asked_at-in-Reject.ensures.case ∙ ap (case_at u) c.requires.asked) c.asked_at-in-Reject.ensures.bound missed)))

pub returns-in_ok-test_reject-in-Reject-clause-end : goal.returns-in_ok-test_reject-in-Reject-clause-end
returns-in_ok-test_reject-in-Reject-clause-end g t c =
    let h = c.args.report.now.head.now in
    let w = c.args.walk.now in
    let ss = spans_of c.args.sides.now in
    let l = c.read_node.new.lines in
    let u = c.in-Reject.u in
    let r : RejectData = record { numbers = c.in-Reject.y; picks = c.in-Reject.picks; ranks = c.in-Reject.ranks; e = c.in-Reject.e; k = c.in-Reject.k } in
    let node : node_of c.in_ok-node.node ≡ reject u r = ap node_of c.in-Reject.is in
    let f = c.in_ok-node.ensures in
    let adds = c.calls_add_up.ensures in
    let holds = rw (c.as_slice-in-Reject.ensures, c.as_slice-in-Reject-2.ensures, c.as_slice-in-Reject-3.ensures) at c.in_ok-test_reject-in-Reject.ensures.test in
    leaf_passed adds h c.args.levels ss w c.pass-in-Reject.new.self _ c.one_reject.result c.pass-in-Reject.ensures f.ran.left_with
    (node_read adds h c.args.levels ss w (reject u r) node f (λ later answer. answer ≡ Ok (behind (came_of w []) (place l later) c.one_reject.result))
    (λ rest later read answer same. reject_holds h c.args.levels ss (came_of w rest) (place l later) u r c.asked_at-in-Reject.result.case c.asked_at-in-Reject.result.bound answer read (c.asked_at-in-Reject.ensures.case ∙ ap (case_at u) c.requires.asked) c.asked_at-in-Reject.ensures.bound holds
    (same ∙ ap (λ (s : Summary). Ok (behind (came_of w []) (place l later) s)) c.one_reject.ensures)))

pub returns-in_ok-test_reject-in-Reject-clause-progress : goal.returns-in_ok-test_reject-in-Reject-clause-progress
returns-in_ok-test_reject-in-Reject-clause-progress g t c =
    let w = c.args.walk.now in
    let f = c.in_ok-node.ensures in
    progress_behind w c.pass-in-Reject.new.self c.read_node.new.lines _ c.one_reject.result c.requires.progress (node_given c.nodes_are_read.ensures.reported c.args.report.now.head.now c.w.ensures.head f) f.ran.left_with c.pass-in-Reject.ensures (visited_reject w.leaves c.one_reject.result c.one_reject.ensures)

pub returns-in_err-test_unknown-in-Unknown-clause-end : goal.returns-in_err-test_unknown-in-Unknown-clause-end
returns-in_err-test_unknown-in-Unknown-clause-end g t c =
    let h = c.args.report.now.head.now in
    let w = c.args.walk.now in
    let ss = spans_of c.args.sides.now in
    let l = c.read_node.new.lines in
    let e = c.in_err-test_unknown-in-Unknown.field-0.0 in
    let is : c.from_residual-in_err-test_unknown-in-Unknown.result ≡ Err e = search rules in
    let node : node_of c.in_ok-node.node ≡ unknown = ap node_of c.in-Unknown.is in
    let f = c.in_ok-node.ensures in
    let adds = c.calls_add_up.ensures in
    let deep = c.in_err-test_unknown-in-Unknown.ensures in
    node_faulted adds h c.args.levels ss w _ e c.from_residual-in_err-test_unknown-in-Unknown.result is f.ran.left_with (depth_calm w.node e deep.1)
    (node_read adds h c.args.levels ss w unknown node f (λ later answer. answer ≡ Err e)
    (λ rest later read answer same. subst (λ a. Whole h c.args.levels ss w rest a) (sym same) (unknown_deep h c.args.levels ss (came_of w rest) (place l later) e read deep.0 deep.1)))

pub returns-in_ok-test_unknown-in-Unknown-clause-end : goal.returns-in_ok-test_unknown-in-Unknown-clause-end
returns-in_ok-test_unknown-in-Unknown-clause-end g t c =
    let h = c.args.report.now.head.now in
    let w = c.args.walk.now in
    let ss = spans_of c.args.sides.now in
    let l = c.read_node.new.lines in
    let node : node_of c.in_ok-node.node ≡ unknown = ap node_of c.in-Unknown.is in
    let f = c.in_ok-node.ensures in
    let adds = c.calls_add_up.ensures in
    leaf_passed adds h c.args.levels ss w c.pass-in-Unknown.new.self _ c.one_unknown.result c.pass-in-Unknown.ensures f.ran.left_with
    (node_read adds h c.args.levels ss w unknown node f (λ later answer. answer ≡ Ok (behind (came_of w []) (place l later) c.one_unknown.result))
    (λ rest later read answer same. unknown_stands h c.args.levels ss (came_of w rest) (place l later) answer read c.in_ok-test_unknown-in-Unknown.ensures
    (same ∙ ap (λ (s : Summary). Ok (behind (came_of w []) (place l later) s)) c.one_unknown.ensures)))

pub returns-in_ok-test_unknown-in-Unknown-clause-progress : goal.returns-in_ok-test_unknown-in-Unknown-clause-progress
returns-in_ok-test_unknown-in-Unknown-clause-progress g t c =
    let w = c.args.walk.now in
    let f = c.in_ok-node.ensures in
    progress_behind w c.pass-in-Unknown.new.self c.read_node.new.lines _ c.one_unknown.result c.requires.progress (node_given c.nodes_are_read.ensures.reported c.args.report.now.head.now c.w.ensures.head f) f.ran.left_with c.pass-in-Unknown.ensures (visited_unknown w.leaves c.one_unknown.result c.one_unknown.ensures)

pub one_accept-requires : goal.one_accept-requires
one_accept-requires g t c = (few_visited c.args.walk.now c.requires.progress (few_given c.args.walk.now c.read_node.new.lines c.requires.progress (node_given c.nodes_are_read.ensures.reported c.args.report.now.head.now c.w.ensures.head c.in_ok-node.ensures) c.in_ok-node.ensures.ran.left_with c.given.ensures.counted c.given.ensures.limit c.given.ensures.small)).0

pub pass-requires-in-Accept : goal.pass-requires-in-Accept
pass-requires-in-Accept g t c = few_given c.args.walk.now c.read_node.new.lines c.requires.progress (node_given c.nodes_are_read.ensures.reported c.args.report.now.head.now c.w.ensures.head c.in_ok-node.ensures) c.in_ok-node.ensures.ran.left_with c.given.ensures.counted c.given.ensures.limit c.given.ensures.small

pub one_reject-requires : goal.one_reject-requires
one_reject-requires g t c = (few_visited c.args.walk.now c.requires.progress (few_given c.args.walk.now c.read_node.new.lines c.requires.progress (node_given c.nodes_are_read.ensures.reported c.args.report.now.head.now c.w.ensures.head c.in_ok-node.ensures) c.in_ok-node.ensures.ran.left_with c.given.ensures.counted c.given.ensures.limit c.given.ensures.small)).1

pub pass-requires-in-Reject : goal.pass-requires-in-Reject
pass-requires-in-Reject g t c = few_given c.args.walk.now c.read_node.new.lines c.requires.progress (node_given c.nodes_are_read.ensures.reported c.args.report.now.head.now c.w.ensures.head c.in_ok-node.ensures) c.in_ok-node.ensures.ran.left_with c.given.ensures.counted c.given.ensures.limit c.given.ensures.small

pub one_unknown-requires : goal.one_unknown-requires
one_unknown-requires g t c = (few_visited c.args.walk.now c.requires.progress (few_given c.args.walk.now c.read_node.new.lines c.requires.progress (node_given c.nodes_are_read.ensures.reported c.args.report.now.head.now c.w.ensures.head c.in_ok-node.ensures) c.in_ok-node.ensures.ran.left_with c.given.ensures.counted c.given.ensures.limit c.given.ensures.small)).2

pub pass-requires-in-Unknown : goal.pass-requires-in-Unknown
pass-requires-in-Unknown g t c = few_given c.args.walk.now c.read_node.new.lines c.requires.progress (node_given c.nodes_are_read.ensures.reported c.args.report.now.head.now c.w.ensures.head c.in_ok-node.ensures) c.in_ok-node.ensures.ran.left_with c.given.ensures.counted c.given.ensures.limit c.given.ensures.small
