use Rattle.std.proofs.Common.{◌≡◌, ◌∙◌, List, ℕ, ℤ, Err, refl, ap, rules}
use Rattle.lift_grid.specs.Rectangle.{spans_of}
use Rattle.corner_lift.specs.Case.{CaseData, greatest_depth}
use Rattle.cert_check.specs.Answer.{no_leaves}
use Rattle.cert_check.specs.declared.walk.Walk.{Walk}
use Rattle.cert_check.specs.declared.error.CheckError.TheVariants.{Memory}
use Rattle.cert_check.proofs.Walking.{begin, tail, wanting}
use Rattle.cert_check.proofs.Steps.{Nodes, came_start, nodes_fail, nodes_passed}
use Rattle.cert_check.proofs.file.check_nodes.Goals as goal

pub returns-in_err-walk-clause-end : goal.returns-in_err-walk-clause-end
returns-in_err-walk-clause-end g c =
    let is : c.from_residual.result ≡ Err Memory = search rules in
    wanting c.calls_add_up.ensures (λ _ s. s) c.from_residual.result is c.requires.clean (begin c.calls_add_up.ensures (Nodes c.args.report.now.head.now c.args.walk.now.lines) c.args.walk.now.lines c.args.src.now)

pub returns-in_err-sides-clause-end : goal.returns-in_err-sides-clause-end
returns-in_err-sides-clause-end g c =
    let is : c.from_residual-in_err-sides.result ≡ Err Memory = search rules in
    wanting c.calls_add_up.ensures (λ _ s. s) c.from_residual-in_err-sides.result is c.requires.clean (begin c.calls_add_up.ensures (Nodes c.args.report.now.head.now c.args.walk.now.lines) c.args.walk.now.lines c.args.src.now)

pub returns-in_err-check_tree-clause-end : goal.returns-in_err-check_tree-clause-end
returns-in_err-check_tree-clause-end g c =
    let h = c.args.report.now.head.now in
    let w : Walk = record { lines = c.args.walk.now.lines; node = c.args.walk.now.node; leaves = c.none-walk.result; weights = c.in_ok-walk.field-0 } in
    let e = c.in_err-check_tree.field-0.0 in
    let is : c.from_residual-in_err-check_tree.result ≡ Err e = search rules in
    let root : spans_of c.deref_mut.result.now ≡ h.asked.root = ap (λ (s : List ℤ). spans_of s) (c.deref_mut.ensures.value ∙ c.in_ok-sides.ensures.items) ∙ c.sides.ensures.same ∙ c.root.ensures.value ∙ ap (λ (k : CaseData). k.root) c.requires.asked in
    nodes_fail h w (spans_of c.deref_mut.result.now) c.greatest_depth.result (c.greatest_depth.ensures ∙ ap (λ (k : CaseData). greatest_depth k) c.requires.asked) root (λ later. came_start h w c.args.walk.now.lines later refl c.requires.node (c.none-walk.ensures ∙ ap (λ (n : ℕ). no_leaves n) c.version.ensures)) c.calls_add_up.ensures _ e c.from_residual-in_err-check_tree.result is c.in_err-check_tree.ensures.end

pub returns-clause-end : goal.returns-clause-end
returns-clause-end g c =
    let h = c.args.report.now.head.now in
    let w : Walk = record { lines = c.args.walk.now.lines; node = c.args.walk.now.node; leaves = c.none-walk.result; weights = c.in_ok-walk.field-0 } in
    let root : spans_of c.deref_mut.result.now ≡ h.asked.root = ap (λ (s : List ℤ). spans_of s) (c.deref_mut.ensures.value ∙ c.in_ok-sides.ensures.items) ∙ c.sides.ensures.same ∙ c.root.ensures.value ∙ ap (λ (k : CaseData). k.root) c.requires.asked in
    let so = nodes_passed h w (spans_of c.deref_mut.result.now) c.greatest_depth.result (c.greatest_depth.ensures ∙ ap (λ (k : CaseData). greatest_depth k) c.requires.asked) root (λ later. came_start h w c.args.walk.now.lines later refl c.requires.node (c.none-walk.ensures ∙ ap (λ (n : ℕ). no_leaves n) c.version.ensures)) c.calls_add_up.ensures c.check_tree.new.walk c.in_ok-check_tree.ensures.end in
    tail c.calls_add_up.ensures c.check_rest.result so c.check_rest.ensures.end
