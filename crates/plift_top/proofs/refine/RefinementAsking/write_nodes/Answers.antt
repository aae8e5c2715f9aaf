use Rattle.std.proofs.Common.{◌≡◌, [], rules, subst}
use Rattle.std.specs.List.{concat}
use Rattle.lift_base.specs.Outside.{WroteSome}
use Rattle.lift_grid.specs.Tree.{Tree}
use Rattle.region_tree.specs.Bases.{IsRefined}
use Rattle.cert_text.specs.Head.{least_precision}
use Rattle.cert_text.specs.Report.{tree_lines}
use Rattle.plift_top.specs.Refine.{AreRefinedNodes, IsOldTree}
use Rattle.plift_top.specs.RightReport.{node_text}
use Rattle.plift_top.specs.declared.report.Reporter.{Reporter}
use Rattle.plift_top.proofs.Leaves.{entries_are}
use Rattle.plift_top.proofs.Refining.{offers, offers_one, same_text, least_between, whichever}
use Rattle.plift_top.proofs.Telling.{shown}
use Rattle.plift_top.proofs.refine.RefinementAsking.write_nodes.Goals as goal

pub refine-seen-requires-clause-base : goal.refine-seen-requires-clause-base
refine-seen-requires-clause-base g c =
    let r = c.args.self.now in
    rw c.bound.ensures (offers_one c.bases_are_gone_on_from.ensures.bases c.rectangles_at_depths.ensures.root r.case.now r.old.head.now r.old.nodes.now c.requires.can.1)

pub refine-seen-requires-clause-entries : goal.refine-seen-requires-clause-entries
refine-seen-requires-clause-entries g c n =
    let r = c.args.self.now in
    rw c.reported_from.ensures (same_text r.case.now r.old.head.now r.old.nodes.now c.requires.can.1 n)

pub refine-seen-requires-clause-from : goal.refine-seen-requires-clause-from
refine-seen-requires-clause-from g c =
    let r = c.args.self.now in
    rw c.from.ensures (least_between r.case.now r.old.head.now r.old.nodes.now c.requires.can.1)

pub returns : goal.returns
returns g c =
    let r = c.args.self.now in
    let k = r.case.now in
    let h = r.old.head.now in
    let left = r.old.nodes.now in
    let can = c.requires.can.1 in
    let offered = λ (t : Tree) (old : IsOldTree h left t). offers c.bases_are_gone_on_from.ensures.bases c.rectangles_at_depths.ensures.root k h left can t old in
    let each = λ (t : Tree) (old : IsOldTree h left t). rw (c.bound.ensures, c.from.ensures, c.reported_from.ensures) at (c.refine-seen.ensures.walks t [] (rw c.bound.ensures (offered t old))).0 in
    let w = shown (λ (v : Reporter g.row.K.Denot). v.out.now) g.K.Sink.taken g.K.Sink.faults (λ refined. (t : Tree) × IsOldTree h left t × IsRefined k (least_precision h) h.bound k.root 0 t refined) (node_text k h.from) (λ t. concat (tree_lines h.from k.model.init t)) (entries_are k h.from)
    _ _ c.refine-seen.result c.written.result c.written.ensures (whichever (λ (v : Reporter g.row.K.Denot). g.K.Sink.taken v.out.now) (λ (v : Reporter g.row.K.Denot). g.K.Sink.faults v.out.now) k h left (node_text k h.from) _ _ c.refine-seen.result can.old each) in
    let same : c.refine-seen.new.visitor.out.now ≡ c.out-1.given.0 = search rules in
    subst (λ (o : g.row.K.Denot). WroteSome (AreRefinedNodes k h left) g.K.Sink.taken g.K.Sink.faults c.args.out.now o c.written.result) same w
