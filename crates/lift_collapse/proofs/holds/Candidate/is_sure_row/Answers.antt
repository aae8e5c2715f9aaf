use Rattle.std.proofs.Common.{rules, ◌≡◌, ◌<◌, slice_index_or}
use Rattle.lift_model.specs.Links.{position}
use Rattle.lift_collapse.specs.Collapse.{place}
use Rattle.lift_collapse.proofs.Targets.{all_targets, one_more}
use Rattle.lift_collapse.proofs.holds.Candidate.is_sure_row.Goals as goal

pub loop-target-preserved : goal.loop-target-preserved
loop-target-preserved c =
    let m = c.args.self.now in
    let t = slice_index_or c.targets-target-items.result.now c.loop-target.target-index 0 in
    let there : place m.collapsed.now t ≡ place m.collapsed.now c.args.s = search rules in
    let before : position m.links.now t < position m.links.now c.args.s = search rules in
    one_more
    (λ i. let t = slice_index_or c.targets-target-items.result.now i 0 in (place m.collapsed.now t ≡ place m.collapsed.now c.args.s)
    × (position m.links.now t < position m.links.now c.args.s))
    c.loop-target.target-index c.loop-target.invariant (there, before)

pub returns : goal.returns
returns c = λ is.
    let m = c.args.self.now in
    all_targets
    (λ t. (place m.collapsed.now t ≡ place m.collapsed.now c.args.s) × (position m.links.now t < position m.links.now c.args.s))
    m.model.now m.links.now c.args.s c.args.a c.loop-target.target-index c.place.result c.targets-target-items.result.now
    c.requires.links.laid c.requires.row c.place.ensures c.targets-target-items.ensures c.loop-target-test.false
    c.loop-target.invariant
