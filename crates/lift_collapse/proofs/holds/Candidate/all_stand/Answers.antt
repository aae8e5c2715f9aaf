use Rattle.std.proofs.Common.{rules, ◌<◌, false, length, refl, slice_index_or}
use Rattle.lift_model.specs.Links.{position}
use Rattle.lift_collapse.specs.Collapse.{StandsFor, place}
use Rattle.lift_collapse.proofs.Targets.{one_more}
use Rattle.lift_collapse.proofs.holds.Candidate.all_stand.Goals as goal

pub loop-s-preserved : goal.loop-s-preserved
loop-s-preserved c =
    let m = c.args.self.now in
    let inside : place m.collapsed.now c.loop-s.s < length m.kept.now = search rules in
    let stands : StandsFor m.model.now m.collapsed.now (λ i. slice_index_or m.kept.now i 0) (λ t. slice_index_or m.lost.now t false)
    (position m.links.now) c.loop-s.s = c.if-not-stands.ensures refl in
    one_more
    (λ s. (place m.collapsed.now s < length m.kept.now)
    × StandsFor m.model.now m.collapsed.now (λ i. slice_index_or m.kept.now i 0) (λ t. slice_index_or m.lost.now t false)
    (position m.links.now) s)
    c.loop-s.s c.loop-s.invariant (inside, stands)
