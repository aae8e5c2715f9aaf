use Rattle.std.proofs.Common.{rules, ◌≡◌, length, refl}
use Rattle.lift_model.specs.Valid.{IsModel}
use Rattle.lift_collapse.proofs.Collapses.{is_collapse_as_built}
use Rattle.lift_collapse.proofs.holds.Candidate.is_collapse.Goals as goal

pub returns : goal.returns
returns c = λ is.
    let m = c.args.self.now in
    let model : IsModel m.collapsed.now.model = search rules in
    let size : length m.collapsed.now.places ≡ length m.model.now.states = search rules in
    is_collapse_as_built m.model.now m.collapsed.now m.kept.now m.lost.now m.links.now c.requires.built model size
    (c.if-not-are_kept.ensures refl) (c.if-not-all_stand.ensures.inside refl) (c.if-not-all_stand.ensures.stands refl)
    (c.all_lost_are.ensures is)
