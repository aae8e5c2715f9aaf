use Rattle.std.proofs.Common.{◌∙◌}
use Rattle.lift_walk.specs.Halved.{preorder_text}
use Rattle.lift_grid.specs.Rectangle.{spans_of}
use Rattle.lift_walk.proofs.Steps.{leaf_steps, unknown_steps}
use Rattle.lift_walk.proofs.walking.Walker.decide.Goals as goal

pub returns-in-Some-clause-steps : goal.returns-in-Some-clause-steps
returns-in-Some-clause-steps g c =
    let d = c.args.self.now.guide.now in
    let at = g.G.Guide.fixed c.args.out.now in
    leaf_steps (g.G.Guide.decides d) (g.G.Guide.is_open d) c.args.self.now.case.now (spans_of c.args.sides.now) c.requires.inside c.args.depth c.requires.leaves (g.G.Guide.is_part d)
    (preorder_text (g.G.Guide.split_entry d at) (g.G.Guide.leaf_entry d at) (g.G.Guide.unknown_entry d at)) g.G.Guide.taken g.G.Guide.faults c.args.out.now c.take_leaf.new.out
    (g.G.Guide.leaf d c.decide.new.room c.in-Some.verdict) c.in-Some.ensures.decided c.take_leaf.result c.take_leaf.ensures.part c.take_leaf.ensures.took

pub returns-in-None-clause-steps : goal.returns-in-None-clause-steps
returns-in-None-clause-steps g c =
    let d = c.args.self.now.guide.now in
    let at = g.G.Guide.fixed c.args.out.now in
    unknown_steps (g.G.Guide.decides d) (g.G.Guide.is_open d) c.args.self.now.case.now (spans_of c.args.sides.now) c.requires.inside c.args.depth c.requires.leaves (g.G.Guide.is_part d)
    (preorder_text (g.G.Guide.split_entry d at) (g.G.Guide.leaf_entry d at) (g.G.Guide.unknown_entry d at)) g.G.Guide.taken g.G.Guide.faults c.args.out.now c.take_unknown.new.out
    c.in-None.ensures.decided (c.if-depth-greatest_depth.true ∙ c.greatest_depth.ensures) c.take_unknown.result c.take_unknown.ensures.part c.take_unknown.ensures.took
