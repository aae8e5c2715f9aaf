use Rattle.std.proofs.Common.{◌≡◌, true, false, sym, subst}
use Rattle.lift_grid.specs.Rectangle.{spans_of}
use Rattle.lift_walk.specs.Halved.{preorder_text}
use Rattle.lift_walk.proofs.Steps.{steps_afresh}
use Rattle.lift_walk.proofs.Known.{was_false, was_true, none_is, split_halves, split_stands, leaf_goes_on, unknown_is, unknown_stands}
use Rattle.lift_walk.proofs.walking.Walker.step.Goals as goal

pub returns-then-not-place-clause-steps : goal.returns-then-not-place-clause-steps
returns-then-not-place-clause-steps g c =
    let d = c.args.self.now.guide.now in
    let k = c.args.self.now.case.now in
    let at = g.G.Guide.fixed c.args.out.now in
    let base = c.args.base.now in
    let ss = spans_of c.args.sides.now in
    let known_is : c.args.place.known ≡ false = was_false c.args.place.known c.if-not-place.true in
    steps_afresh (g.G.Guide.decides d) (g.G.Guide.is_open d) k ss c.requires.inside c.args.place.depth c.requires.leaves (g.G.Guide.is_part d)
    (preorder_text (g.G.Guide.split_entry d at) (g.G.Guide.leaf_entry d at) (g.G.Guide.unknown_entry d at)) g.G.Guide.taken g.G.Guide.faults c.args.out.now c.decide.new.out
    (g.G.Guide.may d) c.args.place.known g.G.Guide.first (g.G.Guide.is_ahead d base at) (g.G.Guide.is_ahead d base (g.G.Guide.fixed c.decide.new.out)) c.split_axes_are_one.ensures
    (λ t rest offered. let n = none_is (g.G.Guide.may d) k ss c.args.place.depth c.args.place.known g.G.Guide.first (g.G.Guide.is_ahead d base at) known_is t rest offered in
    (n.0, subst (λ f. g.G.Guide.is_ahead d base f rest) (sym c.decide.ensures.fixed) n.1))
    c.decide.result c.decide.ensures.steps

pub returns-in-Split-clause-steps : goal.returns-in-Split-clause-steps
returns-in-Split-clause-steps g c =
    let d = c.args.self.now.guide.now in
    let k = c.args.self.now.case.now in
    let at = g.G.Guide.fixed c.args.out.now in
    let ss = spans_of c.args.sides.now in
    let text = preorder_text (g.G.Guide.split_entry d at) (g.G.Guide.leaf_entry d at) (g.G.Guide.unknown_entry d at) in
    let known_is : c.args.place.known ≡ true = was_true c.args.place.known c.if-not-place.false in
    let ahead = g.G.Guide.is_ahead d c.args.base.now at in
    let after = g.G.Guide.is_ahead d c.next.new.base (g.G.Guide.fixed c.next.new.out) in
    let stands = split_stands (g.G.Guide.may d) k ss c.args.place.depth c.args.place.known g.G.Guide.first ahead (g.G.Guide.decides d) (g.G.Guide.is_open d) after (g.G.Guide.is_part d) text
    g.G.Guide.taken g.G.Guide.faults c.args.out.now c.next.new.out known_is c.next.result c.next.ensures.given c.in-Split.axis c.in-Split.is c.requires.base in (
      stands.0,
      (
        stands.1,
        λ t rest offered.
            split_halves (g.G.Guide.may d) k ss c.args.place.depth c.args.place.known g.G.Guide.first ahead (g.G.Guide.decides d) (g.G.Guide.is_open d) after (g.G.Guide.is_part d) text
            g.G.Guide.taken g.G.Guide.faults c.args.out.now c.next.new.out known_is c.next.result c.next.ensures.given c.in-Split.axis c.in-Split.is t rest offered,
      ),
    )

pub returns-in-Leaf-clause-steps : goal.returns-in-Leaf-clause-steps
returns-in-Leaf-clause-steps g c =
    let d = c.args.self.now.guide.now in
    let k = c.args.self.now.case.now in
    let at = g.G.Guide.fixed c.args.out.now in
    let ss = spans_of c.args.sides.now in
    let text = preorder_text (g.G.Guide.split_entry d at) (g.G.Guide.leaf_entry d at) (g.G.Guide.unknown_entry d at) in
    let known_is : c.args.place.known ≡ true = was_true c.args.place.known c.if-not-place.false in
    leaf_goes_on (g.G.Guide.may d) k ss c.args.place.depth c.args.place.known g.G.Guide.first (g.G.Guide.is_ahead d c.args.base.now at) (g.G.Guide.decides d) (g.G.Guide.is_open d)
    (g.G.Guide.is_ahead d c.next.new.base (g.G.Guide.fixed c.next.new.out)) (g.G.Guide.is_part d) text
    g.G.Guide.taken g.G.Guide.faults c.args.out.now c.next.new.out known_is c.next.result c.next.ensures.given c.in-Leaf.result c.in-Leaf.is

pub returns-in-Unknown-clause-steps : goal.returns-in-Unknown-clause-steps
returns-in-Unknown-clause-steps g c =
    let d = c.args.self.now.guide.now in
    let k = c.args.self.now.case.now in
    let at = g.G.Guide.fixed c.args.out.now in
    let ss = spans_of c.args.sides.now in
    let text = preorder_text (g.G.Guide.split_entry d at) (g.G.Guide.leaf_entry d at) (g.G.Guide.unknown_entry d at) in
    let known_is : c.args.place.known ≡ true = was_true c.args.place.known c.if-not-place.false in
    let ahead = g.G.Guide.is_ahead d c.args.base.now at in
    let between = g.G.Guide.is_ahead d c.next.new.base (g.G.Guide.fixed c.next.new.out) in
    let stands = unknown_stands (g.G.Guide.may d) k ss c.args.place.depth c.args.place.known g.G.Guide.first ahead (g.G.Guide.decides d) (g.G.Guide.is_open d) between (g.G.Guide.is_part d) text
    g.G.Guide.taken g.G.Guide.faults c.args.out.now c.next.new.out known_is c.next.result c.next.ensures.given c.in-Unknown.is c.requires.base in
    let same : c.next.new.out ≡ c.args.out.now = stands.0 in
    steps_afresh (g.G.Guide.decides d) (g.G.Guide.is_open d) k ss c.requires.inside c.args.place.depth c.requires.leaves (g.G.Guide.is_part d)
    text g.G.Guide.taken g.G.Guide.faults c.args.out.now c.decide-in-Unknown.new.out
    (g.G.Guide.may d) c.args.place.known g.G.Guide.first ahead (g.G.Guide.is_ahead d c.next.new.base (g.G.Guide.fixed c.decide-in-Unknown.new.out)) c.split_axes_are_one.ensures
    (λ t rest offered. let n = unknown_is (g.G.Guide.may d) k ss c.args.place.depth c.args.place.known g.G.Guide.first ahead (g.G.Guide.decides d) (g.G.Guide.is_open d) between (g.G.Guide.is_part d) text
    g.G.Guide.taken g.G.Guide.faults c.args.out.now c.next.new.out known_is c.next.result c.next.ensures.given c.in-Unknown.is t rest offered in
    (n.0, subst (λ f. g.G.Guide.is_ahead d c.next.new.base f rest) (sym c.decide-in-Unknown.ensures.fixed) n.1))
    c.decide-in-Unknown.result (rw same at c.decide-in-Unknown.ensures.steps)
