use Rattle.std.proofs.Common.{rules, ◌≡◌, ◌<◌, ◌+◌, true, false, ap, ◌∙◌, sym}
use Rattle.lift_pool.specs.Lanes.{last_lane}
use Rattle.lift_grid.specs.Rectangle.{spans_of}
use Rattle.corner_lift.specs.Case.{greatest_depth}
use Rattle.lift_walk.specs.Sides.{SidesStandAt, half_of}
use Rattle.lift_walk.proofs.Halves.{gone_back, lower_offered, upper_offered, split_stops, lower_stops, upper_stops, both_go_on}
use Rattle.lift_walk.proofs.walking.Walker.+walk_at.Goals as goal

pub take_half-requires : goal.take_half-requires
take_half-requires g t c =
    let steps = rw c.last_sides.ensures at c.in-Halve.ensures.steps in
    let halved = steps.0 in
    (c.sides_go_down.ensures.down c.args.self.now.case.now c.args.sides.now c.args.place.depth c.in-Halve.halving.axis true c.requires.case c.requires.placed halved.left halved.axis_is).can

pub returns-in_err-take_split-clause-walks : goal.returns-in_err-take_split-clause-walks
returns-in_err-take_split-clause-walks g t c =
    let d = c.args.self.now.guide.now in
    let k = c.args.self.now.case.now in
    let at = g.G.Guide.fixed c.args.out.now in
    let ss = spans_of (last_lane c.args.sides.now.lanes) in
    let steps = rw c.last_sides.ensures at c.in-Halve.ensures.steps in
    let halving = c.in-Halve.halving in
    let axis = halving.axis in
    let halves = rw c.step.ensures.fixed at steps.1.1 in
    split_stops (g.G.Guide.decides d) (g.G.Guide.is_open d) (g.G.Guide.may d) k ss c.args.place.depth c.args.place.known g.G.Guide.first
    (g.G.Guide.is_ahead d c.args.base.now at) (g.G.Guide.is_ahead d c.step.new.base at) (g.G.Guide.is_part d)
    (g.G.Guide.split_entry d at) (g.G.Guide.leaf_entry d at) (g.G.Guide.unknown_entry d at) g.G.Guide.taken g.G.Guide.faults axis halving.known halves
    (g.G.Guide.is_ahead d c.step.new.base (g.G.Guide.fixed c.take_split.new.out)) c.args.out.now c.take_split.new.out _ c.from_residual.result c.from_residual.ensures.0
    (rw (c.step.ensures.fixed, steps.1.0) at c.in_err-take_split.ensures.took)

pub walk_at-lower-requires : goal.walk_at-lower-requires
walk_at-lower-requires g t c κs lives =
    let d = c.args.self.now.guide.now in
    let k = c.args.self.now.case.now in
    let at = g.G.Guide.fixed c.args.out.now in
    let ss = spans_of (last_lane c.args.sides.now.lanes) in
    let steps = rw c.last_sides.ensures at c.in-Halve.ensures.steps in
    let halving = c.in-Halve.halving in
    let axis = halving.axis in
    let lower = c.sides_go_down.ensures.down k c.args.sides.now c.args.place.depth axis true c.requires.case c.requires.placed steps.0.left steps.0.axis_is in
    let split_at : g.G.Guide.fixed c.take_split.new.out ≡ at = c.take_split.ensures.fixed ∙ c.step.ensures.fixed in
    let halves = rw c.step.ensures.fixed at steps.1.1 in
    let first_is : spans_of (last_lane c.take_half.new.sides.lanes) ≡ half_of true axis ss =
    ap (λ p. spans_of (last_lane p.lanes)) c.take_half.ensures ∙ lower.half in
    let stands : SidesStandAt k (c.args.place.depth + 1) c.take_half.new.sides = rw c.take_half.ensures lower.placed in
    let more : c.args.place.depth < greatest_depth k = steps.0.left in
    let ready = c.step.ensures.ready c.requires.ready.0 c.requires.ready.1 in
    let offered = lower_offered (g.G.Guide.decides d) (g.G.Guide.is_open d) (g.G.Guide.may d) k ss c.args.place.depth c.args.place.known g.G.Guide.first
    (g.G.Guide.is_ahead d c.args.base.now at) (g.G.Guide.is_ahead d c.step.new.base at) (g.G.Guide.is_part d)
    (g.G.Guide.split_entry d at) (g.G.Guide.leaf_entry d at) (g.G.Guide.unknown_entry d at) g.G.Guide.taken g.G.Guide.faults axis halving.known halves c.requires.base in
    let base = rw (sym split_at, sym first_is) at offered in
    let fits = rw (sym split_at) at c.requires.fits in
    search rules

pub returns-in_err-lower-clause-walks : goal.returns-in_err-lower-clause-walks
returns-in_err-lower-clause-walks g t c =
    let d = c.args.self.now.guide.now in
    let k = c.args.self.now.case.now in
    let at = g.G.Guide.fixed c.args.out.now in
    let ss = spans_of (last_lane c.args.sides.now.lanes) in
    let steps = rw c.last_sides.ensures at c.in-Halve.ensures.steps in
    let halving = c.in-Halve.halving in
    let axis = halving.axis in
    let lower = c.sides_go_down.ensures.down k c.args.sides.now c.args.place.depth axis true c.requires.case c.requires.placed steps.0.left steps.0.axis_is in
    let split_at : g.G.Guide.fixed c.take_split.new.out ≡ at = c.take_split.ensures.fixed ∙ c.step.ensures.fixed in
    let halves = rw c.step.ensures.fixed at steps.1.1 in
    let first_is : spans_of (last_lane c.take_half.new.sides.lanes) ≡ half_of true axis ss =
    ap (λ p. spans_of (last_lane p.lanes)) c.take_half.ensures ∙ lower.half in
    let took = rw (c.step.ensures.fixed, steps.1.0) at c.in_ok-take_split.ensures.took in
    let low = rw (split_at, first_is, c.in_err-lower.was) at c.walk_at-lower.ensures.walks in
    lower_stops (g.G.Guide.decides d) (g.G.Guide.is_open d) (g.G.Guide.may d) k ss c.args.place.depth c.args.place.known g.G.Guide.first
    (g.G.Guide.is_ahead d c.args.base.now at) (g.G.Guide.is_ahead d c.step.new.base at) (g.G.Guide.is_part d)
    (g.G.Guide.split_entry d at) (g.G.Guide.leaf_entry d at) (g.G.Guide.unknown_entry d at) g.G.Guide.taken g.G.Guide.faults axis halving.known halves
    c.args.out.now c.take_split.new.out _ took (g.G.Guide.is_ahead d c.walk_at-lower.new.base (g.G.Guide.fixed c.walk_at-lower.new.out)) (g.G.Guide.is_ahead d c.walk_at-lower.new.base (g.G.Guide.fixed c.walk_at-lower.new.out))
    c.walk_at-lower.new.out _ c.from_residual-in_err-lower.result c.from_residual-in_err-lower.ensures.0 low

pub returns-in_err-lower-clause-sides : goal.returns-in_err-lower-clause-sides
returns-in_err-lower-clause-sides g t c =
    let d = c.args.self.now.guide.now in
    let k = c.args.self.now.case.now in
    let at = g.G.Guide.fixed c.args.out.now in
    let ss = spans_of (last_lane c.args.sides.now.lanes) in
    let steps = rw c.last_sides.ensures at c.in-Halve.ensures.steps in
    let halving = c.in-Halve.halving in
    let axis = halving.axis in
    let lower = c.sides_go_down.ensures.down k c.args.sides.now c.args.place.depth axis true c.requires.case c.requires.placed steps.0.left steps.0.axis_is in
    gone_back k c.args.place.depth axis true c.args.sides.now c.take_half.new.sides c.walk_at-lower.new.sides c.give_back.new.self lower
    c.take_half.ensures c.walk_at-lower.ensures.sides c.give_back.ensures

pub take_half-requires-2 : goal.take_half-requires-2
take_half-requires-2 g t c =
    let d = c.args.self.now.guide.now in
    let k = c.args.self.now.case.now in
    let at = g.G.Guide.fixed c.args.out.now in
    let ss = spans_of (last_lane c.args.sides.now.lanes) in
    let steps = rw c.last_sides.ensures at c.in-Halve.ensures.steps in
    let halving = c.in-Halve.halving in
    let axis = halving.axis in
    let lower = c.sides_go_down.ensures.down k c.args.sides.now c.args.place.depth axis true c.requires.case c.requires.placed steps.0.left steps.0.axis_is in
    let upper = c.sides_go_down.ensures.down k c.args.sides.now c.args.place.depth axis false c.requires.case c.requires.placed steps.0.left steps.0.axis_is in
    let back : c.give_back.new.self ≡ c.args.sides.now =
    gone_back k c.args.place.depth axis true c.args.sides.now c.take_half.new.sides c.walk_at-lower.new.sides c.give_back.new.self lower
    c.take_half.ensures c.walk_at-lower.ensures.sides c.give_back.ensures in
    rw back upper.can

pub walk_at-upper-requires : goal.walk_at-upper-requires
walk_at-upper-requires g t c κs lives =
    let d = c.args.self.now.guide.now in
    let k = c.args.self.now.case.now in
    let at = g.G.Guide.fixed c.args.out.now in
    let ss = spans_of (last_lane c.args.sides.now.lanes) in
    let steps = rw c.last_sides.ensures at c.in-Halve.ensures.steps in
    let halving = c.in-Halve.halving in
    let axis = halving.axis in
    let lower = c.sides_go_down.ensures.down k c.args.sides.now c.args.place.depth axis true c.requires.case c.requires.placed steps.0.left steps.0.axis_is in
    let upper = c.sides_go_down.ensures.down k c.args.sides.now c.args.place.depth axis false c.requires.case c.requires.placed steps.0.left steps.0.axis_is in
    let back : c.give_back.new.self ≡ c.args.sides.now =
    gone_back k c.args.place.depth axis true c.args.sides.now c.take_half.new.sides c.walk_at-lower.new.sides c.give_back.new.self lower
    c.take_half.ensures c.walk_at-lower.ensures.sides c.give_back.ensures in
    let split_at : g.G.Guide.fixed c.take_split.new.out ≡ at = c.take_split.ensures.fixed ∙ c.step.ensures.fixed in
    let lower_at : g.G.Guide.fixed c.walk_at-lower.new.out ≡ at = c.walk_at-lower.ensures.fixed ∙ split_at in
    let halves = rw c.step.ensures.fixed at steps.1.1 in
    let first_is : spans_of (last_lane c.take_half.new.sides.lanes) ≡ half_of true axis ss =
    ap (λ p. spans_of (last_lane p.lanes)) c.take_half.ensures ∙ lower.half in
    let second_is : spans_of (last_lane c.take_half-2.new.sides.lanes) ≡ half_of false axis ss =
    ap (λ p. spans_of (last_lane p.lanes)) (rw back at c.take_half-2.ensures) ∙ upper.half in
    let stands : SidesStandAt k (c.args.place.depth + 1) c.take_half-2.new.sides = rw (c.take_half-2.ensures, back) upper.placed in
    let more : c.args.place.depth < greatest_depth k = steps.0.left in
    let ready = c.walk_at-lower.ensures.ready c.requires.ready.0 (c.step.ensures.ready c.requires.ready.0 c.requires.ready.1) in
    let low = rw (lower_at, split_at, first_is, c.in_ok-lower.was) at c.walk_at-lower.ensures.walks in
    let offered = upper_offered (g.G.Guide.decides d) (g.G.Guide.is_open d) (g.G.Guide.may d) k ss c.args.place.depth c.args.place.known g.G.Guide.first
    (g.G.Guide.is_ahead d c.args.base.now at) (g.G.Guide.is_ahead d c.step.new.base at) (g.G.Guide.is_part d)
    (g.G.Guide.split_entry d at) (g.G.Guide.leaf_entry d at) (g.G.Guide.unknown_entry d at) g.G.Guide.taken g.G.Guide.faults axis halving.known halves (g.G.Guide.is_ahead d c.walk_at-lower.new.base at) c.take_split.new.out c.walk_at-lower.new.out _ low c.requires.base in
    let base = rw (sym lower_at, sym second_is) at offered in
    let fits = rw (sym lower_at) at c.requires.fits in
    search rules

pub returns-in_err-upper-clause-walks : goal.returns-in_err-upper-clause-walks
returns-in_err-upper-clause-walks g t c =
    let d = c.args.self.now.guide.now in
    let k = c.args.self.now.case.now in
    let at = g.G.Guide.fixed c.args.out.now in
    let ss = spans_of (last_lane c.args.sides.now.lanes) in
    let steps = rw c.last_sides.ensures at c.in-Halve.ensures.steps in
    let halving = c.in-Halve.halving in
    let axis = halving.axis in
    let lower = c.sides_go_down.ensures.down k c.args.sides.now c.args.place.depth axis true c.requires.case c.requires.placed steps.0.left steps.0.axis_is in
    let upper = c.sides_go_down.ensures.down k c.args.sides.now c.args.place.depth axis false c.requires.case c.requires.placed steps.0.left steps.0.axis_is in
    let back : c.give_back.new.self ≡ c.args.sides.now =
    gone_back k c.args.place.depth axis true c.args.sides.now c.take_half.new.sides c.walk_at-lower.new.sides c.give_back.new.self lower
    c.take_half.ensures c.walk_at-lower.ensures.sides c.give_back.ensures in
    let split_at : g.G.Guide.fixed c.take_split.new.out ≡ at = c.take_split.ensures.fixed ∙ c.step.ensures.fixed in
    let lower_at : g.G.Guide.fixed c.walk_at-lower.new.out ≡ at = c.walk_at-lower.ensures.fixed ∙ split_at in
    let halves = rw c.step.ensures.fixed at steps.1.1 in
    let first_is : spans_of (last_lane c.take_half.new.sides.lanes) ≡ half_of true axis ss =
    ap (λ p. spans_of (last_lane p.lanes)) c.take_half.ensures ∙ lower.half in
    let second_is : spans_of (last_lane c.take_half-2.new.sides.lanes) ≡ half_of false axis ss =
    ap (λ p. spans_of (last_lane p.lanes)) (rw back at c.take_half-2.ensures) ∙ upper.half in
    let took = rw (c.step.ensures.fixed, steps.1.0) at c.in_ok-take_split.ensures.took in
    let low = rw (lower_at, split_at, first_is, c.in_ok-lower.was) at c.walk_at-lower.ensures.walks in
    let up = rw (lower_at, second_is, c.in_err-upper.was) at c.walk_at-upper.ensures.walks in
    upper_stops (g.G.Guide.decides d) (g.G.Guide.is_open d) (g.G.Guide.may d) k ss c.args.place.depth c.args.place.known g.G.Guide.first
    (g.G.Guide.is_ahead d c.args.base.now at) (g.G.Guide.is_ahead d c.step.new.base at) (g.G.Guide.is_part d)
    (g.G.Guide.split_entry d at) (g.G.Guide.leaf_entry d at) (g.G.Guide.unknown_entry d at) g.G.Guide.taken g.G.Guide.faults axis halving.known halves
    c.args.out.now c.take_split.new.out _ took (g.G.Guide.is_ahead d c.walk_at-lower.new.base at) c.walk_at-lower.new.out _ low
    (g.G.Guide.is_ahead d c.walk_at-upper.new.base (g.G.Guide.fixed c.walk_at-upper.new.out)) c.walk_at-upper.new.out _
    c.from_residual-in_err-upper.result c.from_residual-in_err-upper.ensures.0 up

pub returns-in_err-upper-clause-sides : goal.returns-in_err-upper-clause-sides
returns-in_err-upper-clause-sides g t c =
    let d = c.args.self.now.guide.now in
    let k = c.args.self.now.case.now in
    let at = g.G.Guide.fixed c.args.out.now in
    let ss = spans_of (last_lane c.args.sides.now.lanes) in
    let steps = rw c.last_sides.ensures at c.in-Halve.ensures.steps in
    let halving = c.in-Halve.halving in
    let axis = halving.axis in
    let lower = c.sides_go_down.ensures.down k c.args.sides.now c.args.place.depth axis true c.requires.case c.requires.placed steps.0.left steps.0.axis_is in
    let upper = c.sides_go_down.ensures.down k c.args.sides.now c.args.place.depth axis false c.requires.case c.requires.placed steps.0.left steps.0.axis_is in
    let back : c.give_back.new.self ≡ c.args.sides.now =
    gone_back k c.args.place.depth axis true c.args.sides.now c.take_half.new.sides c.walk_at-lower.new.sides c.give_back.new.self lower
    c.take_half.ensures c.walk_at-lower.ensures.sides c.give_back.ensures in
    gone_back k c.args.place.depth axis false c.args.sides.now c.take_half-2.new.sides c.walk_at-upper.new.sides c.give_back-2.new.self upper
    (rw back at c.take_half-2.ensures) c.walk_at-upper.ensures.sides c.give_back-2.ensures

pub returns-clause-walks : goal.returns-clause-walks
returns-clause-walks g t c =
    let d = c.args.self.now.guide.now in
    let k = c.args.self.now.case.now in
    let at = g.G.Guide.fixed c.args.out.now in
    let ss = spans_of (last_lane c.args.sides.now.lanes) in
    let steps = rw c.last_sides.ensures at c.in-Halve.ensures.steps in
    let halving = c.in-Halve.halving in
    let axis = halving.axis in
    let lower = c.sides_go_down.ensures.down k c.args.sides.now c.args.place.depth axis true c.requires.case c.requires.placed steps.0.left steps.0.axis_is in
    let upper = c.sides_go_down.ensures.down k c.args.sides.now c.args.place.depth axis false c.requires.case c.requires.placed steps.0.left steps.0.axis_is in
    let back : c.give_back.new.self ≡ c.args.sides.now =
    gone_back k c.args.place.depth axis true c.args.sides.now c.take_half.new.sides c.walk_at-lower.new.sides c.give_back.new.self lower
    c.take_half.ensures c.walk_at-lower.ensures.sides c.give_back.ensures in
    let split_at : g.G.Guide.fixed c.take_split.new.out ≡ at = c.take_split.ensures.fixed ∙ c.step.ensures.fixed in
    let lower_at : g.G.Guide.fixed c.walk_at-lower.new.out ≡ at = c.walk_at-lower.ensures.fixed ∙ split_at in
    let halves = rw c.step.ensures.fixed at steps.1.1 in
    let first_is : spans_of (last_lane c.take_half.new.sides.lanes) ≡ half_of true axis ss =
    ap (λ p. spans_of (last_lane p.lanes)) c.take_half.ensures ∙ lower.half in
    let second_is : spans_of (last_lane c.take_half-2.new.sides.lanes) ≡ half_of false axis ss =
    ap (λ p. spans_of (last_lane p.lanes)) (rw back at c.take_half-2.ensures) ∙ upper.half in
    let took = rw (c.step.ensures.fixed, steps.1.0) at c.in_ok-take_split.ensures.took in
    let low = rw (lower_at, split_at, first_is, c.in_ok-lower.was) at c.walk_at-lower.ensures.walks in
    let up = rw (lower_at, second_is, c.in_ok-upper.was) at c.walk_at-upper.ensures.walks in
    both_go_on (g.G.Guide.decides d) (g.G.Guide.is_open d) (g.G.Guide.may d) k ss c.args.place.depth c.args.place.known g.G.Guide.first
    (g.G.Guide.is_ahead d c.args.base.now at) (g.G.Guide.is_ahead d c.step.new.base at) (g.G.Guide.is_part d)
    (g.G.Guide.split_entry d at) (g.G.Guide.leaf_entry d at) (g.G.Guide.unknown_entry d at) g.G.Guide.taken g.G.Guide.faults axis halving.known halves
    c.args.out.now c.take_split.new.out _ took (g.G.Guide.is_ahead d c.walk_at-lower.new.base at) c.walk_at-lower.new.out _ low
    (g.G.Guide.is_ahead d c.walk_at-upper.new.base (g.G.Guide.fixed c.walk_at-upper.new.out)) c.walk_at-upper.new.out _ up c.join.result c.join.ensures.part c.join.ensures.fault

pub returns-clause-sides : goal.returns-clause-sides
returns-clause-sides g t c =
    let d = c.args.self.now.guide.now in
    let k = c.args.self.now.case.now in
    let at = g.G.Guide.fixed c.args.out.now in
    let ss = spans_of (last_lane c.args.sides.now.lanes) in
    let steps = rw c.last_sides.ensures at c.in-Halve.ensures.steps in
    let halving = c.in-Halve.halving in
    let axis = halving.axis in
    let lower = c.sides_go_down.ensures.down k c.args.sides.now c.args.place.depth axis true c.requires.case c.requires.placed steps.0.left steps.0.axis_is in
    let upper = c.sides_go_down.ensures.down k c.args.sides.now c.args.place.depth axis false c.requires.case c.requires.placed steps.0.left steps.0.axis_is in
    let back : c.give_back.new.self ≡ c.args.sides.now =
    gone_back k c.args.place.depth axis true c.args.sides.now c.take_half.new.sides c.walk_at-lower.new.sides c.give_back.new.self lower
    c.take_half.ensures c.walk_at-lower.ensures.sides c.give_back.ensures in
    gone_back k c.args.place.depth axis false c.args.sides.now c.take_half-2.new.sides c.walk_at-upper.new.sides c.give_back-2.new.self upper
    (rw back at c.take_half-2.ensures) c.walk_at-upper.ensures.sides c.give_back-2.ensures
