use Rattle.std.proofs.Common.{rules, refl, SFits, w64, to_z-of_z, arith}
use Rattle.lift_poly.proofs.Ring.{linear}
use Rattle.rounded_iter.proofs.Leaving.{number_room, top_room, left_positive, rest_most}
use Rattle.rounded_iter.proofs.reward.least_over.Goals as goal

pub reaches-requires : goal.reaches-requires
reaches-requires c = record { room = rw (to_z-of_z c.ranges.number, to_z-of_z c.ranges.left) (number_room _ _ _ _ c.requires) }

pub returns-then-reaches : goal.returns-then-reaches
returns-then-reaches c =
    let enough = rw (to_z-of_z c.ranges.number, to_z-of_z c.ranges.rest, to_z-of_z c.ranges.left) at (c.reaches.ensures.enough c.if-reaches.true) in
    rw (to_z-of_z c.ranges.number) (record { still = λ is. refl; capped = λ less over. absurd (omega (arith, linear, enough, less)); solved = λ less over. absurd (omega (arith, linear, enough, less)) })

pub reaches-requires-2 : goal.reaches-requires-2
reaches-requires-2 c = record { room = rw (to_z-of_z c.ranges.top, to_z-of_z c.ranges.left) (top_room _ _ _ _ c.requires) }

pub rounded_up-requires-clause-positive : goal.rounded_up-requires-clause-positive
rounded_up-requires-clause-positive c =
    let short = rw (to_z-of_z c.ranges.number, to_z-of_z c.ranges.rest, to_z-of_z c.ranges.left) at (c.reaches.ensures.less c.if-reaches.false) in
    let under = rw (to_z-of_z c.ranges.top, to_z-of_z c.ranges.rest, to_z-of_z c.ranges.left) at (c.reaches-2.ensures.enough c.if-reaches-2.true) in
    rw (to_z-of_z c.ranges.left) (left_positive _ _ _ _ c.requires short under)

pub rounded_up-requires-clause-most : goal.rounded_up-requires-clause-most
rounded_up-requires-clause-most c =
    let under = rw (to_z-of_z c.ranges.top, to_z-of_z c.ranges.rest, to_z-of_z c.ranges.left) at (c.reaches-2.ensures.enough c.if-reaches-2.true) in
    rw (to_z-of_z c.ranges.rest, to_z-of_z c.ranges.left) (rest_most _ _ _ _ c.requires under)

pub returns-then-reaches-2 : goal.returns-then-reaches-2
returns-then-reaches-2 c =
    let short = rw (to_z-of_z c.ranges.number, to_z-of_z c.ranges.rest, to_z-of_z c.ranges.left) at (c.reaches.ensures.less c.if-reaches.false) in
    let under = rw (to_z-of_z c.ranges.top, to_z-of_z c.ranges.rest, to_z-of_z c.ranges.left) at (c.reaches-2.ensures.enough c.if-reaches-2.true) in
    let found = rw (to_z-of_z c.ranges.rest, to_z-of_z c.ranges.left) at c.rounded_up.ensures in
    let fits : SFits w64 c.rounded_up.result = search rules in
    rw (to_z-of_z fits) (record { still = λ enough. absurd (omega (arith, linear, enough, short)); capped = λ less over. absurd (omega (arith, linear, over, under)); solved = λ less is. (found, left_positive _ _ _ _ c.requires short under) })

pub returns : goal.returns
returns c =
    let short = rw (to_z-of_z c.ranges.number, to_z-of_z c.ranges.rest, to_z-of_z c.ranges.left) at (c.reaches.ensures.less c.if-reaches.false) in
    let over = rw (to_z-of_z c.ranges.top, to_z-of_z c.ranges.rest, to_z-of_z c.ranges.left) at (c.reaches-2.ensures.less c.if-reaches-2.false) in
    rw (to_z-of_z c.ranges.top) (record { still = λ enough. absurd (omega (arith, linear, enough, short)); capped = λ less is. refl; solved = λ less under. absurd (omega (arith, linear, over, under)) })
