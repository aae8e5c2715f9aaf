use Rattle.std.proofs.Common.{rules, SFits, w64, to_z, of_z, to_z-of_z, refl, arith, inr}
use Rattle.lift_poly.proofs.Ring.{linear}
use Rattle.rounded_iter.proofs.Solving.{lt_from_test}
use Rattle.rounded_iter.proofs.Lone.{sum_fits}
use Rattle.rounded_iter.proofs.reward.after_reward.Goals as goal

pub returns-else-room-number : goal.returns-else-room-number
returns-else-room-number c =
    let room_fits : SFits w64 c.room_beside-room.result = search rules in
    let room = rw (to_z-of_z c.ranges.top, to_z-of_z c.ranges.reward) at c.room_beside-room.ensures in
    let less = rw (to_z-of_z room_fits, to_z-of_z c.ranges.number) at (lt_from_test (to_z w64 (of_z w64 c.room_beside-room.result)) (to_z w64 (of_z w64 c.args.number)) c.if-room-number.false) in
    let fits = sum_fits c.args.number c.args.reward c.args.top c.ranges.top c.requires.number c.requires.reward.0 (omega (arith, linear, room, less)) in
    rw (to_z-of_z c.ranges.number, to_z-of_z c.ranges.reward, to_z-of_z fits)
    (record { most = omega (arith, linear, room, less); within = omega (arith, linear); all = λ below. refl; cut = inr refl })
