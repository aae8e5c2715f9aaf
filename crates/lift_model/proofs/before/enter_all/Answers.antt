use Rattle.std.proofs.Common.{arith, refl, subst, slice_index_or, ◌∷◌, []}
use Rattle.lift_model.specs.Before.{AreEntered}
use Rattle.lift_model.proofs.Listing.{entered_more, room_left}
use Rattle.lift_model.proofs.before.enter_all.Goals as goal

pub enter-requires-clause-room : goal.enter-requires-clause-room
enter-requires-clause-room c =
    let inside = c.requires.targets c.loop-target.target-index 0 c.loop-target-test.true in
    omega (arith, c.loop-target.invariant.grown _ inside, room_left _ c.loop-target.target-index c.args.targets.now c.loop-target-test.true refl, c.requires.room _ inside)

pub loop-target-preserved : goal.loop-target-preserved
loop-target-preserved c =
    let target = slice_index_or c.args.targets.now c.loop-target.target-index 0 in
    let entered = subst (λ n. AreEntered c.args.starts.now c.loop-target.ends c.loop-target.states c.enter.new.ends c.enter.new.states n c.args.s (target ∷ [])) c.loop-target.auto.ends c.enter.ensures in
    entered_more c.args.starts.now _ _ _ _ _ _ _ c.args.s c.loop-target.target-index _ c.args.targets.now c.loop-target-test.true refl c.loop-target.invariant entered
