use Rattle.std.proofs.Common.{◌+◌, ◌<◌, length, arith, subst}
use Rattle.lift_model.specs.Before.{at, AreEntered, targets_from}
use Rattle.lift_model.proofs.Listing.{counted_then, counted_most, listed_state}
use Rattle.lift_model.proofs.before.enter_states.Goals as goal

pub enter_all-requires-clause-room : goal.enter_all-requires-clause-room
enter_all-requires-clause-room c = λ u lt.
    let inside : u < length c.args.ends.now = omega (arith, lt, c.loop-s.auto.ends) in
    let here : c.loop-s.s < length c.args.ends.now = omega (arith, c.loop-s-test.true) in
    omega (arith, c.loop-s.invariant.grown u inside, c.requires.room u inside, counted_then u (at c.args.cuts.now c.loop-s.s) (at c.args.cuts.now (c.loop-s.s + 1)) c.args.targets.now (c.requires.cuts.rising c.loop-s.s here).0, counted_most u (at c.args.cuts.now (c.loop-s.s + 1)) c.args.targets.now)

pub loop-s-preserved : goal.loop-s-preserved
loop-s-preserved c =
    let here : c.loop-s.s < length c.args.ends.now = omega (arith, c.loop-s-test.true) in
    let entered = subst (λ n. AreEntered c.args.starts.now c.loop-s.ends c.loop-s.states c.enter_all.new.ends c.enter_all.new.states n c.loop-s.s (targets_from c.args.targets.now c.args.cuts.now c.loop-s.s)) c.loop-s.auto.ends c.enter_all.ensures in
    record {
      placed = entered.placed;
      grown = λ u lt. omega (arith, c.loop-s.invariant.grown u lt, entered.grown u lt, counted_then u (at c.args.cuts.now c.loop-s.s) (at c.args.cuts.now (c.loop-s.s + 1)) c.args.targets.now (c.requires.cuts.rising c.loop-s.s here).0);
      listed = listed_state (length c.args.ends.now) c.args.targets.now c.args.cuts.now _ _ c.loop-s.s c.loop-s.invariant.listed entered.noted;
    }
