use Rattle.std.proofs.Common.{List, ℕ, subst}
use Rattle.std.proofs.lemmas.List.{take_all}
use Rattle.lift_lump.specs.Splitting.{AreAdded}
use Rattle.lift_lump.proofs.Touching.{added_none, added_more}
use Rattle.lift_lump.proofs.touch.add_rest.Goals as goal

pub loop-s-init : goal.loop-s-init
loop-s-init c = added_none c.args.labels.now c.args.numbers.now c.args.block c.args.states.now c.args.list.now.items

pub loop-s-preserved : goal.loop-s-preserved
loop-s-preserved c = added_more c.args.labels.now c.args.numbers.now c.args.block c.args.states.now c.loop-s.s-index c.args.list.now.items c.loop-s.list.items c.add_one.new.list.items c.loop-s-test.true c.loop-s.invariant c.in_ok-add_one.ensures

pub returns : goal.returns
returns c = subst (λ (xs : List ℕ). AreAdded c.args.labels.now c.args.numbers.now c.args.block xs c.args.list.now.items c.loop-s.list.items) (take_all c.loop-s.s-index c.args.states.now c.loop-s-test.false) c.loop-s.invariant
