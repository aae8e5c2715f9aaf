use Rattle.std.proofs.Common.{take}
use Rattle.lift_lump.proofs.Touching.{looked_more, looked_all, looked_some, looked_only}
use Rattle.lift_lump.proofs.touch.touched_of.Goals as goal

pub loop-s-preserved : goal.loop-s-preserved
loop-s-preserved c = looked_more c.args.labels.now c.args.numbers.now c.args.visited.now c.loop-s.s-index c.loop-s.list.items c.touch.new.list.items c.loop-s-test.true c.loop-s.invariant c.in_ok-touch.ensures

pub returns-clause-touched : goal.returns-clause-touched
returns-clause-touched c = looked_all c.args.labels.now c.args.numbers.now c.args.visited.now c.loop-s.s-index c.loop-s.list.items c.requires.sizes c.loop-s-test.false c.requires.visited c.loop-s.invariant

pub returns-clause-all : goal.returns-clause-all
returns-clause-all c = looked_some c.args.labels.now c.args.numbers.now c.args.visited.now c.loop-s.s-index c.loop-s.list.items c.requires.sizes c.loop-s-test.false c.requires.visited c.loop-s.invariant

pub returns-clause-only : goal.returns-clause-only
returns-clause-only c = looked_only c.args.labels.now c.args.numbers.now (take c.loop-s.s-index c.args.visited.now) c.loop-s.list.items c.loop-s.invariant
