use Rattle.lift_lump.proofs.Clearing.{cleared_none, cleared_more, cleared_all}
use Rattle.lift_lump.proofs.split.clear.Goals as goal

pub loop-s-init : goal.loop-s-init
loop-s-init c = cleared_none c.args.states.now c.args.numbers.now

pub loop-s-preserved : goal.loop-s-preserved
loop-s-preserved c = cleared_more c.args.states.now c.loop-s.s-index c.args.numbers.now c.loop-s.numbers c.clear_one.new.numbers c.loop-s.invariant c.clear_one.ensures

pub returns : goal.returns
returns c = cleared_all c.args.states.now c.loop-s.s-index c.args.numbers.now c.loop-s.numbers c.loop-s-test.false c.requires.states c.loop-s.invariant
