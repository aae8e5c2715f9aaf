use Rattle.lift_lump.proofs.Clearing.{unmarked_none, unmarked_more, unmarked_all}
use Rattle.lift_lump.proofs.split.unmark.Goals as goal

pub loop-s-init : goal.loop-s-init
loop-s-init c = unmarked_none c.args.states.now c.args.marks.now

pub loop-s-preserved : goal.loop-s-preserved
loop-s-preserved c = unmarked_more c.args.states.now c.loop-s.s-index c.args.marks.now c.loop-s.marks c.loop-s.invariant

pub returns : goal.returns
returns c = unmarked_all c.args.states.now c.loop-s.s-index c.args.marks.now c.loop-s.marks c.loop-s-test.false c.requires.marks c.loop-s.invariant
