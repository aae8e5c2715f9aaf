use Rattle.std.proofs.Common.{◌∙◌, arith}
use Rattle.view_top.proofs.Choosing.{at_fault, one_more, all_given}
use Rattle.view_top.proofs.choice.cuts_for.Goals as goal

pub returns-in-Err : goal.returns-in-Err
returns-in-Err c = c.loop-text.invariant.rest ∙ at_fault c.args.head.now c.args.axes c.loop-text.given.items c.loop-text.place c.args.texts.now c.loop-text.text-index _ c.in-Err.cause c.loop-text-test.true (rw c.deref.ensures.value at c.in-Err.ensures)

pub loop-text-preserved : goal.loop-text-preserved
loop-text-preserved c = record {
  rest = c.loop-text.invariant.rest ∙ one_more c.args.head.now c.args.axes c.loop-text.given.items c.loop-text.place c.args.texts.now c.loop-text.text-index _ c.in-Ok.cut c.push_cut.new.cuts.items c.loop-text-test.true (rw c.deref.ensures.value at c.in-Ok.ensures) c.in_ok-push_cut-in-Ok.ensures;
  places = omega arith;
}

pub returns : goal.returns
returns c = c.loop-text.invariant.rest ∙ all_given c.args.head.now c.args.axes c.loop-text.given.items c.loop-text.place c.args.texts.now c.loop-text.text-index c.loop-text-test.false
