use Rattle.lift_model.proofs.Listing.{entered_already, entered_new}
use Rattle.lift_model.proofs.before.enter.Goals as goal

pub returns-then-is_last : goal.returns-then-is_last
returns-then-is_last c = entered_already c.args.starts.now c.args.ends.now c.args.states.now _ c.args.target c.args.s c.requires.placed c.requires.target (c.is_last.ensures.yes c.if-is_last.true)

pub returns : goal.returns
returns c = entered_new c.args.starts.now c.args.ends.now c.args.states.now _ c.args.target c.args.s c.requires.placed c.requires.target c.requires.room (c.is_last.ensures.no c.if-is_last.false)
