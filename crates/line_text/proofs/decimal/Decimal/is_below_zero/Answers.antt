use Rattle.line_text.proofs.LongNumbers.{below_wide}
use Rattle.line_text.proofs.decimal.Decimal.is_below_zero.Goals as goal

pub returns-in-None : goal.returns-in-None
returns-in-None c = below_wide c.self.inside.negative _ c.args.self.now c.self.view_is c.in-None.ensures.none
