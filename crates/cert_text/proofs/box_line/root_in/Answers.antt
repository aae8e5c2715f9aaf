use Rattle.std.proofs.Common.{sym, subst}
use Rattle.lift_grid.specs.Rectangle.{AreSides}
use Rattle.cert_text.proofs.BoxLoop.{are_sides}
use Rattle.cert_text.proofs.box_line.root_in.Goals as goal

pub from_sides-requires : goal.from_sides-requires
from_sides-requires c = subst AreSides (sym c.deref.ensures.value) (are_sides c.args.step c.args.parameters c.args.numbers.now c.in_ok-sides.sides.items c.requires.count c.in_ok-sides.ensures)
