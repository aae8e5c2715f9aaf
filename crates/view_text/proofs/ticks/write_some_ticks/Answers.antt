use Rattle.std.proofs.Common.{sym}
use Rattle.view_text.proofs.ticks.write_some_ticks.Goals as goal

pub returns-in-Some : goal.returns-in-Some
returns-in-Some g c = rw (sym c.places_of.ensures) (rw c.in-Some.is c.write_all_ticks.ensures)
