use Rattle.view_text.proofs.axes.write_axis.Goals as goal

pub returns-in-Some : goal.returns-in-Some
returns-in-Some g c = rw c.in-Some.is c.write_span.ensures
