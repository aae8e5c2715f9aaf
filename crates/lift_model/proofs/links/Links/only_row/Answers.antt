use Rattle.lift_model.proofs.OnlyRows.{only_row_reported}
use Rattle.lift_model.proofs.links.Links.only_row.Goals as goal

pub returns : goal.returns
returns c = rw (← c.self.view_is, c.only_row_at.ensures, c.deref.ensures.value) (λ m places lt. only_row_reported m _ places c.args.s lt c.self.inside.only_rows.items c.self.invariant.1)
