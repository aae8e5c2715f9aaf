use Rattle.robust_rank.proofs.rows.Choices.is_leading.Goals as goal

pub returns-then-is_allowed : goal.returns-then-is_allowed
returns-then-is_allowed g c = (
  λ t. (c.is_allowed.ensures.0 c.if-is_allowed.true, c.leads_below.ensures.0 t),
  λ leading. c.leads_below.ensures.1 leading.1,
)
