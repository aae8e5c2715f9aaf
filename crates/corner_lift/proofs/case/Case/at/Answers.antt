use Rattle.corner_lift.proofs.case.Case.at.Goals as goal

pub new-requires : goal.new-requires
new-requires c = c.lower_precisions_are_cases.ensures _ c.args.u c.self.invariant c.requires.positive (rw (← c.self.view_is) at c.requires.most)
