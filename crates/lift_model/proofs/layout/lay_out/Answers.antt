use Rattle.lift_model.proofs.layout.lay_out.Goals as goal

pub push_states-requires-clause-laid : goal.push_states-requires-clause-laid
push_states-requires-clause-laid c = c.in_ok-layout.ensures.laid c.args.model.now
