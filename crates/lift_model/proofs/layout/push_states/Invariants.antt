use Rattle.lift_model.specs.Layout.{IsLaid, AreRowStarts, AreCut}
use Rattle.lift_model.proofs.layout.push_states.Given as goal

-- the states so far were laid out
abbrev pub invariant-loop-s : goal.invariant-loop-s
invariant-loop-s l = record {
  laid : IsLaid l.model l.layout l.s 0;
  rows : AreRowStarts l.model l.starts.rows.items l.s;
  targets : AreCut l.model l.starts.targets.items l.layout.targets.items l.s;
}
