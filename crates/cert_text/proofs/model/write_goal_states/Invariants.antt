use Rattle.std.proofs.Common.{drop, ◌∷◌}
use Rattle.std.specs.List.{flat_map}
use Rattle.std.specs.Fmt.{decimal}
use Prim.Native.Char.{code}
use Rattle.lift_base.specs.Laws.{WroteUpTo}
use Rattle.cert_text.specs.Report.{goal_states}
use Rattle.cert_text.proofs.model.write_goal_states.Given as goal

abbrev pub invariant-loop-s : goal.invariant-loop-s
invariant-loop-s g l = WroteUpTo g.K.Sink.taken g.K.Sink.faults l.fn.out l.out (flat_map (λ s. code " " ∷ decimal s) (goal_states 0 l.model.goal)) (flat_map (λ s. code " " ∷ decimal s) (goal_states l.s (drop l.s l.model.goal)))
