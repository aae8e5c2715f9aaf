use Rattle.std.proofs.Common.{drop}
use Rattle.std.specs.List.{flat_map}
use Rattle.lift_base.specs.Laws.{WroteUpTo}
use Rattle.cert_text.specs.Report.{spaced}
use Rattle.plift_top.specs.Cost.{cost_word}
use Rattle.plift_top.proofs.cost.write_each_cost.Given as goal

-- what is left are the costs of the states that are to come
abbrev pub invariant-loop-s : goal.invariant-loop-s
invariant-loop-s g l =
    WroteUpTo g.K.Sink.taken g.K.Sink.faults l.fn.out l.out (flat_map (λ cost. spaced (cost_word cost)) l.costs) (flat_map (λ cost. spaced (cost_word cost)) (drop l.s l.costs))
