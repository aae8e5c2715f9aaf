-- Places that are ready for a decision, and stay so.
use Rattle.std.proofs.Common.{◌≡◌, refl, ◌∙◌}
use Rattle.lift_cost.specs.Decided.{CanAskCost}
use Rattle.lift_cost.specs.Rooms.{HasCostLanes, KeepsPlaces, AreReadyFor}
use Rattle.lift_cost.specs.declared.question.CostQuestion.{CostQuestion}
use Rattle.lift_cost.specs.declared.room.CostLanes.{CostLanes}

pub still_ready : (q : CostQuestion) (made a b : CostLanes) → KeepsPlaces a b → AreReadyFor q made a → AreReadyFor q made b
still_ready q made a b h ready = record {
  can = ready.can;
  has = record { weights = h.weights ∙ ready.has.weights; values = h.values ∙ ready.has.values; work = h.work ∙ ready.has.work };
  kept = record { weights = h.weights ∙ ready.kept.weights; values = h.values ∙ ready.kept.values; work = h.work ∙ ready.kept.work };
}

pub ready_at_first : (q : CostQuestion) (a : CostLanes) → CanAskCost q → HasCostLanes q.case.now.model q.links.now a → AreReadyFor q a a
ready_at_first q a can has = record { can = can; has = has; kept = record { weights = refl; values = refl; work = refl } }
