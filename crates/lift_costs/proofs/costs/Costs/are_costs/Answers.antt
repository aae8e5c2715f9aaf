use Rattle.std.proofs.Common.{get_or, subst}
use Rattle.std.specs.Prelude.{All}
use Rattle.std.proofs.lemmas.List.Elements.{All-map}
use Rattle.lift_costs.specs.Costs.{IsCost}
use Rattle.lift_costs.specs.declared.cost.Cost.{Cost}
use Rattle.lift_costs.proofs.costs.Costs.are_costs.Goals as goal

pub returns : goal.returns
returns c =
    let items = c.self.inside.costs.items in
    subst (All IsCost) c.self.view_is (All-map IsCost (λ (one : Cost). record { num = one.num; den = one.den }) items (λ i d lt. (get_or items i d).is_cost))
