-- What stands in the lanes of a chain is what is asked for the scheduler that reaches the least.
use Rattle.std.proofs.Common.{◌≡◌, ℤ, Option, Some, None, IfSome}
use Rattle.lift_grid.specs.Rectangle.{Spans}
use Rattle.lift_model.specs.declared.kind.Kind.TheVariants.{Dtmc}
use Rattle.corner_lift.specs.Case.{CaseData, IsCase, IsInside}
use Rattle.lower_cert.specs.Limit.{IsGreatestAbove}
use Rattle.lower_cert.specs.declared.greatest.Rate.{Rate}
use Rattle.lift_dual.specs.Chains.{GreatestAboveIsForAll}
use Rattle.lift_dual.specs.Greatest.{IsGreatestAllAbove}
use Rattle.region_tree.specs.Decided.{reject_in}
use Rattle.region_tree.specs.declared.pools.Pools.{Pools}
use Rattle.property_tree.specs.Decided.{lower_all_in}

pub above_for_all : GreatestAboveIsForAll → (k : CaseData) (spans : Spans) (limit : ℤ) → IsCase k → IsInside k.root spans → k.model.kind ≡ Dtmc → (p : Pools) (rate : Option Rate)
    → IfSome rate (λ r. IsGreatestAbove k spans limit (reject_in p r.e r.k)) → IfSome rate (λ r. IsGreatestAllAbove k spans limit (lower_all_in p r.e r.k))
above_for_all law k spans limit is within chain p (Some rate) h = law k spans limit (reject_in p rate.e rate.k) is within chain h
above_for_all law k spans limit is within chain p None h = tt
