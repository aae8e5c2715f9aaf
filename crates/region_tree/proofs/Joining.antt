-- What a walk without a fault took.
use Rattle.std.proofs.Common.{refl, Option, List, ℕ}
use Rattle.region_tree.specs.Laws.{CalmWalksShowAll}
use Rattle.region_tree.specs.declared.visitor.Seen.TheVariants.{Kept, Failed}

-- a walk without a fault kept all
pub all_shown : {V : Type 0} (taken : V → Option (List ℕ)) (faults : V → ℕ) → CalmWalksShowAll taken faults
all_shown taken faults k v bound tree entry old new Kept right walks calm = walks.took tree right
all_shown taken faults k v bound tree entry old new Failed right walks calm = absurd (calm (walks.cause refl))
