-- What a walk over a tree does with where the nodes are taken to.
use Rattle.std.specs.Prelude.{◌≤◌, ℕ, List, OnOk, OnErr, IfOk}
use Rattle.std.specs.declared.option.Option.{Option}
use Rattle.std.specs.declared.result.Result.{Result}
use Rattle.std.specs.Io.KnownBytes.{Appends}
use Rattle.lift_base.specs.Outside.{Rose, AppendsFront}
use Rattle.lift_walk.specs.Halved.{Halved}

-- What was done with a node of that entry: it was taken, or after a fault a part of it, from its front. No count falls.
pub record Took {O T E : Type 0} (taken : O → Option (List ℕ)) (faults : O → ℕ) (old new : O) (result : Result T E) (entry : List ℕ) : Type 0 where
  pub whole : OnOk result (Appends (taken old) (taken new) entry)
  pub part : OnErr result (AppendsFront (taken old) (taken new) entry)
  pub cause : OnErr result (Rose (faults old) (faults new))
  pub later : faults old ≤ faults new

-- What a walk did that shows a tree of which Is holds. At Ok there is such a tree, and what was given stands for it. Whichever tree is such a one, the entries of all its nodes were taken, or after an error a part of them, from the front. An error comes only with a fault, and no count falls.
pub record Shows {O T E Leaf : Type 0} (Is : Halved Leaf → Type 0) (is_part : Halved Leaf → T → Type 0) (text : Halved Leaf → List ℕ) (taken : O → Option (List ℕ)) (faults : O → ℕ) (old new : O) (result : Result T E) : Type 0 where
  pub tree : IfOk result (λ part. (t : Halved Leaf) × (Is t × is_part t part))
  pub whole : OnOk result ((t : Halved Leaf) → Is t → Appends (taken old) (taken new) (text t))
  pub part : OnErr result ((t : Halved Leaf) → Is t → AppendsFront (taken old) (taken new) (text t))
  pub cause : OnErr result (Rose (faults old) (faults new))
  pub later : faults old ≤ faults new
