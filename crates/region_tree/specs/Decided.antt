-- What a verdict says of a rectangle, with the certificate that stands in the room.
use Rattle.std.specs.Prelude.{ℕ, List, [], ℤ, length, slice_index_or, ◌<◌, ◌≤◌, Option, Some, None}
use Rattle.lift_pool.specs.Lanes.{PoolData}
use Rattle.lift_grid.specs.Rectangle.{Spans}
use Rattle.lift_grid.specs.Tree.{RejectData}
use Rattle.lift_model.specs.Links.{LinksData, AreLinks}
use Rattle.lift_model.specs.Valid.{most_states}
use Rattle.lift_cert.specs.declared.bound.Bound.{Bound}
use Rattle.lift_cert.specs.Certificate.{IsAccepting, IsRejecting, NoneAccepts}
use Rattle.corner_lift.specs.Case.{CaseData, AreSidesInside}
use Rattle.corner_lift.specs.Certificate.{IsLeastUpper}
use Rattle.corner_lift.specs.Stages.{IsGreatestLower}
use Rattle.corner_lift.specs.Table.{IsTable}
use Rattle.region_tree.specs.Right.{IsAccepted, IsRejected, IsOpen, NoneRejects}
use Rattle.region_tree.specs.Rooms.{HasLanes, last_sides}
use Rattle.region_tree.specs.Sides.{Certificates}
use Rattle.region_tree.specs.declared.pools.Pools.{Pools}
use Rattle.region_tree.specs.declared.room.Room.{Room}
use Rattle.region_tree.specs.declared.side.Found.{Found}
use Rattle.region_tree.specs.declared.side.Side.TheVariants.{Above, Below}
use Rattle.region_tree.specs.declared.verdict.Verdict.{Verdict}
use Rattle.region_tree.specs.declared.verdict.Verdict.TheVariants.{Accept, Reject, Unknown}

-- The last rectangle of a room can be decided: the links are those of the case's model, the other lanes are those of a room made for the case, and the rectangle lies inside the root.
pub record CanDecide (k : CaseData) (l : LinksData) (room : Room) : Type 0 where
  pub links : AreLinks k.model l
  pub lanes : HasLanes k.model l room.lanes
  pub some : 0 < length room.sides.lanes
  pub sides : AreSidesInside k.root (last_sides room)

-- A question can be asked of a rectangle: the links are those of the case's model, and the weights are the table of the rectangle.
pub record CanAsk (k : CaseData) (l : LinksData) (spans : Spans) (weights : List ℤ) : Type 0 where
  pub links : AreLinks k.model l
  pub table : IsTable k l spans weights

-- the one lane of a pool
abbrev pub lane : {T : Type 0} → PoolData T → List T
lane p = slice_index_or p.lanes 0 []

-- the rejecting certificate with these numbers, choices and ranks
abbrev pub reject_of : List ℤ → List ℕ → List ℕ → ℕ → ℕ → RejectData
reject_of numbers picks ranks e k = record { numbers = numbers; picks = picks; ranks = ranks; e = e; k = k }

-- the rejecting certificate that stands in the lanes, with e and k
abbrev pub reject_in : Pools → ℕ → ℕ → RejectData
reject_in p e k = reject_of (lane p.values) (lane p.picks) (lane p.ranks) e k

-- The verdict is right of the rectangle, for the precisions from v to the case's, and its certificate stands in the room. The k of a rejecting one is at most the number of states that a model can have.
abbrev pub IsDecided : CaseData → ℕ → Spans → Bound → Room → Verdict → Type 0
IsDecided k v spans bound room (Accept u) = IsAccepted k v spans bound u (lane room.lanes.pools.values)
IsDecided k v spans bound room (Reject u e height) = IsRejected k v spans bound u (reject_in room.lanes.pools e height) × (height ≤ most_states)
IsDecided k v spans bound room Unknown = IsOpen k v spans bound

-- what was found, as a verdict
abbrev pub verdict_of : Option Found → Verdict
verdict_of (Some found) = elim found.side [ Above ↦ Accept found.u | Below rate ↦ Reject found.u rate.e rate.k ]
verdict_of None = Unknown

-- ---- what is sought for a bound

-- an accepting certificate, and it is the least upper vector
pub record IsLeastAccepting (k : CaseData) (spans : Spans) (bound : Bound) (x : List ℤ) : Type 0 where
  pub accepting : IsAccepting k spans bound x
  pub least : IsLeastUpper k spans x

-- a rejecting certificate, and it is the greatest lower vector
pub record IsGreatestBeyond (k : CaseData) (spans : Spans) (bound : Bound) (r : RejectData) : Type 0 where
  pub rejecting : IsRejecting k spans bound r
  pub greatest : IsGreatestLower k spans r

-- accepting certificates from above, and rejecting ones from below
abbrev pub sought_for : Bound → Certificates
sought_for bound = record {
  above = λ k spans p. IsLeastAccepting k spans bound (lane p.values);
  below = λ k spans p e height. IsGreatestBeyond k spans bound (reject_in p e height);
  none_above = λ k spans. NoneAccepts k spans bound;
  none_below = λ k spans. NoneRejects k spans bound;
}
