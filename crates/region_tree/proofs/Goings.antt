-- Lanes that are ready for a decision, and what stays of them.
use Rattle.std.proofs.Common.{ℕ, ◌*◌, length, IfSome, refl, sym, ◌∙◌, subst}
use Rattle.lift_model.specs.Links.{LinksData, AreLinks}
use Rattle.lift_model.specs.Model.{ModelData}
use Rattle.corner_lift.specs.Case.{CaseData}
use Rattle.lift_cert.specs.declared.bound.Bound.{Bound}
use Rattle.lift_collapse.specs.Collapse.{IsCollapse}
use Rattle.lift_range.specs.Range.{Between}
use Rattle.region_tree.specs.Decided.{sought_for}
use Rattle.region_tree.specs.Recent.{DecidedData, HasAllPlaces, KeepsPlaces, forgotten}
use Rattle.region_tree.specs.Rooms.{LanesData, HasLanes, KeepsShape}
use Rattle.region_tree.specs.Sides.{AreKnown}
use Rattle.region_tree.specs.Walking.{AreReady}
use Rattle.region_tree.proofs.Shapes.{same_pool, pool_then, same_pools, pools_then, pools_kept}
use Rattle.region_tree.proofs.Meeting.{none_known}

same_places : (a : DecidedData) → KeepsPlaces a a
same_places a = record { accepted = same_pool a.accepted.sides; rejected = same_pool a.rejected.sides }

places_then : (a b c : DecidedData) → KeepsPlaces a b → KeepsPlaces b c → KeepsPlaces a c
places_then a b c h g = record { accepted = pool_then a.accepted.sides b.accepted.sides c.accepted.sides h.accepted g.accepted; rejected = pool_then a.rejected.sides b.rejected.sides c.rejected.sides h.rejected g.rejected }

pub places_kept : (ends : ℕ) (a b : DecidedData) → KeepsPlaces a b → HasAllPlaces ends a → HasAllPlaces ends b
places_kept ends a b h g = record { accepted = h.accepted.lanes ∙ g.accepted; rejected = h.rejected.lanes ∙ g.rejected }

forgotten_keeps : (a : DecidedData) → KeepsPlaces a (forgotten a)
forgotten_keeps a = record { accepted = same_pool a.accepted.sides; rejected = same_pool a.rejected.sides }

pub same_shape : (a : LanesData) → KeepsShape a a
same_shape a = record { collapse = refl; weights = same_pool a.weights; pools = same_pools a.pools; decided = same_places a.decided }

pub shape_then : (a b c : LanesData) → KeepsShape a b → KeepsShape b c → KeepsShape a c
shape_then a b c h g = record {
  collapse = g.collapse ∙ h.collapse;
  weights = pool_then a.weights b.weights c.weights h.weights g.weights;
  pools = pools_then a.pools b.pools c.pools h.pools g.pools;
  decided = places_then a.decided b.decided c.decided h.decided g.decided;
}

pub lanes_kept : (m : ModelData) (l : LinksData) (a b : LanesData) → KeepsShape a b → HasLanes m l a → HasLanes m l b
lanes_kept m l a b h g = record {
  collapse = subst (λ found. IfSome found (IsCollapse m)) (sym h.collapse) g.collapse;
  weights = h.weights.lanes ∙ g.weights;
  pools = pools_kept m a.pools b.pools h.pools g.pools;
  decided = places_kept (2 * length m.names) a.decided b.decided h.decided g.decided;
}

pub begun_keeps : (a : LanesData) → KeepsShape a (record a { decided = forgotten a.decided })
begun_keeps a = record { collapse = refl; weights = same_pool a.weights; pools = same_pools a.pools; decided = forgotten_keeps a.decided }

-- with other rectangles noted they have that shape too
pub shape_with : (a b : LanesData) (d : DecidedData) → KeepsShape a b → KeepsPlaces b.decided d → KeepsShape a (record b { decided = d })
shape_with a b d h places = record { collapse = h.collapse; weights = h.weights; pools = h.pools; decided = places_then a.decided b.decided d h.decided places }

-- a decision that keeps the shape of the lanes, and notes what it tells, leaves them ready
pub still_ready : (k : CaseData) (l : LinksData) (bound : Bound) (from : ℕ) (made a b : LanesData) → KeepsShape a b → AreKnown (sought_for bound) k b.decided → AreReady k l bound from made a → AreReady k l bound from made b
still_ready k l bound from made a b h known ready = record {
  links = ready.links;
  range = ready.range;
  has = lanes_kept k.model l a b h ready.has;
  shape = shape_then made a b ready.shape h;
  known = known;
}

-- where nothing is noted, lanes that are made for a case are ready
pub ready_at_first : (k : CaseData) (l : LinksData) (bound : Bound) (from : ℕ) (a : LanesData) → AreLinks k.model l → Between 1 k.w from → HasLanes k.model l a → let b : LanesData = record a { decided = forgotten a.decided } in AreReady k l bound from b b
ready_at_first k l bound from a links range has =
    let b : LanesData = record a { decided = forgotten a.decided } in
    record { links = links; range = range; has = lanes_kept k.model l a b (begun_keeps a) has; shape = same_shape b; known = none_known (sought_for bound) k a.decided }

-- after a walk they have the shape that they had before it
pub kept_since : (k : CaseData) (l : LinksData) (bound : Bound) (from : ℕ) (a b : LanesData) → AreReady k l bound from (record a { decided = forgotten a.decided }) b → KeepsShape a b
kept_since k l bound from a b ready = shape_then a (record a { decided = forgotten a.decided }) b (begun_keeps a) ready.shape
