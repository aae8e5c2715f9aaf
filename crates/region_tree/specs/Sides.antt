-- What decides a rectangle from above or from below, for whatever is sought of it, at one precision or over a range, and what the rectangles that were decided before tell of another one.
use Rattle.std.specs.Prelude.{ℕ, ◌<◌, ◌≤◌, List, ℤ, Option, MatchOption, IsFalse}
use Rattle.lift_grid.specs.Rectangle.{Spans, spans_of}
use Rattle.corner_lift.specs.Case.{CaseData, IsInside, at}
use Rattle.lift_range.specs.Range.{Between}
use Rattle.region_tree.specs.Recent.{DecidedData, Meet, sides_at}
use Rattle.region_tree.specs.declared.decided.Outlook.{Outlook}
use Rattle.region_tree.specs.declared.pools.Pools.{Pools}
use Rattle.region_tree.specs.declared.side.Found.{Found}
use Rattle.region_tree.specs.declared.side.Side.{Side}
use Rattle.region_tree.specs.declared.side.Side.TheVariants.{Above, Below}

-- What is sought of the rectangles of a case: that a certificate from above stands in the lanes that decides one, that one from below does, with e and k, and that there is none from above, or none from below.
pub record Certificates : Type 1 where
  pub above : CaseData → Spans → Pools → Type 0
  pub below : CaseData → Spans → Pools → ℕ → ℕ → Type 0
  pub none_above : CaseData → Spans → Type 0
  pub none_below : CaseData → Spans → Type 0

-- the certificate from that side stands in the lanes
abbrev pub IsDecidedFrom : Certificates → CaseData → Spans → Pools → Side → Type 0
IsDecidedFrom s k spans p Above = s.above k spans p
IsDecidedFrom s k spans p (Below rate) = s.below k spans p rate.e rate.k

-- there is none from either side
abbrev pub IsUndecided : Certificates → CaseData → Spans → Type 0
IsUndecided s k spans = s.none_above k spans × s.none_below k spans

-- what is told of a rectangle is right: its certificate stands in the lanes, and where no side is told there is none from either
abbrev pub IsTold : Certificates → CaseData → Spans → Pools → Option Side → Type 0
IsTold s k spans p found = MatchOption found (IsUndecided s k spans) (IsDecidedFrom s k spans p)

-- ---- a range of precisions

-- none of the precisions from v on and below u decides
abbrev pub AreUndecidedBelow : Certificates → CaseData → ℕ → Spans → ℕ → Type 0
AreUndecidedBelow s k v spans u = (t : ℕ) → v ≤ t → t < u → IsUndecided s (at k t) spans

-- u is the least precision of the range from v to the case's that decides, and the certificate from that side stands in the lanes
pub record IsDecidedOver (s : Certificates) (k : CaseData) (v : ℕ) (spans : Spans) (p : Pools) (found : Found) : Type 0 where
  pub between : Between v k.w found.u
  pub before : AreUndecidedBelow s k v spans found.u
  pub decided : IsDecidedFrom s (at k found.u) spans p found.side

-- what was found of a rectangle is right for the range from v to the case's precision; where nothing was, no precision of the range decides
abbrev pub IsFound : Certificates → CaseData → ℕ → Spans → Pools → Option Found → Type 0
IsFound s k v spans p found = MatchOption found ((u : ℕ) → Between v k.w u → IsUndecided s (at k u) spans) (IsDecidedOver s k v spans p)

-- Over the precisions from 1 to the case's: what decides a rectangle inside the root from a side at one, no certificate is missing for there, and where there is none from a side at one, there is none at a lower one. So what is decided at a precision is decided at each greater one, from the same side.
pub record AgreeAtPrecisions (s : Certificates) (k : CaseData) : Type 0 where
  pub above : (spans : Spans) (u : ℕ) (p : Pools) → s.above (at k u) spans p → s.none_above (at k u) spans → ⊥
  pub below : (spans : Spans) (u : ℕ) (p : Pools) (e height : ℕ) → s.below (at k u) spans p e height → s.none_below (at k u) spans → ⊥
  pub none_above : (spans : Spans) (u v : ℕ) → 1 ≤ u → u ≤ v → v ≤ k.w → s.none_above (at k v) spans → s.none_above (at k u) spans
  pub none_below : (spans : Spans) (u v : ℕ) → 1 ≤ u → u ≤ v → v ≤ k.w → s.none_below (at k v) spans → s.none_below (at k u) spans

-- ---- other rectangles

-- Of two rectangles inside the root that share a valuation, not one is decided from above and the other from below.
pub record AreApart (s : Certificates) (k : CaseData) : Type 0 where
  pub above : (spans others : Spans) (p : Pools) → IsInside k.root spans → IsInside k.root others → Meet spans others → s.above k spans p → s.none_below k others
  pub below : (spans others : Spans) (p : Pools) (e height : ℕ) → IsInside k.root spans → IsInside k.root others → Meet spans others → s.below k spans p e height → s.none_above k others

-- P holds of each rectangle inside the root that shares a valuation with the one that has these sides
abbrev pub HoldsWhereMet : (CaseData → Spans → Type 0) → CaseData → List ℤ → Type 0
HoldsWhereMet P k sides = (spans : Spans) → IsInside k.root spans → Meet (spans_of sides) spans → P k spans

-- What is noted tells of the rectangles that share a valuation with one of those: where that was accepted there is no certificate from below, and where it was rejected none from above.
pub record AreKnown (s : Certificates) (k : CaseData) (d : DecidedData) : Type 0 where
  pub accepted : (i : ℕ) → i < d.accepted.count → HoldsWhereMet s.none_below k (sides_at d.accepted i)
  pub rejected : (i : ℕ) → i < d.rejected.count → HoldsWhereMet s.none_above k (sides_at d.rejected i)

-- A certificate is left out only where the rectangle has none of its kind.
pub record IsSoundFor (s : Certificates) (k : CaseData) (spans : Spans) (o : Outlook) : Type 0 where
  pub accepts : IsFalse o.may_accept → s.none_above k spans
  pub rejects : IsFalse o.may_reject → s.none_below k spans
