-- What a verdict says of a rectangle, with the certificate that stands in the lanes.
use Rattle.std.specs.Prelude.{◌≡◌, ℕ, true, false, [], if◌then◌else◌}
use Rattle.lift_grid.specs.Rectangle.{Spans}
use Rattle.lift_grid.specs.Tree.{RejectData}
use Rattle.corner_lift.specs.Case.{CaseData, number}
use Rattle.lift_cert.specs.declared.bound.Bound.{Bound}
use Rattle.lower_cert.specs.AnyRanks.{UnboundedReject, IsUnboundedLower}
use Rattle.property_text.specs.declared.op.Op.{Op}
use Rattle.lift_dual.specs.Property.{is_upper, IsHighSide}
use Rattle.region_tree.specs.Decided.{lane, reject_in, reject_of}
use Rattle.region_tree.specs.declared.pools.Pools.{Pools}
use Rattle.region_tree.specs.Sides.{Certificates}
use Rattle.property_tree.specs.Leaves.{PropertyLeaf, RangeLeaf, IsCertificate, Settles, DecidesFor, bounds_above}
use Rattle.region_tree.specs.declared.side.Found.{Found}
use Rattle.region_tree.specs.declared.side.Side.{Side}
use Rattle.region_tree.specs.declared.side.Side.TheVariants.{Above, Below}

-- the lower vector for every scheduler that stands in the lanes, with e and k; it picks none
abbrev pub lower_all_in : Pools → ℕ → ℕ → RejectData
lower_all_in p e k = reject_of (lane p.values) [] (lane p.ranks) e k

-- the certificate from above that stands in the lanes
abbrev pub upper_in : Op → Pools → PropertyLeaf
upper_in op p = if is_upper op then PropertyLeaf.upper (lane p.values) else PropertyLeaf.upper_one (lane p.values) (lane p.picks)

-- that from below, with e and k
abbrev pub lower_in : Op → Pools → ℕ → ℕ → PropertyLeaf
lower_in op p e k = if is_upper op then PropertyLeaf.lower (reject_in p e k) else PropertyLeaf.lower_all (lower_all_in p e k)

-- no certificate from above tells of the rectangle whether the property holds
abbrev pub NoneFromAbove : CaseData → Op → Bound → Spans → Type 0
NoneFromAbove k op bound spans = (leaf : PropertyLeaf) → bounds_above leaf ≡ true → IsCertificate k spans leaf → Settles k op bound leaf → ⊥

-- none from below does, nor a lower vector whose ranks have no bound
pub record NoneFromBelow (k : CaseData) (op : Op) (bound : Bound) (spans : Spans) : Type 0 where
  pub none : (leaf : PropertyLeaf) → bounds_above leaf ≡ false → IsCertificate k spans leaf → Settles k op bound leaf → ⊥
  pub none_higher : is_upper op ≡ true → (u : UnboundedReject) → IsUnboundedLower k spans u → IsHighSide op bound k.w (number u.numbers k.model.init) → ⊥

-- what is sought for a comparison: the certificates that decide whether it holds
abbrev pub sought_of : Op → Bound → Certificates
sought_of op bound = record {
  above = λ k spans p. DecidesFor k op bound spans (upper_in op p);
  below = λ k spans p e height. DecidesFor k op bound spans (lower_in op p e height);
  none_above = λ k spans. NoneFromAbove k op bound spans;
  none_below = λ k spans. NoneFromBelow k op bound spans;
}

-- the leaf of a verdict, by the certificate that stands in the lanes
abbrev pub leaf_in : Op → Pools → Side → PropertyLeaf
leaf_in op p Above = upper_in op p
leaf_in op p (Below rate) = lower_in op p rate.e rate.k

-- the leaf of what was found for a range
abbrev pub range_leaf_in : Op → Pools → Found → RangeLeaf
range_leaf_in op p found = record { u = found.u; certificate = leaf_in op p found.side }
