-- What is decided at a precision is decided at each greater one: certificates with each number doubled.
use Rattle.std.proofs.Common.{◌≡◌, ℕ, ◌+◌, ◌-◌, ◌≤◌, refl, ◌∙◌, subst, arith}
use Rattle.lift_grid.specs.Rectangle.{Spans}
use Rattle.lift_cert.specs.declared.bound.Bound.{Bound}
use Rattle.corner_lift.specs.Case.{CaseData, at}
use Rattle.lift_range.specs.Doubled.{doubled, doubled_data, doubled_unbounded}
use Rattle.lift_range.specs.Laws.{UpperDoubles, UpperOneDoubles, LowerDoubles, LowerAllDoubles, UnboundedLowerDoubles, LowSideDoubles, HighSideDoubles}
use Rattle.property_text.specs.declared.op.Op.{Op}
use Rattle.region_tree.specs.Sides.{AgreeAtPrecisions}
use Rattle.property_tree.specs.Decided.{NoneFromAbove, NoneFromBelow, lower_in, sought_of, upper_in}
use Rattle.property_tree.specs.Leaves.{PropertyLeaf, IsCertificate, Settles, bounds_above}
use Rattle.property_tree.proofs.Meeting.{upper_bounds, lower_bounds}
use Rattle.property_tree.proofs.Single.{certificate_of}

-- a certificate with its numbers doubled, s times
abbrev doubled_leaf : ℕ → PropertyLeaf → PropertyLeaf
doubled_leaf s (PropertyLeaf.upper x) = PropertyLeaf.upper (doubled s x)
doubled_leaf s (PropertyLeaf.upper_one x picks) = PropertyLeaf.upper_one (doubled s x) picks
doubled_leaf s (PropertyLeaf.lower r) = PropertyLeaf.lower (doubled_data s r)
doubled_leaf s (PropertyLeaf.lower_all r) = PropertyLeaf.lower_all (doubled_data s r)

same_side : (s : ℕ) (leaf : PropertyLeaf) → bounds_above (doubled_leaf s leaf) ≡ bounds_above leaf
same_side s (PropertyLeaf.upper x) = refl
same_side s (PropertyLeaf.upper_one x picks) = refl
same_side s (PropertyLeaf.lower r) = refl
same_side s (PropertyLeaf.lower_all r) = refl

module _ (uppers : UpperDoubles) (uppers_one : UpperOneDoubles) (lowers : LowerDoubles) (lowers_all : LowerAllDoubles) (unbounded : UnboundedLowerDoubles) (lows : LowSideDoubles) (highs : HighSideDoubles) (k : CaseData) (op : Op) (bound : Bound) (spans : Spans) where
  certificate_doubles : (u s : ℕ) (leaf : PropertyLeaf) → IsCertificate (at k u) spans leaf → IsCertificate (at k (u + s)) spans (doubled_leaf s leaf)
  certificate_doubles u s (PropertyLeaf.upper x) h = uppers k spans u s x h
  certificate_doubles u s (PropertyLeaf.upper_one x picks) h = uppers_one k spans u s x picks h
  certificate_doubles u s (PropertyLeaf.lower r) h = lowers k spans u s r h
  certificate_doubles u s (PropertyLeaf.lower_all r) h = lowers_all k spans u s r h

  settles_doubles : (u s : ℕ) (leaf : PropertyLeaf) → Settles (at k u) op bound leaf → Settles (at k (u + s)) op bound (doubled_leaf s leaf)
  settles_doubles u s (PropertyLeaf.upper x) h = record { scheduler = h.scheduler; side = lows op bound u s x k.model.init h.side }
  settles_doubles u s (PropertyLeaf.upper_one x picks) h = record { scheduler = h.scheduler; side = lows op bound u s x k.model.init h.side }
  settles_doubles u s (PropertyLeaf.lower r) h = record { scheduler = h.scheduler; side = highs op bound u s r.numbers k.model.init h.side }
  settles_doubles u s (PropertyLeaf.lower_all r) h = record { scheduler = h.scheduler; side = highs op bound u s r.numbers k.model.init h.side }

  -- a precision is a lower one and what it lacks
  with_rest : (P : ℕ → Type 0) (u v : ℕ) → u ≤ v → P v → P (u + (v - u))
  with_rest P u v le h = let e : v ≡ u + (v - u) = omega arith in subst P e h

  none_above : (u v : ℕ) → u ≤ v → NoneFromAbove (at k v) op bound spans → NoneFromAbove (at k u) op bound spans
  none_above u v le none leaf above h settles =
      let s = v - u in
      with_rest (λ n. NoneFromAbove (at k n) op bound spans) u v le none (doubled_leaf s leaf) (same_side s leaf ∙ above) (certificate_doubles u s leaf h) (settles_doubles u s leaf settles)

  none_below : (u v : ℕ) → u ≤ v → NoneFromBelow (at k v) op bound spans → NoneFromBelow (at k u) op bound spans
  none_below u v le none =
      let s = v - u in
      let there : NoneFromBelow (at k (u + s)) op bound spans = with_rest (λ n. NoneFromBelow (at k n) op bound spans) u v le none in
      record {
        none = λ leaf below h settles. there.none (doubled_leaf s leaf) (same_side s leaf ∙ below) (certificate_doubles u s leaf h) (settles_doubles u s leaf settles);
        none_higher = λ most r h side. there.none_higher most (doubled_unbounded s r) (unbounded k spans u s r h) (highs op bound u s r.numbers k.model.init side);
      }

pub precisions_agree : UpperDoubles → UpperOneDoubles → LowerDoubles → LowerAllDoubles → UnboundedLowerDoubles → LowSideDoubles → HighSideDoubles → (k : CaseData) (op : Op) (bound : Bound) → AgreeAtPrecisions (sought_of op bound) k
precisions_agree uppers uppers_one lowers lowers_all unbounded lows highs k op bound = record {
  above = λ spans u p h none. none (upper_in op p) (upper_bounds op p) (certificate_of (at k u) spans (upper_in op p) h.0) h.1;
  below = λ spans u p e height h none. none.none (lower_in op p e height) (lower_bounds op p e height) (certificate_of (at k u) spans (lower_in op p e height) h.0) h.1;
  none_above = λ spans u v positive le most none. none_above uppers uppers_one lowers lowers_all unbounded lows highs k op bound spans u v le none;
  none_below = λ spans u v positive le most none. none_below uppers uppers_one lowers lowers_all unbounded lows highs k op bound spans u v le none;
}
