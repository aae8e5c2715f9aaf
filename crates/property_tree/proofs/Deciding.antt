-- What decides a rectangle, by the greatest number on the lower side of the bound.
use Rattle.std.proofs.Common.{◌≡◌, true, false, true≢false, Bool, List, ℕ, ℤ, pos, ◌+ℤ◌, ◌≤ℤ◌, ◌<ℤ◌, Option, Some, None, IfSome, MatchOption, refl, sym, ◌∙◌, subst, arith}
use Rattle.lift_poly.proofs.Ring.{linear}
use Rattle.lift_grid.specs.Rectangle.{Spans}
use Rattle.corner_lift.specs.Case.{CaseData, IsCase, at, number}
use Rattle.corner_lift.specs.Certificate.{IsUpper}
use Rattle.lift_cert.specs.declared.bound.Bound.{Bound}
use Rattle.lift_range.specs.Range.{Between}
use Rattle.lower_cert.specs.declared.greatest.Rate.{Rate}
use Rattle.lower_cert.specs.AnyRanks.{RanksFit, UnboundedReject, IsUnboundedLower}
use Rattle.lower_cert.specs.Limit.{IsGreatestAbove, NoneIsAbove}
use Rattle.property_text.specs.declared.op.Op.{Op}
use Rattle.rounded_iter.specs.Watching.{IsLeastWithin}
use Rattle.lift_dual.specs.Property.{IsLowSide, IsHighSide, is_upper}
use Rattle.lift_dual.specs.Laws.{SidesAreApart}
use Rattle.lift_dual.specs.Sides.{IsUpperOne}
use Rattle.lift_dual.specs.Choosing.{IsLeastUpperOneWithin}
use Rattle.lift_dual.specs.Greatest.{IsGreatestAllAbove, NoneOfAllIsAbove}
use Rattle.region_tree.specs.Decided.{lane, reject_in}
use Rattle.region_tree.specs.Sides.{IsDecidedFrom, IsDecidedOver, IsFound, IsUndecided}
use Rattle.region_tree.specs.declared.pools.Pools.{Pools}
use Rattle.region_tree.specs.declared.side.Found.{Found}
use Rattle.region_tree.specs.declared.side.Side.{Side}
use Rattle.region_tree.specs.declared.side.Side.TheVariants.{Above, Below}
use Rattle.property_tree.specs.Leaves.{PropertyLeaf, IsCertificate, Settles, DecidesFor, DecidesOver, IsOpenFor, IsOpenOver, bounds_above}
use Rattle.property_tree.specs.Decided.{NoneFromAbove, NoneFromBelow, leaf_in, lower_all_in, lower_in, range_leaf_in, sought_of, upper_in}
use Rattle.property_tree.proofs.Beside.{low_below, high_above}

module _ (k : CaseData) (op : Op) (bound : Bound) (spans : Spans) (limit : ℤ) (low : IsLowSide op bound k.w limit) (high : IsHighSide op bound k.w (limit +ℤ pos 1)) (apart : SidesAreApart) where
  -- a number above the limit isn't on the lower side
  not_low : (n : ℤ) → limit <ℤ n → IsLowSide op bound k.w n → ⊥
  not_low n lt side = let less = apart op bound k.w n n side (high_above bound k.w op limit n high lt) in omega (arith, linear, less)

  -- one within it isn't on the upper side
  not_high : (n : ℤ) → n ≤ℤ limit → IsHighSide op bound k.w n → ⊥
  not_high n le side = let less = apart op bound k.w n n (low_below bound k.w op limit n low le) side in omega (arith, linear, less)

  -- ---- for the scheduler that reaches the most

  module _ (most : is_upper op ≡ true) where
    pub upper_decides : (p : Pools) (within : Bool) → IsLeastWithin k spans limit (lane p.values) within → within ≡ true → DecidesFor k op bound spans (upper_in op p)
    upper_decides p within is done =
        let x = lane p.values in
        let decides : DecidesFor k op bound spans (PropertyLeaf.upper x) = (is.least done, record { scheduler = sym most; side = low_below bound k.w op limit (number x k.model.init) low (is.first done) }) in
        rw most decides

    pub none_above : ((y : List ℤ) → IsUpper k spans y → limit <ℤ number y k.model.init) → NoneFromAbove k op bound spans
    none_above past (PropertyLeaf.upper x) above certificate settles = not_low (number x k.model.init) (past x certificate) settles.side
    none_above past (PropertyLeaf.upper_one x picks) above certificate settles = true≢false (sym most ∙ sym settles.scheduler)
    none_above past (PropertyLeaf.lower r) above certificate settles = true≢false (sym above)
    none_above past (PropertyLeaf.lower_all r) above certificate settles = true≢false (sym above)

    pub lower_decides : (p : Pools) (rate : Option Rate) → IfSome rate (λ r. IsGreatestAbove k spans limit (reject_in p r.e r.k)) → IfSome rate (λ r. DecidesFor k op bound spans (lower_in op p r.e r.k))
    lower_decides p None is = tt
    lower_decides p (Some rate) is =
        let r = reject_in p rate.e rate.k in
        let decides : DecidesFor k op bound spans (PropertyLeaf.lower r) = (is.greatest, record { scheduler = sym most; side = high_above bound k.w op limit (number r.numbers k.model.init) high is.above }) in
        rw most decides

    pub none_below : RanksFit → IsCase k → NoneIsAbove k spans limit → NoneFromBelow k op bound spans
    none_below fit case none = record { none = of_kind; none_higher = λ e u holds side. of_any u holds side }
      where
        of_kind : (leaf : PropertyLeaf) → bounds_above leaf ≡ false → IsCertificate k spans leaf → Settles k op bound leaf → ⊥
        of_kind (PropertyLeaf.upper x) below certificate settles = true≢false below
        of_kind (PropertyLeaf.upper_one x picks) below certificate settles = true≢false below
        of_kind (PropertyLeaf.lower r) below certificate settles = not_high (number r.numbers k.model.init) (none r certificate) settles.side
        of_kind (PropertyLeaf.lower_all r) below certificate settles = true≢false (sym most ∙ sym settles.scheduler)

        of_any : (u : UnboundedReject) → IsUnboundedLower k spans u → IsHighSide op bound k.w (number u.numbers k.model.init) → ⊥
        of_any u holds side =
            let few = fit k spans u case holds in
            not_high (number u.numbers k.model.init) (subst (λ y. number y k.model.init ≤ℤ limit) few.1.0 (none few.0 few.1.3)) side

  -- ---- for the scheduler that reaches the least

  module _ (least : is_upper op ≡ false) where
    pub upper_one_decides : (p : Pools) (within : Bool) → IsLeastUpperOneWithin k spans limit (lane p.values) (lane p.picks) within → within ≡ true → DecidesFor k op bound spans (upper_in op p)
    upper_one_decides p within is done =
        let x = lane p.values in
        let decides : DecidesFor k op bound spans (PropertyLeaf.upper_one x (lane p.picks)) = (is.least done, record { scheduler = sym least; side = low_below bound k.w op limit (number x k.model.init) low (is.first done) }) in
        rw least decides

    pub none_above_one : ((y : List ℤ) (others : List ℕ) → IsUpperOne k spans y others → limit <ℤ number y k.model.init) → NoneFromAbove k op bound spans
    none_above_one past (PropertyLeaf.upper x) above certificate settles = true≢false (settles.scheduler ∙ least)
    none_above_one past (PropertyLeaf.upper_one x picks) above certificate settles = not_low (number x k.model.init) (past x picks certificate) settles.side
    none_above_one past (PropertyLeaf.lower r) above certificate settles = true≢false (sym above)
    none_above_one past (PropertyLeaf.lower_all r) above certificate settles = true≢false (sym above)

    pub lower_all_decides : (p : Pools) (rate : Option Rate) → IfSome rate (λ r. IsGreatestAllAbove k spans limit (lower_all_in p r.e r.k)) → IfSome rate (λ r. DecidesFor k op bound spans (lower_in op p r.e r.k))
    lower_all_decides p None is = tt
    lower_all_decides p (Some rate) is =
        let r = lower_all_in p rate.e rate.k in
        let decides : DecidesFor k op bound spans (PropertyLeaf.lower_all r) = (is.greatest, record { scheduler = sym least; side = high_above bound k.w op limit (number r.numbers k.model.init) high is.above }) in
        rw least decides

    pub none_below_all : NoneOfAllIsAbove k spans limit → NoneFromBelow k op bound spans
    none_below_all none = record { none = of_kind; none_higher = λ e u holds side. true≢false (sym e ∙ least) }
      where
        of_kind : (leaf : PropertyLeaf) → bounds_above leaf ≡ false → IsCertificate k spans leaf → Settles k op bound leaf → ⊥
        of_kind (PropertyLeaf.upper x) below certificate settles = true≢false below
        of_kind (PropertyLeaf.upper_one x picks) below certificate settles = true≢false below
        of_kind (PropertyLeaf.lower r) below certificate settles = true≢false (settles.scheduler ∙ least)
        of_kind (PropertyLeaf.lower_all r) below certificate settles = not_high (number r.numbers k.model.init) (none r certificate) settles.side

-- where none from above and none from below tells, the rectangle is open
pub is_open : (k : CaseData) (op : Op) (bound : Bound) (spans : Spans) → NoneFromAbove k op bound spans → NoneFromBelow k op bound spans → IsOpenFor k op bound spans
is_open k op bound spans above below = record { none = of_kind; none_higher = below.none_higher }
  where
    of_kind : (leaf : PropertyLeaf) → IsCertificate k spans leaf → Settles k op bound leaf → ⊥
    of_kind (PropertyLeaf.upper x) certificate settles = above (PropertyLeaf.upper x) refl certificate settles
    of_kind (PropertyLeaf.upper_one x picks) certificate settles = above (PropertyLeaf.upper_one x picks) refl certificate settles
    of_kind (PropertyLeaf.lower r) certificate settles = below.none (PropertyLeaf.lower r) refl certificate settles
    of_kind (PropertyLeaf.lower_all r) certificate settles = below.none (PropertyLeaf.lower_all r) refl certificate settles

-- what decides from a side, as its leaf
side_decides : (k : CaseData) (op : Op) (bound : Bound) (spans : Spans) (p : Pools) (side : Side) → IsDecidedFrom (sought_of op bound) k spans p side → DecidesFor k op bound spans (leaf_in op p side)
side_decides k op bound spans p Above h = h
side_decides k op bound spans p (Below rate) h = h

module _ (k : CaseData) (v : ℕ) (op : Op) (bound : Bound) (spans : Spans) (p : Pools) where
  open_at : (u : ℕ) → IsUndecided (sought_of op bound) (at k u) spans → IsOpenFor (at k u) op bound spans
  open_at u none = is_open (at k u) op bound spans none.0 none.1

  -- what was found for a range, as its leaf
  pub found_over : (found : Option Found) → IsFound (sought_of op bound) k v spans p found → MatchOption found (IsOpenOver k v op bound spans) (λ f. DecidesOver k v op bound spans (range_leaf_in op p f))
  found_over (Some f) h = record { between = h.between; before = λ t le lt. open_at t (h.before t le lt); decides = side_decides (at k f.u) op bound spans p f.side h.decided }
  found_over None h = λ u between. open_at u (h u between)

-- what was found at the case's precision alone
pub found_alone : (k : CaseData) (op : Op) (bound : Bound) (spans : Spans) (p : Pools) (found : Found) → IsDecidedOver (sought_of op bound) k k.w spans p found → DecidesFor k op bound spans (leaf_in op p found.side)
found_alone k op bound spans p found h =
    let e : found.u ≡ k.w = omega (arith, h.between.0, h.between.1) in
    side_decides k op bound spans p found.side (subst (λ n. IsDecidedFrom (sought_of op bound) (at k n) spans p found.side) e h.decided)

pub open_alone : (k : CaseData) (op : Op) (bound : Bound) (spans : Spans) → ((u : ℕ) → Between k.w k.w u → IsUndecided (sought_of op bound) (at k u) spans) → IsOpenFor k op bound spans
open_alone k op bound spans none = let here = none k.w (omega arith, omega arith) in is_open k op bound spans here.0 here.1
