-- Where a range of precisions decides a rectangle: at one precision, with one kind of certificate.
use Rattle.std.proofs.Common.{◌≡◌, ℕ, ◌+◌, ◌-◌, ◌<◌, ◌≤◌, List, ℤ, Option, Some, None, MatchOption, refl, subst, arith, le_trans}
use Rattle.lift_grid.specs.Rectangle.{Spans}
use Rattle.lift_grid.specs.Tree.{RejectData}
use Rattle.lift_cert.specs.declared.bound.Bound.{Bound}
use Rattle.lift_cert.specs.Certificate.{IsAccepting, IsRejecting}
use Rattle.lift_cert.specs.Laws.{NotBothKinds}
use Rattle.lift_model.specs.Valid.{most_states}
use Rattle.lift_range.specs.Doubled.{doubled, doubled_data}
use Rattle.lift_range.specs.Laws.{NoneAcceptsBelow, NoneRejectsBelow, AcceptingDoubles, RejectingDoubles}
use Rattle.lower_cert.specs.AnyRanks.{HeightFits, RanksFit}
use Rattle.corner_lift.specs.Case.{CaseData, IsCase, IsInside, at}
use Rattle.corner_lift.specs.Certificate.{IsLeastUpper}
use Rattle.corner_lift.specs.Laws.{LowerPrecisionIsCase}
use Rattle.corner_lift.specs.Stages.{IsGreatestLower}
use Rattle.region_tree.specs.Decided.{IsDecided, IsGreatestBeyond, lane, reject_in, sought_for, verdict_of}
use Rattle.region_tree.specs.Laws.{LeastUppersAreOne, GreatestLowersAreOne}
use Rattle.region_tree.specs.Right.{Decides, IsOpenAt, IsOpen, IsFirst, IsAccepted, IsRejected}
use Rattle.region_tree.specs.Sides.{AgreeAtPrecisions, IsDecidedFrom, IsDecidedOver, IsFound}
use Rattle.region_tree.specs.Walking.{leaf_in}
use Rattle.region_tree.specs.declared.pools.Pools.{Pools}
use Rattle.region_tree.specs.declared.room.Room.{Room}
use Rattle.region_tree.specs.declared.side.Found.{Found}
use Rattle.region_tree.specs.declared.side.Side.{Side}
use Rattle.region_tree.specs.declared.side.Side.TheVariants.{Above, Below}
use Rattle.region_tree.proofs.AnyHeight.{none_at_any_height, none_with_ranks}
use Rattle.region_tree.proofs.Searches.{trichotomy}

-- ---- at greater precisions

so_much_more : (u w : ℕ) → u ≤ w → u + (w - u) ≡ w
so_much_more u w le = omega arith

-- a certificate at a precision, doubled, is one at the case's
pub accepting_at_last : AcceptingDoubles → (k : CaseData) (ss : Spans) (bound : Bound) (u : ℕ) → u ≤ k.w → (x : List ℤ) → IsAccepting (at k u) ss bound x → (y : List ℤ) × IsAccepting k ss bound y
accepting_at_last doubles k ss bound u le x h = (doubled (k.w - u) x, subst (λ n. IsAccepting (at k n) ss bound (doubled (k.w - u) x)) (so_much_more u k.w le) (doubles k ss bound u (k.w - u) x h))

pub rejecting_at_last : RejectingDoubles → (k : CaseData) (ss : Spans) (bound : Bound) (u : ℕ) → u ≤ k.w → (r : RejectData) → IsRejecting (at k u) ss bound r → (q : RejectData) × IsRejecting k ss bound q
rejecting_at_last doubles k ss bound u le r h = (doubled_data (k.w - u) r, subst (λ n. IsRejecting (at k n) ss bound (doubled_data (k.w - u) r)) (so_much_more u k.w le) (doubles k ss bound u (k.w - u) r h))

-- the k of a rejecting leaf is at most the number of states that a model can have
pub height_fits : LowerPrecisionIsCase → HeightFits → (k : CaseData) (v : ℕ) (ss : Spans) (bound : Bound) → IsCase k → 1 ≤ v → (u : ℕ) (r : RejectData) → IsRejected k v ss bound u r → r.k ≤ most_states
height_fits lower fits k v ss bound is positive u r h =
    let is_at = lower k u is (le_trans positive h.first.between.0) h.first.between.1 in
    le_trans (fits (at k u) ss r is_at h.greatest) is.asked.model.count.1

-- ---- one precision, one kind

module _ (k : CaseData) (v : ℕ) (ss : Spans) (bound : Bound) where
  first_is_one : (u t : ℕ) → IsFirst k v ss bound u → IsFirst k v ss bound t → (IsOpenAt k ss bound u → ⊥) → (IsOpenAt k ss bound t → ⊥) → u ≡ t
  first_is_one u t h g some other =
      trichotomy u t
      (λ lt. absurd (some (g.before u h.between.0 lt)))
      (λ e. e)
      (λ lt. absurd (other (h.before t g.between.0 lt)))

  accepting_isnt_open : (u : ℕ) (x : List ℤ) → IsAccepting (at k u) ss bound x → IsOpenAt k ss bound u → ⊥
  accepting_isnt_open u x h none = none.accepts x h

  rejecting_isnt_open : (u : ℕ) (r : RejectData) → IsRejecting (at k u) ss bound r → IsOpenAt k ss bound u → ⊥
  rejecting_isnt_open u r h none = none_with_ranks (at k u) ss bound r none.rejects h

  pub accepted_is_no_open : (u : ℕ) (x : List ℤ) → IsAccepted k v ss bound u x → IsOpen k v ss bound → ⊥
  accepted_is_no_open u x h none = accepting_isnt_open u x h.accepting (none u h.first.between)

  pub rejected_is_no_open : (u : ℕ) (r : RejectData) → IsRejected k v ss bound u r → IsOpen k v ss bound → ⊥
  rejected_is_no_open u r h none = rejecting_isnt_open u r h.rejecting (none u h.first.between)

  pub accepted_is_no_rejected : (u t : ℕ) (x : List ℤ) (r : RejectData) → IsAccepted k v ss bound u x → IsRejected k v ss bound t r → ⊥
  accepted_is_no_rejected u t x r h g =
      trichotomy u t
      (λ lt. accepting_isnt_open u x h.accepting (g.first.before u h.first.between.0 lt))
      (λ e. g.none x (subst (λ n. IsAccepting (at k n) ss bound x) e h.accepting))
      (λ lt. rejecting_isnt_open t r g.rejecting (h.first.before t g.first.between.0 lt))

  pub accepted_is_one : LeastUppersAreOne → (u t : ℕ) (x y : List ℤ) → IsAccepted k v ss bound u x → IsAccepted k v ss bound t y → (u ≡ t) × (x ≡ y)
  accepted_is_one one u t x y h g =
      let e : u ≡ t = first_is_one u t h.first g.first (accepting_isnt_open u x h.accepting) (accepting_isnt_open t y g.accepting) in
      (e, one (at k t) ss x y (subst (λ n. IsLeastUpper (at k n) ss x) e h.least) g.least)

  pub rejected_is_one : LowerPrecisionIsCase → GreatestLowersAreOne → IsCase k → 1 ≤ v → IsInside k.root ss → (u t : ℕ) (r q : RejectData) → IsRejected k v ss bound u r → IsRejected k v ss bound t q → (u ≡ t) × (r ≡ q)
  rejected_is_one lower one is positive inside u t r q h g =
      let e : u ≡ t = first_is_one u t h.first g.first (rejecting_isnt_open u r h.rejecting) (rejecting_isnt_open t q g.rejecting) in
      let is_at = lower k t is (le_trans positive g.first.between.0) g.first.between.1 in
      (e, one (at k t) ss r q is_at inside (subst (λ n. IsGreatestLower (at k n) ss r) e h.greatest) g.greatest)

-- ---- what is sought for a bound

-- none of the precisions from v on and below low decides
abbrev pub AreOpenBelow : CaseData → ℕ → Spans → Bound → ℕ → Type 0
AreOpenBelow k v ss bound low = (t : ℕ) → v ≤ t → t < low → IsOpenAt k ss bound t

-- what decides at a precision isn't missing there, and what is missing at a precision is at each lower one
pub precisions_agree : LowerPrecisionIsCase → RanksFit → NoneAcceptsBelow → NoneRejectsBelow → (k : CaseData) (bound : Bound) → IsCase k → AgreeAtPrecisions (sought_for bound) k
precisions_agree lower fit accepts rejects k bound is = record {
  above = λ ss u p h none. none _ h.accepting;
  below = λ ss u p e height h none. none_with_ranks (at k u) ss bound _ none h.rejecting;
  none_above = λ ss u v positive le most. accepts k ss bound u v le;
  none_below = λ ss u v positive le most none. none_at_any_height fit (at k u) ss bound (lower k u is positive (le_trans le most)) (rejects k ss bound u v le (λ r. none_with_ranks (at k v) ss bound r none));
}

module _ (k : CaseData) (v : ℕ) (ss : Spans) (bound : Bound) (lower : LowerPrecisionIsCase) (one : NotBothKinds) (is : IsCase k) (inside : IsInside k.root ss) (positive : 1 ≤ v) where
  pub first_of : (p : Pools) (found : Found) → IsDecidedOver (sought_for bound) k v ss p found → IsFirst k v ss bound found.u
  first_of p found h = record { between = h.between; before = λ t le lt. record { accepts = (h.before t le lt).0; rejects = (h.before t le lt).1 } }

  -- no accepting certificate exists where a rejecting one does
  pub rejected_of : (u : ℕ) (r : RejectData) → IsFirst k v ss bound u → IsGreatestBeyond (at k u) ss bound r → IsRejected k v ss bound u r
  rejected_of u r first h = record {
    first = first;
    none = λ x accepting. one (at k u) ss bound x r (lower k u is (le_trans positive first.between.0) first.between.1) inside accepting h.rejecting;
    rejecting = h.rejecting;
    greatest = h.greatest;
  }

  -- what was found is the right leaf
  pub leaf_decides : (p : Pools) (found : Found) → IsDecidedOver (sought_for bound) k v ss p found → Decides k v bound ss (leaf_in p found)
  leaf_decides p found h = by_side found.side refl h.decided
    where
      first : IsFirst k v ss bound found.u
      first = first_of p found h

      by_side : (side : Side) → found.side ≡ side → IsDecidedFrom (sought_for bound) (at k found.u) ss p side → Decides k v bound ss (leaf_in p found)
      by_side Above same d = rw same (record { first = first; accepting = d.accepting; least = d.least })
      by_side (Below rate) same d = rw same (rejected_of found.u _ first d)

  pub found_decides : (p : Pools) (found : Option Found) → IsFound (sought_for bound) k v ss p found → MatchOption found (IsOpen k v ss bound) (λ f. Decides k v bound ss (leaf_in p f))
  found_decides p (Some found) h = leaf_decides p found h
  found_decides p None h = λ u between. record { accepts = (h u between).0; rejects = (h u between).1 }

-- a verdict is right where its leaf is
pub verdict_decides : LowerPrecisionIsCase → HeightFits → (k : CaseData) (v : ℕ) (ss : Spans) (bound : Bound) → IsCase k → 1 ≤ v → (room : Room) (found : Option Found)
    → MatchOption found (IsOpen k v ss bound) (λ f. Decides k v bound ss (leaf_in room.lanes.pools f)) → IsDecided k v ss bound room (verdict_of found)
verdict_decides lower fits k v ss bound is positive room (Some found) h = by_side found.side refl
  where
    by_side : (side : Side) → found.side ≡ side → IsDecided k v ss bound room (verdict_of (Some found))
    by_side Above same = rw same (let d : IsAccepted k v ss bound found.u (lane room.lanes.pools.values) = rw same at h in d)
    by_side (Below rate) same = rw same (let d : IsRejected k v ss bound found.u (reject_in room.lanes.pools rate.e rate.k) = rw same at h in (d, height_fits lower fits k v ss bound is positive found.u _ d))
verdict_decides lower fits k v ss bound is positive room None h = h
