-- Certificates from both sides, of rectangles that share a valuation.
use Rattle.std.proofs.Common.{◌≡◌, ℕ, negsuc, pow_mono, if◌then◌else◌, ◌^◌, ◌≤◌, Bool, true, false, true≢false, List, ℤ, pos, ◌≤ℤ◌, ◌<ℤ◌, refl, sym, ◌∙◌, subst, arith}
use Rattle.std.proofs.lemmas.Int.{by_lt_z}
use Rattle.lift_poly.specs.Polynomial.{Valuation}
use Rattle.lift_poly.proofs.Ring.{linear, mul-comm, mul-lt}
use Rattle.lift_grid.specs.Rectangle.{Spans, Inside}
use Rattle.lift_grid.specs.Tree.{RejectData}
use Rattle.lift_cert.specs.Laws.{NotBothKindsAtAValuation}
use Rattle.lift_cert.specs.declared.bound.Bound.{Bound}
use Rattle.corner_lift.specs.Case.{CaseData, IsCase, IsInside, number}
use Rattle.corner_lift.specs.Certificate.{IsUpper, IsLower}
use Rattle.corner_lift.specs.Laws.{NumbersAreInRange}
use Rattle.lower_cert.specs.AnyRanks.{RanksFit, UnboundedReject, IsUnboundedLower}
use Rattle.property_text.specs.declared.op.Op.{Op}
use Rattle.lift_dual.specs.Laws.{LowerAllIsBelowUpperOne, SidesAreApart}
use Rattle.lift_dual.specs.Property.{is_upper, IsHighSide}
use Rattle.region_tree.specs.Decided.{lane, reject_in}
use Rattle.region_tree.specs.Laws.{MeetingRectanglesShare}
use Rattle.region_tree.specs.Sides.{AreApart}
use Rattle.region_tree.specs.declared.pools.Pools.{Pools}
use Rattle.property_tree.specs.Decided.{lower_all_in, lower_in, sought_of, upper_in}
use Rattle.property_tree.specs.Leaves.{PropertyLeaf, IsCertificate, Settles, bounds_above}
use Rattle.property_tree.proofs.Single.{certificate_of}

positive : (w : ℕ) → pos 0 <ℤ pos (2 ^ w)
positive w = let power : 2 ^ 0 ≤ 2 ^ w = pow_mono {i = 0} {j = w} (omega arith) in omega (arith, linear, power)

-- ---- certificates from both sides, of rectangles that share a valuation

module _ (one_kind : NotBothKindsAtAValuation) (below_one : LowerAllIsBelowUpperOne) (apart : SidesAreApart) (numbers : NumbersAreInRange) (k : CaseData) (is : IsCase k) (op : Op) (bound : Bound) (spans others : Spans) (inside : IsInside k.root spans) (there : IsInside k.root others) (v : Valuation) (here : Inside k.d spans v) (too : Inside k.d others v) where
  -- no lower vector of the one is above an upper one of the other: else the number of the upper one were a bound between them
  lies_below : (x : List ℤ) (r : RejectData) → IsUpper k spans x → IsLower k others r → number r.numbers k.model.init ≤ℤ number x k.model.init
  lies_below x r upper lower = by_lt_z (number x k.model.init) (number r.numbers k.model.init)
      (λ less. absurd (between (number x k.model.init) refl (numbers k x k.model.init upper.numbers).0 less))
      (λ le. le)
    where
      between : (n : ℤ) → number x k.model.init ≡ n → pos 0 ≤ℤ n → n <ℤ number r.numbers k.model.init → ⊥
      between (pos n) same least less =
          let middle : Bound = record { num = n; den = 2 ^ k.w } in
          let more = mul-lt (pos (2 ^ k.w)) (pos n) (number r.numbers k.model.init) (positive k.w) less in
          one_kind k spans others middle x r v is inside there here too
          (record { upper = upper; limit = rw same (omega (arith, linear)) })
          (record { holds = lower; limit = omega (arith, linear, more, mul-comm (pos (2 ^ k.w)) (pos n), mul-comm (pos (2 ^ k.w)) (number r.numbers k.model.init)) })
      between (negsuc n) same least less = omega (arith, linear, least)

  not_both : (a b : PropertyLeaf) → bounds_above a ≡ true → bounds_above b ≡ false → IsCertificate k spans a → IsCertificate k others b → Settles k op bound a → Settles k op bound b → ⊥
  not_both (PropertyLeaf.upper x) (PropertyLeaf.lower r) above below a b s t =
      let less = apart op bound k.w (number x k.model.init) (number r.numbers k.model.init) s.side t.side in
      let le = lies_below x r a b in
      omega (arith, linear, less, le)
  not_both (PropertyLeaf.upper x) (PropertyLeaf.lower_all r) above below a b s t = true≢false (s.scheduler ∙ sym t.scheduler)
  not_both (PropertyLeaf.upper_one x picks) (PropertyLeaf.lower r) above below a b s t = true≢false (t.scheduler ∙ sym s.scheduler)
  not_both (PropertyLeaf.upper_one x picks) (PropertyLeaf.lower_all r) above below a b s t =
      let less = apart op bound k.w (number x k.model.init) (number r.numbers k.model.init) s.side t.side in
      let le = below_one k spans others x picks r v is inside there here too a b k.model.init in
      omega (arith, linear, less, le)
  not_both (PropertyLeaf.upper x) (PropertyLeaf.upper y) above below a b s t = true≢false below
  not_both (PropertyLeaf.upper x) (PropertyLeaf.upper_one y picks) above below a b s t = true≢false below
  not_both (PropertyLeaf.upper_one x picks) (PropertyLeaf.upper y) above below a b s t = true≢false below
  not_both (PropertyLeaf.upper_one x picks) (PropertyLeaf.upper_one y others) above below a b s t = true≢false below
  not_both (PropertyLeaf.lower r) b above below certificate other s t = true≢false (sym above)
  not_both (PropertyLeaf.lower_all r) b above below certificate other s t = true≢false (sym above)

  -- nor is a lower vector whose ranks have no bound on its side
  not_both_any : RanksFit → (a : PropertyLeaf) → bounds_above a ≡ true → IsCertificate k spans a → Settles k op bound a → is_upper op ≡ true → (u : UnboundedReject) → IsUnboundedLower k others u → IsHighSide op bound k.w (number u.numbers k.model.init) → ⊥
  not_both_any fit (PropertyLeaf.upper x) above a s most u holds side =
      let few = fit k others u is holds in
      let le : number u.numbers k.model.init ≤ℤ number x k.model.init = subst (λ y. number y k.model.init ≤ℤ number x k.model.init) few.1.0 (lies_below x few.0 a few.1.3) in
      let less = apart op bound k.w (number x k.model.init) (number u.numbers k.model.init) s.side side in
      omega (arith, linear, less, le)
  not_both_any fit (PropertyLeaf.upper_one x picks) above a s most u holds side = true≢false (sym most ∙ sym s.scheduler)
  not_both_any fit (PropertyLeaf.lower r) above a s most u holds side = true≢false (sym above)
  not_both_any fit (PropertyLeaf.lower_all r) above a s most u holds side = true≢false (sym above)

-- ---- the sides of what stands in the lanes

pub upper_bounds : (op : Op) (p : Pools) → bounds_above (upper_in op p) ≡ true
upper_bounds op p = of_kind (is_upper op)
  where
    of_kind : (b : Bool) → bounds_above (if b then PropertyLeaf.upper (lane p.values) else PropertyLeaf.upper_one (lane p.values) (lane p.picks)) ≡ true
    of_kind true = refl
    of_kind false = refl

pub lower_bounds : (op : Op) (p : Pools) (e h : ℕ) → bounds_above (lower_in op p e h) ≡ false
lower_bounds op p e h = of_kind (is_upper op)
  where
    of_kind : (b : Bool) → bounds_above (if b then PropertyLeaf.lower (reject_in p e h) else PropertyLeaf.lower_all (lower_all_in p e h)) ≡ false
    of_kind true = refl
    of_kind false = refl

-- where two rectangles share a valuation, not one is decided from above and the other from below
pub sides_agree : NotBothKindsAtAValuation → LowerAllIsBelowUpperOne → SidesAreApart → NumbersAreInRange → MeetingRectanglesShare → RanksFit → (k : CaseData) → IsCase k → (op : Op) (bound : Bound)
    → AreApart (sought_of op bound) k
sides_agree one_kind below_one apart numbers share fit k is op bound = record {
  above = λ spans others p inside there meet decides.
      let leaf = upper_in op p in
      let v = share k spans others is inside there meet in
      let certificate = certificate_of k spans leaf decides.0 in
      record {
        none = λ other below holds settles. not_both one_kind below_one apart numbers k is op bound spans others inside there v.0 v.1.0 v.1.1 leaf other (upper_bounds op p) below certificate holds decides.1 settles;
        none_higher = λ most u holds side. not_both_any one_kind below_one apart numbers k is op bound spans others inside there v.0 v.1.0 v.1.1 fit leaf (upper_bounds op p) certificate decides.1 most u holds side;
      };
  below = λ spans others p e height inside there meet decides other above holds settles.
      let leaf = lower_in op p e height in
      let v = share k spans others is inside there meet in
      not_both one_kind below_one apart numbers k is op bound others spans there inside v.0 v.1.1 v.1.0 other leaf above (lower_bounds op p e height) holds (certificate_of k spans leaf decides.0) settles decides.1;
}
