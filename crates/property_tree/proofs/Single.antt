-- A rectangle is decided by at most one leaf, and so there is at most one right tree.
use Rattle.std.proofs.Common.{◌≡◌, ℕ, zero, suc, ◌+◌, ◌<◌, ◌≤◌, ◌⊎◌, inl, inr, ⊎_elim, Bool, true, false, true≢false, List, [], ◌∷◌, length, map, All, ℤ, pos, ◌<ℤ◌, refl, sym, ap, ◌∙◌, subst, arith, ext_get_or, le_trans}
use Rattle.std.proofs.lemmas.List.Elements.{All-head, All-tail}
use Rattle.lift_poly.specs.Polynomial.{Valuation}
use Rattle.lift_poly.proofs.Ring.{linear, mul-comm, mul-le}
use Rattle.lift_grid.specs.Rectangle.{Spans, Inside, AreSpans}
use Rattle.lift_grid.specs.Tree.{RejectData, lower_half, upper_half}
use Rattle.lift_model.specs.Model.{is_goal}
use Rattle.corner_lift.specs.Case.{CaseData, IsCase, IsInside, at, number}
use Rattle.corner_lift.specs.Certificate.{AtMost, mark, unmarked}
use Rattle.corner_lift.specs.Laws.{LowerPrecisionIsCase}
use Rattle.lift_cert.specs.declared.bound.Bound.{Bound}
use Rattle.lift_cert.specs.Laws.{LowerIsBelowUpper}
use Rattle.lift_walk.specs.Bases.{LeavesAreOne as AreOne}
use Rattle.lift_walk.specs.Halved.{Halved, IsRightBy}
use Rattle.lift_walk.specs.Laws.{HalvesAreDeeper, SplitAxesAreOne}
use Rattle.lift_walk.specs.Sides.{IsAtDepth}
use Rattle.property_text.specs.declared.op.Op.{Op}
use Rattle.lift_dual.specs.Avoiding.{IsGreatestLowerAll, IsRateOfAll, StagesAreLeast}
use Rattle.lift_dual.specs.Laws.{LowerAllIsBelowUpperOne, SidesAreApart}
use Rattle.lift_dual.specs.Choosing.{IsLowestSatisfied, IsLowestChoice, AreLowestChoices, IsLeastUpperOne}
use Rattle.region_tree.specs.Laws.{LeastUppersAreOne, GreatestLowersAreOne}
use Rattle.property_tree.specs.Laws.{LeavesAreOne, RangeLeavesAreOne}
use Rattle.property_tree.specs.Leaves.{PropertyLeaf, RangeLeaf, IsCertificate, IsBest, DecidesFor, DecidesOver, IsOpenFor, IsOpenOver}

numbers_same : (x y : List ℤ) → length x ≡ length y → AtMost x y → AtMost y x → x ≡ y
numbers_same x y size a b = ext_get_or (pos 0) x y size (λ i lt. omega (arith, linear, a i, b i))

pub true_or_false : (b : Bool) → (b ≡ true) ⊎ (b ≡ false)
true_or_false true = inl refl
true_or_false false = inr refl

in_order : (a b : ℕ) → (a < b) ⊎ ((a ≡ b) ⊎ (b < a))
in_order a b = grind arith

less_or_not : (a b : ℕ) → (a < b) ⊎ (b ≤ a)
less_or_not a b = grind arith

-- ---- upper vectors for one scheduler

module _ (k : CaseData) (spans : Spans) where
  lowest_is_one : (x : List ℤ) (s p q : ℕ) → IsLowestSatisfied k spans x s p → IsLowestSatisfied k spans x s q → p ≡ q
  lowest_is_one x s p q h g = ⊎_elim
      (λ (less : p < q). absurd (g.least p less h.holds))
      (λ (rest : (p ≡ q) ⊎ (q < p)). ⊎_elim (λ (same : p ≡ q). same) (λ (more : q < p). absurd (h.least q more g.holds)) rest)
      (in_order p q)

  choice_is_one : (x : List ℤ) (s p q : ℕ) → IsLowestChoice k spans x s p → IsLowestChoice k spans x s q → p ≡ q
  choice_is_one x s p q h g = ⊎_elim
      (λ (goal : is_goal k.model s ≡ true). h.none goal ∙ sym (g.none goal))
      (λ (other : is_goal k.model s ≡ false). lowest_is_one x s p q (h.chosen other) (g.chosen other))
      (true_or_false (is_goal k.model s))

  choices_are_one : (x : List ℤ) (a b : List ℕ) → AreLowestChoices k spans x a → AreLowestChoices k spans x b → a ≡ b
  choices_are_one x a b h g = ext_get_or unmarked a b (h.size ∙ sym g.size)
      (λ s lt. let state : s < length k.model.states = omega (arith, lt, h.size) in choice_is_one x s (mark a s) (mark b s) (h.each s state) (g.each s state))

  upper_one_is_one : (x y : List ℤ) (a b : List ℕ) → IsLeastUpperOne k spans x a → IsLeastUpperOne k spans y b → PropertyLeaf.upper_one x a ≡ PropertyLeaf.upper_one y b
  upper_one_is_one x y a b h g =
      let numbers : x ≡ y = numbers_same x y (h.upper.numbers.size ∙ sym g.upper.numbers.size) (h.least y b g.upper) (g.least x a h.upper) in
      let picks : a ≡ b = choices_are_one y a b (subst (λ n. AreLowestChoices k spans n a) numbers h.lowest) g.lowest in
      ap (λ (n : List ℤ). PropertyLeaf.upper_one n a) numbers ∙ ap (λ (n : List ℕ). PropertyLeaf.upper_one y n) picks

-- ---- lower vectors for every scheduler

mark_small : (marks : List ℕ) → All (λ n. n ≤ unmarked) marks → (s : ℕ) → mark marks s ≤ unmarked
mark_small [] h s = omega arith
mark_small (a ∷ marks) h zero = All-head (λ n. n ≤ unmarked) a marks h
mark_small (a ∷ marks) h (suc s) = mark_small marks (All-tail (λ n. n ≤ unmarked) a marks h) s

same_data : (r q : RejectData) → r.numbers ≡ q.numbers → r.picks ≡ q.picks → r.ranks ≡ q.ranks → r.e ≡ q.e → r.k ≡ q.k → r ≡ q
same_data r q a b c d f =
    let step1 : r ≡ record r { numbers = q.numbers } = ap (λ (n : List ℤ). let x : RejectData = record r { numbers = n } in x) a in
    let step2 : record r { numbers = q.numbers } ≡ record r { numbers = q.numbers; picks = q.picks } = ap (λ (n : List ℕ). let x : RejectData = record r { numbers = q.numbers; picks = n } in x) b in
    let step3 : record r { numbers = q.numbers; picks = q.picks } ≡ record r { numbers = q.numbers; picks = q.picks; ranks = q.ranks } = ap (λ (n : List ℕ). let x : RejectData = record r { numbers = q.numbers; picks = q.picks; ranks = n } in x) c in
    let step4 : record r { numbers = q.numbers; picks = q.picks; ranks = q.ranks } ≡ record q { k = r.k } = ap (λ (n : ℕ). let x : RejectData = record q { e = n; k = r.k } in x) d in
    let step5 : record q { k = r.k } ≡ q = ap (λ (n : ℕ). let x : RejectData = record q { k = n } in x) f in
    step1 ∙ step2 ∙ step3 ∙ step4 ∙ step5

module _ (stages : StagesAreLeast) (k : CaseData) (spans : Spans) (is : IsCase k) (within : IsInside k.root spans) where
  -- where the one has a rank, the other has none that is greater
  no_greater : (r q : RejectData) → IsGreatestLowerAll k spans r → IsGreatestLowerAll k spans q → (s : ℕ) → s < length k.model.states → mark r.ranks s < unmarked → mark q.ranks s ≤ mark r.ranks s
  no_greater r q h g s lt ranked = stages k spans (mark q.ranks) r is within g.stages h.holds s lt ranked

  module _ (r q : RejectData) (h : IsGreatestLowerAll k spans r) (g : IsGreatestLowerAll k spans q) where
    rank_same : (s : ℕ) → s < length k.model.states → mark r.ranks s ≡ mark q.ranks s
    rank_same s lt = ⊎_elim
        (λ (ranked : mark r.ranks s < unmarked).
        let first = no_greater r q h g s lt ranked in
        let second = no_greater q r g h s lt (omega (arith, first, ranked)) in
        omega (arith, first, second))
        (λ (free : unmarked ≤ mark r.ranks s). ⊎_elim
        (λ (ranked : mark q.ranks s < unmarked). absurd (let second = no_greater q r g h s lt ranked in omega (arith, second, ranked, free)))
        (λ (other : unmarked ≤ mark q.ranks s). let small = mark_small r.ranks h.holds.marks s in let narrow = mark_small q.ranks g.holds.marks s in omega (arith, free, other, small, narrow))
        (less_or_not (mark q.ranks s) unmarked))
        (less_or_not (mark r.ranks s) unmarked)

    ranks_one : r.ranks ≡ q.ranks
    ranks_one = ext_get_or unmarked r.ranks q.ranks (h.holds.sizes.1 ∙ sym g.holds.sizes.1) (λ s lt. rank_same s (omega (arith, lt, h.holds.sizes.1)))

    numbers_one : r.numbers ≡ q.numbers
    numbers_one = numbers_same r.numbers q.numbers (h.holds.numbers.size ∙ sym g.holds.numbers.size) (g.greatest r h.holds) (h.greatest q g.holds)

    rate_one : r.e ≡ q.e
    rate_one =
        let first = g.has_least.least_rate r.e (subst (λ (ranks : List ℕ). IsRateOfAll k spans (mark ranks) r.e) ranks_one h.has_least.rate.1) in
        let second = h.has_least.least_rate q.e (subst (λ (ranks : List ℕ). IsRateOfAll k spans (mark ranks) q.e) (sym ranks_one) g.has_least.rate.1) in
        omega (arith, first, second)

    height_one : r.k ≡ q.k
    height_one =
        let first = g.has_least.least_height r.k h.has_least.height.0 (subst (λ (ranks : List ℕ). (s : ℕ) → mark ranks s < unmarked → mark ranks s ≤ r.k) ranks_one h.has_least.height.2) in
        let second = h.has_least.least_height q.k g.has_least.height.0 (subst (λ (ranks : List ℕ). (s : ℕ) → mark ranks s < unmarked → mark ranks s ≤ q.k) (sym ranks_one) g.has_least.height.2) in
        omega (arith, first, second)

    lower_all_is_one : r ≡ q
    lower_all_is_one = same_data r q numbers_one (h.holds.sizes.0 ∙ sym g.holds.sizes.0) ranks_one rate_one height_one

-- ---- from above and from below

-- the valuation at the low ends
abbrev lowest : ℤ → Spans → Valuation
lowest d spans = map (λ s. (s.0, d)) spans

lowest_inside : (d : ℤ) (spans : Spans) → pos 0 <ℤ d → AreSpans spans → Inside d spans (lowest d spans)
lowest_inside d [] h are = tt
lowest_inside d (s ∷ spans) h are =
    let rising = mul-le d s.0 s.1 (omega (arith, linear)) (omega (arith, linear, are.0.rising)) in
    (h, omega (arith, linear), omega (arith, linear, rising, mul-comm d s.0, mul-comm d s.1), lowest_inside d spans h are.1)

-- ---- leaves

module _ (uppers : LeastUppersAreOne) (lowers : GreatestLowersAreOne) (below : LowerIsBelowUpper) (below_one : LowerAllIsBelowUpperOne) (stages : StagesAreLeast) (apart : SidesAreApart) (k : CaseData) (op : Op) (bound : Bound) (spans : Spans) (is : IsCase k) (within : IsInside k.root spans) where
  -- certificates of different schedulers don't both tell
  other_scheduler : {P : Type 0} → true ≡ false → P
  other_scheduler e = absurd (true≢false e)

  not_both : (x : List ℤ) (r : RejectData) → DecidesFor k op bound spans (PropertyLeaf.upper x) → DecidesFor k op bound spans (PropertyLeaf.lower r) → ⊥
  not_both x r d e =
      let less = apart op bound k.w (number x k.model.init) (number r.numbers k.model.init) d.1.side e.1.side in
      let le = below k spans x r is within d.0.upper e.0.holds k.model.init in
      omega (arith, linear, less, le)

  not_both_one : (x : List ℤ) (picks : List ℕ) (r : RejectData) → DecidesFor k op bound spans (PropertyLeaf.upper_one x picks) → DecidesFor k op bound spans (PropertyLeaf.lower_all r) → ⊥
  not_both_one x picks r d e =
      let low = lowest_inside k.d spans is.asked.grid.positive within.rectangle in
      let less = apart op bound k.w (number x k.model.init) (number r.numbers k.model.init) d.1.side e.1.side in
      let le = below_one k spans spans x picks r (lowest k.d spans) is within within low low d.0.upper e.0.holds k.model.init in
      omega (arith, linear, less, le)

  pub leaf_is_one : (a b : PropertyLeaf) → DecidesFor k op bound spans a → DecidesFor k op bound spans b → a ≡ b
  leaf_is_one (PropertyLeaf.upper x) (PropertyLeaf.upper y) d e = ap (λ (n : List ℤ). PropertyLeaf.upper n) (uppers k spans x y d.0 e.0)
  leaf_is_one (PropertyLeaf.upper x) (PropertyLeaf.upper_one y b) d e = other_scheduler (d.1.scheduler ∙ sym e.1.scheduler)
  leaf_is_one (PropertyLeaf.upper x) (PropertyLeaf.lower q) d e = absurd (not_both x q d e)
  leaf_is_one (PropertyLeaf.upper x) (PropertyLeaf.lower_all q) d e = other_scheduler (d.1.scheduler ∙ sym e.1.scheduler)
  leaf_is_one (PropertyLeaf.upper_one x a) (PropertyLeaf.upper y) d e = other_scheduler (e.1.scheduler ∙ sym d.1.scheduler)
  leaf_is_one (PropertyLeaf.upper_one x a) (PropertyLeaf.upper_one y b) d e = upper_one_is_one k spans x y a b d.0 e.0
  leaf_is_one (PropertyLeaf.upper_one x a) (PropertyLeaf.lower q) d e = other_scheduler (e.1.scheduler ∙ sym d.1.scheduler)
  leaf_is_one (PropertyLeaf.upper_one x a) (PropertyLeaf.lower_all q) d e = absurd (not_both_one x a q d e)
  leaf_is_one (PropertyLeaf.lower r) (PropertyLeaf.upper y) d e = absurd (not_both y r e d)
  leaf_is_one (PropertyLeaf.lower r) (PropertyLeaf.upper_one y b) d e = other_scheduler (d.1.scheduler ∙ sym e.1.scheduler)
  leaf_is_one (PropertyLeaf.lower r) (PropertyLeaf.lower q) d e = ap (λ (n : RejectData). PropertyLeaf.lower n) (lowers k spans r q is within d.0 e.0)
  leaf_is_one (PropertyLeaf.lower r) (PropertyLeaf.lower_all q) d e = other_scheduler (d.1.scheduler ∙ sym e.1.scheduler)
  leaf_is_one (PropertyLeaf.lower_all r) (PropertyLeaf.upper y) d e = other_scheduler (e.1.scheduler ∙ sym d.1.scheduler)
  leaf_is_one (PropertyLeaf.lower_all r) (PropertyLeaf.upper_one y b) d e = absurd (not_both_one y b r e d)
  leaf_is_one (PropertyLeaf.lower_all r) (PropertyLeaf.lower q) d e = other_scheduler (e.1.scheduler ∙ sym d.1.scheduler)
  leaf_is_one (PropertyLeaf.lower_all r) (PropertyLeaf.lower_all q) d e = ap (λ (n : RejectData). PropertyLeaf.lower_all n) (lower_all_is_one stages k spans is within r q d.0 e.0)

pub leaves_are_one : LeastUppersAreOne → GreatestLowersAreOne → LowerIsBelowUpper → LowerAllIsBelowUpperOne → StagesAreLeast → SidesAreApart → LeavesAreOne
leaves_are_one uppers lowers below below_one stages apart k op bound spans a b is within d e = leaf_is_one uppers lowers below below_one stages apart k op bound spans is within a b d e

-- ---- trees

pub certificate_of : (k : CaseData) (spans : Spans) (leaf : PropertyLeaf) → IsBest k spans leaf → IsCertificate k spans leaf
certificate_of k spans (PropertyLeaf.upper x) best = best.upper
certificate_of k spans (PropertyLeaf.upper_one x picks) best = best.upper
certificate_of k spans (PropertyLeaf.lower r) best = best.holds
certificate_of k spans (PropertyLeaf.lower_all r) best = best.holds

pub decided_not_open : (k : CaseData) (op : Op) (bound : Bound) (spans : Spans) (leaf : PropertyLeaf) → DecidesFor k op bound spans leaf → IsOpenFor k op bound spans → ⊥
decided_not_open k op bound spans leaf d opens = opens.none leaf (certificate_of k spans leaf d.0) d.1

-- where a rectangle is decided by at most one leaf, and by none where it is open, there is at most one tree
module _ {Leaf : Type 0} (decides : Spans → Leaf → Type 0) (opens : Spans → Type 0) (halves : HalvesAreDeeper) (axes : SplitAxesAreOne) (k : CaseData) (is : IsCase k) (leaves : AreOne k decides opens) where
  pub tree_is_one : (depth : ℕ) (ss : Spans) (t u : Halved Leaf) → IsAtDepth k depth ss → IsRightBy decides opens k ss depth t → IsRightBy decides opens k ss depth u → t ≡ u
  tree_is_one depth ss (Halved.leaf a) (Halved.leaf b) at p q = ap (λ (l : Leaf). Halved.leaf l) (leaves.one ss a b at.inside p q)
  tree_is_one depth ss (Halved.leaf a) (Halved.split axis lower upper) at p q = absurd (leaves.none ss a at.inside p q.0)
  tree_is_one depth ss (Halved.leaf a) Halved.unknown at p q = absurd (leaves.none ss a at.inside p q.0)
  tree_is_one depth ss (Halved.split axis lower upper) (Halved.leaf b) at p q = absurd (leaves.none ss b at.inside q p.0)
  tree_is_one depth ss (Halved.split axis lower upper) (Halved.split other low up) at p q =
      let same : other ≡ axis = axes _ ss other axis q.1.axis_is p.1.axis_is in
      let deeper = halves k ss depth axis is at p.1.left p.1.axis_is in
      let lows : lower ≡ low = tree_is_one (depth + 1) (lower_half axis ss) lower low deeper.0 p.2 (subst (λ a. IsRightBy decides opens k (lower_half a ss) (depth + 1) low) same q.2) in
      let ups : upper ≡ up = tree_is_one (depth + 1) (upper_half axis ss) upper up deeper.1 p.3 (subst (λ a. IsRightBy decides opens k (upper_half a ss) (depth + 1) up) same q.3) in
      cc
  tree_is_one depth ss (Halved.split axis lower upper) Halved.unknown at p q = absurd (omega (arith, p.1.left, q.1))
  tree_is_one depth ss Halved.unknown (Halved.leaf b) at p q = absurd (leaves.none ss b at.inside q p.0)
  tree_is_one depth ss Halved.unknown (Halved.split axis lower upper) at p q = absurd (omega (arith, q.1.left, p.1))
  tree_is_one depth ss Halved.unknown Halved.unknown at p q = refl

pub each_one : LeavesAreOne → (k : CaseData) (op : Op) (bound : Bound) → IsCase k → AreOne k (DecidesFor k op bound) (IsOpenFor k op bound)
each_one leaves k op bound is = record { one = λ spans a b inside p q. leaves k op bound spans a b is inside p q; none = λ spans a inside. decided_not_open k op bound spans a }

-- ---- a range of precisions

range_open : (k : CaseData) (v : ℕ) (op : Op) (bound : Bound) (spans : Spans) (a : RangeLeaf) → DecidesOver k v op bound spans a → IsOpenOver k v op bound spans → ⊥
range_open k v op bound spans a p opens = decided_not_open (at k a.u) op bound spans a.certificate p.decides (opens a.u p.between)

pub range_leaf_is_one : LeavesAreOne → LowerPrecisionIsCase → RangeLeavesAreOne
range_leaf_is_one leaves lower k v op bound spans a b is positive inside p q = ⊎_elim
    (λ (less : a.u < b.u). absurd (decided_not_open (at k a.u) op bound spans a.certificate p.decides (q.before a.u p.between.0 less)))
    (λ (rest : (a.u ≡ b.u) ⊎ (b.u < a.u)). ⊎_elim
    (λ (same : a.u ≡ b.u).
    let moved : DecidesFor (at k b.u) op bound spans a.certificate = subst (λ n. DecidesFor (at k n) op bound spans a.certificate) same p.decides in
    let one : a.certificate ≡ b.certificate = leaves (at k b.u) op bound spans a.certificate b.certificate (lower k b.u is (le_trans positive q.between.0) q.between.1) inside moved q.decides in
    ap (λ (n : ℕ). let x : RangeLeaf = record a { u = n } in x) same ∙ ap (λ (c : PropertyLeaf). let x : RangeLeaf = record b { certificate = c } in x) one)
    (λ (more : b.u < a.u). absurd (decided_not_open (at k b.u) op bound spans b.certificate q.decides (p.before b.u q.between.0 more)))
    rest)
    (in_order a.u b.u)

pub each_range_one : RangeLeavesAreOne → (k : CaseData) (v : ℕ) (op : Op) (bound : Bound) → IsCase k → 1 ≤ v → AreOne k (DecidesOver k v op bound) (IsOpenOver k v op bound)
each_range_one leaves k v op bound is positive = record { one = λ spans a b inside p q. leaves k v op bound spans a b is positive inside p q; none = λ spans a inside. range_open k v op bound spans a }
