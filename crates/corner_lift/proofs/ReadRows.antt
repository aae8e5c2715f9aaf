-- Rows as the code has them before they are weighed: what a row of two entries sums to, and what a row's targets say of it.
use Rattle.std.proofs.Common.{◌≡◌, ℕ, ◌+◌, ◌*◌, ◌^◌, ◌<◌, ◌≤◌, ◌-◌, List, [], ◌∷◌, length, get_or, slice_range, ℤ, pos, ◌+ℤ◌, ◌*ℤ◌, neg_ℤ, ◌≤ℤ◌, ◌<ℤ◌, unsigned_abs, All, ◌-ℤ◌, IsTrue, true, SFits, FitsSigned, w64, to_z, of_z, to_z-of_z, refl, sym, ap, ap₂, subst, ◌∙◌, arith}
use Rattle.std.specs.Prelude.{◌↔◌, int_le}
use Rattle.std.proofs.lemmas.Int.{ints, fits_signed_from_abs}
use Rattle.std.proofs.Math.Pow.{pow_mono}
use Rattle.lift_poly.proofs.Ring.{linear, mul-comm, mul-neg, test_from_le, le_from_test}
use Rattle.lift_grid.specs.Rectangle.{Spans}
use Rattle.lift_model.specs.declared.layout.RowPlace.{RowPlace}
use Rattle.lift_model.specs.Model.{support, row_at}
use Rattle.lift_model.specs.Links.{HasChoice}
use Rattle.corner_lift.specs.Corner.{parameter_count, corner_sum}
use Rattle.corner_lift.specs.Certificate.{AreNumbers}
use Rattle.corner_lift.specs.Case.{CaseData, IsInside, IsGreatest, IsLeast, number, row_value, row_whole, corner_count}
use Rattle.corner_lift.specs.Laws.{HasRow, ParametersAreTheRoots, SumsAreAtMost, SumsAreAtLeast}
use Rattle.corner_lift.specs.Dot.{dot, total, corner_part, only_at, but_at, CanSum, FitsLane}
use Rattle.corner_lift.specs.Table.{loop_weight}
use Rattle.corner_lift.specs.Pairs.{HasPair, pair_sum, pair_whole, ArePairs, ArePairsAtMost, IsLeastPair, IsGreatestPair}
use Rattle.corner_lift.specs.ReadRow.{IsReadRow}
use Rattle.corner_lift.proofs.Rows.{number_range}
use Rattle.corner_lift.proofs.OtherStates.{one, dot_parts, total_parts, others_least, ones_sum}
use Rattle.corner_lift.proofs.PairRows.{two_of, corner_of_block, corner_inside, corner_has}

module _ (k : CaseData) (spans : Spans) (weights : List ℤ) (s a : ℕ) (place : RowPlace) (targets : List ℕ) (row : IsReadRow k spans weights s a place targets) where
  -- ---- a row of two entries

  module _ (two : length targets ≡ 2) (block : List ℤ) (is : block ≡ slice_range weights place.weights (place.weights + place.count * place.corners)) where
    count : place.count ≡ 2
    count = row.count ∙ two

    corner_is : (c : ℕ) → c < place.corners → corner_part weights place c ≡ number block (2 * c) ∷ number block (2 * c + 1) ∷ []
    corner_is = corner_of_block weights place count row.ends block is

    inside : (c : ℕ) → HasPair block c → c < place.corners
    inside = corner_inside weights place count row.ends block is

    pub has_pair : (c : ℕ) → c < place.corners → HasPair block c
    has_pair = corner_has weights place count row.ends block is

    pub pair_is : (c : ℕ) → c < place.corners → (x : ℕ → ℤ) → pair_sum block c (x (get_or targets 0 0)) (x (get_or targets 1 0)) ≡ corner_sum k.d spans (row_at k.model s a) c x
    pair_is c lt x =
        let same : dot x (corner_part weights place c) targets ≡ dot x (number block (2 * c) ∷ number block (2 * c + 1) ∷ []) (get_or targets 0 0 ∷ get_or targets 1 0 ∷ []) = ap₂ (dot x) (corner_is c lt) (two_of targets two) in
        omega (arith, linear, same, row.sums c lt x)

    corner_whole : (c : ℕ) → c < place.corners → number block (2 * c) +ℤ number block (2 * c + 1) ≡ row_whole k s a
    corner_whole c lt = let all = ap total (corner_is c lt) in omega (arith, linear, all, row.totals c lt)

    pub pair_whole_is : pair_whole block ≡ row_whole k s a
    pair_whole_is = corner_whole 0 (omega (arith, row.some))

    pub pairs : ArePairs k.w block (pair_whole block)
    pairs = record {
      corners = record {
        some = has_pair 0 (omega (arith, row.some));
        least = λ c has.
            let all : All (λ weight. pos 0 ≤ℤ weight) (number block (2 * c) ∷ number block (2 * c + 1) ∷ []) = subst (All (λ weight. pos 0 ≤ℤ weight)) (corner_is c (inside c has)) (row.least c (inside c has)) in
            (all 0 (pos 0) (omega arith), all 1 (pos 0) (omega arith));
        sums = λ c has. corner_whole c (inside c has) ∙ sym pair_whole_is;
      };
      positive = rw pair_whole_is row.whole.positive;
      room = rw pair_whole_is (row.whole.room (2 ^ k.w) (omega arith));
    }

    -- the least and the greatest sum of the pairs are those of the row
    pub least_of_row : (x : ℕ → ℤ) (z : ℤ) → IsLeastPair block (x (get_or targets 0 0)) (x (get_or targets 1 0)) z → IsLeast (λ c. corner_sum k.d spans (row_at k.model s a) c x) (corner_count k s a) z
    least_of_row x z h = record {
      least = λ c lt. let there : c < place.corners = omega (arith, lt, row.corners) in omega (arith, linear, h.least c (has_pair c there), pair_is c there x);
      attained = let there = inside h.attained.0 h.attained.1.0 in (h.attained.0, (omega (arith, there, row.corners), h.attained.1.1 ∙ pair_is h.attained.0 there x));
    }

    pub greatest_of_row : (x : ℕ → ℤ) (z : ℤ) → IsGreatestPair block (x (get_or targets 0 0)) (x (get_or targets 1 0)) z → IsGreatest (λ c. corner_sum k.d spans (row_at k.model s a) c x) (corner_count k s a) z
    greatest_of_row x z h = record {
      most = λ c lt. let there : c < place.corners = omega (arith, lt, row.corners) in omega (arith, linear, h.most c (has_pair c there), pair_is c there x);
      attained = let there = inside h.attained.0 h.attained.1.0 in (h.attained.0, (omega (arith, there, row.corners), h.attained.1.1 ∙ pair_is h.attained.0 there x));
    }

    -- the tests at the pairs are those of the row
    pub most_at_pairs : (x : List ℤ) (n : ℤ) → ArePairsAtMost block (number x (get_or targets 0 0)) (number x (get_or targets 1 0)) (pair_whole block *ℤ n)
        ↔ ((c : ℕ) → c < corner_count k s a → row_value k spans s a x c ≤ℤ (n *ℤ row_whole k s a))
    most_at_pairs x n =
        let whole : pair_whole block *ℤ n ≡ n *ℤ row_whole k s a = ap (λ z. z *ℤ n) pair_whole_is ∙ mul-comm (row_whole k s a) n in (
          λ all c lt. let there : c < place.corners = omega (arith, lt, row.corners) in omega (arith, linear, all c (has_pair c there), pair_is c there (number x), whole),
          λ all c has. let there = inside c has in omega (arith, linear, all c (omega (arith, there, row.corners)), pair_is c there (number x), whole),
        )

    -- the other sign
    pair_neg : (c : ℕ) → (first second : ℤ) → pair_sum block c (neg_ℤ first) (neg_ℤ second) ≡ neg_ℤ (pair_sum block c first second)
    pair_neg c first second = omega (arith, linear, mul-neg (number block (2 * c)) first, mul-neg (number block (2 * c + 1)) second)

    pub least_at_pairs : (x : List ℤ) (n : ℤ) → ArePairsAtMost block (neg_ℤ (number x (get_or targets 0 0))) (neg_ℤ (number x (get_or targets 1 0))) (pair_whole block *ℤ neg_ℤ n)
        ↔ ((c : ℕ) → c < corner_count k s a → (n *ℤ row_whole k s a) ≤ℤ row_value k spans s a x c)
    least_at_pairs x n =
        let first = number x (get_or targets 0 0) in
        let second = number x (get_or targets 1 0) in
        let whole : pair_whole block *ℤ neg_ℤ n ≡ neg_ℤ (n *ℤ row_whole k s a) = mul-neg (pair_whole block) n ∙ ap neg_ℤ (ap (λ z. z *ℤ n) pair_whole_is ∙ mul-comm (row_whole k s a) n) in (
          λ all c lt. let there : c < place.corners = omega (arith, lt, row.corners) in omega (arith, linear, all c (has_pair c there), pair_neg c first second, pair_is c there (number x), whole),
          λ all c has. let there = inside c has in omega (arith, linear, all c (omega (arith, there, row.corners)), pair_neg c first second, pair_is c there (number x), whole),
        )

  -- ---- tests of the greatest and the least sum

  pub most_tested : (x : List ℤ) (n z a' b : ℤ) → IsGreatest (λ c. dot (number x) (corner_part weights place c) targets) place.corners z → a' ≡ z → b ≡ row_whole k s a *ℤ n
      → IsTrue (int_le a' b) ↔ ((c : ℕ) → c < corner_count k s a → row_value k spans s a x c ≤ℤ (n *ℤ row_whole k s a))
  most_tested x n z a' b g e f = (
    λ test c lt. let le = le_from_test a' b test in let there : c < place.corners = omega (arith, lt, row.corners) in omega (arith, linear, le, e, f, g.most c there, row.sums c there (number x), mul-comm (row_whole k s a) n),
    λ all. test_from_le a' b (let at = all g.attained.0 (let lt = g.attained.1.0 in omega (arith, lt, row.corners)) in omega (arith, linear, at, e, f, g.attained.1.1, row.sums g.attained.0 g.attained.1.0 (number x), mul-comm (row_whole k s a) n)),
  )

  pub least_tested : (x : List ℤ) (n z a' b : ℤ) → IsLeast (λ c. dot (number x) (corner_part weights place c) targets) place.corners z → a' ≡ row_whole k s a *ℤ n → b ≡ z
      → IsTrue (int_le a' b) ↔ ((c : ℕ) → c < corner_count k s a → (n *ℤ row_whole k s a) ≤ℤ row_value k spans s a x c)
  least_tested x n z a' b g e f = (
    λ test c lt. let le = le_from_test a' b test in let there : c < place.corners = omega (arith, lt, row.corners) in omega (arith, linear, le, e, f, g.least c there, row.sums c there (number x), mul-comm (row_whole k s a) n),
    λ all. test_from_le a' b (let at = all g.attained.0 (let lt = g.attained.1.0 in omega (arith, lt, row.corners)) in omega (arith, linear, at, e, f, g.attained.1.1, row.sums g.attained.0 g.attained.1.0 (number x), mul-comm (row_whole k s a) n)),
  )

  -- ---- what the targets say

  module _ (parameters : ParametersAreTheRoots) (in_root : IsInside k.root spans) (choice : HasChoice k.model s a) where
    there : HasRow k s a
    there = record { state = choice.state; choice = choice.choice }

    corner_there : (c : ℕ) → c < corner_count k s a → c < 2 ^ parameter_count spans (support (row_at k.model s a))
    corner_there c lt =
        let same : 2 ^ parameter_count spans (support (row_at k.model s a)) ≡ corner_count k s a = ap (λ n. 2 ^ n) (parameters k spans (row_at k.model s a) in_root.within) in
        omega (arith, lt, same)

    pub most_by_targets : SumsAreAtMost → (x : List ℤ) (n : ℤ) → All (λ t. number x t ≤ℤ n) targets → (c : ℕ) → c < corner_count k s a → row_value k spans s a x c ≤ℤ (n *ℤ row_whole k s a)
    most_by_targets most x n all c lt = most k spans s a (number x) n row.case in_root there (subst (All (λ t. number x t ≤ℤ n)) row.leads all) c (corner_there c lt)

    pub least_by_targets : SumsAreAtLeast → (x : List ℤ) (n : ℤ) → All (λ t. n ≤ℤ number x t) targets → (c : ℕ) → c < corner_count k s a → (n *ℤ row_whole k s a) ≤ℤ row_value k spans s a x c
    least_by_targets least x n all c lt = least k spans s a (number x) n row.case in_root there (subst (All (λ t. n ≤ℤ number x t)) row.leads all) c (corner_there c lt)

-- ---- numbers

pub number_size : (k : CaseData) (x : List ℤ) → AreNumbers k x → (s : ℕ) → unsigned_abs (number x s) ≤ 2 ^ k.w
number_size k x numbers s = let range = number_range k x numbers s in omega (arith, ints, range.0, range.1)

pub granted : {Q : Type 0} → Q → IsTrue true ↔ Q
granted q = (λ is. q, λ all. refl)

pub neg_size : (n : ℤ) (most : ℕ) → unsigned_abs n ≤ most → unsigned_abs (neg_ℤ n) ≤ most
neg_size n most le = omega (arith, ints, le)

pub in_range : (n : ℤ) (most : ℕ) → pos 0 ≤ℤ n → n ≤ℤ pos most → unsigned_abs n ≤ most
in_range n most low high = omega (arith, ints, low, high)

-- a number's other sign in the code
pub neg_code : (n : ℤ) (w : ℕ) → w ≤ 40 → SFits w64 n → unsigned_abs n ≤ 2 ^ w → to_z w64 (of_z w64 (pos 0 -ℤ to_z w64 (of_z w64 n))) ≡ neg_ℤ n
neg_code n w le fits size =
    let small : 2 ^ w ≤ 2 ^ 40 = pow_mono le in
    let neg_fits : FitsSigned w64 (neg_ℤ n) = fits_signed_from_abs w64 (neg_ℤ n) (omega (arith, neg_size n (2 ^ w) size, small)) in
    let minus : pos 0 -ℤ n ≡ neg_ℤ n = omega (arith, linear) in
    ap (λ z. to_z w64 (of_z w64 (pos 0 -ℤ z))) (to_z-of_z fits) ∙ ap (λ z. to_z w64 (of_z w64 z)) minus ∙ to_z-of_z neg_fits

-- ---- a row's weights into other states

module _ (k : CaseData) (spans : Spans) (weights : List ℤ) (s a : ℕ) (place : RowPlace) (targets : List ℕ) (row : IsReadRow k spans weights s a place targets) (c : ℕ) (lt : c < corner_count k s a) (x : List ℤ) (numbers : AreNumbers k x) (small : row_whole k s a <ℤ pos (2 ^ (63 - k.w))) where
  is_corner : c < place.corners
  is_corner = omega (arith, lt, row.corners)

  abbrev part : List ℤ
  part = corner_part weights place c

  pub others_can : CanSum (number x) part targets
  others_can = (row.can_compare x numbers).sums c is_corner

  pub others_lane : FitsLane (number x) part targets
  others_lane = row.lane x numbers small c is_corner

  pub others_sum_is : dot (but_at s (number x)) part targets ≡ row_value k spans s a x c -ℤ (number x s *ℤ loop_weight k spans s a c)
  others_sum_is =
      let own : number x s *ℤ dot (only_at s) part targets ≡ number x s *ℤ loop_weight k spans s a c = ap (λ n. number x s *ℤ n) (row.sums c is_corner (only_at s)) in
      omega (arith, linear, dot_parts s (number x) part targets, row.sums c is_corner (number x), own)

  pub others_whole_is : dot (but_at s one) part targets ≡ row_whole k s a -ℤ loop_weight k spans s a c
  others_whole_is = omega (arith, linear, total_parts s part targets others_can.sizes, row.totals c is_corner, row.sums c is_corner (only_at s))

  pub others_are_least : (pos 0 ≤ℤ dot (but_at s (number x)) part targets) × (pos 0 ≤ℤ dot (but_at s one) part targets)
  others_are_least = (others_least s (number x) part targets others_can, others_least s one part targets (ones_sum (number x) part targets others_can others_lane))
