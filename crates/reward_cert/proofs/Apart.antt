-- Certificates from below beside those from above, at a valuation that both speak of.
use Rattle.std.proofs.Common.{◌≡◌, ℕ, zero, suc, ◌+◌, ◌-◌, ◌*◌, ◌<◌, ◌≤◌, ◌^◌, true, List, length, ℤ, pos, ◌+ℤ◌, ◌-ℤ◌, ◌*ℤ◌, ◌≤ℤ◌, ◌<ℤ◌, refl, subst, arith}
use Rattle.std.proofs.lemmas.Nat.{pow_pos}
use Rattle.lift_poly.specs.Polynomial.{Valuation}
use Rattle.lift_poly.proofs.Ring.{linear, mul-le, mul-lt, mul-zero, mul-comm}
use Rattle.lift_model.specs.Process.{power}
use Rattle.lift_model.specs.Memoryless.{memoryless_reach}
use Rattle.lift_model.specs.Laws.{WeightedSumsAreNotNegative, WeightedSumsRise}
use Rattle.lift_model.specs.Model.{choices, process_at}
use Rattle.lift_grid.specs.Rectangle.{Spans, Inside}
use Rattle.lift_grid.specs.Tree.{RejectData}
use Rattle.lift_frac.specs.Laws.{LcmIsMultiple, LcmIsAtLeast}
use Rattle.corner_lift.specs.Case.{CaseData, IsCase, IsInside, number}
use Rattle.corner_lift.specs.Certificate.{AreNumbers}
use Rattle.corner_lift.specs.Laws.{NumbersAreInRange, WeightsInside, SumsAreTotals, MeansAtMostInside, MeansAtLeastInside}
use Rattle.reward_cert.specs.Charges.{RewardData, AreRewards, charge}
use Rattle.reward_cert.specs.Expected.{memoryless_cost}
use Rattle.reward_cert.specs.Rows.{has_number, AreNumbersOrNone}
use Rattle.reward_cert.specs.Collected.{IsCollectedUpperAll, IsCollectedLowerAll}
use Rattle.reward_cert.specs.Reaching.{IsReachingUpperAll, IsReachingLowerAll}
use Rattle.reward_cert.specs.Said.{unit, IsCostAtMost, IsCostAtLeastOrMissed, IsCostAtLeastAfter, IsReachedAfter}
use Rattle.reward_cert.specs.Laws.{CollectedLowerOneIsBelowUpperAll, CollectedLowerAllIsBelowUpperOne, ReachingLowerOneIsBelowUpperAll, ReachingLowerAllIsBelowUpperOne}
use Rattle.reward_cert.proofs.Bounding.{power-least}
use Rattle.reward_cert.proofs.Valuations.{total-positive}
use Rattle.reward_cert.proofs.CollectedUpper as upper
use Rattle.reward_cert.proofs.CollectedLower as lower
use Rattle.reward_cert.proofs.ReachingUpper as reaching_upper
use Rattle.reward_cert.proofs.ReachingLower as reaching_lower
use Rattle.reward_cert.proofs.Powers.{flat, flat_less}
use Rattle.reward_cert.proofs.Excluding.{squeezed, unit_positive, made, made_follows, made_inside, has_inside, collected_apart, reaching_apart}

module _ (multiple : LcmIsMultiple) (at_least : LcmIsAtLeast) (nonnegative : WeightedSumsAreNotNegative) (rise : WeightedSumsRise) (numbers : NumbersAreInRange) (weights : WeightsInside) (sums : SumsAreTotals) (most : MeansAtMostInside) (means : MeansAtLeastInside) (k : CaseData) (r : RewardData) (v : Valuation) (is : IsCase k) (are : AreRewards r) (picks : List ℕ) where
  abbrev choice : ℕ → ℕ
  choice = made k.model picks

  abbrev runs : ℕ → ℤ
  runs n = power (process_at k.model v).total n

  abbrev cost : ℕ → ℕ → ℤ
  cost n s = memoryless_cost (process_at k.model v) (charge r.costs) choice n s

  abbrev reached : ℕ → ℕ → ℤ
  reached n s = memoryless_reach (process_at k.model v) choice n s

  numbered_inside : (z : List ℤ) (s : ℕ) → AreNumbersOrNone k z → has_number z s ≡ true → s < length k.model.states
  numbered_inside z s are e = omega (arith, has_inside z s e, are.size)

  choice_inside : (s : ℕ) → s < length k.model.states → choice s < length (choices k.model s)
  choice_inside s lt = made_inside k picks s is lt

  runs-positive : (spans : Spans) → IsInside k.root spans → Inside k.d spans v → (n : ℕ) → pos 0 <ℤ runs n
  runs-positive spans within inside zero = omega (arith, linear)
  runs-positive spans within inside (suc n) =
      let total = total-positive k spans is within v inside in
      omega (arith, linear, mul-lt (process_at k.model v).total (pos 0) (runs n) total (runs-positive spans within inside n), mul-zero (process_at k.model v).total)

  scale-positive : (spans : Spans) → IsInside k.root spans → Inside k.d spans v → (n : ℕ) → pos 0 <ℤ (unit r *ℤ runs n)
  scale-positive spans within inside n =
      omega (arith, linear, mul-lt (unit r) (pos 0) (runs n) (unit_positive at_least r are) (runs-positive spans within inside n), mul-zero (unit r))

  -- ---- what the one scheduler pays and reaches by certificates over every choice

  paid_by_all : (spans : Spans) (z : List ℤ) → IsInside k.root spans → Inside k.d spans v → IsCollectedUpperAll k spans r z → (n s : ℕ) → has_number z s ≡ true → IsCostAtMost k.w r (number z s) (runs n) (cost n s)
  paid_by_all spans z within inside all n s has =
      upper.said (number z s) (unit r) (runs n) (pos (2 ^ k.w)) (cost n s) (reached n s)
      (upper.for_one multiple weights sums most means k spans r z is within are all.goal v inside choice
      (λ t g e. let lt = choice_inside t (numbered_inside z t all.numbers e) in (lt, all.rows t (choice t) g e lt)) n s has)

  reached_by_all : (spans : Spans) (c : RejectData) → IsInside k.root spans → Inside k.d spans v → IsReachingUpperAll k spans r c → (j s : ℕ) → has_number c.numbers s ≡ true → IsReachedAfter (c.e * c.k) j (runs (c.k * j)) (reached (c.k * j) s)
  reached_by_all spans c within inside all j s has =
      let n = c.k * j in
      reaching_upper.without (λ m. (pos (2 ^ (m * j)) *ℤ runs n) ≤ℤ (pos (2 ^ (m * j)) *ℤ reached n s +ℤ pos ((2 ^ m - 1) ^ j) *ℤ runs n)) (c.e * c.k)
      (reaching_upper.in_words nonnegative rise weights means k spans r c is within all.ranks v inside c.e c.k j s (runs n) (cost n s) (reached n s) has
      (reaching_upper.for_one nonnegative rise weights means k spans r c is within all.ranks v inside choice
      (λ t g e. let lt = choice_inside t (numbered_inside c.numbers t all.collected.numbers e) in ((all.collected.rows t (choice t) g e lt).numbers, all.leads t (choice t) g e lt)) j s))

  paid_after_by_all : (spans : Spans) (c : RejectData) → IsInside k.root spans → Inside k.d spans v → IsCollectedLowerAll k spans r c → (j s : ℕ) → IsCostAtLeastAfter k.w r (number c.numbers s) (k.w + c.e * c.k) j (runs (c.k * j)) (cost (c.k * j) s)
  paid_after_by_all spans c within inside all j s =
      lower.in_words k.w c.e c.k j (number c.numbers s) (unit r) (runs (c.k * j)) (cost (c.k * j) s) (reached (c.k * j) s)
      (lower.for_one multiple nonnegative rise numbers weights means k spans r c is within are all.numbers all.ranks v inside choice
      (λ t near. all.rows t (choice t) near (choice_inside t (omega (arith, lower.ranked_inside c.ranks t near, all.ranks.size)))) j s)

  paid_or_missed_by_all : (spans : Spans) (y : List ℤ) → IsInside k.root spans → Inside k.d spans v → IsReachingLowerAll k spans r y → (n s : ℕ) → IsCostAtLeastOrMissed k.w r (number y s) (runs n) (cost n s) (reached n s)
  paid_or_missed_by_all spans y within inside all n s =
      reaching_lower.said (number y s) (unit r) (runs n) (pos (2 ^ k.w)) (cost n s) (reached n s)
      (reaching_lower.for_one multiple numbers weights sums means k spans r y is within are all.numbers all.goal v inside choice
      (λ t lt g. let there = choice_inside t lt in (there, all.rows t (choice t) g there)) n s)

  -- ---- so the numbers are in order

  power-from_zero : (m j : ℕ) → pos 0 ≤ℤ power (pos (2 ^ m)) j
  power-from_zero m j = power-least (pos (2 ^ m)) j (omega (arith, linear))

  left-from_zero : (m j : ℕ) → pos 0 ≤ℤ power (pos (2 ^ m) -ℤ pos 1) j
  left-from_zero m j = power-least (pos (2 ^ m) -ℤ pos 1) j (omega (arith, linear, pow_pos m))

  in_order : (y z : ℤ) → (y -ℤ z) ≤ℤ pos 0 → y ≤ℤ z
  in_order y z le = omega (arith, linear, le)

  pub collected_order : (spans : Spans) (c : RejectData) (z : ℤ) (s : ℕ) → IsInside k.root spans → Inside k.d spans v → AreNumbers k c.numbers
      → ((n : ℕ) → IsCostAtMost k.w r z (runs n) (cost n s)) → ((j : ℕ) → IsCostAtLeastAfter k.w r (number c.numbers s) (k.w + c.e * c.k) j (runs (c.k * j)) (cost (c.k * j) s)) → number c.numbers s ≤ℤ z
  collected_order spans c z s within inside are_numbers above below =
      let m = k.w + c.e * c.k in
      let y = number c.numbers s in
      in_order y z (squeezed (y -ℤ z) (2 ^ k.w) (2 ^ m) (pow_pos m)
      (λ j.
      let h = power (pos (2 ^ m) -ℤ pos 1) j in
      let least = subst (λ p. (y *ℤ (unit r *ℤ (runs (c.k * j) *ℤ (p -ℤ h)))) ≤ℤ (pos (2 ^ k.w) *ℤ (p *ℤ cost (c.k * j) s))) (flat m j) (subst (λ l. (y *ℤ (unit r *ℤ (runs (c.k * j) *ℤ (pos (2 ^ (m * j)) -ℤ l)))) ≤ℤ (pos (2 ^ k.w) *ℤ (pos (2 ^ (m * j)) *ℤ cost (c.k * j) s))) (flat_less m j) (below j)) in
      let part = collected_apart y z (unit r) (runs (c.k * j)) (pos (2 ^ k.w)) (cost (c.k * j) s) (2 ^ m) j (scale-positive spans within inside (c.k * j)) (above (c.k * j)) least (power-from_zero m j) in
      omega (arith, linear, part, mul-le h y (pos (2 ^ k.w)) (left-from_zero m j) (numbers k c.numbers s are_numbers).1, mul-comm h y, mul-comm h (pos (2 ^ k.w)))))

  pub reaching_order : (spans : Spans) (c : RejectData) (y z : ℤ) (s : ℕ) → IsInside k.root spans → Inside k.d spans v
      → ((n : ℕ) → IsCostAtMost k.w r z (runs n) (cost n s)) → ((j : ℕ) → IsReachedAfter (c.e * c.k) j (runs (c.k * j)) (reached (c.k * j) s)) → ((n : ℕ) → IsCostAtLeastOrMissed k.w r y (runs n) (cost n s) (reached n s)) → y ≤ℤ z
  reaching_order spans c y z s within inside above reaches below =
      let m = c.e * c.k in
      in_order y z (squeezed (y -ℤ z) (2 ^ k.w) (2 ^ m) (pow_pos m)
      (λ j.
      let n = c.k * j in
      let missed = subst (λ p. (p *ℤ runs n) ≤ℤ (p *ℤ reached n s +ℤ power (pos (2 ^ m) -ℤ pos 1) j *ℤ runs n)) (flat m j) (subst (λ l. (pos (2 ^ (m * j)) *ℤ runs n) ≤ℤ (pos (2 ^ (m * j)) *ℤ reached n s +ℤ l *ℤ runs n)) (flat_less m j) (reaches j)) in
      reaching_apart y z (unit r) (runs n) (pos (2 ^ k.w)) (cost n s) (reached n s) (2 ^ m) j (scale-positive spans within inside n) (omega (arith, linear, mul-le (pos (2 ^ k.w)) (pos 0) (unit r) (omega (arith, linear)) (omega (arith, linear)), mul-zero (pos (2 ^ k.w)))) (above n) (below n) missed (power-from_zero m j)))

module _ (multiple : LcmIsMultiple) (at_least : LcmIsAtLeast) (nonnegative : WeightedSumsAreNotNegative) (rise : WeightedSumsRise) (numbers : NumbersAreInRange) (weights : WeightsInside) (sums : SumsAreTotals) (most : MeansAtMostInside) (means : MeansAtLeastInside) where
  pub collected_lower_one_is_below : CollectedLowerOneIsBelowUpperAll
  collected_lower_one_is_below k spans others r z c v is within there inside shared are above below s has =
      collected_order multiple at_least nonnegative rise numbers weights sums most means k r v is are c.picks others c (number z s) s there shared below.numbers
      (λ n. paid_by_all multiple at_least nonnegative rise numbers weights sums most means k r v is are c.picks spans z within inside above n s has)
      (λ j. lower.collected_lower_one_bounds multiple nonnegative rise numbers weights means k others r c is there are below v shared s (made k.model c.picks) j (made_follows k.model c.picks))

  pub collected_lower_all_is_below : CollectedLowerAllIsBelowUpperOne
  collected_lower_all_is_below k spans others r z picks c v is within there inside shared are above below s has =
      collected_order multiple at_least nonnegative rise numbers weights sums most means k r v is are picks others c (number z s) s there shared below.numbers
      (λ n. upper.collected_upper_one_bounds multiple weights sums most means k spans r z picks is within are above v inside s has (made k.model picks) n (made_follows k.model picks))
      (λ j. paid_after_by_all multiple at_least nonnegative rise numbers weights sums most means k r v is are picks others c there shared below j s)

  pub reaching_lower_one_is_below : ReachingLowerOneIsBelowUpperAll
  reaching_lower_one_is_below k spans others r c y picks v is within there inside shared are above below s has =
      reaching_order multiple at_least nonnegative rise numbers weights sums most means k r v is are picks spans c (number y s) (number c.numbers s) s within inside
      (λ n. paid_by_all multiple at_least nonnegative rise numbers weights sums most means k r v is are picks spans c.numbers within inside above.collected n s has)
      (λ j. reached_by_all multiple at_least nonnegative rise numbers weights sums most means k r v is are picks spans c within inside above j s has)
      (λ n. reaching_lower.reaching_lower_one_bounds multiple numbers weights sums means k others r y picks is there are below v shared s (made k.model picks) n (made_follows k.model picks))

  pub reaching_lower_all_is_below : ReachingLowerAllIsBelowUpperOne
  reaching_lower_all_is_below k spans others r c y v is within there inside shared are above below s has =
      reaching_order multiple at_least nonnegative rise numbers weights sums most means k r v is are c.picks spans c (number y s) (number c.numbers s) s within inside
      (λ n. upper.collected_upper_one_bounds multiple weights sums most means k spans r c.numbers c.picks is within are above.collected v inside s has (made k.model c.picks) n (made_follows k.model c.picks))
      (λ j. reaching_upper.reaching_upper_one_reaches nonnegative rise weights means k spans r c is within above v inside s has (made k.model c.picks) j (made_follows k.model c.picks))
      (λ n. paid_or_missed_by_all multiple at_least nonnegative rise numbers weights sums most means k r v is are c.picks others y there shared below n s)
