-- No lower vector is above an upper one, of one rectangle or of two that share a valuation: at a valuation of both they speak of one process.
use Rattle.std.proofs.Common.{◌≡◌, ℕ, zero, suc, ◌^◌, ◌<◌, Bool, true, false, true≢false, List, [], ◌∷◌, map, get_or, ℤ, pos, ◌+ℤ◌, ◌*ℤ◌, ◌≤ℤ◌, ◌<ℤ◌, refl, sym, ap, ◌∙◌, arith, nat_lt, ltb-true}
use Rattle.std.specs.List.{AllByRecursion}
use Rattle.std.proofs.lemmas.Int.{by_lt_z}
use Rattle.lift_poly.specs.Polynomial.{Valuation, denominator}
use Rattle.lift_poly.proofs.Ring.{linear, mul-comm, mul-assoc, add-mul, mul-zero, zero-mul, one-mul, mul-le, mul-lt, mul-nonneg}
use Rattle.lift_grid.specs.Rectangle.{Spans, Inside, AreSpans}
use Rattle.lift_grid.specs.Tree.{RejectData}
use Rattle.lift_model.specs.Process.{Process, Move, weighted_sum}
use Rattle.lift_model.specs.Memoryless.{chosen}
use Rattle.lift_model.specs.Model.{process_at}
use Rattle.lift_model.specs.Laws.{WeightedSumsAreNotNegative, WeightedSumsRise}
use Rattle.corner_lift.specs.Case.{CaseData, IsCase, IsInside, number}
use Rattle.corner_lift.specs.Certificate.{mark, ranked_below, IsUpper, IsLower}
use Rattle.corner_lift.specs.Laws.{NumbersAreInRange, WeightsInside, SumsAreTotals, MeansAtMostInside, MeansAtLeastInside}
use Rattle.lift_cert.specs.Laws.{is_open, LowerIsBelowUpper, NotBothKinds, NotBothKindsAtAValuation}
use Rattle.lift_cert.proofs.Inductive.{IsInductive}
use Rattle.lift_cert.proofs.Accepting.{upper_inductive}
use Rattle.lift_cert.proofs.Holding.{IsSupported, sum-add, either_way}
use Rattle.lift_cert.proofs.Rejecting.{lower_supported}

constant : (q : ℤ) (moves : List Move) → weighted_sum (λ t. q) moves ≡ weighted_sum (λ t. pos 1) moves *ℤ q
constant q [] = sym (zero-mul q)
constant q (m ∷ moves) = omega (arith, linear, constant q moves, add-mul (m.1 *ℤ pos 1) (weighted_sum (λ t. pos 1) moves) q, mul-assoc m.1 (pos 1) q, ap (λ z. m.1 *ℤ z) (one-mul q))

cancel-lt : (a b c : ℤ) → pos 0 <ℤ c → (a *ℤ c) <ℤ (b *ℤ c) → a <ℤ b
cancel-lt a b c h lt = by_lt_z a b (λ l. l) (λ le. let f = mul-le c b a (omega (arith, linear)) le in absurd (omega (arith, linear, f, lt, mul-comm c a, mul-comm c b)))

-- a part of a whole above 0 is above 0
positive_part : (a b q : ℤ) → pos 0 ≤ℤ q → pos 0 <ℤ b → b ≤ℤ (a *ℤ q) → pos 0 <ℤ a
positive_part a b q h positive le = by_lt_z (pos 0) a (λ l. l) (λ n. let f = mul-le q a (pos 0) h n in absurd (omega (arith, linear, f, positive, le, mul-comm q a, mul-zero q)))

product-positive : (a b : ℤ) → pos 0 <ℤ a → pos 0 <ℤ b → pos 0 <ℤ (a *ℤ b)
product-positive a b f g = let lt = mul-lt a (pos 0) b f g in omega (arith, linear, lt, mul-zero a)

-- P holds of a choice of a list, or of no moves beyond the last
of_choice : (P : List Move → Type 0) (choices : List (List Move)) (i : ℕ) → P [] → AllByRecursion P choices → P (get_or choices i [])
of_choice P [] i none all = none
of_choice P (moves ∷ choices) zero none all = all.0
of_choice P (moves ∷ choices) (suc i) none all = of_choice P choices i none all.1

-- ---- at a process: x lies above all choices, y below its own

module _ (rise : WeightedSumsRise) (process : Process) (top : ℕ) (x y : ℕ → ℤ) (pick : ℕ → ℕ) (test : ℕ → Bool) (rank : ℕ → ℕ) (rate : ℤ) (height : ℕ) (upper : IsInductive process (pos top) x) (lower : IsSupported process (pos top) y pick test rank rate height) (positive : pos 0 <ℤ process.total) where
  inner : (s : ℕ) → test s ≡ true → process.goal s ≡ false
  inner s open_s = either_way (process.goal s) (λ g. absurd (true≢false (sym open_s ∙ (lower.goal s g).1))) (λ g. g)

  most_at : (s : ℕ) → test s ≡ true → weighted_sum x (chosen process pick s) ≤ℤ (x s *ℤ process.total)
  most_at s open_s =
      of_choice (λ moves. weighted_sum x moves ≤ℤ (x s *ℤ process.total)) (process.choices s) (pick s) (mul-nonneg (x s) process.total (upper.least s) upper.total) (upper.means s (inner s open_s))

  -- where y is at most x and more, and by one less on lower ranks, it is so by one less at the state itself
  held_sinks : (gap : ℕ) (s : ℕ) → test s ≡ true → ((t : ℕ) → (y t +ℤ ranked_below rank (rank s) t) ≤ℤ (x t +ℤ pos gap)) → y s <ℤ (x s +ℤ pos gap)
  held_sinks gap s open_s fits =
      let n = process.total in
      let low = ranked_below rank (rank s) in
      let moves = chosen process pick s in
      let above = rise (λ t. y t +ℤ low t) (λ t. x t +ℤ pos gap) moves fits (lower.weights s) in
      let sinking = positive_part (weighted_sum low moves) n rate (omega (arith, linear, lower.rate_least)) positive (lower.rates s open_s) in
      let all = mul-le (pos gap) (weighted_sum (λ t. pos 1) moves) n (omega (arith, linear)) (lower.sums s open_s) in
      cancel-lt (y s) (x s +ℤ pos gap) n positive
      (omega (arith, linear, above, sinking, all, lower.means s open_s, most_at s open_s, sum-add y low moves, sum-add x (λ t. pos gap) moves, constant (pos gap) moves, mul-comm (weighted_sum (λ t. pos 1) moves) (pos gap), add-mul (x s) (pos gap) n))

  -- one less, rank by rank
  sink : (gap : ℕ) → ((t : ℕ) → y t ≤ℤ (x t +ℤ pos (suc gap))) → (n s : ℕ) → rank s < n → y s ≤ℤ (x s +ℤ pos gap)
  sink gap most zero s lt = absurd (omega arith)
  sink gap most (suc n) s lt =
      either_way (test s)
      (λ open_s.
      let fits : (t : ℕ) → (y t +ℤ ranked_below rank (rank s) t) ≤ℤ (x t +ℤ pos (suc gap)) =
      λ t. either_way (nat_lt (rank t) (rank s))
      (λ l. let less : rank t < rank s = ltb-true (rank t) (rank s) l in
      rw l (omega (arith, linear, sink gap most n t (omega (arith, less, lt)))))
      (λ l. rw l (omega (arith, linear, most t))) in
      omega (arith, linear, held_sinks (suc gap) s open_s fits))
      (λ closed.
      either_way (process.goal s)
      (λ g. omega (arith, linear, (lower.goal s g).0, upper.goal s g))
      (λ g. omega (arith, linear, lower.apart s g closed, upper.least s)))

  every_gap : (gap : ℕ) → ((t : ℕ) → y t ≤ℤ (x t +ℤ pos gap)) → (s : ℕ) → y s ≤ℤ x s
  every_gap zero most s = omega (arith, linear, most s)
  every_gap (suc gap) most s = every_gap gap (λ t. sink gap most (suc (rank t)) t (omega arith)) s

  pub supported_lies_below : (s : ℕ) → y s ≤ℤ x s
  supported_lies_below s = every_gap top (λ t. omega (arith, linear, lower.most t, upper.least t)) s

-- ---- at a valuation

denominator-positive : (d : ℤ) (ss : Spans) (v : Valuation) → Inside d ss v → pos 0 <ℤ denominator v
denominator-positive d [] [] h = omega (arith, linear)
denominator-positive d (s ∷ ss) (x ∷ v) h = product-positive x.1 (denominator v) h.0 (denominator-positive d ss v h.3)
denominator-positive d [] (x ∷ v) h = absurd h
denominator-positive d (s ∷ ss) [] h = absurd h

-- the valuation at the low ends
abbrev lowest : ℤ → Spans → Valuation
lowest d spans = map (λ s. (s.0, d)) spans

lowest_inside : (d : ℤ) (spans : Spans) → pos 0 <ℤ d → AreSpans spans → Inside d spans (lowest d spans)
lowest_inside d [] h are = tt
lowest_inside d (s ∷ spans) h are =
    let rising = mul-le d s.0 s.1 (omega (arith, linear)) (omega (arith, linear, are.0.rising)) in
    (h, omega (arith, linear), omega (arith, linear, rising, mul-comm d s.0, mul-comm d s.1), lowest_inside d spans h are.1)

module _ (least : WeightedSumsAreNotNegative) (rise : WeightedSumsRise) (numbers : NumbersAreInRange) (weights : WeightsInside) (sums : SumsAreTotals) (most : MeansAtMostInside) (means : MeansAtLeastInside) where
  lies_below : (k : CaseData) (spans others : Spans) (v : Valuation) (x : List ℤ) (r : RejectData) → IsCase k → IsInside k.root spans → IsInside k.root others → Inside k.d spans v → Inside k.d others v → IsUpper k spans x → IsLower k others r → (s : ℕ) → number r.numbers s ≤ℤ number x s
  lies_below k spans others v x r is within within_others inside inside_others upper lower =
      let process = process_at k.model v in
      let positive : pos 0 <ℤ process.total = product-positive k.model.common (denominator v) (omega (arith, linear, is.asked.model.denominator.0)) (denominator-positive k.d spans v inside) in
      let above = upper_inductive numbers weights most k spans is within v inside x upper in
      let below = lower_supported least rise numbers weights sums means k others r is within_others lower (mark r.picks) (λ s lt. refl) v inside_others in
      supported_lies_below rise process (2 ^ k.w) (number x) (number r.numbers) (mark r.picks) (is_open k r) (mark r.ranks) (pos (2 ^ r.e)) r.k above below positive

  pub lower_is_below_upper : LowerIsBelowUpper
  lower_is_below_upper k spans x r is within upper lower =
      let low = lowest_inside k.d spans is.asked.grid.positive within.rectangle in
      lies_below k spans spans (lowest k.d spans) x r is within within low low upper lower

  pub not_both_kinds_at : NotBothKindsAtAValuation
  not_both_kinds_at k spans others bound x r v is within within_others inside inside_others accepting rejecting =
      let le = lies_below k spans others v x r is within within_others inside inside_others accepting.upper rejecting.holds k.model.init in
      let scaled = mul-le (pos bound.den) (number r.numbers k.model.init) (number x k.model.init) (omega (arith, linear)) le in
      omega (arith, linear, accepting.limit, rejecting.limit, scaled, mul-comm (number r.numbers k.model.init) (pos bound.den), mul-comm (number x k.model.init) (pos bound.den))

  pub not_both_kinds : NotBothKinds
  not_both_kinds k spans bound x r is within accepting rejecting =
      let low = lowest_inside k.d spans is.asked.grid.positive within.rectangle in
      not_both_kinds_at k spans spans bound x r (lowest k.d spans) is within within low low accepting rejecting
