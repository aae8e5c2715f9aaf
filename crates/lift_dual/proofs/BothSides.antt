-- No lower vector for every scheduler is above an upper one for one scheduler, where both speak of one valuation.
use Rattle.std.proofs.Common.{◌≡◌, ℕ, zero, suc, ◌^◌, ◌<◌, ◌≤◌, true, false, List, [], ◌∷◌, length, map, get_or, ℤ, pos, ◌+ℤ◌, ◌*ℤ◌, ◌≤ℤ◌, ◌<ℤ◌, refl, sym, ap, arith, nat_lt, ltb-true, ltb-false, ◌⊎◌, ⊎_elim}
use Rattle.std.specs.List.{AllByRecursion}
use Rattle.std.proofs.lemmas.Int.{by_lt_z}
use Rattle.std.proofs.lemmas.List.{get_or_past}
use Rattle.lift_poly.specs.Polynomial.{Valuation, denominator}
use Rattle.lift_poly.proofs.Ring.{linear, mul-comm, mul-assoc, add-mul, zero-mul, one-mul, mul-le}
use Rattle.lift_grid.specs.Rectangle.{Spans, Inside}
use Rattle.lift_model.specs.Process.{Process, Move, weighted_sum}
use Rattle.lift_model.specs.Memoryless.{chosen}
use Rattle.lift_model.specs.Model.{is_goal, choices, moves_at, process_at}
use Rattle.lift_model.specs.Laws.{AreNonNegative, WeightedSumsRise}
use Rattle.corner_lift.specs.Case.{number}
use Rattle.corner_lift.specs.Certificate.{unmarked, mark}
use Rattle.corner_lift.specs.Laws.{NumbersAreInRange, WeightsInside, SumsAreTotals, MeansAtMostInside, MeansAtLeastInside}
use Rattle.lift_dual.specs.Supported.{ranked_under, Supports, IsSupportedByAll}
use Rattle.lift_dual.specs.Laws.{SupportedPlansReach}
use Rattle.lift_dual.specs.Laws.{LowerAllIsBelowUpperOne}
use Rattle.lift_dual.proofs.Saying.{supported, chosen-mean, chosen-weights}
use Rattle.lift_dual.proofs.Inside.{in_or_past, either_way}
use Rattle.lift_dual.proofs.Sums.{sum-add, positive_part, product-positive}

constant : (q : ℤ) (moves : List Move) → weighted_sum (λ t. q) moves ≡ weighted_sum (λ t. pos 1) moves *ℤ q
constant q [] = sym (zero-mul q)
constant q (m ∷ moves) = omega (arith, linear, constant q moves, add-mul (m.1 *ℤ pos 1) (weighted_sum (λ t. pos 1) moves) q, mul-assoc m.1 (pos 1) q, ap (λ z. m.1 *ℤ z) (one-mul q))

cancel-lt : (a b c : ℤ) → pos 0 <ℤ c → (a *ℤ c) <ℤ (b *ℤ c) → a <ℤ b
cancel-lt a b c h lt = by_lt_z a b (λ l. l) (λ le. let f = mul-le c b a (omega (arith, linear)) le in absurd (omega (arith, linear, f, lt, mul-comm c a, mul-comm c b)))

-- a part of a whole above 0 is above 0
denominator-positive : (d : ℤ) (ss : Spans) (v : Valuation) → Inside d ss v → pos 0 <ℤ denominator v
denominator-positive d [] [] h = omega (arith, linear)
denominator-positive d (s ∷ ss) (x ∷ v) h = product-positive x.1 (denominator v) h.0 (denominator-positive d ss v h.3)
denominator-positive d [] (x ∷ v) h = absurd h
denominator-positive d (s ∷ ss) [] h = absurd h

-- P holds of a choice of a list
of_choice : (P : List Move → Type 0) (rows : List (List Move)) (i : ℕ) → i < length rows → AllByRecursion P rows → P (get_or rows i [])
of_choice P [] i lt all = absurd (omega (arith, lt))
of_choice P (moves ∷ rows) zero lt all = all.0
of_choice P (moves ∷ rows) (suc i) lt all = of_choice P rows i (omega (arith, lt)) all.1

-- x lies above the picked choices
record IsCarried (process : Process) (top : ℤ) (x : ℕ → ℤ) (pick : ℕ → ℕ) : Type 0 where
  least : (s : ℕ) → pos 0 ≤ℤ x s
  goal : (s : ℕ) → process.goal s ≡ true → x s ≡ top
  weights : (s : ℕ) → AreNonNegative (chosen process pick s)
  means : (s : ℕ) → process.goal s ≡ false → weighted_sum x (chosen process pick s) ≤ℤ (x s *ℤ process.total)

module _ (rise : WeightedSumsRise) (process : Process) (top : ℕ) (x y : ℕ → ℤ) (pick : ℕ → ℕ) (rank : ℕ → ℕ) (rate : ℤ) (k : ℕ) (upper : IsCarried process (pos top) x pick) (lower : IsSupportedByAll process (pos top) y rank rate k) (choice_made : (s : ℕ) → process.goal s ≡ false → rank s ≤ k → pick s < length (process.choices s)) (positive : pos 0 <ℤ process.total) where
  -- where y is at most x and more, and by one less on lower ranks, it is so by one less at the state itself
  held_sinks : (gap : ℕ) (s : ℕ) → process.goal s ≡ false → rank s ≤ k → ((t : ℕ) → (y t +ℤ ranked_under rank (rank s) t) ≤ℤ (x t +ℤ pos gap)) → y s <ℤ (x s +ℤ pos gap)
  held_sinks gap s g le fits =
      let n = process.total in
      let low = ranked_under rank (rank s) in
      let moves = chosen process pick s in
      let has = of_choice (Supports process.total y rank rate s) (process.choices s) (pick s) (choice_made s g le) (lower.supports s g le) in
      let above = rise (λ t. y t +ℤ low t) (λ t. x t +ℤ pos gap) moves fits (upper.weights s) in
      let sinking = positive_part (weighted_sum low moves) n rate (omega (arith, linear, lower.rate_least)) positive has.lead in
      let all = mul-le (pos gap) (weighted_sum (λ t. pos 1) moves) n (omega (arith, linear)) has.sum in
      cancel-lt (y s) (x s +ℤ pos gap) n positive
      (omega (arith, linear, above, sinking, all, has.mean, upper.means s g, sum-add y low moves, sum-add x (λ t. pos gap) moves, constant (pos gap) moves, mul-comm (weighted_sum (λ t. pos 1) moves) (pos gap), add-mul (x s) (pos gap) n))

  -- one less, rank by rank
  sink : (gap : ℕ) → ((t : ℕ) → y t ≤ℤ (x t +ℤ pos (suc gap))) → (n s : ℕ) → rank s < n → y s ≤ℤ (x s +ℤ pos gap)
  sink gap most zero s lt = absurd (omega arith)
  sink gap most (suc n) s lt =
      either_way (process.goal s)
      (λ g. omega (arith, linear, lower.most s, upper.goal s g))
      (λ g. either_way (nat_lt k (rank s))
      (λ far. omega (arith, linear, lower.apart s g (ltb-true k (rank s) far), upper.least s))
      (λ near.
      let fits : (t : ℕ) → (y t +ℤ ranked_under rank (rank s) t) ≤ℤ (x t +ℤ pos (suc gap)) =
      λ t. either_way (nat_lt (rank t) (rank s))
      (λ l. let less : rank t < rank s = ltb-true (rank t) (rank s) l in
      rw l (omega (arith, linear, sink gap most n t (omega (arith, less, lt)))))
      (λ l. rw l (omega (arith, linear, most t))) in
      omega (arith, linear, held_sinks (suc gap) s g (ltb-false k (rank s) near) fits)))

  every_gap : (gap : ℕ) → ((t : ℕ) → y t ≤ℤ (x t +ℤ pos gap)) → (s : ℕ) → y s ≤ℤ x s
  every_gap zero most s = omega (arith, linear, most s)
  every_gap (suc gap) most s = every_gap gap (λ t. sink gap most (suc (rank t)) t (omega arith)) s

  lies_below : (s : ℕ) → y s ≤ℤ x s
  lies_below s = every_gap top (λ t. omega (arith, linear, lower.most t, upper.least t)) s

map-length : {A B : Type 0} (f : A → B) (xs : List A) → length (map f xs) ≡ length xs
map-length f [] = refl
map-length f (x ∷ xs) = ap suc (map-length f xs)

pub lower_all_is_below_upper_one : WeightedSumsRise → NumbersAreInRange → WeightsInside → SumsAreTotals → MeansAtMostInside → MeansAtLeastInside → SupportedPlansReach → LowerAllIsBelowUpperOne
lower_all_is_below_upper_one rise numbers weights sums most means reaching k spans others x picks r v is within within_others inside inside_others upper lower =
    let process = process_at k.model v in
    let positive : pos 0 <ℤ process.total = product-positive k.model.common (denominator v) (omega (arith, linear, is.asked.model.denominator.0)) (denominator-positive k.d spans v inside) in
    let carried : IsCarried process (pos (2 ^ k.w)) (number x) (mark picks) = record {
      least = λ s. (numbers k x s upper.numbers).0;
      goal = λ s g. (upper.goal s g).0;
      weights = chosen-weights k spans is within v inside rise numbers weights most x picks upper (mark picks) (λ s lt. refl);
      means = chosen-mean k spans is within v inside rise numbers weights most x picks upper (mark picks) (λ s lt. refl);
    } in
    lies_below rise process (2 ^ k.w) (number x) (number r.numbers) (mark picks) (mark r.ranks) (pos (2 ^ r.e)) r.k carried (supported k others is within_others v inside_others numbers weights sums means reaching r lower) (λ s g le. choice_made s g le) positive
  where
    choice_made : (s : ℕ) → is_goal k.model s ≡ false → mark r.ranks s ≤ r.k → mark picks s < length (map (moves_at v) (choices k.model s))
    choice_made s g le = ⊎_elim
        (λ (lt : s < length k.model.states). omega (arith, upper.pick s lt g, map-length (moves_at v) (choices k.model s)))
        (λ (past : length k.model.states ≤ s). absurd (omega (arith, le, lower.bounds.2, get_or_past r.ranks s unmarked (omega (arith, lower.sizes.1, past)))))
        (in_or_past s (length k.model.states))
