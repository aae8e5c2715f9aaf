-- Numbers by which states are told apart.
use Rattle.std.proofs.Common.{◌≡◌, ℕ, ◌<◌, Bool, true, false, List, length, get_or, ℤ, pos, ◌+ℤ◌, ◌*ℤ◌, ◌≤ℤ◌, ◌<ℤ◌, refl, sym, ap, ◌∙◌, subst, arith}
use Rattle.std.proofs.lemmas.Int.{by_lt_z}
use Rattle.lift_poly.proofs.Ring.{linear, mul-comm, mul-add, mul-le, one-mul}
use Rattle.lift_poly.specs.Polynomial.{Valuation, weight}
use Rattle.lift_poly.specs.Laws.{TermsSumByWeight}
use Rattle.lift_model.specs.Model.{ModelData, is_goal, row_at}
use Rattle.lift_lump.specs.Lumping.{Partition, terms_into, IsSplit}
use Rattle.lift_lump.specs.Search.{modulus, IsCongruent, AreNumbers, IsByNumber}
use Rattle.lift_lump.specs.Laws.{SplitsKeep, NumberedSplitsKeep}

-- numbers below n that differ by a multiple of it are one
not_less : (a b n : ℕ) (z i j : ℤ) → pos a ≡ z +ℤ i *ℤ pos n → pos b ≡ z +ℤ j *ℤ pos n → b < n → i <ℤ j → ⊥
not_less a b n z i j p q lt less =
    let step : (i +ℤ pos 1) ≤ℤ j = omega (arith, linear, less) in
    let grown = mul-le (pos n) (i +ℤ pos 1) j (omega (arith, linear)) step in
    let apart = mul-add (pos n) i (pos 1) in
    let one = mul-comm (pos n) (pos 1) ∙ one-mul (pos n) in
    omega (arith, linear, grown, apart, one, mul-comm (pos n) i, mul-comm (pos n) j, p, q, lt)

same_below : (a b n : ℕ) (z i j : ℤ) → pos a ≡ z +ℤ i *ℤ pos n → pos b ≡ z +ℤ j *ℤ pos n → a < n → b < n → a ≡ b
same_below a b n z i j p q a_in b_in =
    by_lt_z i j (λ less. absurd (not_less a b n z i j p q b_in less))
    (λ least. by_lt_z j i (λ less. absurd (not_less b a n z j i q p a_in less)) (λ most.
    let same : i ≡ j = omega (arith, linear, least, most) in
    omega (arith, linear, p, q, ap (λ k. k *ℤ pos n) same)))

-- two numbers below the modulus that are congruent to one integer are one
same_number : (a b : ℕ) (z : ℤ) → a < modulus → b < modulus → IsCongruent a z → IsCongruent b z → a ≡ b
same_number a b z a_in b_in p q = same_below a b modulus z p.0 q.0 p.1 q.1 a_in b_in

split_by_number : TermsSumByWeight → (m : ModelData) (v : Valuation) (old new : Partition) (inside : ℕ → Bool) (ns : List ℕ) → AreNumbers m v inside ns → IsByNumber (length m.states) old ns new → IsSplit m old new inside
split_by_number weights m v old new inside ns are by_number s t together goals sums = by_number s t together.states.0 together.states.1 together.same (by (is_goal m s) refl)
  where
    by : (goal : Bool) → is_goal m s ≡ goal → get_or ns s 0 ≡ get_or ns t 0
    by true is = are.goals s is ∙ sym (are.goals t (sym goals ∙ is))
    by false not =
        let same : weight v (terms_into inside (row_at m s 0)) ≡ weight v (terms_into inside (row_at m t 0)) = sym (weights v (terms_into inside (row_at m s 0))) ∙ ap (weight v) (sums not) ∙ weights v (terms_into inside (row_at m t 0)) in
        same_number (get_or ns s 0) (get_or ns t 0) (weight v (terms_into inside (row_at m t 0)))
        (are.below s 0 (let e = are.count in let l = together.states.0 in omega (arith, e, l)))
        (are.below t 0 (let e = are.count in let l = together.states.1 in omega (arith, e, l)))
        (subst (IsCongruent (get_or ns s 0)) same (are.numbers s together.states.0 not))
        (are.numbers t together.states.1 (sym goals ∙ not))

pub numbered_splits_keep : TermsSumByWeight → SplitsKeep → NumberedSplitsKeep
numbered_splits_keep weights keep m v old new inside ns is above union are by_number = keep m old new inside is above union (split_by_number weights m v old new inside ns are by_number)
