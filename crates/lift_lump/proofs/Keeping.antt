-- What a split keeps: every right partition refines the new one too.
use Rattle.std.proofs.Common.{◌≡◌, ◌≢◌, ◌⊎◌, inl, inr, ℕ, zero, suc, ◌+◌, ◌<◌, ◌≤◌, Bool, true, false, cond, List, [], ◌∷◌, ◌++◌, length, get_or, ℤ, pos, ◌+ℤ◌, ◌*ℤ◌, All, refl, sym, ap, ap₂, ◌∙◌, arith, nat_eq}
use Rattle.std.proofs.lemmas.List.Elements.{All-head, All-tail}
use Rattle.std.proofs.lemmas.Bool.Decides.{nat_tests}
use Rattle.lift_poly.proofs.Ring.{linear, mul-zero, mul-comm, one-mul}
use Rattle.lift_poly.specs.Polynomial.{Term}
use Rattle.lift_poly.specs.Arithmetic.{coefficient}
use Rattle.lift_poly.specs.Laws.{TermsSumToPolynomial, TermsSumBySet, CoefficientsDetermine}
use Rattle.lift_model.specs.declared.entry.Entry.{Entry}
use Rattle.lift_model.specs.Model.{ModelData, is_goal, row_at}
use Rattle.lift_model.specs.Valid.{IsModel}
use Rattle.lift_lump.specs.Lumping.{Partition, terms_into, sum_into, in_block, AreTogether, IsRight, IsUnion}
use Rattle.lift_lump.specs.Laws.{SplitsKeep}
use Rattle.lift_lump.proofs.Grouping.{IsAdditive, flat, grouped, grouped-flat}
use Rattle.lift_lump.proofs.Holding.{targets_inside}
use Rattle.lift_lump.proofs.Sides.{same_or_not}

pub coefficient-append : (set : ℕ) (ts us : List Term) → coefficient set (ts ++ us) ≡ coefficient set ts +ℤ coefficient set us
coefficient-append set [] us = omega (arith, linear)
coefficient-append set (t ∷ ts) us = omega (arith, linear, coefficient-append set ts us)

pub coefficients-add : (set : ℕ) → IsAdditive (coefficient set)
coefficients-add set = record { none = refl; append = coefficient-append set }

module _ (m : ModelData) (block : Partition) (inside : ℕ → Bool) (union : IsUnion m block inside) where
  -- whether the states of a block are inside, by the last of the first states that is in the block
  abbrev find : ℕ → ℕ → Bool
  find zero b = false
  find (suc k) b = cond (nat_eq (block k) b) (inside k) (find k b)

  find-is : (k t : ℕ) → t < k → k ≤ length m.states → find k (block t) ≡ inside t
  find-is zero t lt le = absurd (omega (arith, lt))
  find-is (suc k) t lt le = by (same_or_not (block k) (block t)) (λ before. find-is k t before (omega (arith, le)))
    where
      by : (block k ≡ block t) ⊎ (block k ≢ block t) → (t < k → find k (block t) ≡ inside t) → find (suc k) (block t) ≡ inside t
      by (inl same) before =
          let test : nat_eq (block k) (block t) ≡ true = grind (arith, nat_tests) in
          rw test (union k t (record { states = (omega (arith, le), omega (arith, lt, le)); same = same }))
      by (inr other) before =
          let test : nat_eq (block k) (block t) ≡ false = grind (arith, nat_tests) in
          rw test (before (below (same_or_not t k)))
        where
          below : (t ≡ k) ⊎ (t ≢ k) → t < k
          below (inl e) = absurd (other (ap block (sym e)))
          below (inr ne) = grind (arith, lt, ne)

  -- above each block of a state
  abbrev bound : ℕ → ℕ
  bound zero = 1
  bound (suc k) = block k + bound k

  bound-some : (k : ℕ) → 1 ≤ bound k
  bound-some zero = omega arith
  bound-some (suc k) = omega (arith, bound-some k)

  bounded : (k t : ℕ) → t < k → block t < bound k
  bounded zero t lt = absurd (omega (arith, lt))
  bounded (suc k) t lt = by (same_or_not t k) (λ before. bounded k t before)
    where
      by : (t ≡ k) ⊎ (t ≢ k) → (t < k → block t < bound k) → block t < block k + bound k
      by (inl e) rest = omega (arith, bound-some k, ap block e)
      by (inr ne) rest = let before : t < k = grind (arith, lt, ne) in omega (arith, rest before)

  module _ (φ : List Term → ℤ) (additive : IsAdditive φ) where
    abbrev counted : ℕ → ℤ
    counted b = cond (find (length m.states) b) (pos 1) (pos 0)

    flat-inside : (row : List Entry) → All (λ (e : Entry). e.target < length m.states) row → flat φ additive block counted row ≡ φ (terms_into inside row)
    flat-inside [] all = sym additive.none
    flat-inside (e ∷ row) all =
        let lt : e.target < length m.states = All-head (λ (e : Entry). e.target < length m.states) e row all in
        let there = flat-inside row (All-tail (λ (e : Entry). e.target < length m.states) e row all) in
        let is = find-is (length m.states) e.target lt (omega arith) in
        let sum = additive.append (cond (inside e.target) e.poly []) (terms_into inside row) in
        ap₂ (λ y z. y +ℤ z) (ap (λ b. φ e.poly *ℤ cond b (pos 1) (pos 0)) is ∙ one (inside e.target) e.poly) there ∙ sym sum
      where
        one : (b : Bool) (poly : List Term) → φ poly *ℤ cond b (pos 1) (pos 0) ≡ φ (cond b poly [])
        one true poly = mul-comm (φ poly) (pos 1) ∙ one-mul (φ poly)
        one false poly = mul-zero (φ poly) ∙ sym additive.none

    all-bounded : (row : List Entry) → All (λ (e : Entry). e.target < length m.states) row → All (λ (e : Entry). block e.target < bound (length m.states)) row
    all-bounded row all i d lt = bounded (length m.states) (get_or row i d).target (all i d lt)

    -- rows whose sums into each block agree have sums into the set that agree
    pub agree : (left right : List Entry) → All (λ (e : Entry). e.target < length m.states) left → All (λ (e : Entry). e.target < length m.states) right
        → ((b : ℕ) → φ (terms_into (in_block block b) left) ≡ φ (terms_into (in_block block b) right)) → φ (terms_into inside left) ≡ φ (terms_into inside right)
    agree left right lefts rights same =
        sym (flat-inside left lefts)
        ∙ sym (grouped-flat φ additive block counted (bound (length m.states)) left (all-bounded left lefts))
        ∙ each (bound (length m.states))
        ∙ grouped-flat φ additive block counted (bound (length m.states)) right (all-bounded right rights)
        ∙ flat-inside right rights
      where
        each : (count : ℕ) → grouped φ additive block counted count left ≡ grouped φ additive block counted count right
        each zero = refl
        each (suc b) = ap₂ (λ y z. y +ℤ z *ℤ counted b) (each b) (same b)

module _ (polynomial : TermsSumToPolynomial) (coefficients : TermsSumBySet) (unique : CoefficientsDetermine) where
  -- by a right partition states of a block have the same sums into each set that no block cuts
  pub sums_agree : (m : ModelData) (block : Partition) (inside : ℕ → Bool) → IsModel m → IsRight m block → IsUnion m block inside → (s t : ℕ) → AreTogether m block s t → is_goal m s ≡ false
      → sum_into inside (row_at m s 0) ≡ sum_into inside (row_at m t 0)
  sums_agree m block inside is right union s t together no_goal =
      unique (sum_into inside (row_at m s 0)) (sum_into inside (row_at m t 0)) (polynomial (terms_into inside (row_at m s 0))) (polynomial (terms_into inside (row_at m t 0)))
      (λ set. coefficients (terms_into inside (row_at m s 0)) set
      ∙ agree m block inside union (coefficient set) (coefficients-add set) (row_at m s 0) (row_at m t 0) (targets_inside m is s) (targets_inside m is t)
      (λ b. sym (coefficients (terms_into (in_block block b) (row_at m s 0)) set) ∙ ap (coefficient set) (right.sums s t b together no_goal) ∙ coefficients (terms_into (in_block block b) (row_at m t 0)) set)
      ∙ sym (coefficients (terms_into inside (row_at m t 0)) set))

  pub splits_keep : SplitsKeep
  splits_keep m old new inside is above union split other right s t together =
      let wider : (i j : ℕ) → AreTogether m other i j → AreTogether m old i j = λ i j h. record { states = h.states; same = above other right i j h } in
      split s t (wider s t together) (right.goals s t together)
      (λ no_goal. sums_agree m other inside is right (λ i j h. union i j (wider i j h)) s t together no_goal)
