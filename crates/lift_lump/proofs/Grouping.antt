-- Sums over the entries of a row, block by block.
use Rattle.std.proofs.Common.{◌⊎◌, inl, inr, ◌≡◌, ℕ, zero, suc, ◌<◌, true, false, cond, List, [], ◌∷◌, ◌++◌, ℤ, pos, ◌+ℤ◌, ◌*ℤ◌, All, refl, sym, ap, ◌∙◌, arith, ltb, nat_eq}
use Rattle.std.proofs.lemmas.List.Elements.{All-head, All-tail}
use Rattle.std.proofs.lemmas.Bool.Decides.{nat_tests}
use Rattle.lift_poly.proofs.Ring.{linear, zero-mul, add-mul}
use Rattle.lift_poly.specs.Polynomial.{Term}
use Rattle.lift_model.specs.declared.entry.Entry.{Entry}
use Rattle.lift_lump.specs.Lumping.{Partition, terms_into, in_block}

-- what is additive in the terms
pub record IsAdditive (φ : List Term → ℤ) : Type 0 where
  pub none : φ [] ≡ pos 0
  pub append : (ts us : List Term) → φ (ts ++ us) ≡ φ ts +ℤ φ us

module _ (φ : List Term → ℤ) (additive : IsAdditive φ) (block : Partition) (x : ℕ → ℤ) where
  -- entry by entry
  abbrev pub flat : List Entry → ℤ
  flat [] = pos 0
  flat (e ∷ row) = φ e.poly *ℤ x (block e.target) +ℤ flat row

  -- block by block, over the first blocks
  abbrev pub grouped : ℕ → List Entry → ℤ
  grouped zero row = pos 0
  grouped (suc b) row = grouped b row +ℤ φ (terms_into (in_block block b) row) *ℤ x b

  -- the entries into the first blocks alone
  abbrev part : ℕ → List Entry → ℤ
  part count [] = pos 0
  part count (e ∷ row) = cond (ltb (block e.target) count) (φ e.poly *ℤ x (block e.target)) (pos 0) +ℤ part count row

  part-none : (row : List Entry) → part 0 row ≡ pos 0
  part-none [] = refl
  part-none (e ∷ row) =
      let below : ltb (block e.target) 0 ≡ false = grind (arith, nat_tests) in
      rw below (omega (arith, linear, part-none row))

  -- one entry, with one block more
  step-below : (b k : ℕ) (w : List Term) → k < b → cond (ltb k (suc b)) (φ w *ℤ x k) (pos 0) ≡ cond (ltb k b) (φ w *ℤ x k) (pos 0) +ℤ φ (cond (nat_eq k b) w []) *ℤ x b
  step-below b k w lt =
      let none = additive.none in
      let zero-times = zero-mul (x b) in
      let a : ltb k (suc b) ≡ true = grind (arith, nat_tests) in
      let c : ltb k b ≡ true = grind (arith, nat_tests) in
      let d : nat_eq k b ≡ false = grind (arith, nat_tests) in
      rw (a, c, d, none, zero-times) (omega (arith, linear))

  step-here : (b k : ℕ) (w : List Term) → k ≡ b → cond (ltb k (suc b)) (φ w *ℤ x k) (pos 0) ≡ cond (ltb k b) (φ w *ℤ x k) (pos 0) +ℤ φ (cond (nat_eq k b) w []) *ℤ x b
  step-here b k w e =
      let a : ltb k (suc b) ≡ true = grind (arith, nat_tests) in
      let c : ltb k b ≡ false = grind (arith, nat_tests) in
      let d : nat_eq k b ≡ true = grind (arith, nat_tests) in
      let f : φ w *ℤ x k ≡ φ w *ℤ x b = ap (λ i. φ w *ℤ x i) e in
      rw (a, c, d) (omega (arith, linear, f))

  step-behind : (b k : ℕ) (w : List Term) → b < k → cond (ltb k (suc b)) (φ w *ℤ x k) (pos 0) ≡ cond (ltb k b) (φ w *ℤ x k) (pos 0) +ℤ φ (cond (nat_eq k b) w []) *ℤ x b
  step-behind b k w lt =
      let none = additive.none in
      let zero-times = zero-mul (x b) in
      let a : ltb k (suc b) ≡ false = grind (arith, nat_tests) in
      let c : ltb k b ≡ false = grind (arith, nat_tests) in
      let d : nat_eq k b ≡ false = grind (arith, nat_tests) in
      rw (a, c, d, none, zero-times) (omega (arith, linear))

  step-one : (b k : ℕ) (w : List Term) → cond (ltb k (suc b)) (φ w *ℤ x k) (pos 0) ≡ cond (ltb k b) (φ w *ℤ x k) (pos 0) +ℤ φ (cond (nat_eq k b) w []) *ℤ x b
  step-one b k w = three (order k b)
    where
      order : (k b : ℕ) → (k < b) ⊎ ((k ≡ b) ⊎ (b < k))
      order k b = grind arith

      three : (k < b) ⊎ ((k ≡ b) ⊎ (b < k)) → cond (ltb k (suc b)) (φ w *ℤ x k) (pos 0) ≡ cond (ltb k b) (φ w *ℤ x k) (pos 0) +ℤ φ (cond (nat_eq k b) w []) *ℤ x b
      three (inl lt) = step-below b k w lt
      three (inr (inl e)) = step-here b k w e
      three (inr (inr lt)) = step-behind b k w lt

  part-more : (b : ℕ) (row : List Entry) → part (suc b) row ≡ part b row +ℤ φ (terms_into (in_block block b) row) *ℤ x b
  part-more b [] = omega (arith, linear, zero-mul (x b), ap (λ z. z *ℤ x b) additive.none)
  part-more b (e ∷ row) =
      let here = step-one b (block e.target) e.poly in
      let there = part-more b row in
      let sum = ap (λ z. z *ℤ x b) (additive.append (cond (nat_eq (block e.target) b) e.poly []) (terms_into (in_block block b) row)) in
      let apart = add-mul (φ (cond (nat_eq (block e.target) b) e.poly [])) (φ (terms_into (in_block block b) row)) (x b) in
      omega (arith, linear, here, there, sum, apart)

  part-all : (count : ℕ) (row : List Entry) → All (λ (e : Entry). block e.target < count) row → part count row ≡ flat row
  part-all count [] all = refl
  part-all count (e ∷ row) all =
      let lt : block e.target < count = All-head (λ (e : Entry). block e.target < count) e row all in
      let there = part-all count row (All-tail (λ (e : Entry). block e.target < count) e row all) in
      let a : ltb (block e.target) count ≡ true = grind (arith, nat_tests) in
      rw a (ap (λ z. φ e.poly *ℤ x (block e.target) +ℤ z) there)

  grouped-part : (count : ℕ) (row : List Entry) → grouped count row ≡ part count row
  grouped-part zero row = sym (part-none row)
  grouped-part (suc b) row = omega (arith, linear, grouped-part b row, part-more b row)

  -- summed block by block, a row sums to what it sums to entry by entry
  pub grouped-flat : (count : ℕ) (row : List Entry) → All (λ (e : Entry). block e.target < count) row → grouped count row ≡ flat row
  grouped-flat count row all = grouped-part count row ∙ part-all count row all
