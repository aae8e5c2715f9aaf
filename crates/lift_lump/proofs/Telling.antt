-- The entries of a quotient's row tell the sums into each block.
use Rattle.std.proofs.Common.{append_assoc, ◌≡◌, ◌≢◌, ◌⊎◌, inl, inr, ℕ, zero, suc, ◌<◌, ◌≤◌, true, false, cond, List, [], ◌∷◌, ◌++◌, All, nat_eq, refl, sym, ap, ap₂, ◌∙◌, arith}
use Rattle.std.proofs.lemmas.List.{append-nil}
use Rattle.std.proofs.lemmas.List.Elements.{All-head, All-tail}
use Rattle.std.proofs.lemmas.Bool.Decides.{nat_tests}
use Rattle.lift_poly.specs.Polynomial.{Term}
use Rattle.lift_poly.specs.Arithmetic.{collected}
use Rattle.lift_model.specs.declared.entry.Entry.{Entry}
use Rattle.lift_lump.specs.Lumping.{Partition, terms_into, sum_into, in_block}
use Rattle.lift_lump.specs.Quotient.{one_entry, entries_into}
use Rattle.lift_lump.specs.Laws.{EntriesTellSums}
use Rattle.lift_lump.proofs.Sides.{side}

-- the entries to one target
abbrev pub entries_to : ℕ → List Entry → List Term
entries_to b row = terms_into (λ u. nat_eq u b) row

pub to-append : (b : ℕ) (xs ys : List Entry) → entries_to b (xs ++ ys) ≡ entries_to b xs ++ entries_to b ys
to-append b [] ys = refl
to-append b (e ∷ xs) ys = ap (λ (r : List Term). cond (nat_eq e.target b) e.poly [] ++ r) (to-append b xs ys) ∙ sym (append_assoc (cond (nat_eq e.target b) e.poly []) (entries_to b xs) (entries_to b ys))

to-here : (b k : ℕ) (terms : List Term) → k ≡ b → entries_to b (one_entry k terms) ≡ terms
to-here b k [] e = refl
to-here b k (t ∷ ts) e =
    let test : nat_eq k b ≡ true = grind (arith, nat_tests) in
    rw test (append-nil (t ∷ ts))

to-other : (b k : ℕ) (terms : List Term) → k ≢ b → entries_to b (one_entry k terms) ≡ []
to-other b k [] ne = refl
to-other b k (t ∷ ts) ne =
    let test : nat_eq k b ≡ false = grind (arith, nat_tests) in
    rw test refl

module _ (block : Partition) (row : List Entry) where
  to-none : (b count : ℕ) → count ≤ b → entries_to b (entries_into block row count) ≡ []
  to-none b zero le = refl
  to-none b (suc count) le =
      let ne : count ≢ b = grind (arith, le) in
      to-append b (entries_into block row count) (one_entry count (sum_into (in_block block count) row))
      ∙ ap₂ (λ (xs ys : List Term). xs ++ ys) (to-none b count (omega (arith, le))) (to-other b count (sum_into (in_block block count) row) ne)

  to-sum : (b count : ℕ) → b < count → entries_to b (entries_into block row count) ≡ sum_into (in_block block b) row
  to-sum b zero lt = absurd (omega (arith, lt))
  to-sum b (suc count) lt =
      to-append b (entries_into block row count) (one_entry count (sum_into (in_block block count) row))
      ∙ by (side b count) (λ less. to-sum b count less)
    where
      by : (b < count) ⊎ (count ≤ b) → (b < count → entries_to b (entries_into block row count) ≡ sum_into (in_block block b) row)
          → entries_to b (entries_into block row count) ++ entries_to b (one_entry count (sum_into (in_block block count) row)) ≡ sum_into (in_block block b) row
      by (inl less) rest =
          let ne : count ≢ b = grind (arith, less) in
          ap₂ (λ (xs ys : List Term). xs ++ ys) (rest less) (to-other b count (sum_into (in_block block count) row) ne) ∙ append-nil (sum_into (in_block block b) row)
      by (inr least) rest =
          let same : count ≡ b = omega (arith, least, lt) in
          ap₂ (λ (xs ys : List Term). xs ++ ys) (to-none b count least) (to-here b count (sum_into (in_block block count) row) same)
          ∙ ap (λ k. sum_into (in_block block k) row) same

  -- no entry leads into a block that isn't there
  terms-past : (b count : ℕ) → count ≤ b → (rest : List Entry) → All (λ (e : Entry). block e.target < count) rest → terms_into (in_block block b) rest ≡ []
  terms-past b count le [] all = refl
  terms-past b count le (e ∷ rest) all =
      let below : block e.target < count = All-head (λ (e : Entry). block e.target < count) e rest all in
      let test : nat_eq (block e.target) b ≡ false = grind (arith, nat_tests, below, le) in
      rw test (terms-past b count le rest (All-tail (λ (e : Entry). block e.target < count) e rest all))

pub entries_tell : EntriesTellSums
entries_tell block left right count b lefts rights same = by (side b count)
  where
    by : (b < count) ⊎ (count ≤ b) → sum_into (in_block block b) left ≡ sum_into (in_block block b) right
    by (inl less) = sym (to-sum block left b count less) ∙ ap (entries_to b) same ∙ to-sum block right b count less
    by (inr past) = ap collected (terms-past block left b count past left lefts ∙ sym (terms-past block right b count past right rights))
