-- What the entries of a quotient's row are: how many, their targets, their sets, their sizes.
use Rattle.std.proofs.Common.{◌≡◌, ◌≢◌, ◌⊎◌, inl, inr, ℕ, zero, suc, ◌+◌, ◌<◌, ◌≤◌, Bool, true, false, cond, List, [], ◌∷◌, ◌++◌, pos, ◌+ℤ◌, All, AllPairs, nat_eq, nat_lt, int_eq, ltb, sym, subst, arith}
use Rattle.std.proofs.lemmas.List.{append-nil}
use Rattle.std.proofs.lemmas.List.Elements.{All-nil, All-cons, All-head, All-tail, All-append}
use Rattle.std.proofs.lemmas.List.Quantifiers.{all_pairs_push}
use Rattle.std.proofs.lemmas.Bool.Decides.{nat_tests}
use Rattle.lift_poly.specs.Polynomial.{Term}
use Rattle.lift_poly.specs.Arithmetic.{kept, with_term, collected}
use Rattle.lift_model.specs.declared.entry.Entry.{Entry}
use Rattle.lift_lump.specs.Lumping.{Partition, terms_into, sum_into, in_block}
use Rattle.lift_lump.specs.Quotient.{one_entry, entries_into}

-- either of two things
pub either : {X : Type 0} (Q : X → Type 0) (b : Bool) (x y : X) → Q x → Q y → Q (cond b x y)
either Q true x y p q = p
either Q false x y p q = q

-- ---- sets of what terms sum to

module _ (P : ℕ → Type 0) where
  abbrev pub HaveSets : List Term → Type 0
  HaveSets ts = All (λ (t : Term). P t.0) ts

  kept-sets : (t : Term) (ts : List Term) → P t.0 → HaveSets ts → HaveSets (kept t ts)
  kept-sets t ts p all = either HaveSets (int_eq t.1 (pos 0)) ts (t ∷ ts) all (All-cons (λ (u : Term). P u.0) t ts p all)

  with-sets : (t : Term) (ts : List Term) → P t.0 → HaveSets ts → HaveSets (with_term t ts)
  with-sets t [] p all = kept-sets t [] p all
  with-sets t (first ∷ others) p all =
      let here : P first.0 = All-head (λ (u : Term). P u.0) first others all in
      let there : HaveSets others = All-tail (λ (u : Term). P u.0) first others all in
      either HaveSets (nat_lt t.0 first.0) (kept t (first ∷ others)) (cond (nat_eq t.0 first.0) (kept (first.0, t.1 +ℤ first.1) others) (first ∷ with_term t others))
      (kept-sets t (first ∷ others) p all)
      (either HaveSets (nat_eq t.0 first.0) (kept (first.0, t.1 +ℤ first.1) others) (first ∷ with_term t others)
      (kept-sets (first.0, t.1 +ℤ first.1) others here there)
      (All-cons (λ (u : Term). P u.0) first (with_term t others) here (with-sets t others p there)))

  pub collected-sets : (ts : List Term) → HaveSets ts → HaveSets (collected ts)
  collected-sets [] all = all
  collected-sets (t ∷ ts) all = with-sets t (collected ts) (All-head (λ (u : Term). P u.0) t ts all) (collected-sets ts (All-tail (λ (u : Term). P u.0) t ts all))

  pub into-sets : (inside : ℕ → Bool) (row : List Entry) → All (λ (e : Entry). HaveSets e.poly) row → HaveSets (terms_into inside row)
  into-sets inside [] all = All-nil (λ (u : Term). P u.0)
  into-sets inside (e ∷ row) all =
      All-append (λ (u : Term). P u.0) (cond (inside e.target) e.poly []) (terms_into inside row)
      (either HaveSets (inside e.target) e.poly [] (All-head (λ (e : Entry). HaveSets e.poly) e row all) (All-nil (λ (u : Term). P u.0)))
      (into-sets inside row (All-tail (λ (e : Entry). HaveSets e.poly) e row all))

-- ---- what holds of each entry

module _ (P : Entry → Type 0) (block : Partition) (row : List Entry) where
  one-holds : (b : ℕ) (terms : List Term) → P (record { target = b; poly = terms }) → All P (one_entry b terms)
  one-holds b [] p = All-nil P
  one-holds b (t ∷ ts) p = All-cons P (record { target = b; poly = t ∷ ts }) [] p (All-nil P)

  pub entries-hold : (count : ℕ) → ((b : ℕ) → b < count → P (record { target = b; poly = sum_into (in_block block b) row })) → All P (entries_into block row count)
  entries-hold zero each = All-nil P
  entries-hold (suc b) each = All-append P (entries_into block row b) (one_entry b (sum_into (in_block block b) row)) (entries-hold b (λ k lt. each k (omega (arith, lt)))) (one-holds b (sum_into (in_block block b) row) (each b (omega arith)))

-- each target stands once
module _ (block : Partition) (row : List Entry) where
  below : (count : ℕ) → All (λ (e : Entry). e.target < count) (entries_into block row count)
  below count = entries-hold (λ (e : Entry). e.target < count) block row count (λ b lt. lt)

  abbrev Apart : List Entry → Type 0
  Apart xs = AllPairs (λ (a b : Entry). a.target ≢ b.target) xs

  push-apart : (xs : List Entry) (b : ℕ) (terms : List Term) → Apart xs → All (λ (e : Entry). e.target < b) xs → Apart (xs ++ one_entry b terms)
  push-apart xs b [] apart low = subst Apart (sym (append-nil xs)) apart
  push-apart xs b (t ∷ ts) apart low = all_pairs_push (λ (a b : Entry). a.target ≢ b.target) xs (record { target = b; poly = t ∷ ts }) apart (λ k d lt e. let l = low k d lt in absurd (omega (arith, l, e)))

  pub entries-apart : (count : ℕ) → Apart (entries_into block row count)
  entries-apart zero = λ i j d lt le. absurd (omega (arith, le))
  entries-apart (suc b) = push-apart (entries_into block row b) b (sum_into (in_block block b) row) (entries-apart b) (below b)

-- ---- how many, and how large: what is counted of the terms of a row is counted at most once
module _ (block : Partition) (size : List Term → ℕ) where
  -- over the entries below a count
  abbrev pub part : ℕ → List Entry → ℕ
  part count [] = 0
  part count (e ∷ row) = cond (ltb (block e.target) count) (size e.poly) 0 + part count row

  -- over the entries into one block
  abbrev pub at_block : ℕ → List Entry → ℕ
  at_block b [] = 0
  at_block b (e ∷ row) = cond (nat_eq (block e.target) b) (size e.poly) 0 + at_block b row

  step : (k b n : ℕ) → cond (ltb k b) n 0 + cond (nat_eq k b) n 0 ≤ cond (ltb k (suc b)) n 0
  step k b n = by (order k b)
    where
      order : (k b : ℕ) → (k < b) ⊎ ((k ≡ b) ⊎ (b < k))
      order k b = grind arith

      by : (k < b) ⊎ ((k ≡ b) ⊎ (b < k)) → cond (ltb k b) n 0 + cond (nat_eq k b) n 0 ≤ cond (ltb k (suc b)) n 0
      by (inl lt) =
          let a : ltb k (suc b) ≡ true = grind (arith, nat_tests) in
          let c : ltb k b ≡ true = grind (arith, nat_tests) in
          let d : nat_eq k b ≡ false = grind (arith, nat_tests) in
          rw (a, c, d) (omega arith)
      by (inr (inl e)) =
          let a : ltb k (suc b) ≡ true = grind (arith, nat_tests) in
          let c : ltb k b ≡ false = grind (arith, nat_tests) in
          let d : nat_eq k b ≡ true = grind (arith, nat_tests) in
          rw (a, c, d) (omega arith)
      by (inr (inr lt)) =
          let c : ltb k b ≡ false = grind (arith, nat_tests) in
          let d : nat_eq k b ≡ false = grind (arith, nat_tests) in
          rw (c, d) (omega arith)

  part-more : (b : ℕ) (row : List Entry) → part b row + at_block b row ≤ part (suc b) row
  part-more b [] = omega arith
  part-more b (e ∷ row) = omega (arith, step (block e.target) b (size e.poly), part-more b row)

  abbrev pub total : List Entry → ℕ
  total [] = 0
  total (e ∷ row) = size e.poly + total row

  part-total : (count : ℕ) (row : List Entry) → part count row ≤ total row
  part-total count [] = omega arith
  part-total count (e ∷ row) = omega (arith, either (λ n. n ≤ size e.poly) (ltb (block e.target) count) (size e.poly) 0 (omega arith) (omega arith), part-total count row)

  -- a measure of lists of entries that grows by at most what is at the block
  pub measured : (measure : List Entry → ℕ) → measure [] ≡ 0 → (row : List Entry)
      → ((xs : List Entry) (b : ℕ) → measure (xs ++ one_entry b (sum_into (in_block block b) row)) ≤ measure xs + at_block b row)
      → (count : ℕ) → measure (entries_into block row count) ≤ total row
  measured measure none row grows count = omega (arith, upto count, part-total count row)
    where
      upto : (count : ℕ) → measure (entries_into block row count) ≤ part count row
      upto zero = omega (arith, none)
      upto (suc b) = omega (arith, grows (entries_into block row b) b, upto b, part-more b row)
