-- Blocks that are numbered by their least states are told by the partition.
use Rattle.std.proofs.Common.{◌≡◌, ◌⊎◌, inl, inr, ℕ, zero, suc, ◌<◌, ◌≤◌, List, length, refl, sym, ap, ap₂, ◌∙◌, arith}
use Rattle.std.proofs.lemmas.List.{same_lists, get_or_default}
use Rattle.std.proofs.lemmas.List.Kept.{AllPairs-from_increasing}
use Rattle.lift_lump.specs.Quotient.{Blocks, block, first, AreNumbered}
use Rattle.lift_lump.specs.Laws.{CoarsestIsOne}

-- what rises lies at or above its argument
pub at_or_above : (f : ℕ → ℕ) (n : ℕ) → ((i j : ℕ) → i < j → j < n → f i < f j) → (i : ℕ) → i < n → i ≤ f i
at_or_above f n rises zero lt = omega arith
at_or_above f n rises (suc i) lt =
    let before : i < n = omega (arith, lt) in
    let here = at_or_above f n rises i before in
    let next : f i < f (suc i) = rises i (suc i) (omega arith) lt in
    omega (arith, here, next)

module _ (n : ℕ) (p q : Blocks) (np : AreNumbered n p) (nq : AreNumbered n q) (to : (s t : ℕ) → s < n → t < n → block p s ≡ block p t → block q s ≡ block q t) (back : (s t : ℕ) → s < n → t < n → block q s ≡ block q t → block p s ≡ block p t) where
  -- the least state of a block of p is the least state of a block of q
  pub least_too : (i : ℕ) → i < length p.firsts → first q (block q (first p i)) ≡ first p i
  least_too i lt =
      let l = first p i in
      let here = np.least i lt in
      let at = nq.inside l here.0 in
      let k = first q (block q l) in
      let there = nq.least (block q l) at.0 in
      let same : block p k ≡ block p l = back k l there.0 here.0 there.1 in
      let low : first p (block p k) ≤ k = (np.inside k there.0).1 in
      let is : first p (block p k) ≡ l = ap (first p) (same ∙ here.1) in
      omega (arith, low, is, at.1)

  -- so these rise with the blocks of p
  rises : (i j : ℕ) → i < j → j < length p.firsts → block q (first p i) < block q (first p j)
  rises i j lt le = by (side (block q (first p i)) (block q (first p j)))
    where
      below : first p i < first p j
      below = AllPairs-from_increasing p.firsts np.ascending i j 0 lt le

      a : first q (block q (first p i)) ≡ first p i
      a = least_too i (omega (arith, lt, le))

      b : first q (block q (first p j)) ≡ first p j
      b = least_too j le

      inside : block q (first p i) < length q.firsts
      inside = (nq.inside (first p i) ((np.least i (omega (arith, lt, le))).0)).0

      side : (x y : ℕ) → (x < y) ⊎ ((x ≡ y) ⊎ (y < x))
      side x y = grind arith

      by : (block q (first p i) < block q (first p j)) ⊎ ((block q (first p i) ≡ block q (first p j)) ⊎ (block q (first p j) < block q (first p i))) → block q (first p i) < block q (first p j)
      by (inl less) = less
      by (inr (inl same)) = absurd (omega (arith, a, b, below, ap (first q) same))
      by (inr (inr more)) = absurd (omega (arith, a, b, below, AllPairs-from_increasing q.firsts nq.ascending (block q (first p j)) (block q (first p i)) 0 more inside))

  pub up : (i : ℕ) → i < length p.firsts → i ≤ block q (first p i)
  up i lt = at_or_above (λ k. block q (first p k)) (length p.firsts) rises i lt

module _ (n : ℕ) (p q : Blocks) (np : AreNumbered n p) (nq : AreNumbered n q) (to : (s t : ℕ) → s < n → t < n → block p s ≡ block p t → block q s ≡ block q t) (back : (s t : ℕ) → s < n → t < n → block q s ≡ block q t → block p s ≡ block p t) where
  -- a block of p has its own number in q
  same_number : (i : ℕ) → i < length p.firsts → block q (first p i) ≡ i
  same_number i lt =
      let j = block q (first p i) in
      let state : first p i < n = (np.least i lt).0 in
      let inside : j < length q.firsts = (nq.inside (first p i) state).0 in
      let above : i ≤ j = up n p q np nq to back i lt in
      let over : j ≤ block p (first q j) = up n q p nq np back to j inside in
      let is : block p (first q j) ≡ i = ap (block p) (least_too n p q np nq to back i lt) ∙ (np.least i lt).1 in
      omega (arith, above, over, is)

  as_many : length p.firsts ≤ length q.firsts
  as_many = count (length p.firsts) refl
    where
      count : (k : ℕ) → length p.firsts ≡ k → length p.firsts ≤ length q.firsts
      count zero e = omega (arith, e)
      count (suc k) e =
          let lt : k < length p.firsts = omega (arith, e) in
          let inside = (nq.inside (first p k) ((np.least k lt).0)).0 in
          omega (arith, inside, same_number k lt, e)

  pub first_too : (i : ℕ) → i < length p.firsts → first p i ≡ first q i
  first_too i lt = sym (least_too n p q np nq to back i lt) ∙ ap (first q) (same_number i lt)

  pub block_too : (s : ℕ) → s < n → block p s ≡ block q s
  block_too s lt =
      let b = (np.inside s lt).0 in
      let l = np.least (block p s) b in
      sym (same_number (block p s) b) ∙ to (first p (block p s)) s l.0 lt l.1

  pub no_more : length p.firsts ≤ length q.firsts
  no_more = as_many

one_blocks : (n : ℕ) (p q : Blocks) → AreNumbered n p → AreNumbered n q → ((s t : ℕ) → s < n → t < n → block p s ≡ block p t → block q s ≡ block q t) → ((s t : ℕ) → s < n → t < n → block q s ≡ block q t → block p s ≡ block p t) → p ≡ q
one_blocks n p q np nq to back =
    let less = no_more n p q np nq to back in
    let more = no_more n q p nq np back to in
    let many : length p.firsts ≡ length q.firsts = omega (arith, less, more) in
    let firsts : p.firsts ≡ q.firsts = same_lists p.firsts q.firsts many (λ k d lt. get_or_default p.firsts k d 0 lt ∙ first_too n p q np nq to back k lt ∙ get_or_default q.firsts k 0 d (omega (arith, lt, many))) in
    let states : p.of_states ≡ q.of_states = same_lists p.of_states q.of_states (np.count ∙ sym nq.count) (λ k d lt. get_or_default p.of_states k d 0 lt ∙ block_too n p q np nq to back k (omega (arith, lt, np.count)) ∙ get_or_default q.of_states k 0 d (omega (arith, lt, np.count, nq.count))) in
    ap₂ (λ (xs ys : List ℕ). record { of_states = xs; firsts = ys }) states firsts

pub coarsest_one : CoarsestIsOne
coarsest_one m p q cp cq np nq =
    one_blocks (length m.states) p q np nq
    (λ s t s_in t_in same. cq.above (block p) cp.right s t (record { states = (s_in, t_in); same = same }))
    (λ s t s_in t_in same. cp.above (block q) cq.right s t (record { states = (s_in, t_in); same = same }))
