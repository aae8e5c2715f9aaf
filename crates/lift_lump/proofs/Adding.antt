-- The sums of a row's entries into each block, as they are made and taken.
use Rattle.std.proofs.Common.{◌≡◌, ◌≢◌, ◌⊎◌, inl, inr, ℕ, zero, suc, ◌+◌, ◌<◌, ◌≤◌, Bool, true, false, cond, List, [], ◌∷◌, ◌++◌, length, get_or, set, take, All, Contains, nat_eq, append_assoc, refl, sym, ap, ap₂, ◌∙◌, subst, arith}
use Rattle.std.specs.List.Sorted.{IsNonDecreasing, IsPermutation}
use Rattle.std.proofs.lemmas.List.{get_or-set_same, get_or-set_other, get_or_append_left, get_or_push, get_or_past, get_or_default, length-set, length_push, take_more, take_all, append-nil}
use Rattle.std.proofs.lemmas.List.Elements.{All-push, Contains-append_left, Contains-push}
use Rattle.std.proofs.lemmas.List.Sorted.{Contains-permutation, All-permutation}
use Rattle.std.proofs.lemmas.Bool.Decides.{nat_tests}
use Rattle.lift_poly.proofs.Ring.{linear}
use Rattle.lift_poly.specs.Polynomial.{Term, IsPolynomial}
use Rattle.lift_poly.specs.Arithmetic.{coefficient, collected}
use Rattle.lift_poly.specs.Arithmetic as polynomial
use Rattle.lift_poly.specs.Laws.{TermsSumToPolynomial, TermsSumBySet, CoefficientsDetermine}
use Rattle.lift_model.specs.declared.entry.Entry.{Entry}
use Rattle.lift_lump.specs.Lumping.{Partition, terms_into, sum_into, in_block}
use Rattle.lift_lump.specs.Quotient.{one_entry, entries_into}
use Rattle.lift_lump.specs.Search.{number_at}
use Rattle.lift_lump.specs.Summing.{sum_at, entries_of, AreVisitedBlocks}
use Rattle.lift_lump.proofs.Keeping.{coefficient-append}
use Rattle.lift_lump.proofs.Sides.{side, same_or_not}

none_or_some : (ts : List Term) → (ts ≡ []) ⊎ (ts ≢ [])
none_or_some [] = inl refl
none_or_some (t ∷ ts) = inr (λ e. cc)

pub none_from_length : (ts : List Term) → length ts ≡ 0 → ts ≡ []
none_from_length [] e = refl
none_from_length (t ∷ ts) e = absurd (omega (arith, e))

-- ---- sums of polynomials

module _ (to_polynomial : TermsSumToPolynomial) (coefficients : TermsSumBySet) (unique : CoefficientsDetermine) where
  pub own_sum : (ts : List Term) → IsPolynomial ts → ts ≡ collected ts
  own_sum ts is = unique ts (collected ts) is (to_polynomial ts) (λ set. sym (coefficients ts set))

  pub sum_more : (ts us : List Term) → collected (collected ts ++ us) ≡ collected (ts ++ us)
  sum_more ts us = unique (collected (collected ts ++ us)) (collected (ts ++ us)) (to_polynomial (collected ts ++ us)) (to_polynomial (ts ++ us)) (λ set.
      let a = coefficients (collected ts ++ us) set in
      let b = coefficient-append set (collected ts) us in
      let c = coefficients ts set in
      let d = coefficient-append set ts us in
      let e = coefficients (ts ++ us) set in
      omega (arith, linear, a, b, c, d, e))

-- ---- one entry more

into-append : (inside : ℕ → Bool) (xs ys : List Entry) → terms_into inside (xs ++ ys) ≡ terms_into inside xs ++ terms_into inside ys
into-append inside [] ys = refl
into-append inside (e ∷ xs) ys = ap (λ (r : List Term). cond (inside e.target) e.poly [] ++ r) (into-append inside xs ys) ∙ sym (append_assoc (cond (inside e.target) e.poly []) (terms_into inside xs) (terms_into inside ys))

-- the sums of the first entries of a row, so many, into so many blocks
pub record AreSumsOf (block : Partition) (row : List Entry) (i count : ℕ) (sums : List (List Term)) : Type 0 where
  pub size : length sums ≡ count
  pub each : (b : ℕ) → b < count → sum_at sums b ≡ sum_into (in_block block b) (take i row)

pub sums_none : (block : Partition) (row : List Entry) (sums : List (List Term)) → ((b : ℕ) → sum_at sums b ≡ []) → AreSumsOf block row 0 (length sums) sums
sums_none block row sums none = record { size = refl; each = λ b lt. none b }

module _ (to_polynomial : TermsSumToPolynomial) (coefficients : TermsSumBySet) (unique : CoefficientsDetermine) where
  pub sums_more : (block : Partition) (row : List Entry) (i count : ℕ) (entry : Entry) (old : List (List Term)) → i < length row → get_or row i entry ≡ entry → block entry.target < count → AreSumsOf block row i count old
      → AreSumsOf block row (i + 1) count (set old (block entry.target) (polynomial.sum (sum_at old (block entry.target)) entry.poly))
  sums_more block row i count entry old lt is target are = record {
    size = length-set old (block entry.target) (polynomial.sum (sum_at old (block entry.target)) entry.poly) ∙ are.size;
    each = λ b b_in. by b b_in (same_or_not b (block entry.target));
  }
    where
      target_in : block entry.target < length old
      target_in = let e = are.size in omega (arith, target, e)

      taken : (b : ℕ) → terms_into (in_block block b) (take (i + 1) row) ≡ terms_into (in_block block b) (take i row) ++ terms_into (in_block block b) (entry ∷ [])
      taken b = ap (terms_into (in_block block b)) (take_more row i entry lt ∙ ap (λ (e : Entry). take i row ++ e ∷ []) is) ∙ into-append (in_block block b) (take i row) (entry ∷ [])

      into_here : (b : ℕ) → b ≡ block entry.target → terms_into (in_block block b) (entry ∷ []) ≡ entry.poly
      into_here b e =
          let test : nat_eq (block entry.target) b ≡ true = grind (arith, nat_tests, e) in
          rw test (append-nil entry.poly)

      into_other : (b : ℕ) → b ≢ block entry.target → terms_into (in_block block b) (entry ∷ []) ≡ []
      into_other b ne =
          let test : nat_eq (block entry.target) b ≡ false = grind (arith, nat_tests, ne) in
          rw test refl

      by : (b : ℕ) → b < count → (b ≡ block entry.target) ⊎ (b ≢ block entry.target) → sum_at (set old (block entry.target) (polynomial.sum (sum_at old (block entry.target)) entry.poly)) b ≡ sum_into (in_block block b) (take (i + 1) row)
      by b b_in (inl e) =
          ap (sum_at (set old (block entry.target) (polynomial.sum (sum_at old (block entry.target)) entry.poly))) e
          ∙ get_or-set_same old (block entry.target) (polynomial.sum (sum_at old (block entry.target)) entry.poly) [] target_in
          ∙ ap (λ k. collected (sum_at old k ++ entry.poly)) (sym e)
          ∙ ap (λ (ts : List Term). collected (ts ++ entry.poly)) (are.each b b_in)
          ∙ sum_more to_polynomial coefficients unique (terms_into (in_block block b) (take i row)) entry.poly
          ∙ ap (λ (ts : List Term). collected (terms_into (in_block block b) (take i row) ++ ts)) (sym (into_here b e))
          ∙ ap collected (sym (taken b))
      by b b_in (inr ne) =
          get_or-set_other old (block entry.target) b (polynomial.sum (sum_at old (block entry.target)) entry.poly) [] ne
          ∙ are.each b b_in
          ∙ ap collected (sym (append-nil (terms_into (in_block block b) (take i row))) ∙ ap (λ (ts : List Term). terms_into (in_block block b) (take i row) ++ ts) (sym (into_other b ne)) ∙ sym (taken b))

pub sums_all : (block : Partition) (row : List Entry) (i count : ℕ) (sums : List (List Term)) → length row ≤ i → AreSumsOf block row i count sums → entries_of sums count ≡ entries_into block row count
sums_all block row i count sums past are = upto count (omega arith)
  where
    upto : (n : ℕ) → n ≤ count → entries_of sums n ≡ entries_into block row n
    upto zero le = refl
    upto (suc b) le = ap₂ (λ (xs ys : List Entry). xs ++ ys) (upto b (omega (arith, le))) (ap (one_entry b) (are.each b (omega (arith, le)) ∙ ap (sum_into (in_block block b)) (take_all i row past)))

-- ---- the blocks that are met

pub visited_none : (sums : List (List Term)) → ((b : ℕ) → sum_at sums b ≡ []) → (visited : List ℕ) → visited ≡ [] → AreVisitedBlocks sums visited
visited_none sums none visited is = record { some = λ b some. absurd (some (none b)); blocks = subst (All (λ b. b < length sums)) (sym is) (λ k d lt. absurd (let f : k < 0 = lt in omega (arith, f))) }

pub visited_more : (old : List (List Term)) (visited new : List ℕ) (block : ℕ) (poly : List Term) (is_first : Bool) → block < length old → is_first ≡ nat_eq (length (sum_at old block)) 0 → (is_first ≡ true → new ≡ visited ++ block ∷ []) → (is_first ≡ false → new ≡ visited)
    → AreVisitedBlocks old visited → AreVisitedBlocks (set old block poly) new
visited_more old visited new block poly is_first b_in is first other are = record {
  some = λ b some. by b some (same_or_not b block);
  blocks = subst (λ n. All (λ b. b < n) new) (sym (length-set old block poly)) (inside is_first refl);
}
  where
    inside : (b : Bool) → is_first ≡ b → All (λ b. b < length old) new
    inside true e = subst (All (λ b. b < length old)) (sym (first e)) (All-push (λ b. b < length old) visited block are.blocks b_in)
    inside false e = subst (All (λ b. b < length old)) (sym (other e)) are.blocks

    kept : (b : ℕ) → Contains visited b → (f : Bool) → is_first ≡ f → Contains new b
    kept b there true e = subst (λ (xs : List ℕ). Contains xs b) (sym (first e)) (Contains-append_left visited (block ∷ []) b there)
    kept b there false e = subst (λ (xs : List ℕ). Contains xs b) (sym (other e)) there

    here : (f : Bool) → is_first ≡ f → Contains new block
    here true e = subst (λ (xs : List ℕ). Contains xs block) (sym (first e)) (Contains-push visited block)
    here false e = kept block (are.some block (λ none. absurd (let f : true ≡ false = sym (is ∙ ap (λ (ts : List Term). nat_eq (length ts) 0) none) ∙ e in cc))) false e

    by : (b : ℕ) → sum_at (set old block poly) b ≢ [] → (b ≡ block) ⊎ (b ≢ block) → Contains new b
    by b some (inl e) = subst (Contains new) (sym e) (here is_first refl)
    by b some (inr ne) = kept b (are.some b (λ none. some (get_or-set_other old block b poly [] ne ∙ none))) is_first refl

-- ---- sums that are taken

pub record AreTaken (sums0 : List (List Term)) (visited : List ℕ) (i : ℕ) (sums : List (List Term)) (entries : List Entry) : Type 0 where
  pub bound : ℕ
  pub count : length sums ≡ length sums0
  pub bounded : bound ≤ length sums0
  pub below : (j : ℕ) → j < i → number_at visited j < bound
  pub reach : (j : ℕ) → i ≤ j → j < length visited → bound ≤ number_at visited j + 1
  pub left : (k : ℕ) → bound ≤ k → sum_at sums k ≡ sum_at sums0 k
  pub gone : (k : ℕ) → k < bound → sum_at sums k ≡ []
  pub made : entries ≡ entries_of sums0 bound

pub taken_none : (sums : List (List Term)) (visited : List ℕ) (entries : List Entry) → entries ≡ [] → AreTaken sums visited 0 sums entries
taken_none sums visited entries is = record {
  bound = 0;
  count = refl;
  bounded = omega arith;
  below = λ j lt. absurd (omega (arith, lt));
  reach = λ j le lt. omega arith;
  left = λ k le. refl;
  gone = λ k lt. absurd (omega (arith, lt));
  made = is;
}

skip : (sums : List (List Term)) (lo hi : ℕ) → lo ≤ hi → ((k : ℕ) → lo ≤ k → k < hi → sum_at sums k ≡ []) → entries_of sums hi ≡ entries_of sums lo
skip sums lo zero le none = ap (entries_of sums) (let e : 0 ≡ lo = omega (arith, le) in e)
skip sums lo (suc hi) le none = by (side hi lo) (λ low. skip sums lo hi low (λ k k_le k_lt. none k k_le (omega (arith, k_lt))))
  where
    by : (hi < lo) ⊎ (lo ≤ hi) → (lo ≤ hi → entries_of sums hi ≡ entries_of sums lo) → entries_of sums (suc hi) ≡ entries_of sums lo
    by (inl less) rest = ap (entries_of sums) (let e : suc hi ≡ lo = omega (arith, le, less) in e)
    by (inr low) rest =
        ap (λ (ts : List Term). entries_of sums hi ++ one_entry hi ts) (none hi low (omega arith)) ∙ append-nil (entries_of sums hi) ∙ rest low

module _ (sums0 : List (List Term)) (visited : List ℕ) (visited_are : AreVisitedBlocks sums0 visited) (sorted : IsNonDecreasing visited) where
  -- a block that isn't met from a place on, and lies above those before, has the sum 0
  unvisited : (i bound k : ℕ) → ((j : ℕ) → j < i → number_at visited j < bound) → bound ≤ k → ((j : ℕ) → i ≤ j → j < length visited → k < number_at visited j) → sum_at sums0 k ≡ []
  unvisited i bound k below le above = by (none_or_some (sum_at sums0 k))
    where
      at : (j : ℕ) → j < length visited → number_at visited j ≡ k → (j < i) ⊎ (i ≤ j) → ⊥
      at j lt is (inl before) = let low = below j before in omega (arith, low, is, le)
      at j lt is (inr from) = let high = above j from lt in omega (arith, high, is)

      by : (sum_at sums0 k ≡ []) ⊎ (sum_at sums0 k ≢ []) → sum_at sums0 k ≡ []
      by (inl none) = none
      by (inr some) =
          let there = visited_are.some k some in
          absurd (at there.0 there.1 (get_or_default visited there.0 0 k there.1 ∙ there.2) (side there.0 i))

  pub taken_more : (i b : ℕ) (sums : List (List Term)) (entries : List Entry) → i < length visited → number_at visited i ≡ b → AreTaken sums0 visited i sums entries → AreTaken sums0 visited (i + 1) (set sums b []) (entries ++ one_entry b (sum_at sums b))
  taken_more i b sums entries i_in is are = by (side b are.bound)
    where
      b_in : b < length sums0
      b_in = subst (λ k. k < length sums0) is (visited_are.blocks i 0 i_in)

      rises : (j : ℕ) → i ≤ j → j < length visited → b ≤ number_at visited j
      rises j le lt = subst (λ k. k ≤ number_at visited j) is (sorted i j 0 le lt)

      last : (j : ℕ) → j < i + 1 → i ≤ j → number_at visited j ≡ b
      last j lt le = ap (number_at visited) (let e : j ≡ i = omega (arith, lt, le) in e) ∙ is

      cleared : (k : ℕ) → (k ≡ b) ⊎ (k ≢ b) → sum_at sums k ≡ [] → sum_at (set sums b []) k ≡ []
      cleared k (inl e) none = ap (sum_at (set sums b [])) e ∙ get_or-set_same sums b [] [] (let c = are.count in omega (arith, b_in, c))
      cleared k (inr ne) none = get_or-set_other sums b k [] [] ne ∙ none

      by : (b < are.bound) ⊎ (are.bound ≤ b) → AreTaken sums0 visited (i + 1) (set sums b []) (entries ++ one_entry b (sum_at sums b))
      by (inl less) = record {
        bound = are.bound;
        count = length-set sums b [] ∙ are.count;
        bounded = are.bounded;
        below = λ j lt. below j lt (side j i);
        reach = λ j le lt. are.reach j (omega (arith, le)) lt;
        left = λ k le. get_or-set_other sums b k [] [] (λ e. absurd (omega (arith, e, le, less))) ∙ are.left k le;
        gone = λ k lt. cleared k (same_or_not k b) (are.gone k lt);
        made = ap (λ (ts : List Term). entries ++ one_entry b ts) (are.gone b less) ∙ append-nil entries ∙ are.made;
      }
        where
          below : (j : ℕ) → j < i + 1 → (j < i) ⊎ (i ≤ j) → number_at visited j < are.bound
          below j lt (inl before) = are.below j before
          below j lt (inr from) = subst (λ k. k < are.bound) (sym (last j lt from)) less
      by (inr least) = record {
        bound = b + 1;
        count = length-set sums b [] ∙ are.count;
        bounded = omega (arith, b_in);
        below = λ j lt. below j lt (side j i);
        reach = λ j le lt. let r = rises j (omega (arith, le)) lt in omega (arith, r);
        left = λ k le. get_or-set_other sums b k [] [] (λ e. absurd (omega (arith, e, le))) ∙ are.left k (omega (arith, le, least));
        gone = λ k lt. gone k lt (side k are.bound) (same_or_not k b);
        made = more;
      }
        where
          below : (j : ℕ) → j < i + 1 → (j < i) ⊎ (i ≤ j) → number_at visited j < b + 1
          below j lt (inl before) = let low = are.below j before in omega (arith, low, least)
          below j lt (inr from) = let e = last j lt from in omega (arith, e)

          none : (k : ℕ) → are.bound ≤ k → k < b → sum_at sums0 k ≡ []
          none k le lt = unvisited i are.bound k are.below le (λ j from j_in. let r = rises j from j_in in omega (arith, r, lt))

          gone : (k : ℕ) → k < b + 1 → (k < are.bound) ⊎ (are.bound ≤ k) → (k ≡ b) ⊎ (k ≢ b) → sum_at (set sums b []) k ≡ []
          gone k lt _ (inl e) = ap (sum_at (set sums b [])) e ∙ get_or-set_same sums b [] [] (let c = are.count in omega (arith, b_in, c))
          gone k lt (inl low) (inr ne) = cleared k (inr ne) (are.gone k low)
          gone k lt (inr from) (inr ne) = cleared k (inr ne) (are.left k from ∙ none k from (grind (arith, lt, ne)))

          more : entries ++ one_entry b (sum_at sums b) ≡ entries_of sums0 (b + 1)
          more =
              ap₂ (λ (xs ys : List Entry). xs ++ ys) (are.made ∙ sym (skip sums0 are.bound b least none)) (ap (one_entry b) (are.left b least))
              ∙ ap (entries_of sums0) (let e : suc b ≡ b + 1 = omega arith in e)

  pub taken_all : (i : ℕ) (sums : List (List Term)) (entries : List Entry) → length visited ≤ i → AreTaken sums0 visited i sums entries → (entries ≡ entries_of sums0 (length sums0)) × ((k : ℕ) → sum_at sums k ≡ [])
  taken_all i sums entries past are =
      let none = λ (k : ℕ) (le : are.bound ≤ k). unvisited i are.bound k are.below le (λ j from lt. absurd (omega (arith, from, lt, past))) in
      (are.made ∙ sym (skip sums0 are.bound (length sums0) are.bounded (λ k le lt. none k le)), λ k. by k none (side k are.bound))
    where
      by : (k : ℕ) → ((k : ℕ) → are.bound ≤ k → sum_at sums0 k ≡ []) → (k < are.bound) ⊎ (are.bound ≤ k) → sum_at sums k ≡ []
      by k none (inl low) = are.gone k low
      by k none (inr from) = are.left k from ∙ none k from

pub visited_sorted : (sums : List (List Term)) (old new : List ℕ) → IsPermutation old new → AreVisitedBlocks sums old → AreVisitedBlocks sums new
visited_sorted sums old new moved are = record { some = λ b some. Contains-permutation old new b moved (are.some b some); blocks = All-permutation (λ b. b < length sums) old new moved are.blocks }

-- ---- copies of the polynomial 0

pub none_more : (list : List (List Term)) (poly : List Term) → poly ≡ [] → ((b : ℕ) → sum_at list b ≡ []) → (b : ℕ) → sum_at (list ++ poly ∷ []) b ≡ []
none_more list poly is none b = by (side b (length list)) (same_or_not b (length list))
  where
    by : (b < length list) ⊎ (length list ≤ b) → (b ≡ length list) ⊎ (b ≢ length list) → sum_at (list ++ poly ∷ []) b ≡ []
    by (inl lt) _ = get_or_append_left list (poly ∷ []) [] b lt ∙ none b
    by (inr le) (inl e) = get_or_push list poly [] b (sym e) ∙ is
    by (inr le) (inr ne) = get_or_past (list ++ poly ∷ []) b [] (let more = length_push list poly in grind (arith, more, le, ne))
