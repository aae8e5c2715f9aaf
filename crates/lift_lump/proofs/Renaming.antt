-- States that get new labels, one after another.
use Rattle.std.proofs.Common.{◌≡◌, ◌≢◌, ◌⊎◌, inl, inr, ⊎_elim, ℕ, zero, suc, ◌+◌, ◌*◌, ◌^◌, ◌<◌, List, length, get_or, set, refl, sym, ap, ap₂, ◌∙◌, arith}
use Rattle.std.proofs.lemmas.List.{get_or-set_same, get_or-set_other, length-set}
use Rattle.lift_lump.specs.Search.{IsByNumber}
use Rattle.lift_lump.specs.declared.touch.Touched.{Touched}
use Rattle.lift_lump.specs.Renaming.{key_of, no_touched, key_at, state_at, StandsIn, AreTouched, AreSortedKeys, HaveOneKey, AreRenamed}
use Rattle.lift_lump.proofs.Sides.{same_or_not}

below_or_last : (j i : ℕ) → j < i + 1 → (j < i) ⊎ (j ≡ i)
below_or_last j i lt = grind (arith, lt)

module _ (touched : List Touched) (sorted : AreSortedKeys touched) (keys : HaveOneKey touched) (old labels : List ℕ) (i name : ℕ) (i_in : i < length touched) (inside : state_at touched i < length labels) (renamed : AreRenamed touched old labels i)
    (before : (j : ℕ) → j + 1 ≡ i → key_at touched j ≡ key_at touched i → get_or labels (state_at touched j) 0 ≡ name) where
  abbrev new : List ℕ
  new = set labels (state_at touched i) name

  here : get_or new (state_at touched i) 0 ≡ name
  here = get_or-set_same labels (state_at touched i) name 0 inside

  -- a state before with the same key has that name already
  same_name : (j : ℕ) → j < i → key_at touched j ≡ key_at touched i → get_or labels (state_at touched j) 0 ≡ name
  same_name j lt e = by i refl
    where
      by : (k : ℕ) → i ≡ k → get_or labels (state_at touched j) 0 ≡ name
      by zero is_zero = absurd (omega (arith, lt, is_zero))
      by (suc k) is_suc =
          let low = sorted j k (omega (arith, lt, is_suc)) (omega (arith, i_in, is_suc)) in
          let high = sorted k i (omega (arith, is_suc)) i_in in
          let last : key_at touched k ≡ key_at touched i = omega (arith, low, high, e) in
          renamed.same j k lt (omega (arith, is_suc)) (e ∙ sym last) ∙ before k (omega (arith, is_suc)) last

  named : (j : ℕ) → j < i + 1 → key_at touched j ≡ key_at touched i → get_or new (state_at touched j) 0 ≡ name
  named j lt e = by (below_or_last j i lt) (same_or_not (state_at touched j) (state_at touched i))
    where
      by : (j < i) ⊎ (j ≡ i) → (state_at touched j ≡ state_at touched i) ⊎ (state_at touched j ≢ state_at touched i) → get_or new (state_at touched j) 0 ≡ name
      by _ (inl same) = ap (λ s. get_or new s 0) same ∙ here
      by (inl less) (inr other) = get_or-set_other labels (state_at touched i) (state_at touched j) name 0 other ∙ same_name j less e
      by (inr is) (inr other) = absurd (other (ap (state_at touched) is))

  -- a state before with another key is another state
  kept : (j : ℕ) → j < i → key_at touched j ≢ key_at touched i → get_or new (state_at touched j) 0 ≡ get_or labels (state_at touched j) 0
  kept j lt other = get_or-set_other labels (state_at touched i) (state_at touched j) name 0 (λ same. other (keys j i (omega (arith, lt, i_in)) i_in same))

  pub renamed_more : AreRenamed touched old new (i + 1)
  renamed_more = record {
    size = length-set labels (state_at touched i) name ∙ renamed.size;
    same = λ j k j_in k_in e. by j k j_in k_in e (same_or_not (key_at touched j) (key_at touched i));
    others = λ s none. get_or-set_other labels (state_at touched i) s name 0 (λ same. none i (omega arith) (sym same)) ∙ renamed.others s (λ j lt. none j (omega (arith, lt)));
  }
    where
      by : (j k : ℕ) → j < i + 1 → k < i + 1 → key_at touched j ≡ key_at touched k → (key_at touched j ≡ key_at touched i) ⊎ (key_at touched j ≢ key_at touched i) → get_or new (state_at touched j) 0 ≡ get_or new (state_at touched k) 0
      by j k j_in k_in e (inl is) = named j j_in is ∙ sym (named k k_in (sym e ∙ is))
      by j k j_in k_in e (inr other) = two (below_or_last j i j_in) (below_or_last k i k_in)
        where
          two : (j < i) ⊎ (j ≡ i) → (k < i) ⊎ (k ≡ i) → get_or new (state_at touched j) 0 ≡ get_or new (state_at touched k) 0
          two (inl j_lt) (inl k_lt) = kept j j_lt other ∙ renamed.same j k j_lt k_lt e ∙ sym (kept k k_lt (λ is. other (e ∙ is)))
          two (inr j_is) _ = absurd (other (ap (key_at touched) j_is))
          two _ (inr k_is) = absurd (other (e ∙ ap (key_at touched) k_is))

  pub last_more : (j : ℕ) → j + 1 ≡ i + 1 → get_or new (state_at touched j) 0 ≡ name
  last_more j e = ap (λ k. get_or new (state_at touched k) 0) (let f : j ≡ i = omega (arith, e) in f) ∙ here

pub renamed_none : (touched : List Touched) (old : List ℕ) → AreRenamed touched old old 0
renamed_none touched old = record {
  size = refl;
  same = λ i j lt. absurd (omega (arith, lt));
  others = λ s none. refl;
}

-- a state stands among the first ones, so many, or it doesn't
pub stands : (touched : List Touched) (s count : ℕ) → ((i : ℕ) × (i < count) × (state_at touched i ≡ s)) ⊎ ((i : ℕ) → i < count → state_at touched i ≢ s)
stands touched s zero = inr (λ i lt. absurd (omega (arith, lt)))
stands touched s (suc count) = by (same_or_not (state_at touched count) s) (stands touched s count)
  where
    here : (i : ℕ) → i < suc count → (i < count) ⊎ (i ≡ count)
    here i lt = grind (arith, lt)

    by : (state_at touched count ≡ s) ⊎ (state_at touched count ≢ s) → ((i : ℕ) × (i < count) × (state_at touched i ≡ s)) ⊎ ((i : ℕ) → i < count → state_at touched i ≢ s)
        → ((i : ℕ) × (i < suc count) × (state_at touched i ≡ s)) ⊎ ((i : ℕ) → i < suc count → state_at touched i ≢ s)
    by (inl is) rest = inl (count, omega arith, is)
    by (inr other) (inl found) = inl (found.0, omega (arith, found.1), found.2)
    by (inr other) (inr none) = inr (λ i lt. ⊎_elim (λ (less : i < count). none i less) (λ (e : i ≡ count). λ (is : state_at touched i ≡ s). other (ap (state_at touched) (sym e) ∙ is)) (here i lt))

-- states with the same block and number get the same label
pub renamed_by_number : (touched : List Touched) (old new : List ℕ) → AreRenamed touched old new (length touched) → (numbers : List ℕ) → AreTouched old numbers touched → IsByNumber (length old) (λ s. get_or old s 0) numbers (λ s. get_or new s 0)
renamed_by_number touched old new renamed numbers are s t s_in t_in block number = by (stands touched s (length touched)) (stands touched t (length touched))
  where
    key : (i : ℕ) → i < length touched → key_at touched i ≡ key_of old numbers (state_at touched i)
    key i lt = (are.each i no_touched lt).key

    both : StandsIn touched s → StandsIn touched t → get_or new s 0 ≡ get_or new t 0
    both a b =
        let same : key_of old numbers s ≡ key_of old numbers t = ap₂ (λ x y. x * 2 ^ 64 + y) block number in
        let keys : key_at touched a.0 ≡ key_at touched b.0 = key a.0 a.1 ∙ ap (key_of old numbers) a.2 ∙ same ∙ sym (ap (key_of old numbers) b.2) ∙ sym (key b.0 b.1) in
        sym (ap (λ u. get_or new u 0) a.2) ∙ renamed.same a.0 b.0 a.1 b.1 keys ∙ ap (λ u. get_or new u 0) b.2

    by : StandsIn touched s ⊎ ((i : ℕ) → i < length touched → state_at touched i ≢ s) → StandsIn touched t ⊎ ((i : ℕ) → i < length touched → state_at touched i ≢ t) → get_or new s 0 ≡ get_or new t 0
    by (inl a) other = both a (are.all s t t_in block number a)
    by (inr none) (inl b) = let a = are.all t s s_in (sym block) (sym number) b in absurd (none a.0 a.1 a.2)
    by (inr none) (inr neither) = renamed.others s none ∙ block ∙ sym (renamed.others t neither)
