-- Blocks that get numbers by their least states.
use Rattle.std.proofs.Common.{◌≡◌, ◌≢◌, ◌⊎◌, inl, inr, ℕ, suc, ◌+◌, ◌<◌, ◌≤◌, Option, Some, None, List, [], ◌∷◌, ◌++◌, length, get_or, set, refl, sym, ap, ◌∙◌, subst, arith}
use Rattle.std.proofs.lemmas.List.{get_or-set_same, get_or-set_other, get_or_append_left, get_or_push, length_push}
use Rattle.lift_lump.specs.Quotient.{AreNumbered}
use Rattle.lift_lump.specs.Search.{number_at}
use Rattle.lift_lump.specs.Splitting.{AreNumberedSo, AreSameBlocks}
use Rattle.lift_lump.proofs.Sides.{side, same_or_not}

same_some : (a b : ℕ) → ◌≡◌ {A = Option ℕ} (Some a) (Some b) → a ≡ b
same_some a b e = cc

none_some : (b : ℕ) → ◌≡◌ {A = Option ℕ} None (Some b) → ⊥
none_some b e = cc

before : (xs : List ℕ) (x i : ℕ) → i < length xs → number_at (xs ++ x ∷ []) i ≡ number_at xs i
before xs x i lt = get_or_append_left xs (x ∷ []) 0 i lt

last : (xs : List ℕ) (x i : ℕ) → i ≡ length xs → number_at (xs ++ x ∷ []) i ≡ x
last xs x i e = get_or_push xs x 0 i (sym e)

pub so_none : (labels : List ℕ) (names : List (Option ℕ)) → ((l : ℕ) → get_or names l None ≡ None) → AreNumberedSo labels 0 names [] []
so_none labels names none = record {
  size = refl;
  few = omega arith;
  named = λ l b is. absurd (none_some b (sym (none l) ∙ is));
  known = λ s lt. absurd (omega (arith, lt));
  least = λ b lt. absurd (let f : b < 0 = lt in omega (arith, f));
  inside = λ s lt. absurd (omega (arith, lt));
  ascending = λ k lt. absurd (let f : k + 1 < 0 = lt in omega (arith, f));
}

module _ (labels : List ℕ) (count : ℕ) (names : List (Option ℕ)) (of firsts : List ℕ) (label : ℕ) (is : number_at labels count ≡ label) (so : AreNumberedSo labels count names of firsts) where
  -- a state whose label has a block
  pub so_old : (b : ℕ) → get_or names label None ≡ Some b → AreNumberedSo labels (suc count) names (of ++ b ∷ []) firsts
  so_old b named = record {
    size = length_push of b ∙ (let e = so.size in omega (arith, e));
    few = let f = so.few in omega (arith, f);
    named = so.named;
    known = λ s lt. known s (side s count) lt;
    least = λ k lt. let l = so.least k lt in let low = l.0 in (omega (arith, low), before of b (number_at firsts k) (let e = so.size in omega (arith, low, e)) ∙ l.1);
    inside = λ s lt. inside s (side s count) lt;
    ascending = so.ascending;
  }
    where
      at : (s : ℕ) → s < suc count → count ≤ s → s ≡ count
      at s lt le = omega (arith, lt, le)

      known : (s : ℕ) → (s < count) ⊎ (count ≤ s) → s < suc count → get_or names (number_at labels s) None ≡ Some (number_at (of ++ b ∷ []) s)
      known s (inl less) lt = so.known s less ∙ ap Some (sym (before of b s (let e = so.size in omega (arith, less, e))))
      known s (inr le) lt = ap (λ k. get_or names (number_at labels k) None) (at s lt le) ∙ ap (λ l. get_or names l None) is ∙ named ∙ ap Some (sym (last of b s (at s lt le ∙ sym so.size)))

      inside : (s : ℕ) → (s < count) ⊎ (count ≤ s) → s < suc count → (number_at (of ++ b ∷ []) s < length firsts) × (number_at firsts (number_at (of ++ b ∷ []) s) ≤ s)
      inside s (inl less) lt = subst (λ k. (k < length firsts) × (number_at firsts k ≤ s)) (sym (before of b s (let e = so.size in omega (arith, less, e)))) (so.inside s less)
      inside s (inr le) lt =
          let k = (so.named label b named).0 in
          let low = (so.least b k).0 in
          subst (λ j. (j < length firsts) × (number_at firsts j ≤ s)) (sym (last of b s (at s lt le ∙ sym so.size))) (k, omega (arith, low, le))

  -- a state whose label has none
  pub so_new : (l_in : label < length names) → get_or names label None ≡ None → AreNumberedSo labels (suc count) (set names label (Some (length firsts))) (of ++ length firsts ∷ []) (firsts ++ length of ∷ [])
  so_new l_in none = record {
    size = length_push of b ∙ (let e = so.size in omega (arith, e));
    few = let f = so.few in omega (arith, f, length_push firsts (length of));
    named = λ l k named_so. named l k (same_or_not l label) named_so;
    known = λ s lt. known s (side s count) lt;
    least = λ k lt. least k (side k b) (omega (arith, lt, length_push firsts (length of)));
    inside = λ s lt. inside s (side s count) lt;
    ascending = λ k lt. ascending k (side (k + 1) b) (omega (arith, lt, length_push firsts (length of)));
  }
    where
      b : ℕ
      b = length firsts

      more : length (firsts ++ length of ∷ []) ≡ b + 1
      more = length_push firsts (length of)

      at : (s : ℕ) → s < suc count → count ≤ s → s ≡ count
      at s lt le = omega (arith, lt, le)

      old_first : (k : ℕ) → k < b → number_at (firsts ++ length of ∷ []) k ≡ number_at firsts k
      old_first k lt = before firsts (length of) k lt

      new_first : number_at (firsts ++ length of ∷ []) b ≡ count
      new_first = last firsts (length of) b refl ∙ so.size

      old_of : (s : ℕ) → s < count → number_at (of ++ b ∷ []) s ≡ number_at of s
      old_of s lt = before of b s (let e = so.size in omega (arith, lt, e))

      new_of : (s : ℕ) → s ≡ count → number_at (of ++ b ∷ []) s ≡ b
      new_of s e = last of b s (e ∙ sym so.size)

      named : (l k : ℕ) → (l ≡ label) ⊎ (l ≢ label) → get_or (set names label (Some b)) l None ≡ Some k → (k < length (firsts ++ length of ∷ [])) × (number_at labels (number_at (firsts ++ length of ∷ []) k) ≡ l)
      named l k (inl e) named_so =
          let k_is : b ≡ k = same_some b k (sym (ap (λ i. get_or (set names label (Some b)) i None) e ∙ get_or-set_same names label (Some b) None l_in) ∙ named_so) in
          (omega (arith, more, k_is), ap (λ i. number_at labels (number_at (firsts ++ length of ∷ []) i)) (sym k_is) ∙ ap (number_at labels) new_first ∙ is ∙ sym e)
      named l k (inr ne) named_so =
          let old = so.named l k (sym (get_or-set_other names label l (Some b) None ne) ∙ named_so) in
          let low = old.0 in
          (omega (arith, more, low), ap (number_at labels) (old_first k low) ∙ old.1)

      -- the label of a state before is another one
      other : (s : ℕ) → s < count → number_at labels s ≢ label
      other s lt e = none_some (number_at of s) (sym none ∙ ap (λ l. get_or names l None) (sym e) ∙ so.known s lt)

      known : (s : ℕ) → (s < count) ⊎ (count ≤ s) → s < suc count → get_or (set names label (Some b)) (number_at labels s) None ≡ Some (number_at (of ++ b ∷ []) s)
      known s (inl less) lt = get_or-set_other names label (number_at labels s) (Some b) None (other s less) ∙ so.known s less ∙ ap Some (sym (old_of s less))
      known s (inr le) lt =
          ap (λ k. get_or (set names label (Some b)) (number_at labels k) None) (at s lt le) ∙ ap (λ l. get_or (set names label (Some b)) l None) is
          ∙ get_or-set_same names label (Some b) None l_in ∙ ap Some (sym (new_of s (at s lt le)))

      least : (k : ℕ) → (k < b) ⊎ (b ≤ k) → k < b + 1 → (number_at (firsts ++ length of ∷ []) k < suc count) × (number_at (of ++ b ∷ []) (number_at (firsts ++ length of ∷ []) k) ≡ k)
      least k (inl less) lt =
          let l = so.least k less in
          let low = l.0 in
          let first = old_first k less in
          (omega (arith, low, first), ap (number_at (of ++ b ∷ [])) first ∙ old_of (number_at firsts k) low ∙ l.1)
      least k (inr le) lt =
          let e : k ≡ b = omega (arith, lt, le) in
          let first : number_at (firsts ++ length of ∷ []) k ≡ count = ap (number_at (firsts ++ length of ∷ [])) e ∙ new_first in
          (omega (arith, first), ap (number_at (of ++ b ∷ [])) first ∙ new_of count refl ∙ sym e)

      inside : (s : ℕ) → (s < count) ⊎ (count ≤ s) → s < suc count → (number_at (of ++ b ∷ []) s < length (firsts ++ length of ∷ [])) × (number_at (firsts ++ length of ∷ []) (number_at (of ++ b ∷ []) s) ≤ s)
      inside s (inl less) lt =
          let old = so.inside s less in
          let low = old.0 in
          let le = old.1 in
          subst (λ k. (k < length (firsts ++ length of ∷ [])) × (number_at (firsts ++ length of ∷ []) k ≤ s)) (sym (old_of s less))
          (omega (arith, more, low), subst (λ x. x ≤ s) (sym (old_first (number_at of s) low)) le)
      inside s (inr le) lt =
          subst (λ k. (k < length (firsts ++ length of ∷ [])) × (number_at (firsts ++ length of ∷ []) k ≤ s)) (sym (new_of s (at s lt le)))
          (omega (arith, more), subst (λ x. x ≤ s) (sym new_first) le)

      ascending : (k : ℕ) → (k + 1 < b) ⊎ (b ≤ k + 1) → k + 1 < b + 1 → number_at (firsts ++ length of ∷ []) k < number_at (firsts ++ length of ∷ []) (k + 1)
      ascending k (inl less) lt =
          let a = old_first k (omega (arith, less)) in
          let c = old_first (k + 1) less in
          let rises = so.ascending k less in
          omega (arith, a, c, rises)
      ascending k (inr le) lt =
          let e : k + 1 ≡ b = omega (arith, lt, le) in
          let a = old_first k (omega (arith, e)) in
          let c : number_at (firsts ++ length of ∷ []) (k + 1) ≡ count = ap (number_at (firsts ++ length of ∷ [])) e ∙ new_first in
          let low = (so.least k (omega (arith, e))).0 in
          omega (arith, a, c, low)

module _ (labels : List ℕ) (names : List (Option ℕ)) (of firsts : List ℕ) (so : AreNumberedSo labels (length labels) names of firsts) where
  pub so_numbered : AreNumbered (length labels) (record { of_states = of; firsts = firsts })
  so_numbered = record { count = so.size; ascending = so.ascending; least = so.least; inside = so.inside }

  pub so_same : AreSameBlocks labels of
  so_same = record {
    together = λ s t s_in t_in e. same_some (number_at of s) (number_at of t) (sym (so.known s s_in) ∙ ap (λ l. get_or names l None) e ∙ so.known t t_in);
    apart = λ s t s_in t_in e. label_of s s_in ∙ ap (λ b. number_at labels (number_at firsts b)) e ∙ sym (label_of t t_in);
  }
    where
      label_of : (s : ℕ) → s < length labels → number_at labels s ≡ number_at labels (number_at firsts (number_at of s))
      label_of s lt = sym (so.named (number_at labels s) (number_at of s) (so.known s lt)).1
