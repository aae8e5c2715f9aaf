-- The goal states and the others, with which the search begins.
use Rattle.std.proofs.Common.{◌≡◌, ◌≢◌, ◌⊎◌, inl, inr, ℕ, zero, suc, ◌+◌, ◌-◌, ◌<◌, ◌≤◌, Bool, true, false, cond, List, [], ◌∷◌, ◌++◌, length, get_or, set, take, All, Contains, nat_eq, refl, sym, ap, ◌∙◌, subst, arith}
use Rattle.std.proofs.lemmas.List.{get_or_append_left, get_or_push, length_push, get_or_past, get_or_default, get_or-set_same, get_or-set_other, length-set, length-take-le, take_all}
use Rattle.std.proofs.lemmas.List.Elements.{All-set, All-push, Contains-append_left, Contains-push}
use Rattle.std.proofs.lemmas.List.Sums.{count_by-le-length, count_by_more_yes, count_by_more_no}
use Rattle.std.proofs.lemmas.Bool.Decides.{nat_tests}
use Rattle.lift_model.specs.Model.{ModelData, is_goal}
use Rattle.lift_model.specs.Valid.{IsModel}
use Rattle.lift_lump.specs.Lumping.{IsAboveRight}
use Rattle.lift_lump.specs.Laws.{StartsAbove}
use Rattle.lift_lump.specs.Search.{number_at}
use Rattle.lift_lump.specs.Splitting.{list_of, how_many, AreInside, AreUsed, AreFirstLabels, labelled}
use Rattle.lift_lump.proofs.Sides.{side, same_or_not}

-- the labels of the first states, so many
pub record AreLabelsOf (m : ModelData) (count : ℕ) (list : List ℕ) : Type 0 where
  pub size : length list ≡ count
  pub labels : (s : ℕ) → s < count → number_at list s ≡ cond (is_goal m s) 1 0

pub labels_none : (m : ModelData) → AreLabelsOf m 0 []
labels_none m = record { size = refl; labels = λ s lt. absurd (omega (arith, lt)) }

pub labels_more : (m : ModelData) (count : ℕ) (list : List ℕ) (label : ℕ) → label ≡ cond (is_goal m count) 1 0 → AreLabelsOf m count list → AreLabelsOf m (count + 1) (list ++ label ∷ [])
labels_more m count list label is are = record {
  size = length_push list label ∙ ap (λ n. n + 1) are.size;
  labels = λ s lt. by s lt (side s count);
}
  where
    by : (s : ℕ) → s < count + 1 → (s < count) ⊎ (count ≤ s) → number_at (list ++ label ∷ []) s ≡ cond (is_goal m s) 1 0
    by s lt (inl less) = get_or_append_left list (label ∷ []) 0 s (let e = are.size in omega (arith, less, e)) ∙ are.labels s less
    by s lt (inr le) =
        let e : s ≡ count = omega (arith, lt, le) in
        get_or_push list label 0 s (are.size ∙ sym e) ∙ is ∙ ap (λ k. cond (is_goal m k) 1 0) (sym e)

pub labels_all : (m : ModelData) (count : ℕ) (list : List ℕ) → count ≡ length m.states → AreLabelsOf m count list → AreFirstLabels m list
labels_all m count list e are = record { count = are.size ∙ e; labels = λ s lt. are.labels s (omega (arith, lt, e)) }

-- ---- the partition

few : (m : ModelData) (labels : List ℕ) → AreFirstLabels m labels → All (λ l. l < 2) labels
few m labels are k d lt =
    let e = get_or_default labels k d 0 lt ∙ are.labels k (let c = are.count in omega (arith, lt, c)) in
    subst (λ n. n < 2) (sym e) (by (is_goal m k))
  where
    by : (b : Bool) → cond b 1 0 < 2
    by true = omega arith
    by false = omega arith

-- the first states, so many, are counted and stand in the lists of their labels
pub record IsStarted (count : ℕ) (labels sizes : List ℕ) (members : List (List ℕ)) : Type 0 where
  pub lists : length members ≡ 2
  pub size : length sizes ≡ 2
  pub below : All (λ l. l < 2) labels
  pub counted : (l : ℕ) → number_at sizes l ≡ how_many (take count labels) l
  pub states : All (All (λ s. s < length labels)) members
  pub listed : (s : ℕ) → s < count → Contains (list_of members (number_at labels s)) s

pub started_none : (m : ModelData) (labels sizes : List ℕ) (members : List (List ℕ)) → AreFirstLabels m labels → sizes ≡ 0 ∷ 0 ∷ [] → members ≡ [] ∷ [] ∷ [] → IsStarted 0 labels sizes members
started_none m labels sizes members are zeros empty = record {
  lists = ap length empty;
  size = ap length zeros;
  below = few m labels are;
  counted = λ l. ap (λ (xs : List ℕ). number_at xs l) zeros ∙ zero_at l;
  states = subst (All (All (λ s. s < length labels))) (sym empty) (λ k d lt. none k d lt);
  listed = λ s lt. absurd (omega (arith, lt));
}
  where
    zero_at : (l : ℕ) → number_at (0 ∷ 0 ∷ []) l ≡ 0
    zero_at zero = refl
    zero_at (suc zero) = refl
    zero_at (suc (suc l)) = refl

    none : (k : ℕ) (d : List ℕ) → k < 2 → All (λ s. s < length labels) (get_or ([] ∷ [] ∷ []) k d)
    none zero d lt i e i_in = absurd (let f : i < 0 = i_in in omega (arith, f))
    none (suc zero) d lt i e i_in = absurd (let f : i < 0 = i_in in omega (arith, f))
    none (suc (suc k)) d lt i e i_in = absurd (omega (arith, lt))

module _ (count : ℕ) (labels sizes : List ℕ) (members : List (List ℕ)) (are : IsStarted count labels sizes members) (lt : count < length labels) where
  abbrev label : ℕ
  label = number_at labels count

  pub label_in : label < 2
  label_in = are.below count 0 lt

  pub size_room : number_at sizes label ≤ length labels
  size_room =
      let most = count_by-le-length (λ k. nat_eq k label) (take count labels) in
      let few_taken = length-take-le count labels (omega (arith, lt)) in
      omega (arith, most, few_taken, lt, are.counted label)

  abbrev grown : List ℕ
  grown = list_of members label ++ count ∷ []

  pub started_more : IsStarted (count + 1) labels (set sizes label (number_at sizes label + 1)) (set members label grown)
  started_more = record {
    lists = length-set members label grown ∙ are.lists;
    size = length-set sizes label (number_at sizes label + 1) ∙ are.size;
    below = are.below;
    counted = λ l. counted l (same_or_not l label);
    states = All-set (All (λ t. t < length labels)) members label grown (All-push (λ t. t < length labels) (list_of members label) count (are.states label [] (let e = are.lists in let low = label_in in omega (arith, low, e))) lt) are.states;
    listed = λ s s_lt. listed s s_lt (side s count);
  }
    where
      counted : (l : ℕ) → (l ≡ label) ⊎ (l ≢ label) → number_at (set sizes label (number_at sizes label + 1)) l ≡ how_many (take (count + 1) labels) l
      counted l (inl e) =
          ap (number_at (set sizes label (number_at sizes label + 1))) e
          ∙ get_or-set_same sizes label (number_at sizes label + 1) 0 (let f = are.size in let low = label_in in omega (arith, low, f))
          ∙ ap (λ n. n + 1) (are.counted label) ∙ ap (λ k. how_many (take count labels) k + 1) (sym e)
          ∙ sym (count_by_more_yes (λ k. nat_eq k l) labels count 0 lt (grind (arith, nat_tests, e)))
      counted l (inr ne) =
          get_or-set_other sizes label l (number_at sizes label + 1) 0 ne ∙ are.counted l
          ∙ sym (count_by_more_no (λ k. nat_eq k l) labels count 0 lt (grind (arith, nat_tests, ne)))

      here : list_of (set members label grown) label ≡ grown
      here = get_or-set_same members label grown [] (let e = are.lists in let low = label_in in omega (arith, low, e))

      listed : (s : ℕ) → s < count + 1 → (s < count) ⊎ (count ≤ s) → Contains (list_of (set members label grown) (number_at labels s)) s
      listed s s_lt (inr le) =
          let e : count ≡ s = omega (arith, s_lt, le) in
          subst (λ k. Contains (list_of (set members label grown) (number_at labels k)) k) e (subst (λ (xs : List ℕ). Contains xs count) (sym here) (Contains-push (list_of members label) count))
      listed s s_lt (inl less) = by (same_or_not (number_at labels s) label)
        where
          by : (number_at labels s ≡ label) ⊎ (number_at labels s ≢ label) → Contains (list_of (set members label grown) (number_at labels s)) s
          by (inl e) =
              subst (λ (xs : List ℕ). Contains xs s) (sym (ap (list_of (set members label grown)) e ∙ here))
              (Contains-append_left (list_of members label) (count ∷ []) s (subst (λ k. Contains (list_of members k) s) e (are.listed s less)))
          by (inr ne) = subst (λ (xs : List ℕ). Contains xs s) (sym (get_or-set_other members label (number_at labels s) grown [] ne)) (are.listed s less)

pub started_inside : (count : ℕ) (labels sizes : List ℕ) (members : List (List ℕ)) → length labels ≤ count → IsStarted count labels sizes members → AreInside labels sizes members
started_inside count labels sizes members past are = record {
  size = are.size ∙ sym are.lists;
  counted = λ l. are.counted l ∙ ap (λ (xs : List ℕ). how_many xs l) (take_all count labels past);
  below = subst (λ n. All (λ l. l < n) labels) (sym are.lists) are.below;
  states = are.states;
}

-- one of the two labels is that of the first state
pub started_used : (labels : List ℕ) (members : List (List ℕ)) → length members ≡ 2 → All (λ l. l < 2) labels → 1 ≤ length labels → AreUsed labels (length members)
started_used labels members lists below some = subst (AreUsed labels) (sym lists) (record { spare = 1 - number_at labels 0; used = λ l lt ne. (0, some, get_or_default labels 0 l 0 some ∙ sym (only l lt ne)) })
  where
    only : (l : ℕ) → l < 2 → l ≢ 1 - number_at labels 0 → l ≡ number_at labels 0
    only l lt ne = let first = below 0 0 some in grind (arith, lt, ne, first)

pub start_above : StartsAbove → (m : ModelData) (labels : List ℕ) → IsModel m → AreFirstLabels m labels → IsAboveRight m (labelled labels)
start_above starts m labels is are = starts m (labelled labels) (λ s t same. label s ∙ ap (λ b. cond b 1 0) same ∙ sym (label t))
  where
    label : (s : ℕ) → number_at labels s ≡ cond (is_goal m s) 1 0
    label s = by (side s (length m.states))
      where
        by : (s < length m.states) ⊎ (length m.states ≤ s) → number_at labels s ≡ cond (is_goal m s) 1 0
        by (inl lt) = are.labels s lt
        by (inr past) =
            let none : is_goal m s ≡ false = get_or_past m.goal s false (let e = is.goals in omega (arith, past, e)) in
            get_or_past labels s 0 (let e = are.count in omega (arith, past, e)) ∙ ap (λ b. cond b 1 0) (sym none)
