-- What comparing states with the least ones of their blocks tells.
use Rattle.std.proofs.Common.{◌≡◌, ◌≢◌, ◌⊎◌, inl, inr, ℕ, zero, suc, ◌+◌, ◌-◌, ◌<◌, ◌≤◌, Bool, true, false, cond, List, [], ◌∷◌, ◌++◌, length, get_or, set, All, AllPairs, Contains, nat_eq, refl, sym, ap, ap₂, ◌∙◌, subst, arith}
use Rattle.std.proofs.lemmas.List.{get_or-set_same, get_or-set_other, get_or_append_left, length-set, length_push}
use Rattle.std.proofs.lemmas.List.Elements.{All-push, All-weaker, Contains-append_left, Contains-push, All-nil}
use Rattle.lift_poly.specs.Polynomial.{constant}
use Rattle.lift_poly.specs.Laws.{TermsSumToPolynomial, TermsSumBySet, CoefficientsDetermine}
use Rattle.lift_model.specs.declared.entry.Entry.{Entry}
use Rattle.lift_model.specs.Model.{ModelData, is_goal, row_at}
use Rattle.lift_model.specs.Valid.{IsModel}
use Rattle.lift_lump.specs.Lumping.{Partition, sum_into, in_block, AreTogether, IsRight, IsAboveRight, IsCoarsest}
use Rattle.lift_lump.specs.Quotient.{Blocks, block, first, AreNumbered, one_entry, entries_into, quotient_row}
use Rattle.lift_lump.specs.Laws.{EntriesTellSums}
use Rattle.lift_lump.specs.Search.{number_at, IsByNumber}
use Rattle.lift_lump.specs.Splitting.{AreSameBlocks, HaveNone, labelled}
use Rattle.lift_lump.specs.Comparing.{IsLike, IsNumbered, AreCompared, row_text}
use Rattle.lift_lump.specs.declared.compared.Compared.{Compared}
use Rattle.lift_lump.proofs.Holding.{targets_inside}
use Rattle.lift_lump.proofs.Keeping.{sums_agree}
use Rattle.lift_lump.proofs.Sides.{side, same_or_not}

pub like_first : (m : ModelData) (p : Blocks) (s : ℕ) → first p (block p s) ≡ s → IsLike m p s
like_first m p s e = record { goal = ap (is_goal m) (sym e); row = ap (quotient_row m p) (sym e) }

-- ---- one state after another

pub compared_none : (m : ModelData) (p : Blocks) (numbers different : List ℕ) (texts : List (List ℕ)) → length numbers ≡ length m.states → ((s : ℕ) → number_at numbers s ≡ 0) → different ≡ [] → AreCompared m p 0 numbers different texts
compared_none m p numbers different texts size zeros is = record {
  size = size;
  like = λ s lt. absurd (omega (arith, lt));
  other = λ s lt. absurd (omega (arith, lt));
  places = λ s. let none = zeros s in omega (arith, none);
  reported = λ s some. absurd (some (zeros s));
  visited = λ s lt some. absurd (some (zeros s));
  some = subst (All (λ s. (s < length numbers) × (number_at numbers s ≢ 0))) (sym is) (All-nil (λ s. (s < length numbers) × (number_at numbers s ≢ 0)));
}

module _ (m : ModelData) (p : Blocks) (count : ℕ) (numbers different : List ℕ) (texts : List (List ℕ)) (are : AreCompared m p count numbers different texts) (later : (s : ℕ) → count ≤ s → number_at numbers s ≡ 0) where
  pub compared_same : IsLike m p count → AreCompared m p (count + 1) numbers different texts
  compared_same like = record {
    size = are.size;
    like = λ s lt none. by s lt none (side s count);
    other = λ s lt is. other s lt is (side s count);
    places = are.places;
    reported = are.reported;
    visited = are.visited;
    some = are.some;
  }
    where
      by : (s : ℕ) → s < count + 1 → number_at numbers s ≡ 0 → (s < count) ⊎ (count ≤ s) → IsLike m p s
      by s lt none (inl less) = are.like s less none
      by s lt none (inr le) = subst (IsLike m p) (let e : count ≡ s = omega (arith, lt, le) in e) like

      other : (s : ℕ) → s < count + 1 → IsLike m p s → (s < count) ⊎ (count ≤ s) → number_at numbers s ≡ 0
      other s lt is (inl less) = are.other s less is
      other s lt is (inr le) = later s le

  module _ (text : List ℕ) (new_texts : List (List ℕ)) (place : ℕ) (lt_in : count < length numbers) (inside : place < length new_texts) (there : get_or new_texts place [] ≡ text) (grown : (new_texts ≡ texts) ⊎ (new_texts ≡ texts ++ text ∷ [])) (is_text : text ≡ row_text (quotient_row m p count)) where
    abbrev new : List ℕ
    new = set numbers count (place + 1)

    here : number_at new count ≡ place + 1
    here = get_or-set_same numbers count (place + 1) 0 lt_in

    away : (s : ℕ) → s ≢ count → number_at new s ≡ number_at numbers s
    away s ne = get_or-set_other numbers count s (place + 1) 0 ne

    more : length texts ≤ length new_texts
    more = by grown
      where
        by : (new_texts ≡ texts) ⊎ (new_texts ≡ texts ++ text ∷ []) → length texts ≤ length new_texts
        by (inl e) = let same = ap (length {A = List ℕ}) e in omega (arith, same)
        by (inr e) = let same = ap (length {A = List ℕ}) e in omega (arith, same, length_push texts text)

    kept_text : (i : ℕ) → i < length texts → get_or new_texts i [] ≡ get_or texts i []
    kept_text i lt = by grown
      where
        by : (new_texts ≡ texts) ⊎ (new_texts ≡ texts ++ text ∷ []) → get_or new_texts i [] ≡ get_or texts i []
        by (inl e) = ap (λ (ts : List (List ℕ)). get_or ts i []) e
        by (inr e) = ap (λ (ts : List (List ℕ)). get_or ts i []) e ∙ get_or_append_left texts (text ∷ []) [] i lt

    pub compared_other : (IsLike m p count → ⊥) → AreCompared m p (count + 1) new (different ++ count ∷ []) new_texts
    compared_other unlike = record {
      size = length-set numbers count (place + 1) ∙ are.size;
      like = λ s lt none. by s lt none (same_or_not s count);
      other = λ s lt is. other s lt is (same_or_not s count);
      places = λ s. places s (same_or_not s count);
      reported = λ s some. reported s some (same_or_not s count);
      visited = λ s lt some. visited s lt some (same_or_not s count);
      some = All-push Some different count (All-weaker Old Some kept different are.some) (omega (arith, lt_in, length-set numbers count (place + 1)), λ none. absurd (let e : place + 1 ≡ 0 = sym here ∙ none in omega (arith, e)));
    }
      where
        Old : ℕ → Type 0
        Old s = (s < length numbers) × (number_at numbers s ≢ 0)

        Some : ℕ → Type 0
        Some s = (s < length new) × (number_at new s ≢ 0)

        kept : (s : ℕ) → Old s → Some s
        kept s old = (let l = old.0 in omega (arith, l, length-set numbers count (place + 1)), λ none. by_case none (same_or_not s count))
          where
            by_case : number_at new s ≡ 0 → (s ≡ count) ⊎ (s ≢ count) → ⊥
            by_case none (inl e) = let f : place + 1 ≡ 0 = sym here ∙ ap (number_at new) (sym e) ∙ none in omega (arith, f)
            by_case none (inr ne) = old.1 (sym (away s ne) ∙ none)

        by : (s : ℕ) → s < count + 1 → number_at new s ≡ 0 → (s ≡ count) ⊎ (s ≢ count) → IsLike m p s
        by s lt none (inl e) = absurd (let f : place + 1 ≡ 0 = sym here ∙ ap (number_at new) (sym e) ∙ none in omega (arith, f))
        by s lt none (inr ne) = are.like s (grind (arith, lt, ne)) (sym (away s ne) ∙ none)

        other : (s : ℕ) → s < count + 1 → IsLike m p s → (s ≡ count) ⊎ (s ≢ count) → number_at new s ≡ 0
        other s lt is (inl e) = absurd (unlike (subst (IsLike m p) e is))
        other s lt is (inr ne) = away s ne ∙ are.other s (grind (arith, lt, ne)) is

        places : (s : ℕ) → (s ≡ count) ⊎ (s ≢ count) → number_at new s ≤ length new_texts
        places s (inl e) = let n : number_at new s ≡ place + 1 = ap (number_at new) e ∙ here in omega (arith, n, inside)
        places s (inr ne) = let n = away s ne in let was = are.places s in omega (arith, n, was, more)

        reported : (s : ℕ) → number_at new s ≢ 0 → (s ≡ count) ⊎ (s ≢ count) → get_or new_texts (number_at new s - 1) [] ≡ row_text (quotient_row m p s)
        reported s some (inl e) =
            ap (λ n. get_or new_texts n []) (let n : number_at new s ≡ place + 1 = ap (number_at new) e ∙ here in let f : number_at new s - 1 ≡ place = omega (arith, n) in f)
            ∙ there ∙ is_text ∙ ap (λ k. row_text (quotient_row m p k)) (sym e)
        reported s some (inr ne) =
            let was : number_at numbers s ≢ 0 = λ none. some (away s ne ∙ none) in
            let low = are.places s in
            ap (λ n. get_or new_texts (n - 1) []) (away s ne)
            ∙ kept_text (number_at numbers s - 1) (grind (arith, low, was))
            ∙ are.reported s was

        visited : (s : ℕ) → s < length new → number_at new s ≢ 0 → (s ≡ count) ⊎ (s ≢ count) → Contains (different ++ count ∷ []) s
        visited s lt some (inl e) = subst (Contains (different ++ count ∷ [])) (sym e) (Contains-push different count)
        visited s lt some (inr ne) = Contains-append_left different (count ∷ []) s (are.visited s (omega (arith, lt, length-set numbers count (place + 1))) (λ none. some (away s ne ∙ none)))

-- the states that weren't looked at yet have the number 0
abbrev pub AreLater : ℕ → List ℕ → Type 0
AreLater count numbers = (s : ℕ) → count ≤ s → number_at numbers s ≡ 0

pub later_same : (count : ℕ) (numbers : List ℕ) → AreLater count numbers → AreLater (count + 1) numbers
later_same count numbers later s le = later s (omega (arith, le))

pub later_other : (count n : ℕ) (numbers new : List ℕ) → new ≡ set numbers count n → AreLater count numbers → AreLater (count + 1) new
later_other count n numbers new is later s le = ap (λ (ns : List ℕ). number_at ns s) is ∙ get_or-set_other numbers count s n 0 (λ e. absurd (omega (arith, e, le))) ∙ later s (omega (arith, le))

-- what holds once the first states, so many, were compared
pub record AreLooked (m : ModelData) (p : Blocks) (count : ℕ) (c : Compared) : Type 0 where
  pub compared : AreCompared m p count c.numbers.items c.different.items c.texts
  pub later : AreLater count c.numbers.items
  pub few : length c.texts ≤ count

pub looked_same : (m : ModelData) (p : Blocks) (count : ℕ) (c : Compared) → IsLike m p count → AreLooked m p count c → AreLooked m p (count + 1) c
looked_same m p count c like are = record {
  compared = compared_same m p count c.numbers.items c.different.items c.texts are.compared are.later like;
  later = later_same count c.numbers.items are.later;
  few = let few = are.few in omega (arith, few);
}

pub looked_numbered : (m : ModelData) (p : Blocks) (count : ℕ) (old new : Compared) (text : List ℕ) → count < length m.states → (IsLike m p count → ⊥) → text ≡ row_text (quotient_row m p count) → IsNumbered count text old new → AreLooked m p count old → AreLooked m p (count + 1) new
looked_numbered m p count old new text lt unlike is reported are = record {
  compared = subst (λ (ns : List ℕ). AreCompared m p (count + 1) ns new.different.items new.texts) (sym reported.numbers)
      (subst (λ (ds : List ℕ). AreCompared m p (count + 1) (set old.numbers.items count (reported.place + 1)) ds new.texts) (sym reported.list)
      (compared_other m p count old.numbers.items old.different.items old.texts are.compared are.later text new.texts reported.place (let size = are.compared.size in omega (arith, lt, size)) reported.inside reported.there reported.texts is unlike));
  later = later_other count (reported.place + 1) old.numbers.items new.numbers.items reported.numbers are.later;
  few = by reported.texts;
}
  where
    by : (new.texts ≡ old.texts) ⊎ (new.texts ≡ old.texts ++ text ∷ []) → length new.texts ≤ count + 1
    by (inl e) = let same = ap (length {A = List ℕ}) e in let few = are.few in omega (arith, same, few)
    by (inr e) = let same = ap (length {A = List ℕ}) e in let few = are.few in omega (arith, same, few, length_push old.texts text)

-- one text has one place
one_place : (texts : List (List ℕ)) → AllPairs (λ (a b : List ℕ). a ≢ b) texts → (i j : ℕ) → i < length texts → j < length texts → get_or texts i [] ≡ get_or texts j [] → i ≡ j
one_place texts apart i j i_in j_in e = by (side i j) (side j i)
  where
    by : (i < j) ⊎ (j ≤ i) → (j < i) ⊎ (i ≤ j) → i ≡ j
    by (inl lt) _ = absurd (apart i j [] lt j_in e)
    by (inr le) (inl lt) = absurd (apart j i [] lt i_in (sym e))
    by (inr le) (inr ge) = omega (arith, le, ge)

-- ---- what it tells

module _ (m : ModelData) (labels : List ℕ) (p : Blocks) (is : IsModel m) (size : length labels ≡ length m.states) (numbered : AreNumbered (length m.states) p) (same : AreSameBlocks labels p.of_states) (above : IsAboveRight m (labelled labels)) where
  -- every right partition refines the numbered blocks too
  pub numbered_above : IsAboveRight m (block p)
  numbered_above other right s t together = same.together s t (omega (arith, size, together.states.0)) (omega (arith, size, together.states.1)) (above other right s t together)

  -- the least state of a block has the number 0
  pub least_none : (numbers different : List ℕ) (texts : List (List ℕ)) → AreCompared m p (length m.states) numbers different texts → HaveNone labels numbers
  least_none numbers different texts are s lt some =
      let s_in : s < length m.states = omega (arith, lt, size) in
      let of_block = numbered.inside s s_in in
      let least = numbered.least (block p s) of_block.0 in
      let low = least.0 in
      let f = first p (block p s) in
      (f, omega (arith, low, size), same.apart f s (omega (arith, low, size)) lt least.1, are.other f low (like_first m p f (ap (first p) least.1)))

  -- where all states are like the least ones of their blocks, the blocks are right
  pub like_right : EntriesTellSums → ((s : ℕ) → s < length m.states → IsLike m p s) → IsRight m (block p)
  like_right tell like = record {
    goals = λ s t together. (like s together.states.0).goal ∙ ap (λ b. is_goal m (first p b)) together.same ∙ sym (like t together.states.1).goal;
    sums = λ s t b together not. sums s t b together not;
  }
    where
      below : (s : ℕ) → All (λ (entry : Entry). block p entry.target < length p.firsts) (row_at m s 0)
      below s i d lt = (numbered.inside (get_or (row_at m s 0) i d).target (targets_inside m is s i d lt)).0

      sums : (s t b : ℕ) → AreTogether m (block p) s t → is_goal m s ≡ false → sum_into (in_block (block p) b) (row_at m s 0) ≡ sum_into (in_block (block p) b) (row_at m t 0)
      sums s t b together not =
          let goals : is_goal m t ≡ false = sym ((like s together.states.0).goal ∙ ap (λ b. is_goal m (first p b)) together.same ∙ sym (like t together.states.1).goal) ∙ not in
          let rows : quotient_row m p s ≡ quotient_row m p t = (like s together.states.0).row ∙ ap (λ b. quotient_row m p (first p b)) together.same ∙ sym (like t together.states.1).row in
          tell (block p) (row_at m s 0) (row_at m t 0) (length p.firsts) b (below s) (below t) (sym (plain s not) ∙ rows ∙ plain t goals)
        where
          plain : (u : ℕ) → is_goal m u ≡ false → quotient_row m p u ≡ entries_into (block p) (row_at m u 0) (length p.firsts)
          plain u e = ap (λ g. cond g (record { target = block p u; poly = constant m.common } ∷ []) (entries_into (block p) (row_at m u 0) (length p.firsts))) e

  module _ (polynomial : TermsSumToPolynomial) (coefficients : TermsSumBySet) (unique : CoefficientsDetermine) where
    -- states that a right partition takes together have the same row in the quotient
    rows_same : (other : Partition) → IsRight m other → (s t : ℕ) → AreTogether m other s t → quotient_row m p s ≡ quotient_row m p t
    rows_same other right s t together = by (is_goal m s) refl
      where
        goals : is_goal m s ≡ is_goal m t
        goals = right.goals s t together

        blocks : block p s ≡ block p t
        blocks = numbered_above other right s t together

        upto : is_goal m s ≡ false → (count : ℕ) → entries_into (block p) (row_at m s 0) count ≡ entries_into (block p) (row_at m t 0) count
        upto not zero = refl
        upto not (suc b) =
            ap₂ (λ (xs ys : List Entry). xs ++ ys) (upto not b)
            (ap (one_entry b) (sums_agree polynomial coefficients unique m other (in_block (block p) b) is right (λ i j h. ap (λ k. nat_eq k b) (numbered_above other right i j h)) s t together not))

        by : (g : Bool) → is_goal m s ≡ g → quotient_row m p s ≡ quotient_row m p t
        by true e = rw (e, sym goals ∙ e) (ap (λ k. record { target = k; poly = constant m.common } ∷ []) blocks)
        by false e = rw (e, sym goals ∙ e) (upto e (length p.firsts))

    -- a split by what differs keeps apart only what every right partition does
    pub split_above : (numbers different : List ℕ) (texts : List (List ℕ)) (new : Partition) → AreCompared m p (length m.states) numbers different texts → AllPairs (λ (a b : List ℕ). a ≢ b) texts → IsByNumber (length m.states) (labelled labels) numbers new → IsAboveRight m new
    split_above numbers different texts new are apart by_number other right s t together =
        by_number s t together.states.0 together.states.1 (above other right s t together) (by (same_or_not (number_at numbers s) 0) (same_or_not (number_at numbers t) 0))
      where
        like : (i j : ℕ) → AreTogether m other i j → IsLike m p i → IsLike m p j
        like i j h l = record {
          goal = sym (right.goals i j h) ∙ l.goal ∙ ap (λ b. is_goal m (first p b)) (numbered_above other right i j h);
          row = sym (rows_same other right i j h) ∙ l.row ∙ ap (λ b. quotient_row m p (first p b)) (numbered_above other right i j h);
        }

        back : AreTogether m other t s
        back = record { states = (together.states.1, together.states.0); same = sym together.same }

        by : (number_at numbers s ≡ 0) ⊎ (number_at numbers s ≢ 0) → (number_at numbers t ≡ 0) ⊎ (number_at numbers t ≢ 0) → number_at numbers s ≡ number_at numbers t
        by (inl a) _ = a ∙ sym (are.other t together.states.1 (like s t together (are.like s together.states.0 a)))
        by (inr a) (inl b) = are.other s together.states.0 (like t s back (are.like t together.states.1 b)) ∙ sym b
        by (inr a) (inr b) =
            let rows : get_or texts (number_at numbers s - 1) [] ≡ get_or texts (number_at numbers t - 1) [] = are.reported s a ∙ ap row_text (rows_same other right s t together) ∙ sym (are.reported t b) in
            let s_low = are.places s in
            let t_low = are.places t in
            let same_place = one_place texts apart (number_at numbers s - 1) (number_at numbers t - 1) (grind (arith, s_low, a)) (grind (arith, t_low, b)) rows in
            grind (arith, same_place, a, b)

    -- where no state differs, the blocks are the coarsest right ones
    pub none_differs : EntriesTellSums → (numbers : List ℕ) (texts : List (List ℕ)) → AreCompared m p (length m.states) numbers [] texts → IsCoarsest m (block p)
    none_differs tell numbers texts are = record {
      right = like_right tell (λ s lt. are.like s lt (zero_there s lt (same_or_not (number_at numbers s) 0)));
      above = numbered_above;
    }
      where
        zero_there : (s : ℕ) → s < length m.states → (number_at numbers s ≡ 0) ⊎ (number_at numbers s ≢ 0) → number_at numbers s ≡ 0
        zero_there s lt (inl none) = none
        zero_there s lt (inr some) = absurd (let there = are.visited s (let e = are.size in omega (arith, lt, e)) some in let f : there.0 < 0 = there.1 in omega (arith, f))
