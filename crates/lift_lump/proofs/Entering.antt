-- Arrows that are added to the lists of their targets.
use Rattle.std.proofs.Common.{◌≡◌, ◌≢◌, ◌⊎◌, inl, inr, ℕ, ◌+◌, ◌<◌, ◌≤◌, Bool, true, false, List, [], ◌∷◌, ◌++◌, length, get_or, set, take, ℤ, pos, ◌+ℤ◌, All, nat_eq, refl, sym, ap, ◌∙◌, subst, arith}
use Rattle.std.proofs.lemmas.List.{get_or-set_same, get_or-set_other, get_or_past, length-set, get_or_default, take_more, take_all, append-nil}
use Rattle.std.proofs.lemmas.List.Elements.{All-push, All-set}
use Rattle.std.proofs.lemmas.Bool.Decides.{nat_tests}
use Rattle.lift_poly.proofs.Ring.{linear}
use Rattle.lift_poly.specs.Polynomial.{Term, Valuation, weight}
use Rattle.lift_model.specs.declared.entry.Entry.{Entry}
use Rattle.lift_model.specs.Model.{ModelData, is_goal, row_at}
use Rattle.lift_lump.specs.declared.arrows.Arrow.{Arrow}
use Rattle.lift_lump.specs.Search.{marks_from, IsArrow, IsCongruent, AreArrows, AreEntered, arrows_into, modulus}
use Rattle.lift_lump.proofs.Gathering.{congruent_none}
use Rattle.lift_lump.proofs.Holding.{weight-append}
use Rattle.lift_lump.proofs.Raising.{marks-append}
use Rattle.lift_lump.proofs.Telling.{entries_to, to-append}
use Rattle.lift_lump.proofs.Marking.{sum_congruent}
use Rattle.lift_lump.proofs.Sides.{side, same_or_not}

pub entered_none : (v : Valuation) (s : ℕ) (row : List Entry) (old : List (List Arrow)) → AreEntered v s (take 0 row) old old
entered_none v s row old = record {
  count = refl;
  arrows = λ all. all;
  others = λ u t ne. refl;
  marks = λ t lt z p. subst (IsCongruent (marks_from s (arrows_into old t))) (let e : z ≡ z +ℤ pos 0 = omega (arith, linear) in e) p;
}

-- ---- one arrow

module _ (v : Valuation) (s mark : ℕ) (entry : Entry) (old : List (List Arrow)) (t_in : entry.target < length old) (s_in : s < length old) (below : mark < modulus) (is : IsCongruent mark (weight v entry.poly)) where
  abbrev arrow : Arrow
  arrow = record { source = s; mark = mark }

  abbrev grown : List Arrow
  grown = arrows_into old entry.target ++ arrow ∷ []

  abbrev new : List (List Arrow)
  new = set old entry.target grown

  here : arrows_into new entry.target ≡ grown
  here = get_or-set_same old entry.target grown [] t_in

  there : (t : ℕ) → t ≢ entry.target → arrows_into new t ≡ arrows_into old t
  there t ne = get_or-set_other old entry.target t grown [] ne

  from_own : marks_from s (arrow ∷ []) ≡ mark
  from_own =
      let test : nat_eq s s ≡ true = grind (arith, nat_tests) in
      rw test (omega arith)

  from_other : (u : ℕ) → u ≢ s → marks_from u (arrow ∷ []) ≡ 0
  from_other u ne =
      let test : nat_eq s u ≡ false = grind (arith, nat_tests, ne) in
      rw test (omega arith)

  others_same : (u t : ℕ) → u ≢ s → (t ≡ entry.target) ⊎ (t ≢ entry.target) → marks_from u (arrows_into new t) ≡ marks_from u (arrows_into old t)
  others_same u t ne (inl e) =
      ap (λ k. marks_from u (arrows_into new k)) e ∙ ap (marks_from u) here ∙ marks-append u (arrows_into old entry.target) (arrow ∷ [])
      ∙ (let none = from_other u ne in let sum : marks_from u (arrows_into old entry.target) + marks_from u (arrow ∷ []) ≡ marks_from u (arrows_into old entry.target) = omega (arith, none) in sum)
      ∙ ap (λ k. marks_from u (arrows_into old k)) (sym e)
  others_same u t ne (inr other) = ap (marks_from u) (there t other)

  own_here : (z : ℤ) → IsCongruent (marks_from s (arrows_into old entry.target)) z → IsCongruent (marks_from s (arrows_into new entry.target)) (z +ℤ weight v entry.poly)
  own_here z p =
      subst (λ n. IsCongruent n (z +ℤ weight v entry.poly)) (sym (ap (marks_from s) here ∙ marks-append s (arrows_into old entry.target) (arrow ∷ []) ∙ ap (λ n. marks_from s (arrows_into old entry.target) + n) from_own))
      (sum_congruent (marks_from s (arrows_into old entry.target)) mark z (weight v entry.poly) p is)

  into_here : (t : ℕ) → t ≡ entry.target → entries_to t (entry ∷ []) ≡ entry.poly
  into_here t e =
      let test : nat_eq entry.target t ≡ true = grind (arith, nat_tests, e) in
      rw test (append-nil entry.poly)

  into_other : (t : ℕ) → t ≢ entry.target → entries_to t (entry ∷ []) ≡ []
  into_other t ne =
      let test : nat_eq entry.target t ≡ false = grind (arith, nat_tests, ne) in
      rw test refl

  own : (t : ℕ) (z : ℤ) → (t ≡ entry.target) ⊎ (t ≢ entry.target) → IsCongruent (marks_from s (arrows_into old t)) z → IsCongruent (marks_from s (arrows_into new t)) (z +ℤ weight v (entries_to t (entry ∷ [])))
  own t z (inl e) p =
      subst (λ (ts : List Term). IsCongruent (marks_from s (arrows_into new t)) (z +ℤ weight v ts)) (sym (into_here t e))
      (subst (λ k. IsCongruent (marks_from s (arrows_into new k)) (z +ℤ weight v entry.poly)) (sym e) (own_here z (subst (λ k. IsCongruent (marks_from s (arrows_into old k)) z) e p)))
  own t z (inr ne) p =
      subst (λ (ts : List Term). IsCongruent (marks_from s (arrows_into new t)) (z +ℤ weight v ts)) (sym (into_other t ne))
      (subst (λ (xs : List Arrow). IsCongruent (marks_from s xs) (z +ℤ pos 0)) (sym (there t ne)) (subst (IsCongruent (marks_from s (arrows_into old t))) (let e : z ≡ z +ℤ pos 0 = omega (arith, linear) in e) p))

  pub entered_one : AreEntered v s (entry ∷ []) old new
  entered_one = record {
    count = length-set old entry.target grown;
    arrows = λ all. All-set (All (IsArrow (length old))) old entry.target grown (All-push (IsArrow (length old)) (arrows_into old entry.target) arrow (all entry.target [] t_in) (record { source = s_in; mark = below })) all;
    others = λ u t ne. others_same u t ne (same_or_not t entry.target);
    marks = λ t lt z p. own t z (same_or_not t entry.target) p;
  }

pub entered_more : (v : Valuation) (s : ℕ) (row : List Entry) (i : ℕ) (entry : Entry) (old mid new : List (List Arrow)) → i < length row → get_or row i entry ≡ entry → AreEntered v s (take i row) old mid → AreEntered v s (entry ∷ []) mid new → AreEntered v s (take (i + 1) row) old new
entered_more v s row i entry old mid new lt is first next = record {
  count = next.count ∙ first.count;
  arrows = λ all. subst (λ n. All (All (IsArrow n)) new) first.count (next.arrows (subst (λ n. All (All (IsArrow n)) mid) (sym first.count) (first.arrows all)));
  others = λ u t ne. next.others u t ne ∙ first.others u t ne;
  marks = λ t t_in z p. subst (IsCongruent (marks_from s (arrows_into new t))) (all t z) (next.marks t (omega (arith, t_in, first.count)) (z +ℤ weight v (entries_to t (take i row))) (first.marks t t_in z p));
}
  where
    all : (t : ℕ) (z : ℤ) → (z +ℤ weight v (entries_to t (take i row))) +ℤ weight v (entries_to t (entry ∷ [])) ≡ z +ℤ weight v (entries_to t (take (i + 1) row))
    all t z =
        let apart = weight-append v (entries_to t (take i row)) (entries_to t (entry ∷ [])) in
        let joined = ap (weight v) (to-append t (take i row) (entry ∷ [])) in
        let taken : take (i + 1) row ≡ take i row ++ entry ∷ [] = take_more row i entry lt ∙ ap (λ (e : Entry). take i row ++ e ∷ []) is in
        let whole = ap (λ (es : List Entry). weight v (entries_to t es)) taken in
        omega (arith, linear, apart, joined, whole)

pub entered_all : (v : Valuation) (s : ℕ) (row : List Entry) (i : ℕ) (old new : List (List Arrow)) → length row ≤ i → AreEntered v s (take i row) old new → AreEntered v s row old new
entered_all v s row i old new past are = subst (λ (es : List Entry). AreEntered v s es old new) (take_all i row past) are

-- ---- the states one after another

-- the arrows of the first states, so many, are there
pub record AreArrowsOf (m : ModelData) (v : Valuation) (count : ℕ) (lists : List (List Arrow)) : Type 0 where
  pub size : length lists ≡ length m.states
  pub arrows : All (All (IsArrow (length m.states))) lists
  pub later : (u t : ℕ) → count ≤ u → marks_from u (arrows_into lists t) ≡ 0
  pub goals : (u t : ℕ) → is_goal m u ≡ true → marks_from u (arrows_into lists t) ≡ 0
  pub marks : (u t : ℕ) → u < count → t < length m.states → is_goal m u ≡ false → IsCongruent (marks_from u (arrows_into lists t)) (weight v (entries_to t (row_at m u 0)))

pub arrows_none : (m : ModelData) (v : Valuation) (lists : List (List Arrow)) → length lists ≡ length m.states → ((t : ℕ) → arrows_into lists t ≡ []) → AreArrowsOf m v 0 lists
arrows_none m v lists size none = record {
  size = size;
  arrows = λ t d lt k e k_in. absurd (empty t d lt k k_in);
  later = λ u t le. ap (marks_from u) (none t);
  goals = λ u t goal. ap (marks_from u) (none t);
  marks = λ u t lt. absurd (omega (arith, lt));
}
  where
    empty : (t : ℕ) (d : List Arrow) → t < length lists → (k : ℕ) → k < length (get_or lists t d) → ⊥
    empty t d lt k k_in =
        let at : get_or lists t d ≡ [] = get_or_default lists t d [] lt ∙ none t in
        let few : length (get_or lists t d) ≡ 0 = ap (length {A = Arrow}) at in
        omega (arith, k_in, few)

pub arrows_goal : (m : ModelData) (v : Valuation) (s : ℕ) (lists : List (List Arrow)) → is_goal m s ≡ true → AreArrowsOf m v s lists → AreArrowsOf m v (s + 1) lists
arrows_goal m v s lists goal are = record {
  size = are.size;
  arrows = are.arrows;
  later = λ u t le. are.later u t (omega (arith, le));
  goals = are.goals;
  marks = λ u t lt t_in not. by u t lt t_in not (side u s);
}
  where
    by : (u t : ℕ) → u < s + 1 → t < length m.states → is_goal m u ≡ false → (u < s) ⊎ (s ≤ u) → IsCongruent (marks_from u (arrows_into lists t)) (weight v (entries_to t (row_at m u 0)))
    by u t lt t_in not (inl before) = are.marks u t before t_in not
    by u t lt t_in not (inr from) = absurd (let e : u ≡ s = omega (arith, lt, from) in let f : true ≡ false = sym goal ∙ ap (is_goal m) (sym e) ∙ not in cc)

pub arrows_more : (m : ModelData) (v : Valuation) (s : ℕ) (old new : List (List Arrow)) → is_goal m s ≡ false → AreArrowsOf m v s old → AreEntered v s (row_at m s 0) old new → AreArrowsOf m v (s + 1) new
arrows_more m v s old new not_goal are more = record {
  size = more.count ∙ are.size;
  arrows = subst (λ n. All (All (IsArrow n)) new) are.size (more.arrows (subst (λ n. All (All (IsArrow n)) old) (sym are.size) are.arrows));
  later = λ u t le. more.others u t (λ e. absurd (omega (arith, le, e))) ∙ are.later u t (omega (arith, le));
  goals = λ u t goal. more.others u t (λ e. absurd (let f : true ≡ false = sym goal ∙ ap (is_goal m) e ∙ not_goal in cc)) ∙ are.goals u t goal;
  marks = λ u t lt t_in not. by u t lt t_in not (same_or_not u s);
}
  where
    by : (u t : ℕ) → u < s + 1 → t < length m.states → is_goal m u ≡ false → (u ≡ s) ⊎ (u ≢ s) → IsCongruent (marks_from u (arrows_into new t)) (weight v (entries_to t (row_at m u 0)))
    by u t lt t_in not (inl e) =
        subst (λ k. IsCongruent (marks_from k (arrows_into new t)) (weight v (entries_to t (row_at m k 0)))) (sym e)
        (subst (IsCongruent (marks_from s (arrows_into new t))) (let z : pos 0 +ℤ weight v (entries_to t (row_at m s 0)) ≡ weight v (entries_to t (row_at m s 0)) = omega (arith, linear) in z)
        (more.marks t (omega (arith, t_in, are.size)) (pos 0) (congruent_none (marks_from s (arrows_into old t)) (are.later s t (omega arith)))))
    by u t lt t_in not (inr ne) =
        subst (λ n. IsCongruent n (weight v (entries_to t (row_at m u 0)))) (sym (more.others u t ne)) (are.marks u t (grind (arith, lt, ne)) t_in not)

pub arrows_all : (m : ModelData) (v : Valuation) (count : ℕ) (lists : List (List Arrow)) → length m.states ≤ count → AreArrowsOf m v count lists → AreArrows m v (arrows_into lists)
arrows_all m v count lists past are = record {
  arrows = λ t lt. are.arrows t [] (omega (arith, lt, are.size));
  goals = λ s t lt goal. are.goals s t goal;
  marks = λ s t lt not. by s t lt not (side s count);
}
  where
    by : (s t : ℕ) → t < length m.states → is_goal m s ≡ false → (s < count) ⊎ (count ≤ s) → IsCongruent (marks_from s (arrows_into lists t)) (weight v (entries_to t (row_at m s 0)))
    by s t lt not (inl before) = are.marks s t before lt not
    by s t lt not (inr from) =
        let none : row_at m s 0 ≡ [] = ap (λ (rows : List (List Entry)). get_or rows 0 []) (get_or_past m.states s [] (omega (arith, past, from))) in
        subst (λ (row : List Entry). IsCongruent (marks_from s (arrows_into lists t)) (weight v (entries_to t row))) (sym none) (congruent_none (marks_from s (arrows_into lists t)) (are.later s t from))

pub arrows_step : (m : ModelData) (v : Valuation) (s : ℕ) (old new : List (List Arrow)) → (is_goal m s ≡ true → new ≡ old) → (is_goal m s ≡ false → AreEntered v s (row_at m s 0) old new) → AreArrowsOf m v s old → AreArrowsOf m v (s + 1) new
arrows_step m v s old new goal entered are = by (is_goal m s) refl
  where
    by : (b : Bool) → is_goal m s ≡ b → AreArrowsOf m v (s + 1) new
    by true is = subst (AreArrowsOf m v (s + 1)) (sym (goal is)) (arrows_goal m v s old is are)
    by false not = arrows_more m v s old new not are (entered not)
