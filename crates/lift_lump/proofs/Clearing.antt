-- Marks and numbers that are set back, and blocks that are split by numbers.
use Rattle.std.proofs.Common.{◌≡◌, ◌≢◌, ◌⊎◌, inl, inr, ℕ, ◌+◌, ◌<◌, ◌≤◌, Bool, true, false, List, length, get_or, set, All, Contains, refl, sym, ap, ◌∙◌, subst, arith}
use Rattle.std.proofs.lemmas.List.{get_or-set_same, get_or-set_other, get_or_default, get_or_past, length-set}
use Rattle.lift_lump.specs.declared.arrows.Arrow.{Arrow}
use Rattle.lift_lump.specs.Laws.{StepsKeep}
use Rattle.lift_lump.specs.Search.{marked, number_at, AreVisited, AreMarked, AreNumbersOf, IsByNumber}
use Rattle.lift_lump.specs.declared.touch.Touched.{Touched}
use Rattle.lift_lump.specs.Renaming.{AreTouched, AreAllTouched, no_touched, state_at}
use Rattle.lift_lump.specs.Splitting.{list_of, AreListed, AreGathered, labelled, AreTelling, IsKeptAbove, IsBegun}
use Rattle.lift_lump.proofs.Sides.{side, same_or_not}

-- ---- marks

unset : (marks : List Bool) (s u : ℕ) → marked (set marks s false) u ≡ true → (marked marks u ≡ true) × (u ≢ s)
unset marks s u is = by (same_or_not u s) (side s (length marks))
  where
    by : (u ≡ s) ⊎ (u ≢ s) → (s < length marks) ⊎ (length marks ≤ s) → (marked marks u ≡ true) × (u ≢ s)
    by (inr other) _ = (sym (get_or-set_other marks s u false false other) ∙ is, other)
    by (inl same) (inl lt) = absurd (let none : marked (set marks s false) u ≡ false = ap (marked (set marks s false)) same ∙ get_or-set_same marks s false false lt in let e = sym none ∙ is in cc)
    by (inl same) (inr past) = absurd (let none : marked (set marks s false) u ≡ false = get_or_past (set marks s false) u false (omega (arith, past, same, length-set marks s false)) in let e = sym none ∙ is in cc)

-- the first of these states, so many, are unmarked, and the marks that are left were there
pub record AreUnmarked (states : List ℕ) (count : ℕ) (old new : List Bool) : Type 0 where
  pub left : (u : ℕ) → marked new u ≡ true → marked old u ≡ true
  pub gone : (k : ℕ) → k < count → marked new (get_or states k 0) ≡ true → ⊥

pub unmarked_none : (states : List ℕ) (marks : List Bool) → AreUnmarked states 0 marks marks
unmarked_none states marks = record { left = λ u is. is; gone = λ k lt. absurd (omega (arith, lt)) }

pub unmarked_more : (states : List ℕ) (i : ℕ) (old marks : List Bool) → AreUnmarked states i old marks → AreUnmarked states (i + 1) old (set marks (get_or states i 0) false)
unmarked_more states i old marks are = record {
  left = λ u is. are.left u (unset marks (get_or states i 0) u is).0;
  gone = λ k lt is. by k lt is (side k i);
}
  where
    by : (k : ℕ) → k < i + 1 → marked (set marks (get_or states i 0) false) (get_or states k 0) ≡ true → (k < i) ⊎ (i ≤ k) → ⊥
    by k lt is (inl before) = are.gone k before (unset marks (get_or states i 0) (get_or states k 0) is).0
    by k lt is (inr from) = (unset marks (get_or states i 0) (get_or states k 0) is).1 (let e : k ≡ i = omega (arith, lt, from) in ap (λ j. get_or states j 0) e)

pub unmarked_all : (states : List ℕ) (i : ℕ) (old new : List Bool) → length states ≤ i → ((u : ℕ) → marked old u ≡ true → Contains states u) → AreUnmarked states i old new → (u : ℕ) → marked new u ≡ false
unmarked_all states i old new past among are u = by (marked new u) refl
  where
    by : (b : Bool) → marked new u ≡ b → marked new u ≡ false
    by false none = none
    by true is =
        let there = among u (are.left u is) in
        let at : get_or states there.0 0 ≡ u = get_or_default states there.0 0 u there.1 ∙ there.2 in
        absurd (are.gone there.0 (omega (arith, there.1, past)) (ap (marked new) at ∙ is))

-- ---- numbers

pub zeroed : (numbers : List ℕ) (s u : ℕ) → number_at (set numbers s 0) u ≢ 0 → (number_at numbers u ≢ 0) × (u ≢ s)
zeroed numbers s u some = by (same_or_not u s) (side s (length numbers))
  where
    by : (u ≡ s) ⊎ (u ≢ s) → (s < length numbers) ⊎ (length numbers ≤ s) → (number_at numbers u ≢ 0) × (u ≢ s)
    by (inr other) _ = ((λ none. some (get_or-set_other numbers s u 0 0 other ∙ none)), other)
    by (inl same) (inl lt) = absurd (some (ap (number_at (set numbers s 0)) same ∙ get_or-set_same numbers s 0 0 lt))
    by (inl same) (inr past) = absurd (some (get_or_past (set numbers s 0) u 0 (omega (arith, past, same, length-set numbers s 0))))

-- the first of these states, so many, have the number 0, and the numbers that are left were there
pub record AreCleared (states : List ℕ) (count : ℕ) (old new : List ℕ) : Type 0 where
  pub left : (u : ℕ) → number_at new u ≢ 0 → number_at old u ≢ 0
  pub gone : (k : ℕ) → k < count → number_at new (get_or states k 0) ≢ 0 → ⊥

pub cleared_none : (states numbers : List ℕ) → AreCleared states 0 numbers numbers
cleared_none states numbers = record { left = λ u some. some; gone = λ k lt. absurd (omega (arith, lt)) }

pub cleared_more : (states : List ℕ) (i : ℕ) (old mid new : List ℕ) → AreCleared states i old mid → ((u : ℕ) → number_at new u ≢ 0 → (number_at mid u ≢ 0) × (u ≢ get_or states i 0)) → AreCleared states (i + 1) old new
cleared_more states i old mid new are step = record {
  left = λ u some. are.left u (step u some).0;
  gone = λ k lt some. by k lt some (side k i);
}
  where
    by : (k : ℕ) → k < i + 1 → number_at new (get_or states k 0) ≢ 0 → (k < i) ⊎ (i ≤ k) → ⊥
    by k lt some (inl before) = are.gone k before (step (get_or states k 0) some).0
    by k lt some (inr from) = (step (get_or states k 0) some).1 (let e : k ≡ i = omega (arith, lt, from) in ap (λ j. get_or states j 0) e)

pub cleared_all : (states : List ℕ) (i : ℕ) (old new : List ℕ) → length states ≤ i → AreVisited old states → AreCleared states i old new → (u : ℕ) → number_at new u ≡ 0
cleared_all states i old new past visited are u = by (same_or_not (number_at new u) 0) (side u (length old))
  where
    by : (number_at new u ≡ 0) ⊎ (number_at new u ≢ 0) → (u < length old) ⊎ (length old ≤ u) → number_at new u ≡ 0
    by (inl none) _ = none
    by (inr some) (inr out) = absurd (are.left u some (get_or_past old u 0 out))
    by (inr some) (inl lt) =
        let there = visited u lt (are.left u some) in
        let at : get_or states there.0 0 ≡ u = get_or_default states there.0 0 u there.1 ∙ there.2 in
        absurd (are.gone there.0 (omega (arith, there.1, past)) (λ none. some (ap (number_at new) (sym at) ∙ none)))

-- ---- touched states

-- where each state stands in the list of its label, touched states are gathered
pub gathered : (labels numbers : List ℕ) (members : List (List ℕ)) (touched : List Touched) → AreListed labels members → AreTouched labels numbers touched → AreAllTouched labels numbers touched → AreGathered labels numbers members touched
gathered labels numbers members touched listed are all = record { touched = are; some = all; listed = λ s lt. inl (listed s lt) }

-- the same in another order, of the labels in a slice
pub touched_are : (labels numbers slice : List ℕ) (members : List (List ℕ)) (old new : List Touched) → slice ≡ labels → ((ls ns : List ℕ) (ms : List (List ℕ)) → AreGathered ls ns ms old → AreGathered ls ns ms new) → AreTouched slice numbers old → AreAllTouched slice numbers old
    → AreListed labels members → AreGathered labels numbers members new
touched_are labels numbers slice members old new is sorted are all listed =
    sorted labels numbers members (gathered labels numbers members old listed (subst (λ (ls : List ℕ). AreTouched ls numbers old) is are) (subst (λ (ls : List ℕ). AreAllTouched ls numbers old) is all))

-- ---- one split

-- the marked states stand in the list of their block
pub marked_listed : (labels : List ℕ) (members : List (List ℕ)) (b : ℕ) (states : List ℕ) (marks : List Bool) → length marks ≡ length labels → AreListed labels members → states ≡ list_of members b → AreMarked labels b states marks
    → (u : ℕ) → marked marks u ≡ true → Contains states u
marked_listed labels members b states marks size listed is are u set_there = by (side u (length marks))
  where
    by : (u < length marks) ⊎ (length marks ≤ u) → Contains states u
    by (inl lt) = subst (λ (xs : List ℕ). Contains xs u) (ap (list_of members) (are.only u set_there) ∙ sym is) (listed u (omega (arith, lt, size)))
    by (inr past) = absurd (let none : marked marks u ≡ false = get_or_past marks u false past in let e = sym none ∙ set_there in cc)

-- the numbers of the marked states' set tell apart what every right partition does
pub telling : StepsKeep → (into : ℕ → List Arrow) (labels numbers : List ℕ) (members : List (List ℕ)) (b : ℕ) (states : List ℕ) (marks : List Bool) → length numbers ≡ length labels → AreListed labels members → states ≡ list_of members b
    → AreMarked labels b states marks → AreNumbersOf into marks numbers → AreTelling into labels numbers
telling steps into labels numbers members b states marks size listed is are numbers_of m v new model count arrows above by_number =
    steps m v into labels states numbers marks b new model (count ∙ sym size) arrows above
    (λ s lt of_block. subst (λ (xs : List ℕ). Contains xs s) (ap (list_of members) of_block ∙ sym is) (listed s (omega (arith, lt, count))))
    are numbers_of by_number

-- one split, with the labels before and behind it
pub kept_one : (into : ℕ → List Arrow) (old new numbers : List ℕ) → AreTelling into old numbers → IsByNumber (length old) (labelled old) numbers (labelled new) → IsKeptAbove into old new
kept_one into old new numbers tells by_number m v model count arrows above =
    tells m v (labelled new) model count arrows above (subst (λ n. IsByNumber n (labelled old) numbers (labelled new)) (sym count) by_number)

pub kept_none : (into : ℕ → List Arrow) (labels : List ℕ) → IsKeptAbove into labels labels
kept_none into labels m v model count arrows above = above

pub kept_more : (into : ℕ → List Arrow) (a b c : List ℕ) → length b ≡ length a → IsKeptAbove into a b → IsKeptAbove into b c → IsKeptAbove into a c
kept_more into a b c size first next m v model count arrows above = next m v model (count ∙ sym size) arrows (first m v model count arrows above)

-- where a state has a number, some state is touched, and the list of its block is there
pub begun : (labels numbers visited : List ℕ) (members : List (List ℕ)) (touched : List Touched) → length numbers ≡ length labels → 0 < length visited → All (λ s. (s < length numbers) × (number_at numbers s ≢ 0)) visited → AreGathered labels numbers members touched → AreListed labels members → IsBegun touched labels members
begun labels numbers visited members touched size some others are listed =
    let first = others 0 0 some in
    let low = first.0 in
    let there = are.some (get_or visited 0 0) (omega (arith, low, size)) first.1 in
    let is_some : 0 < length touched = (let lt = there.1 in omega (arith, lt)) in
    let state = (are.touched.each 0 no_touched is_some).inside in
    let in_list = listed (state_at touched 0) state in
    record { some = is_some; listed = let lt = in_list.1 in omega (arith, lt) }
