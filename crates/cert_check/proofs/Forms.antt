-- The form of a rejecting leaf: as a report tells it, state by state.
use Rattle.std.proofs.Common.{◌≡◌, ℕ, zero, suc, ◌+◌, ◌<◌, ◌≤◌, ◌==◌, Bool, true, false, ◌&&◌, not, List, [], ◌∷◌, length, map, get_or, All, refl, sym, ◌∙◌, subst, arith, inl, inr, nat_lt, ltb-true, ltb-false}
use Rattle.std.specs.Prelude.{◌⊎◌, sum_by}
use Rattle.std.proofs.lemmas.Bool.{eqb-true, eq-eqb}
use Rattle.std.proofs.lemmas.List.Sums.{sum_by-cons}
use Rattle.std.proofs.lemmas.List.Elements.{All-head, All-tail}
use Rattle.lift_grid.specs.Rectangle.{Spans}
use Rattle.lift_grid.specs.Tree.{Tree, RejectData, lower_half, upper_half}
use Rattle.lift_grid.specs.Tree.Tree.{split, accept, reject, unknown}
use Rattle.lift_model.specs.Model.{is_goal, choices}
use Rattle.corner_lift.specs.Case.{CaseData, IsCase, Within, greatest_depth}
use Rattle.corner_lift.specs.Certificate.{unmarked, mark, IsLower}
use Rattle.corner_lift.specs.Laws.{LiveHasSpan}
use Rattle.lift_cert.specs.RejectMiss.{HasRejectForm, IsUnmarked, IsMarked, most_height}
use Rattle.cert_text.specs.Nodes.{fits_state, fit_states}
use Rattle.cert_text.specs.Head.{HeadData, case_at}
use Rattle.cert_text.specs.Forms.{AreMarks, IsHead, IsReject, IsTree}
use Rattle.cert_check.specs.Sound.{IsSoundTree}
use Rattle.cert_check.specs.Laws.{CanBeReported, SoundTreesAreReports}
use Rattle.cert_check.specs.Shown.{IsPlaced, RootIsPlaced, HalvesArePlaced}
use Rattle.cert_check.proofs.Precise.{precise_case}

-- ---- tests

and_left : (a b : Bool) → (a && b) ≡ true → a ≡ true
and_left true b e = refl
and_left false b e = absurd cc

and_right : (a b : Bool) → (a && b) ≡ true → b ≡ true
and_right true b e = e
and_right false b e = absurd cc

both_true : (a b : Bool) → a ≡ true → b ≡ true → (a && b) ≡ true
both_true true b e f = f
both_true false b e f = absurd cc

not_true : (b : Bool) → not b ≡ true → b ≡ false
not_true true e = absurd cc
not_true false e = refl

either_way : {P : Type 0} (b : Bool) → (b ≡ true → P) → (b ≡ false → P) → P
either_way true f g = f refl
either_way false f g = g refl

eqb-never : (a b : ℕ) → (a == b) ≡ false → a ≡ b → ⊥
eqb-never a b e same = let t = eq-eqb a b same in absurd cc

-- ---- lists

marks_length : (ends marks : List ℕ) → AreMarks ends marks → length marks ≡ length ends
marks_length [] [] h = refl
marks_length (end ∷ ends) (m ∷ marks) h = let rest = marks_length ends marks h.1 in omega (arith, rest)
marks_length [] (m ∷ marks) h = absurd h
marks_length (end ∷ ends) [] h = absurd h

mark_at : (ends marks : List ℕ) → AreMarks ends marks → (s : ℕ) → (mark marks s ≡ unmarked) ⊎ (mark marks s < get_or ends s 0)
mark_at [] [] h s = inl refl
mark_at (end ∷ ends) (m ∷ marks) h zero = h.0
mark_at (end ∷ ends) (m ∷ marks) h (suc s) = mark_at ends marks h.1 s
mark_at [] (m ∷ marks) h s = absurd h
mark_at (end ∷ ends) [] h s = absurd h

marks_from : (ends marks : List ℕ) → length marks ≡ length ends → ((s : ℕ) → s < length ends → (mark marks s ≡ unmarked) ⊎ (mark marks s < get_or ends s 0)) → AreMarks ends marks
marks_from [] [] size h = tt
marks_from (end ∷ ends) (m ∷ marks) size h = (h 0 (omega arith), marks_from ends marks (omega (arith, size)) (λ s lt. h (suc s) (omega (arith, lt))))
marks_from [] (m ∷ marks) size h = absurd (omega (arith, size))
marks_from (end ∷ ends) [] size h = absurd (omega (arith, size))

fits_at : (goals : List Bool) (picks ranks : List ℕ) → fit_states goals picks ranks ≡ true → (s : ℕ) → fits_state (get_or goals s false) (mark picks s) (mark ranks s) ≡ true
fits_at [] [] [] h s = refl
fits_at (g ∷ goals) (p ∷ picks) (r ∷ ranks) h zero = and_left (fits_state g p r) (fit_states goals picks ranks) h
fits_at (g ∷ goals) (p ∷ picks) (r ∷ ranks) h (suc s) = fits_at goals picks ranks (and_right (fits_state g p r) (fit_states goals picks ranks) h) s
fits_at [] [] (r ∷ ranks) h s = absurd cc
fits_at [] (p ∷ picks) ranks h s = absurd cc
fits_at (g ∷ goals) [] ranks h s = absurd cc
fits_at (g ∷ goals) (p ∷ picks) [] h s = absurd cc

fits_from : (goals : List Bool) (picks ranks : List ℕ) → length picks ≡ length goals → length ranks ≡ length goals → ((s : ℕ) → fits_state (get_or goals s false) (mark picks s) (mark ranks s) ≡ true) → fit_states goals picks ranks ≡ true
fits_from [] [] [] a b h = refl
fits_from (g ∷ goals) (p ∷ picks) (r ∷ ranks) a b h = both_true (fits_state g p r) (fit_states goals picks ranks) (h 0) (fits_from goals picks ranks (omega (arith, a)) (omega (arith, b)) (λ s. h (suc s)))
fits_from [] [] (r ∷ ranks) a b h = absurd (omega (arith, b))
fits_from [] (p ∷ picks) ranks a b h = absurd (omega (arith, a))
fits_from (g ∷ goals) [] ranks a b h = absurd (omega (arith, a))
fits_from (g ∷ goals) (p ∷ picks) [] a b h = absurd (omega (arith, b))

map_length : {X Y : Type 0} (f : X → Y) (xs : List X) → length (map f xs) ≡ length xs
map_length f [] = refl
map_length f (x ∷ xs) = let rest = map_length f xs in omega (arith, rest)

first_below : (a b all : ℕ) → all ≡ a + b → a ≤ all
first_below a b all e = omega (arith, e)

later_below : (a b c all : ℕ) → all ≡ a + c → b ≤ c → b ≤ all
later_below a b c all e h = omega (arith, e, h)

module _ {X : Type 0} where
  same_end : (n : ℕ) (xs : List X) (s m : ℕ) → m < get_or (map (λ _. n) xs) s 0 → m < n
  same_end n [] s m h = absurd (omega arith)
  same_end n (x ∷ xs) zero m h = h
  same_end n (x ∷ xs) (suc s) m h = same_end n xs s m h

  end_same : (n : ℕ) (xs : List X) (s m : ℕ) → s < length xs → m < n → m < get_or (map (λ _. n) xs) s 0
  end_same n [] s m lt h = absurd (omega arith)
  end_same n (x ∷ xs) zero m lt h = h
  end_same n (x ∷ xs) (suc s) m lt h = end_same n xs s m (omega arith) h

  length_at : (xs : List (List X)) (s : ℕ) → get_or (map length xs) s 0 ≡ length (get_or xs s [])
  length_at [] s = refl
  length_at (x ∷ xs) zero = refl
  length_at (x ∷ xs) (suc s) = length_at xs s

  length_below : (xs : List (List X)) (s : ℕ) → length (get_or xs s []) ≤ sum_by length xs
  length_below [] s = omega arith
  length_below (x ∷ xs) zero = let all = sum_by-cons length x xs in first_below (length x) (sum_by length xs) (sum_by length (x ∷ xs)) all
  length_below (x ∷ xs) (suc s) = let all = sum_by-cons length x xs in later_below (length x) (length (get_or xs s [])) (sum_by length xs) (sum_by length (x ∷ xs)) all (length_below xs s)

-- ---- a state

goal_fits : (p r : ℕ) → fits_state true p r ≡ true → (r ≡ 0) × (p ≡ unmarked)
goal_fits p r e = (eqb-true r 0 (and_right (p == unmarked) (r == 0) e), eqb-true p unmarked (and_left (p == unmarked) (r == 0) e))

other_fits : (b : Bool) (p r : ℕ) → (r == unmarked) ≡ b → fits_state false p r ≡ true → ((r ≡ unmarked) × (p ≡ unmarked)) ⊎ ((1 ≤ r) × (r ≡ unmarked → ⊥) × (p ≡ unmarked → ⊥))
other_fits true p r same e = inl (eqb-true r unmarked same, eqb-true p unmarked (rw same at e))
other_fits false p r same e =
    let f : (not (r == 0) && not (p == unmarked)) ≡ true = rw same at e in
    let some = eqb-never r 0 (not_true (r == 0) (and_left (not (r == 0)) (not (p == unmarked)) f)) in
    inr (omega (arith, some), eqb-never r unmarked same, eqb-never p unmarked (not_true (p == unmarked) (and_right (not (r == 0)) (not (p == unmarked)) f)))

-- ---- as a report tells it

pub reject_form : (k : CaseData) (r : RejectData) → IsReject k r → HasRejectForm k r
reject_form k r h = record {
  numbers = h.numbers;
  sizes = (marks_length (map length k.model.states) r.picks h.picks ∙ map_length length k.model.states, marks_length (map (λ _. r.k + 1) k.model.states) r.ranks h.ranks ∙ map_length (λ _. r.k + 1) k.model.states);
  bounds = h.rate;
  goal = λ s is. goal_fits (mark r.picks s) (mark r.ranks s) (subst (λ g. fits_state g (mark r.picks s) (mark r.ranks s) ≡ true) is (fits_at k.model.goal r.picks r.ranks h.places s));
  others = λ s is. other s (other_fits (mark r.ranks s == unmarked) (mark r.picks s) (mark r.ranks s) refl (subst (λ g. fits_state g (mark r.picks s) (mark r.ranks s) ≡ true) is (fits_at k.model.goal r.picks r.ranks h.places s)));
}
  where
    choice_in : (s : ℕ) → (mark r.picks s ≡ unmarked → ⊥) → (mark r.picks s ≡ unmarked) ⊎ (mark r.picks s < get_or (map length k.model.states) s 0) → mark r.picks s < length (choices k.model s)
    choice_in s never (inl e) = absurd (never e)
    choice_in s never (inr lt) = subst (λ n. mark r.picks s < n) (length_at k.model.states s) lt

    rank_in : (s : ℕ) → (mark r.ranks s ≡ unmarked → ⊥) → (mark r.ranks s ≡ unmarked) ⊎ (mark r.ranks s < get_or (map (λ _. r.k + 1) k.model.states) s 0) → mark r.ranks s ≤ r.k
    rank_in s never (inl e) = absurd (never e)
    rank_in s never (inr lt) = let below = same_end (r.k + 1) k.model.states s (mark r.ranks s) lt in omega (arith, below)

    other : (s : ℕ) → ((mark r.ranks s ≡ unmarked) × (mark r.picks s ≡ unmarked)) ⊎ ((1 ≤ mark r.ranks s) × (mark r.ranks s ≡ unmarked → ⊥) × (mark r.picks s ≡ unmarked → ⊥)) → IsUnmarked r s ⊎ IsMarked k r s
    other s (inl u) = inl u
    other s (inr m) = inr (record {
      rank = (m.0, rank_in s m.1 (mark_at (map (λ _. r.k + 1) k.model.states) r.ranks h.ranks s));
      pick = choice_in s m.2 (mark_at (map length k.model.states) r.picks h.picks s);
    })

-- ---- and as it is told

mark_small : (marks : List ℕ) → All (λ n. n ≤ unmarked) marks → (s : ℕ) → mark marks s ≤ unmarked
mark_small [] h s = omega arith
mark_small (a ∷ marks) h zero = All-head (λ n. n ≤ unmarked) a marks h
mark_small (a ∷ marks) h (suc s) = mark_small marks (All-tail (λ n. n ≤ unmarked) a marks h) s

-- how a state is marked that isn't a goal state
other_marks : (b : Bool) (p r : ℕ) → (r == unmarked) ≡ b → (r ≡ unmarked → p ≡ unmarked) → ((r ≡ unmarked → ⊥) → (1 ≤ r) × (p < unmarked)) → fits_state false p r ≡ true
other_marks true p r same none some = rw same (eq-eqb p unmarked (none (eqb-true r unmarked same)))
other_marks false p r same none some =
    let is = some (eqb-never r unmarked same) in
    rw same (both_true (not (r == 0)) (not (p == unmarked)) (no_zero r (r == 0) refl is.0) (no_mark p (p == unmarked) refl is.1))
  where
    no_zero : (r : ℕ) (b : Bool) → (r == 0) ≡ b → 1 ≤ r → not b ≡ true
    no_zero r true e lt = absurd (let z = eqb-true r 0 e in omega (arith, z, lt))
    no_zero r false e lt = refl

    no_mark : (p : ℕ) (b : Bool) → (p == unmarked) ≡ b → p < unmarked → not b ≡ true
    no_mark p true e lt = absurd (let z = eqb-true p unmarked e in omega (arith, z, lt))
    no_mark p false e lt = refl

module _ (k : CaseData) (is : IsCase k) (spans : Spans) (r : RejectData) (low : IsLower k spans r) where
  ranked_state : (s : ℕ) → is_goal k.model s ≡ false → (mark r.ranks s ≡ unmarked → ⊥) → mark r.ranks s < unmarked
  ranked_state s goal never = let most = mark_small r.ranks low.marks s in omega (arith, most, never)

  some_choice : (s : ℕ) → mark r.picks s < length (choices k.model s) → mark r.picks s < unmarked
  some_choice s lt = let few = is.asked.model.choices in let all = length_below k.model.states s in omega (arith, lt, few, all)

  state_fits : (s : ℕ) (g : Bool) → is_goal k.model s ≡ g → fits_state g (mark r.picks s) (mark r.ranks s) ≡ true
  state_fits s true goal = let h = low.goal s goal in both_true (mark r.picks s == unmarked) (mark r.ranks s == 0) (eq-eqb (mark r.picks s) unmarked h.2) (eq-eqb (mark r.ranks s) 0 h.1)
  state_fits s false goal =
      other_marks (mark r.ranks s == unmarked) (mark r.picks s) (mark r.ranks s) refl
      (λ e. (low.unranked s goal (omega (arith, e))).1)
      (λ never. let held = low.held s goal (ranked_state s goal never) in (held.rank.0, some_choice s held.pick))

  choice_mark : (s : ℕ) → (mark r.picks s ≡ unmarked) ⊎ (mark r.picks s < get_or (map length k.model.states) s 0)
  choice_mark s = by (is_goal k.model s) refl
    where
      by : (g : Bool) → is_goal k.model s ≡ g → (mark r.picks s ≡ unmarked) ⊎ (mark r.picks s < get_or (map length k.model.states) s 0)
      by true goal = inl ((low.goal s goal).2)
      by false goal = either_way (nat_lt (mark r.ranks s) unmarked)
          (λ e. inr (subst (λ n. mark r.picks s < n) (sym (length_at k.model.states s)) (low.held s goal (ltb-true (mark r.ranks s) unmarked e)).pick))
          (λ e. inl ((low.unranked s goal (ltb-false (mark r.ranks s) unmarked e)).1))

  rank_mark : (s : ℕ) → s < length k.model.states → (mark r.ranks s ≡ unmarked) ⊎ (mark r.ranks s < get_or (map (λ _. r.k + 1) k.model.states) s 0)
  rank_mark s lt = by (is_goal k.model s) refl
    where
      by : (g : Bool) → is_goal k.model s ≡ g → (mark r.ranks s ≡ unmarked) ⊎ (mark r.ranks s < get_or (map (λ _. r.k + 1) k.model.states) s 0)
      by true goal = inr (end_same (r.k + 1) k.model.states s (mark r.ranks s) lt (let z = (low.goal s goal).1 in omega (arith, z)))
      by false goal = either_way (nat_lt (mark r.ranks s) unmarked)
          (λ e. inr (end_same (r.k + 1) k.model.states s (mark r.ranks s) lt (let held = (low.held s goal (ltb-true (mark r.ranks s) unmarked e)).rank in omega (arith, held.1))))
          (λ e. inl (let most = mark_small r.ranks low.marks s in let least = ltb-false (mark r.ranks s) unmarked e in omega (arith, most, least)))

  lower_reported : r.k ≤ most_height → IsReject k r
  lower_reported most = record {
    numbers = low.numbers;
    picks = marks_from (map length k.model.states) r.picks (low.sizes.0 ∙ sym (map_length length k.model.states)) (λ s lt. choice_mark s);
    ranks = marks_from (map (λ _. r.k + 1) k.model.states) r.ranks (low.sizes.1 ∙ sym (map_length (λ _. r.k + 1) k.model.states)) (λ s lt. rank_mark s (subst (λ n. s < n) (map_length (λ _. r.k + 1) k.model.states) lt));
    rate = (low.bounds.0, low.bounds.1, most);
    places = fits_from k.model.goal r.picks r.ranks (low.sizes.0 ∙ sym is.asked.model.goals) (low.sizes.1 ∙ sym is.asked.model.goals) (λ s. state_fits s (is_goal k.model s) refl);
  }

-- ---- a tree

within_length : (spans root : Spans) → Within spans root → length spans ≡ length root
within_length [] [] h = refl
within_length (s ∷ spans) (r ∷ root) h = let rest = within_length spans root h.2 in omega (arith, rest)
within_length [] (r ∷ root) h = absurd h
within_length (s ∷ spans) [] h = absurd h

module _ (placed : HalvesArePlaced) (live_spans : LiveHasSpan) (h : HeadData) (head : IsHead h) (is : IsCase h.asked) where
  tree_reported : (t : Tree) (levels depth : ℕ) (spans : Spans) → depth + levels ≡ greatest_depth h.asked → IsPlaced h.asked levels spans → IsSoundTree h.asked h.bound spans depth t → CanBeReported h t → IsTree h t
  tree_reported (accept u x) levels depth spans e at s reported = (reported, s.upper.numbers)
  tree_reported (reject u r) levels depth spans e at s reported = (reported.0, lower_reported (case_at u h.asked) (precise_case h u head is reported.0) spans r s.holds reported.1)
  tree_reported unknown levels depth spans e at s reported = tt
  tree_reported (split axis lower upper) zero depth spans e at s reported = absurd (omega (arith, s.0.left))
  tree_reported (split axis lower upper) (suc levels) depth spans e at s reported =
      let next = placed h.asked levels axis spans is at s.0.axis_is in
      let below = live_spans h.asked spans axis is at.inside s.0.axis_is.is_live in
      let size = within_length spans h.asked.root at.inside.within in
      let count = is.asked.grid.one_each in (
        omega (arith, below, size, count),
        tree_reported lower levels (depth + 1) (lower_half axis spans) (omega arith) next.1 s.1 reported.0,
        tree_reported upper levels (depth + 1) (upper_half axis spans) (omega arith) next.2 s.2 reported.1,
      )

pub trees_are_reports : RootIsPlaced → HalvesArePlaced → LiveHasSpan → SoundTreesAreReports
trees_are_reports root placed live_spans h t head admitted s reported =
    let is : IsCase h.asked = record { asked = head.asked; admitted = admitted } in
    record {
      report = record { head = head; nodes = tree_reported placed live_spans h head is t (greatest_depth h.asked) 0 h.asked.root (omega arith) (root h.asked is) s reported };
      admitted = admitted;
      tree = s;
    }
