-- What a raise of a state keeps.
use Rattle.std.proofs.Common.{◌≡◌, ◌≢◌, ℕ, zero, suc, ◌+◌, ◌^◌, ◌<◌, ◌≤◌, Bool, true, false, List, [], ◌∷◌, length, map, set, get_or, ℤ, pos, ◌+ℤ◌, ◌-ℤ◌, ◌*ℤ◌, ◌≤ℤ◌, ◌<ℤ◌, refl, sym, ap, subst, ◌∙◌, arith, ◌⊎◌, ⊎_elim, inl, inr, All, Contains, get_or-set_same, get_or-set_other, if◌then◌else◌, ◌||◌, ◌&&◌, not, nat_lt, ltb-true}
use Rattle.std.specs.List.{concat}
use Rattle.std.proofs.lemmas.Bool.{both_ways}
use Rattle.std.proofs.lemmas.Int.{ints, by_lt_z}
use Rattle.std.proofs.lemmas.List.{get_or_past, get_or_default, set-get_or}
use Rattle.std.proofs.lemmas.List.Elements.{All-from_get_or, Contains-append_left, Contains-append_right}
use Rattle.lift_poly.proofs.Ring.{linear, mul-zero, mul-comm, one-mul}
use Rattle.lift_grid.specs.Rectangle.{Spans}
use Rattle.lift_model.specs.declared.entry.Entry.{Entry}
use Rattle.lift_model.specs.Model.{ModelData, choices, row_at, is_goal, support, moves_at}
use Rattle.lift_model.specs.Links.{HasChoice, Leads, targets_of, all_targets}
use Rattle.corner_lift.specs.Certificate.{AreNumbers, AtMost, IsUpper, IsLeastUpper, unmarked, mark}
use Rattle.corner_lift.specs.Corner.{AtCorners, corner, corner_sum, whole}
use Rattle.corner_lift.specs.Case.{CaseData, IsCase, IsInside, number, row_whole, corner_count}
use Rattle.corner_lift.specs.Dot.{only_at}
use Rattle.corner_lift.specs.Laws.{NumbersAreInRange}
use Rattle.float_guess.specs.declared.rule.Extreme.{Extreme}
use Rattle.float_guess.specs.declared.rule.Extreme.TheVariants.{Greatest, Least}
use Rattle.float_guess.specs.declared.rule.Ends.{Ends}
use Rattle.float_guess.specs.declared.rule.Ends.TheVariants.{Goals, Unranked, Rewarded}
use Rattle.float_guess.specs.declared.rule.Rule.{Rule}
use Rattle.float_guess.specs.Rule.{is_given, given, has_rewards}
use Rattle.rounded_iter.specs.Value.{IsValue, IsLeastValue, SomeMeanAtMost}
use Rattle.rounded_iter.specs.Rising.{TableData, Run, IsBelow, IsEnoughEverywhere, IsLeastBound, IsLeastBoundWithin, HasEnough, IsEnoughFor, IsEnoughBy, IsMoreExtreme, IsSolvedFor, IsSolved, IsSolvedBy, Across, room, unrewarded}
use Rattle.rounded_iter.specs.Watching.{from_zero, first_number, HasGoals, CanRaise, IsRaisedState, IsBelowUppers, IsLeastWithin}
use Rattle.rounded_iter.proofs.Solving.{RowLaws, across_map, same_or_not, sum_moved, only_same, only_other, own_none, same_whole, at_root, at_spans, enough_same, in_lane, set_numbers, n_least, risen, some_corner, top_enough, one_more, Range}

room-set : (w : ℕ) (x : List ℤ) (s : ℕ) (v : ℤ) → s < length x → number x s <ℤ v → v ≤ℤ pos (2 ^ w) → room w (set x s v) < room w x
room-set w [] s v lt higher most = absurd (omega arith)
room-set w (n ∷ x) zero v lt higher most = omega (arith, ints)
room-set w (n ∷ x) (suc s) v lt higher most = omega (arith, room-set w x s v (omega arith) higher most)

-- whether a state is one of so many
pub in_or_past : (s count : ℕ) → (s < count) ⊎ (count ≤ s)
in_or_past s count = grind arith

-- ---- numbers that are given

pub true_or_false : (b : Bool) → (b ≡ true) ⊎ (b ≡ false)
true_or_false true = inl refl
true_or_false false = inr refl

-- a goal state is one of so many
pub goal_inside : (k : CaseData) → length k.model.goal ≡ length k.model.states → (s : ℕ) → is_goal k.model s ≡ true → s < length k.model.states
goal_inside k goals s is = ⊎_elim (λ (lt : s < length k.model.states). lt) (λ (past : length k.model.states ≤ s). absurd (both_ways (is_goal k.model s) (get_or_past k.model.goal s false (omega (arith, past, goals))) is)) (in_or_past s (length k.model.states))

-- so is each state whose number is given
pub given_inside : (k : CaseData) (ends : Ends) → length k.model.goal ≡ length k.model.states → (s : ℕ) → is_given k.model ends s ≡ true → s < length k.model.states
given_inside k Goals goals s is = goal_inside k goals s is
given_inside k (Unranked ranks) goals s is = by_test (is_goal k.model s) (nat_lt s (length k.model.states)) refl refl is
  where
    by_test : (g lt : Bool) → is_goal k.model s ≡ g → nat_lt s (length k.model.states) ≡ lt → (g || (lt && not (nat_lt (mark ranks.now s) unmarked))) ≡ true → s < length k.model.states
    by_test true lt goal inside e = goal_inside k goals s goal
    by_test false true goal inside e = ltb-true s (length k.model.states) inside
    by_test false false goal inside e = cc
given_inside k (Rewarded t) goals s is = goal_inside k goals s is

-- what is given is from 0 to 2 ^ w
pub given_range : (k : CaseData) (ends : Ends) (s : ℕ) → Range k.w (given k ends s)
given_range k Goals s = (omega (arith, linear), omega (arith, linear))
given_range k (Rewarded t) s = (omega (arith, linear), omega (arith, linear))
given_range k (Unranked ranks) s = by_test (is_goal k.model s)
  where
    by_test : (g : Bool) → Range k.w (if g then pos 0 else pos (2 ^ k.w))
    by_test true = (omega (arith, linear), omega (arith, linear))
    by_test false = (omega (arith, linear), omega (arith, linear))

-- ---- the choices that count

module _ (laws : RowLaws) (r : Rule) (k : CaseData) (spans : Spans) (is : IsCase k) (within : IsInside k.root spans) (x : List ℤ) (numbers : AreNumbers k x) (s : ℕ) (state : s < length k.model.states) where
  abbrev e : Extreme
  e = r.corner

  -- v, in place of the state's number, is enough for a choice
  abbrev With : ℤ → ℕ → Type 0
  With v a = Across e (corner_count k s a) (IsEnoughBy r.ends k spans (set x s v) s a v)

  -- a number that is enough for a choice stays so when it rises
  risen_for : (u v : ℤ) (a : ℕ) → a < length (choices k.model s) → u ≤ℤ v → With u a → With v a
  risen_for u v a choice le h = across_map e (corner_count k s a) (IsEnoughBy r.ends k spans (set x s u) s a u) (IsEnoughBy r.ends k spans (set x s v) s a v) (λ c lt at. risen laws k spans is within s a (record { state = state; choice = choice }) x numbers r.ends u v c lt le at) h

  -- the first choice
  first_enough : (d : Extreme) (P : ℕ → Type 0) → P 0 → Across d 1 P
  first_enough Greatest P h = λ a lt. subst P (let z : 0 ≡ a = omega (arith, lt) in z) h
  first_enough Least P h = (0, (omega arith, h))

  first_only : (d : Extreme) (P : ℕ → Type 0) → Across d 1 P → P 0
  first_only Greatest P all = all 0 (omega arith)
  first_only Least P one = subst P (let z : one.0 ≡ 0 = omega (arith, one.1.0) in z) one.1.1

  pub solved_by_first : (v : ℤ) → IsSolvedFor r.ends e k spans x s 0 (corner_count k s 0) v → IsSolvedBy r k spans x s 1 v
  solved_by_first v h = record {
    grown = h.grown;
    most = h.most;
    enough = first_enough r.choice (λ a. With v a) h.enough;
    least = λ y at all. h.least y at (first_only r.choice (λ a. IsEnoughFor r k spans y s a) all);
  }

  -- a number that is 2 ^ w is enough
  pub solved_by_top : 1 ≤ length (choices k.model s) → number x s ≡ pos (2 ^ k.w) → IsSolvedBy r k spans x s (length (choices k.model s)) (number x s)
  solved_by_top some top = record {
    grown = omega (arith, linear);
    most = omega (arith, linear, top);
    enough = each r.choice;
    least = λ y at all. at s;
  }
    where
      at_choice : (d : Extreme) (a : ℕ) → a < length (choices k.model s) → Across d (corner_count k s a) (IsEnoughBy r.ends k spans (set x s (number x s)) s a (number x s))
      at_choice d a choice = at_corners d
        where
          has : HasChoice k.model s a
          has = record { state = state; choice = choice }

          at_corner : (c : ℕ) → IsEnoughBy r.ends k spans (set x s (number x s)) s a (number x s) c
          at_corner c = top_enough laws k spans is within s a has (set x s (number x s)) (set_numbers laws k spans is within s a has x numbers (number x s) (omega (arith, linear, top)) (omega (arith, linear, top))) r.ends (number x s) c top

          at_corners : (d : Extreme) → Across d (corner_count k s a) (IsEnoughBy r.ends k spans (set x s (number x s)) s a (number x s))
          at_corners Greatest = λ c lt. at_corner c
          at_corners Least = (0, (some_corner laws k spans is within s a has, at_corner 0))

      each : (d : Extreme) → Across d (length (choices k.model s)) (λ a. With (number x s) a)
      each Greatest = λ a choice. at_choice e a choice
      each Least = (0, (omega (arith, some), at_choice e 0 (omega (arith, some))))

  -- the only choice is each of those that count
  pub solved_by_only : length (choices k.model s) ≡ 1 → (v : ℤ) → IsSolvedFor r.ends e k spans x s 0 (corner_count k s 0) v → IsSolvedBy r k spans x s (length (choices k.model s)) v
  solved_by_only one v h = subst (λ n. IsSolvedBy r k spans x s n v) (sym one) (solved_by_first v h)

  -- one choice more
  module _ (i : ℕ) (lt : i < length (choices k.model s)) (u v : ℤ) (h : IsSolvedBy r k spans x s i u) (g : IsSolvedFor r.ends e k spans x s i (corner_count k s i) v) where
    more_grown : (d : Extreme) (z : ℤ) → IsMoreExtreme d u v z → number x s ≤ℤ z
    more_grown Greatest z o = omega (arith, linear, h.grown, o.0)
    more_grown Least z o = ⊎_elim (λ (e : z ≡ u). omega (arith, linear, e, h.grown)) (λ (e : z ≡ v). omega (arith, linear, e, g.grown)) o.2

    more_most : (d : Extreme) (z : ℤ) → IsMoreExtreme d u v z → z ≤ℤ pos (2 ^ k.w)
    more_most Greatest z o = ⊎_elim (λ (e : z ≡ u). omega (arith, linear, e, h.most)) (λ (e : z ≡ v). omega (arith, linear, e, g.most)) o.2
    more_most Least z o = omega (arith, linear, h.most, o.0)

    more_enough : (d : Extreme) (z : ℤ) → Across d i (λ a. With u a) → IsMoreExtreme d u v z → Across d (i + 1) (λ a. With z a)
    more_enough Greatest z all o = λ a less. ⊎_elim
        (λ (before : a < i). risen_for u z a (omega (arith, before, lt)) o.0 (all a before))
        (λ (here : a ≡ i). subst (λ b. With z b) (sym here) (risen_for v z i lt o.1 g.enough))
        (one_more a i less)
    more_enough Least z one o = ⊎_elim
        (λ (is_u : z ≡ u). (one.0, (omega (arith, one.1.0), subst (λ m. With m one.0) (sym is_u) one.1.1)))
        (λ (is_v : z ≡ v). (i, (omega arith, subst (λ m. With m i) (sym is_v) g.enough)))
        o.2

    more_least : (d : Extreme) (z : ℤ) (y : List ℤ) → AtMost x y → (Across d i (λ a. IsEnoughFor r k spans y s a) → u ≤ℤ number y s) → IsMoreExtreme d u v z → Across d (i + 1) (λ a. IsEnoughFor r k spans y s a) → z ≤ℤ number y s
    more_least Greatest z y at first o all =
        let one = first (λ a less. all a (omega (arith, less))) in
        let two = g.least y at (all i (omega arith)) in
        ⊎_elim (λ (e : z ≡ u). omega (arith, linear, e, one)) (λ (e : z ≡ v). omega (arith, linear, e, two)) o.2
    more_least Least z y at first o one = ⊎_elim
        (λ (before : one.0 < i). omega (arith, linear, o.0, first (one.0, (before, one.1.1))))
        (λ (here : one.0 ≡ i). omega (arith, linear, o.1, g.least y at (subst (λ a. IsEnoughFor r k spans y s a) here one.1.1)))
        (one_more one.0 i one.1.0)

    pub solved_by_more : (z : ℤ) → IsMoreExtreme r.choice u v z → IsSolvedBy r k spans x s (i + 1) z
    solved_by_more z o = record {
      grown = more_grown r.choice z o;
      most = more_most r.choice z o;
      enough = more_enough r.choice z h.enough o;
      least = λ y at all. more_least r.choice z y at (h.least y at) o all;
    }

-- ---- a state

module _ (laws : RowLaws) (t : TableData) (run : Run) (x : List ℤ) (s : ℕ) (can : CanRaise t run x s) (some : 1 ≤ length (choices t.case.model s)) (free : is_given t.case.model t.rule.ends s ≡ true → given t.case t.rule.ends s ≡ pos (2 ^ t.case.w)) where
  abbrev k : CaseData
  k = t.case

  abbrev r : Rule
  r = t.rule

  abbrev n : ℕ
  n = length (choices t.case.model s)

  has : HasChoice k.model s 0
  has = record { state = can.state; choice = omega (arith, some) }

  -- the number is enough already
  raised_none : (v : ℤ) → IsSolvedBy r k run.spans x s n v → v ≡ number x s → IsRaisedState t run x x s false
  raised_none v h same =
      let list : set x s v ≡ x = ap (set x s) same ∙ set-get_or x s (pos 0) in
      record {
        below = can.below;
        kept = λ b. refl;
        less = λ b. cc;
        other = λ i ne. refl;
        enough = λ b. subst (λ m. Across r.choice n (λ a. Across r.corner (corner_count k s a) (IsEnoughBy r.ends k run.spans x s a m))) same (subst (λ y. Across r.choice n (λ a. Across r.corner (corner_count k s a) (IsEnoughBy r.ends k run.spans y s a v))) list h.enough);
      }

  module _ (v : ℤ) (h : IsSolvedBy r k run.spans x s n v) (ne : v ≢ number x s) where
    rises : number x s <ℤ v
    rises = by_lt_z (number x s) v (λ lt. lt) (λ le. absurd (ne (omega (arith, linear, le, h.grown))))

    lane : s < length x
    lane = in_lane laws k run.spans can.read.case can.read.table.inside s 0 has x can.below.numbers

    at_s : number (set x s v) s ≡ v
    at_s = let lt = lane in rw get_or-set_same refl

    others : (i : ℕ) → i ≢ s → number (set x s v) i ≡ number x i
    others i differs = rw get_or-set_other refl

    -- what rises has no number that is given
    not_given : is_given k.model r.ends s ≡ true → ⊥
    not_given is = absurd (omega (arith, linear, can.below.given s is, free is, rises, h.most))

    open_state : is_given k.model r.ends s ≡ false
    open_state = ⊎_elim (λ (is : is_given k.model r.ends s ≡ true). absurd (not_given is)) (λ (is : is_given k.model r.ends s ≡ false). is) (true_or_false (is_given k.model r.ends s))

    raised_up : IsRaisedState t run x (set x s v) s true
    raised_up = record {
      below = record {
        numbers = set_numbers laws k run.spans can.read.case can.read.table.inside s 0 has x can.below.numbers v (omega (arith, linear, rises, n_least laws k run.spans can.read.case can.read.table.inside s 0 has x can.below.numbers)) h.most;
        given = λ i is. ⊎_elim
            (λ (same : i ≡ s). absurd (not_given (subst (λ j. is_given k.model r.ends j ≡ true) same is)))
            (λ (differs : i ≢ s). others i differs ∙ can.below.given i is)
            (same_or_not i s);
        above = λ i. ⊎_elim
            (λ (same : i ≡ s). subst (λ j. number run.from j ≤ℤ number (set x s v) j) (sym same) (omega (arith, linear, at_s, rises, can.below.above s)))
            (λ (differs : i ≢ s). omega (arith, linear, others i differs, can.below.above i))
            (same_or_not i s);
        least = λ y bound over i. ⊎_elim
            (λ (same : i ≡ s). subst (λ j. number (set x s v) j ≤ℤ number y j) (sym same)
            (omega (arith, linear, at_s, h.least y (can.below.least y bound over) (bound.enough s can.state open_state))))
            (λ (differs : i ≢ s). omega (arith, linear, others i differs, can.below.least y bound over i))
            (same_or_not i s);
      };
      kept = λ b. cc;
      less = λ b. room-set k.w x s v lane rises h.most;
      other = others;
      enough = λ b. subst (λ m. Across r.choice n (λ a. Across r.corner (corner_count k s a) (IsEnoughBy r.ends k run.spans (set x s v) s a m))) (sym at_s) h.enough;
    }

  -- the number becomes what is enough, whether or not it rises
  pub raised_to : (v : ℤ) → IsSolvedBy r k run.spans x s n v → (rose : Bool) → (rose ≡ true → v ≢ number x s) → (rose ≡ false → v ≡ number x s) → IsRaisedState t run x (set x s v) s rose
  raised_to v h true ne same = raised_up v h (ne refl)
  raised_to v h false ne same = subst (λ l. IsRaisedState t run x l s false) (sym (ap (set x s) (same refl) ∙ set-get_or x s (pos 0))) (raised_none v h (same refl))

-- a state whose number is given stays as it is
pub raised_given : (t : TableData) (run : Run) (x : List ℤ) (s : ℕ) → CanRaise t run x s → is_given t.case.model t.rule.ends s ≡ true → IsRaisedState t run x x s false
raised_given t run x s can is = record { below = can.below; kept = λ b. refl; less = λ b. cc; other = λ i ne. refl; enough = λ free. absurd (both_ways (is_given t.case.model t.rule.ends s) free is) }

-- without rewards
pub solved_plain : (r : Rule) (k : CaseData) (spans : Spans) (x : List ℤ) (s n : ℕ) (v : ℤ) → has_rewards r.ends ≡ false → IsSolvedBy (unrewarded r) k spans x s n v → IsSolvedBy r k spans x s n v
solved_plain r k spans x s n v none h = by_ends r.ends refl none
  where
    by_ends : (ends : Ends) → r.ends ≡ ends → has_rewards ends ≡ false → IsSolvedBy r k spans x s n v
    by_ends Goals e none = subst (λ ends. IsSolvedBy (record { choice = r.choice; corner = r.corner; ends = ends }) k spans x s n v) (sym e) h
    by_ends (Unranked ranks) e none = subst (λ ends. IsSolvedBy (record { choice = r.choice; corner = r.corner; ends = ends }) k spans x s n v) (sym e) (record { grown = h.grown; most = h.most; enough = h.enough; least = h.least })
    by_ends (Rewarded t) e none = cc

-- the only choice of a state is each of those that count
pub solved_only : RowLaws → (r : Rule) (k : CaseData) (spans : Spans) → IsCase k → IsInside k.root spans → (x : List ℤ) → AreNumbers k x → (s : ℕ) → s < length k.model.states → length (choices k.model s) ≡ 1 → (v : ℤ) → IsSolved r.corner k spans x s 0 (corner_count k s 0) v → IsSolvedBy (unrewarded r) k spans x s (length (choices k.model s)) v
solved_only laws r k spans is within x numbers s state one v h = solved_by_only laws (unrewarded r) k spans is within x numbers s state one v h

-- ---- other states

contains_all : (rows : List (List Entry)) (a i : ℕ) → a < length rows → Contains (targets_of (get_or rows a [])) i → Contains (concat (map targets_of rows)) i
contains_all [] a i lt h = absurd (omega (arith, lt))
contains_all (row ∷ rows) zero i lt h = Contains-append_left (targets_of row) (concat (map targets_of rows)) i h
contains_all (row ∷ rows) (suc a) i lt h = Contains-append_right (targets_of row) (concat (map targets_of rows)) i (contains_all rows a i (omega (arith, lt)) h)

-- a target of a row is one that its state leads to
pub row_leads : (m : ModelData) (q b i : ℕ) → b < length (choices m q) → Contains (targets_of (row_at m q b)) i → Leads m q i
row_leads m q b i lt h = contains_all (choices m q) b i lt h

pub leads_inside : (m : ModelData) (q i : ℕ) → Leads m q i → q < length m.states
leads_inside m q i at = ⊎_elim
    (λ (inside : q < length m.states). inside)
    (λ (past : length m.states ≤ q). absurd (let none : all_targets m q ≡ [] = ap (λ rows. concat (map targets_of rows)) (get_or_past m.states q [] past) in omega (arith, at.1, ap (length {A = ℕ}) none)))
    (in_or_past q (length m.states))

-- a state that doesn't lead to the one that rose keeps what it has enough
pub enough_kept : (t : TableData) (spans : Spans) (x y : List ℤ) (q s : ℕ) → q ≢ s → (Leads t.case.model q s → ⊥) → ((i : ℕ) → i ≢ s → number y i ≡ number x i) → HasEnough t.rule t.case spans x q → HasEnough t.rule t.case spans y q
enough_kept t spans x y q s differs none other h free = across_map t.rule.choice (length (choices t.case.model q)) (λ b. IsEnoughFor t.rule t.case spans x q b) (λ b. IsEnoughFor t.rule t.case spans y q b) (λ b lt at_row.
    let k = t.case in
    let row = row_at k.model q b in
    across_map t.rule.corner (corner_count k q b) (IsEnoughBy t.rule.ends k spans x q b (number x q)) (IsEnoughBy t.rule.ends k spans y q b (number y q))
    (λ c at le.
    let v = corner k.d spans (support row) c in
    let d = number y s -ℤ number x s in
    let sum = sum_moved (number x) (number y) (only_at s) d (moves_at v row) moved in
    let nothing = own_none v s row (λ into. none (row_leads k.model q b s lt into)) in
    enough_same k spans q b t.rule.ends x y (number x q) (number y q) c (omega (arith, linear, sum, ap (λ m. d *ℤ m) nothing, mul-zero d)) (other q differs) le) at_row) (h free)
  where
    moved : (i : ℕ) → number y i ≡ number x i +ℤ (number y s -ℤ number x s) *ℤ only_at s i
    moved i = ⊎_elim
        (λ (same : i ≡ s). subst (λ j. number y j ≡ number x j +ℤ (number y s -ℤ number x s) *ℤ only_at s j) (sym same)
        (omega (arith, linear, ap (λ m. (number y s -ℤ number x s) *ℤ m) (only_same s), mul-comm (number y s -ℤ number x s) (pos 1), one-mul (number y s -ℤ number x s))))
        (λ (ne : i ≢ s). omega (arith, linear, other i ne, ap (λ m. (number y s -ℤ number x s) *ℤ m) (only_other s i ne), mul-zero (number y s -ℤ number x s)))
        (same_or_not i s)

-- ---- the start

-- the given numbers, and 0 elsewhere
pub start_below : NumbersAreInRange → (r : Rule) (k : CaseData) (spans : Spans) (x : List ℤ) → length k.model.goal ≡ length k.model.states → length x ≡ length k.model.states → ((i : ℕ) → i < length k.model.states → number x i ≡ first_number k r.ends i) → IsBelow r k (from_zero spans) x
start_below numbers r k spans x goals size written = record {
  numbers = record {
    size = size;
    range = λ i d lt. subst (Range k.w) (sym (get_or_default x i d (pos 0) lt ∙ written i (omega (arith, lt, size)))) (either i (is_given k.model r.ends i));
  };
  given = λ s is. written s (given_inside k r.ends goals s is) ∙ ap (λ b. if b then given k r.ends s else pos 0) is;
  above = λ s. ⊎_elim
      (λ (lt : s < length k.model.states). rw (written s lt) (either s (is_given k.model r.ends s)).0)
      (λ (past : length k.model.states ≤ s). rw (get_or_past x s (pos 0) (omega (arith, past, size))) (omega (arith, linear)))
      (in_or_past s (length k.model.states));
  least = λ y bound over s. ⊎_elim
      (λ (lt : s < length k.model.states). rw (written s lt) (under y bound s (is_given k.model r.ends s) refl))
      (λ (past : length k.model.states ≤ s). rw (get_or_past x s (pos 0) (omega (arith, past, size))) ((numbers k y s bound.numbers).0))
      (in_or_past s (length k.model.states));
}
  where
    either : (s : ℕ) (b : Bool) → Range k.w (if b then given k r.ends s else pos 0)
    either s true = given_range k r.ends s
    either s false = (omega (arith, linear), omega (arith, linear))

    under : (y : List ℤ) → IsEnoughEverywhere r k spans y → (s : ℕ) (b : Bool) → is_given k.model r.ends s ≡ b → (if b then given k r.ends s else pos 0) ≤ℤ number y s
    under y bound s true is = rw (bound.given s is) (omega (arith, linear))
    under y bound s false is = (numbers k y s bound.numbers).0

-- ---- bounds are upper vectors and value vectors

-- each choice counts, and goal states have 2 ^ w
abbrev pub upper : Extreme → Rule
upper e = record { choice = Greatest; corner = e; ends = Goals }

-- what the row of each choice of a state meets, all its rows meet
pub all_rows : (m : ModelData) (Meets : List Entry → Type 0) (s : ℕ) → ((a : ℕ) → HasChoice m s a → Meets (row_at m s a)) → All Meets (choices m s)
all_rows m Meets s h = All-from_get_or Meets (choices m s) [] (λ a lt. ⊎_elim
    (λ (state : s < length m.states). h a (record { state = state; choice = lt }))
    (λ (past : length m.states ≤ s). absurd (let none = get_or_past m.states s [] past in omega (arith, lt, ap (length {A = List Entry}) none)))
    (in_or_past s (length m.states)))

module _ (laws : RowLaws) (k : CaseData) (spans : Spans) (is : IsCase k) (within : IsInside k.root spans) where
  product : (s a : ℕ) → HasChoice k.model s a → (n : ℤ) → n *ℤ whole k.model k.d spans (row_at k.model s a) ≡ n *ℤ row_whole k s a
  product s a has n = ap (λ w. n *ℤ w) (same_whole laws k spans is within s a has)

  upper_of : (x : List ℤ) → IsEnoughEverywhere (upper Greatest) k spans x → IsUpper k spans x
  upper_of x h = record {
    numbers = h.numbers;
    goal = h.given;
    means = λ s g. all_rows k.model (λ row. AtCorners spans row (λ c. corner_sum k.d spans row c (number x) ≤ℤ (number x s *ℤ whole k.model k.d spans row))) s (λ a has c lt. omega (arith, linear, h.enough s has.state g a has.choice c (at_root laws k spans is within s a has c lt), product s a has (number x s)));
  }

  bound_of : (y : List ℤ) → IsUpper k spans y → IsEnoughEverywhere (upper Greatest) k spans y
  bound_of y h = record {
    numbers = h.numbers;
    given = h.goal;
    enough = λ s state g a lt c at.
        let has : HasChoice k.model s a = record { state = state; choice = lt } in
        omega (arith, linear, h.means s g a [] lt c (at_spans laws k spans is within s a has c at), product s a has (number y s));
  }

  pub least_upper_of : (x : List ℤ) → IsLeastBound (upper Greatest) k spans x → IsLeastUpper k spans x
  least_upper_of x h = record { upper = upper_of x h.bound; least = λ y upper. h.least y (bound_of y upper) }

  -- a vector at or below each upper one, with 2 ^ w on goal states
  pub below_of : (old x : List ℤ) → length k.model.goal ≡ length k.model.states → length x ≡ length old → IsBelowUppers k spans old → HasGoals k old x → IsBelow (upper Greatest) k (from_zero spans) x
  below_of old x goals size h new = record {
    numbers = record { size = size ∙ h.numbers.size; range = λ i d lt. subst (Range k.w) (sym (get_or_default x i d (pos 0) lt)) (range i) };
    given = λ s g. new.goal s (goal_inside k goals s g) g;
    above = λ s. (range s).0;
    least = λ y bound over s. ⊎_elim
        (λ (g : is_goal k.model s ≡ true). omega (arith, linear, new.goal s (goal_inside k goals s g) g, bound.given s g))
        (λ (g : is_goal k.model s ≡ false). omega (arith, linear, new.other s g, h.least y (upper_of y bound) s))
        (true_or_false (is_goal k.model s));
  }
    where
      range : (i : ℕ) → Range k.w (number x i)
      range i = ⊎_elim
          (λ (g : is_goal k.model i ≡ true). subst (Range k.w) (sym (new.goal i (goal_inside k goals i g) g)) (omega (arith, linear), omega (arith, linear)))
          (λ (g : is_goal k.model i ≡ false). subst (Range k.w) (sym (new.other i g)) (laws.numbers k old i h.numbers))
          (true_or_false (is_goal k.model i))

  pub least_within_of : (x : List ℤ) (limit : ℤ) (within : Bool) → IsLeastBoundWithin (upper Greatest) k spans limit x within → IsLeastWithin k spans limit x within
  least_within_of x limit within h = record { least = λ e. least_upper_of x (h.least e); first = h.first; past = λ e y upper. h.past e y (bound_of y upper) }

  value_of : (x : List ℤ) → IsEnoughEverywhere (upper Least) k spans x → IsValue k spans x
  value_of x h = record {
    numbers = h.numbers;
    goal = h.given;
    means = λ s g. all_rows k.model (λ row. SomeMeanAtMost k spans row x (number x s)) s (λ a has.
        let one = h.enough s has.state g a has.choice in
        (one.0, (at_spans laws k spans is within s a has one.0 one.1.0, omega (arith, linear, one.1.1, product s a has (number x s)))));
  }

  value_bound : (y : List ℤ) → IsValue k spans y → IsEnoughEverywhere (upper Least) k spans y
  value_bound y h = record {
    numbers = h.numbers;
    given = h.goal;
    enough = λ s state g a lt.
        let has : HasChoice k.model s a = record { state = state; choice = lt } in
        let one = h.means s g a [] lt in
        (one.0, (at_root laws k spans is within s a has one.0 one.1.0, omega (arith, linear, one.1.1, product s a has (number y s))));
  }

  pub least_value_of : (x : List ℤ) → IsLeastBound (upper Least) k spans x → IsLeastValue k spans x
  least_value_of x h = record { value = value_of x h.bound; least = λ y value. h.least y (value_bound y value) }

-- what holds of each number so far, where one more is written
pub set_more : (P : ℕ → ℤ → Type 0) (x : List ℤ) (s : ℕ) (v : ℤ) → s < length x → P s v → ((i : ℕ) → i < s → P i (number x i)) → (i : ℕ) → i < s + 1 → P i (number (set x s v) i)
set_more P x s v lt here before i less = ⊎_elim
    (λ (earlier : i < s).
    let ne : i ≢ s = λ e. absurd (omega (arith, e, earlier)) in
    let at : number (set x s v) i ≡ number x i = rw get_or-set_other refl in
    subst (P i) (sym at) (before i earlier))
    (λ (same : i ≡ s).
    let at : number (set x s v) s ≡ v = rw get_or-set_same refl in
    subst (λ j. P j (number (set x s v) j)) (sym same) (subst (P s) (sym at) here))
    (one_more i s less)
