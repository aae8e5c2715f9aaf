-- Whatever vector is looked at, there are stages of ranks with choices for what it allows: stage after stage is added until one is empty.
use Rattle.std.proofs.Common.{◌≡◌, ℕ, suc, ◌+◌, ◌<◌, ◌≤◌, ◌⊎◌, inl, inr, ⊎_elim, Bool, true, false, cond, nat_lt, length, ℤ, pos, ◌*ℤ◌, ◌≤ℤ◌, ◌<ℤ◌, refl, sym, ◌∙◌, subst, arith}
use Rattle.std.proofs.lemmas.Bool.{cases_lt, cases_eq, cond_both, cond-true, cond-false, ltb-true, ltb-false, lt-ltb, le-ltb}
use Rattle.lift_grid.specs.Rectangle.{Spans}
use Rattle.lift_model.specs.Model.{is_goal, choices, row_at}
use Rattle.corner_lift.specs.Corner.{corner_sum, whole}
use Rattle.corner_lift.specs.Case.{CaseData, IsCase, IsInside}
use Rattle.corner_lift.specs.Certificate.{unmarked, ranked_below}
use Rattle.corner_lift.specs.Stages.{IsAllowed, LeadsBelow, IsChosen, AreStages}
use Rattle.robust_rank.specs.Attracting.{IsStaged, IsNextStage, Pass, StartIsStaged, NextIsStaged, EmptyStageEnds, StagesOfTest}
use Rattle.region_tree.proofs.Searches.{at_most_or_not_z, less_or_not_z, true_or_not, both_or_not, all_or_one, all_or_not, IsFirst, first_below, descend, sum_to, sum-lt, sum-most}
use Rattle.region_tree.proofs.Rows.{corners, goal_past}
use Rattle.region_tree.proofs.Unique.{no_state}

-- ---- what is decided

-- whether it is the first of two
abbrev yes : {P Q : Type 0} → P ⊎ Q → Bool
yes (inl p) = true
yes (inr q) = false

yes_holds : {P : Type 0} (d : P ⊎ (P → ⊥)) → yes d ≡ true → P
yes_holds (inl p) e = p
yes_holds (inr q) e = cc

holds_yes : {P : Type 0} (d : P ⊎ (P → ⊥)) → P → yes d ≡ true
holds_yes (inl p) h = refl
holds_yes (inr q) h = absurd (q h)

allowed_or_not : (k : CaseData) (spans : Spans) (y : ℕ → ℤ) (s a : ℕ) → IsAllowed k spans y s a ⊎ (IsAllowed k spans y s a → ⊥)
allowed_or_not k spans y s a =
    let row = row_at k.model s a in
    all_or_not (λ c. (y s *ℤ whole k.model k.d spans row) ≤ℤ corner_sum k.d spans row c y) (λ c. at_most_or_not_z (y s *ℤ whole k.model k.d spans row) (corner_sum k.d spans row c y)) (corners k spans s a)

leads_or_not : (k : CaseData) (spans : Spans) (rank : ℕ → ℕ) (q s a : ℕ) → LeadsBelow k spans rank q s a ⊎ (LeadsBelow k spans rank q s a → ⊥)
leads_or_not k spans rank q s a =
    let row = row_at k.model s a in
    all_or_not (λ c. pos 0 <ℤ corner_sum k.d spans row c (ranked_below rank q)) (λ c. less_or_not_z (pos 0) (corner_sum k.d spans row c (ranked_below rank q))) (corners k spans s a)

-- the choice passes the test, and leads below q
abbrev Leading : CaseData → Spans → (ℕ → ℕ → Bool) → (ℕ → ℕ) → ℕ → ℕ → ℕ → Type 0
Leading k spans test rank q s a = Pass test s a × LeadsBelow k spans rank q s a

leading_or_not : (k : CaseData) (spans : Spans) (test : ℕ → ℕ → Bool) (rank : ℕ → ℕ) (q s a : ℕ) → Leading k spans test rank q s a ⊎ (Leading k spans test rank q s a → ⊥)
leading_or_not k spans test rank q s a = both_or_not (true_or_not (test s a)) (leads_or_not k spans rank q s a)

-- none of the first n numbers has P, or the least that has it
abbrev Search : (ℕ → Type 0) → ℕ → Type 0
Search P n = ((i : ℕ) → i < n → P i → ⊥) ⊎ ((m : ℕ) × ((m < n) × IsFirst P m))

abbrev chosen : (P : ℕ → Type 0) (n : ℕ) → Search P n → ℕ
chosen P n (inl none) = unmarked
chosen P n (inr one) = one.0

-- the least choice of a state that passes the test and leads below q
found : (k : CaseData) (spans : Spans) (test : ℕ → ℕ → Bool) (rank : ℕ → ℕ) (q s : ℕ) → Search (Leading k spans test rank q s) (length (choices k.model s))
found k spans test rank q s = first_below (Leading k spans test rank q s) (leading_or_not k spans test rank q s) (length (choices k.model s))

-- ---- the next stage

abbrev given : (r : ℕ) (P : ℕ → Type 0) (n : ℕ) → Search P n → ℕ
given r P n (inl none) = unmarked
given r P n (inr one) = suc r

by_given : (r : ℕ) (P : ℕ → Type 0) (n : ℕ) (o : Search P n) (Q : ℕ → Type 0) → (((i : ℕ) → i < n → P i → ⊥) → Q unmarked) → ((m : ℕ) → m < n → IsFirst P m → Q (suc r)) → Q (given r P n o)
by_given r P n (inl none) Q f g = f none
by_given r P n (inr one) Q f g = g one.0 one.1.0 one.1.1

-- 1 for a state without rank, and 0 for one that has a rank
abbrev free : (ℕ → ℕ) → ℕ → ℕ
free rank s = cond (nat_lt (rank s) unmarked) 0 1

free-ranked : (rank : ℕ → ℕ) (s : ℕ) → rank s < unmarked → free rank s ≡ 0
free-ranked rank s lt = cond-true (nat_lt (rank s) unmarked) 0 1 (lt-ltb (rank s) unmarked lt)

free-unranked : (rank : ℕ → ℕ) (s : ℕ) → unmarked ≤ rank s → free rank s ≡ 1
free-unranked rank s le = cond-false (nat_lt (rank s) unmarked) 0 1 (le-ltb (rank s) unmarked le)

free-most : (rank : ℕ → ℕ) (s : ℕ) → free rank s ≤ 1
free-most rank s = cond_both (nat_lt (rank s) unmarked) 0 1 (λ m. m ≤ 1) (λ e. omega arith) (λ e. omega arith)

-- stages with picks, whatever is allowed
pub record AreStaged (k : CaseData) (spans : Spans) (allowed : ℕ → ℕ → Type 0) (pick rank : ℕ → ℕ) : Type 0 where
  pub stages : AreStages k spans allowed pick rank
  pub small : (s : ℕ) → rank s ≤ unmarked
  pub past : (s : ℕ) → length k.model.states ≤ s → rank s ≡ unmarked
  pub height : (s : ℕ) → rank s < unmarked → rank s ≤ suc (length k.model.states)
  pub goal_choice : (s : ℕ) → is_goal k.model s ≡ true → pick s ≡ unmarked
  pub free_choice : (s : ℕ) → unmarked ≤ rank s → pick s ≡ unmarked

-- the stages up to r are complete, and each of them has a state
record IsStage (k : CaseData) (spans : Spans) (test : ℕ → ℕ → Bool) (r : ℕ) (rank : ℕ → ℕ) : Type 0 where
  staged : IsStaged k spans (Pass test) rank r
  small : (s : ℕ) → rank s ≤ unmarked
  past : (s : ℕ) → length k.model.states ≤ s → rank s ≡ unmarked
  room : r + sum_to (free rank) (length k.model.states) ≤ length k.model.states

module _ (begin : StartIsStaged) (grow : NextIsStaged) (end : EmptyStageEnds) (k : CaseData) (spans : Spans) (is : IsCase k) (inside : IsInside k.root spans) (test : ℕ → ℕ → Bool) where
  abbrev n : ℕ
  n = length k.model.states

  module _ (r : ℕ) (rank : ℕ → ℕ) (stage : IsStage k spans test r rank) where
    abbrev new : ℕ → ℕ
    new s = cond (nat_lt (rank s) unmarked) (rank s) (given r (Leading k spans test rank (suc r) s) (length (choices k.model s)) (found k spans test rank (suc r) s))

    by_new : (s : ℕ) (Q : ℕ → Type 0) → (rank s < unmarked → Q (rank s)) → (unmarked ≤ rank s → ((a : ℕ) → a < length (choices k.model s) → Leading k spans test rank (suc r) s a → ⊥) → Q unmarked)
        → (unmarked ≤ rank s → (a : ℕ) → a < length (choices k.model s) → IsFirst (Leading k spans test rank (suc r) s) a → Q (suc r)) → Q (new s)
    by_new s Q kept none one =
        cond_both (nat_lt (rank s) unmarked) (rank s) (given r (Leading k spans test rank (suc r) s) (length (choices k.model s)) (found k spans test rank (suc r) s)) Q
        (λ e. kept (ltb-true (rank s) unmarked e))
        (λ e. let le = ltb-false (rank s) unmarked e in by_given r (Leading k spans test rank (suc r) s) (length (choices k.model s)) (found k spans test rank (suc r) s) Q (none le) (one le))

    low : suc r < unmarked
    low = let few = is.asked.model.count.1 in let room = stage.room in omega (arith, room, few)

    kept : (s : ℕ) → rank s < unmarked → new s ≡ rank s
    kept s lt = by_new s (λ m. m ≡ rank s) (λ _. refl) (λ le _. absurd (omega (arith, le, lt))) (λ le a _ _. absurd (omega (arith, le, lt)))

    next_is : IsNextStage k spans (Pass test) rank new r
    next_is = record {
      kept = kept;
      added = λ s f far. by_new s (λ m. (unmarked ≤ m) ⊎ ((m ≡ suc r) × ((a : ℕ) × ((a < length (choices k.model s)) × (Pass test s a × LeadsBelow k spans rank (suc r) s a)))))
          (λ lt. absurd (omega (arith, lt, far)))
          (λ le _. inl (omega arith))
          (λ le a lt first. inr (refl, (a, (lt, first.holds))));
      complete = λ s f far a lt allowed there leads.
          by_new s (λ m. unmarked ≤ m → ⊥)
          (λ lt high. omega (arith, lt, high))
          (λ le none high. none a lt (allowed, leads))
          (λ le b _ _ high. let l = low in omega (arith, l, high))
          far;
    }

    next_staged : IsStaged k spans (Pass test) new (suc r)
    next_staged = grow k spans test rank new r low stage.staged next_is

    next_small : (s : ℕ) → new s ≤ unmarked
    next_small s = by_new s (λ m. m ≤ unmarked) (λ lt. stage.small s) (λ le _. omega arith) (λ le a _ _. let l = low in omega (arith, l))

    next_past : (s : ℕ) → length k.model.states ≤ s → new s ≡ unmarked
    next_past s le =
        by_new s (λ m. m ≡ unmarked) (λ lt. stage.past s le) (λ far _. refl) (λ far a lt _. absurd (let there = no_state k.model s a lt in omega (arith, there, le)))

    -- ---- the next stage is empty

    abbrev pick : ℕ → ℕ
    pick s = cond (is_goal k.model s) unmarked (cond (nat_lt (new s) unmarked) (chosen (Leading k spans test new (new s) s) (length (choices k.model s)) (found k spans test new (new s) s)) unmarked)

    choice_made : (s : ℕ) → is_goal k.model s ≡ false → new s < unmarked → (o : Search (Leading k spans test new (new s) s) (length (choices k.model s))) → pick s ≡ chosen (Leading k spans test new (new s) s) (length (choices k.model s)) o → IsChosen k spans (Pass test) pick new s
    choice_made s f lt (inl none) e = absurd (let there = next_staged.reached s f lt in none there.0 there.1.0 there.1.1)
    choice_made s f lt (inr one) e = record {
      later = next_staged.later s f;
      in_range = subst (λ a. a < length (choices k.model s)) (sym e) one.1.0;
      is_allowed = subst (λ a. Pass test s a) (sym e) one.1.1.holds.0;
      leads = subst (λ a. LeadsBelow k spans new (new s) s a) (sym e) one.1.1.holds.1;
      least = λ a less allowed leads. (let before : a < one.0 = subst (λ b. a < b) e less in let le = one.1.1.least a (allowed, leads) in omega (arith, before, le));
    }

    pick-is : (s : ℕ) → is_goal k.model s ≡ false → new s < unmarked → pick s ≡ chosen (Leading k spans test new (new s) s) (length (choices k.model s)) (found k spans test new (new s) s)
    pick-is s f lt =
        cond-false (is_goal k.model s) unmarked (cond (nat_lt (new s) unmarked) (chosen (Leading k spans test new (new s) s) (length (choices k.model s)) (found k spans test new (new s) s)) unmarked) f
        ∙ cond-true (nat_lt (new s) unmarked) (chosen (Leading k spans test new (new s) s) (length (choices k.model s)) (found k spans test new (new s) s)) unmarked (lt-ltb (new s) unmarked lt)

    ended : ((s : ℕ) → s < n → new s ≡ suc r → ⊥) → AreStaged k spans (Pass test) pick new
    ended none = record {
      stages = end k spans test pick new (suc r) is inside low next_staged empty (λ s f lt. choice_made s f lt (found k spans test new (new s) s) (pick-is s f lt));
      small = next_small;
      past = next_past;
      height = λ s lt. (let most = next_staged.marks s lt in let room = stage.room in omega (arith, most, room));
      goal_choice = λ s g. cond-true (is_goal k.model s) unmarked (cond (nat_lt (new s) unmarked) (chosen (Leading k spans test new (new s) s) (length (choices k.model s)) (found k spans test new (new s) s)) unmarked) g;
      free_choice = λ s far. cond_both (is_goal k.model s) unmarked (cond (nat_lt (new s) unmarked) (chosen (Leading k spans test new (new s) s) (length (choices k.model s)) (found k spans test new (new s) s)) unmarked) (λ m. m ≡ unmarked)
          (λ e. refl)
          (λ e. cond-false (nat_lt (new s) unmarked) (chosen (Leading k spans test new (new s) s) (length (choices k.model s)) (found k spans test new (new s) s)) unmarked (le-ltb (new s) unmarked far));
    }
      where
        empty : (s : ℕ) → new s ≡ suc r → ⊥
        empty s e = ⊎_elim (λ (lt : s < n). none s lt e) (λ (le : n ≤ s). let past = next_past s le in let l = low in omega (arith, past, e, l)) (cases_lt s n)

    -- ---- it isn't

    less_free : (s : ℕ) → s < n → new s ≡ suc r → sum_to (free new) n < sum_to (free rank) n
    less_free s lt e =
        sum-lt (free new) (free rank) n s
        (λ t l. ⊎_elim
        (λ (ranked : rank t < unmarked). let same = kept t ranked in let one = free-ranked rank t ranked in let two = free-ranked new t (omega (arith, same, ranked)) in omega (arith, one, two))
        (λ (far : unmarked ≤ rank t). let one = free-unranked rank t far in let two = free-most new t in omega (arith, one, two))
        (cases_lt (rank t) unmarked))
        lt
        (⊎_elim
        (λ (ranked : rank s < unmarked). absurd (let same = kept s ranked in let most = stage.staged.marks s ranked in omega (arith, same, most, e)))
        (λ (far : unmarked ≤ rank s). let l = low in let one = free-unranked rank s far in let two = free-ranked new s (omega (arith, e, l)) in omega (arith, one, two))
        (cases_lt (rank s) unmarked))

    grown : (s : ℕ) → s < n → new s ≡ suc r → IsStage k spans test (suc r) new
    grown s lt e = record { staged = next_staged; small = next_small; past = next_past; room = let less = less_free s lt e in let room = stage.room in omega (arith, less, room) }

  abbrev Stage : Type 0
  Stage = (r : ℕ) × ((rank : ℕ → ℕ) × IsStage k spans test r rank)

  abbrev size : Stage → ℕ
  size a = sum_to (free a.1.0) n

  abbrev Stages : Type 0
  Stages = (pick : ℕ → ℕ) × ((rank : ℕ → ℕ) × AreStaged k spans (Pass test) pick rank)

  step : (a : Stage) → Stages ⊎ ((b : Stage) × (size b < size a))
  step a =
      let r = a.0 in
      let rank = a.1.0 in
      let stage = a.1.1 in
      ⊎_elim
      (λ (none : (s : ℕ) → s < n → new r rank stage s ≡ suc r → ⊥). inl (pick r rank stage, (new r rank stage, ended r rank stage none)))
      (λ (one : (s : ℕ) × ((s < n) × (new r rank stage s ≡ suc r))). inr ((suc r, (new r rank stage, grown r rank stage one.0 one.1.0 one.1.1)), less_free r rank stage one.0 one.1.0 one.1.1))
      (all_or_one (λ s. new r rank stage s ≡ suc r → ⊥) (λ s. new r rank stage s ≡ suc r)
      (λ s. ⊎_elim (λ (e : new r rank stage s ≡ suc r). inr e) (λ (o : new r rank stage s ≡ suc r → ⊥). inl o) (cases_eq (new r rank stage s) (suc r)))
      n)

  abbrev start : ℕ → ℕ
  start s = cond (is_goal k.model s) 0 unmarked

  start_stage : IsStage k spans test 0 start
  start_stage = record {
    staged = begin k spans test start is inside (λ s g. cond-true (is_goal k.model s) 0 unmarked g) (λ s f. cond-false (is_goal k.model s) 0 unmarked f);
    small = λ s. cond_both (is_goal k.model s) 0 unmarked (λ m. m ≤ unmarked) (λ e. omega arith) (λ e. omega arith);
    past = λ s le. cond-false (is_goal k.model s) 0 unmarked (goal_past k is s le);
    room = let most = sum-most (free start) n (free-most start) in omega (arith, most);
  }

  tested_stages : Stages
  tested_stages = descend size step (0, (start, start_stage))

-- the stages of what a vector allows
pub stages_exist : StartIsStaged → NextIsStaged → EmptyStageEnds → StagesOfTest → (k : CaseData) (spans : Spans) → IsCase k → IsInside k.root spans → (y : ℕ → ℤ)
    → (pick : ℕ → ℕ) × ((rank : ℕ → ℕ) × AreStaged k spans (IsAllowed k spans y) pick rank)
stages_exist begin grow end of_test k spans is inside y =
    let test : ℕ → ℕ → Bool = λ s a. yes (allowed_or_not k spans y s a) in
    let all = tested_stages begin grow end k spans is inside test in
    let staged = all.1.1 in (
      all.0,
      (
        all.1.0,
        record {
          stages = of_test k spans test y all.0 all.1.0 (λ s f a lt. (λ pass. yes_holds (allowed_or_not k spans y s a) pass, λ allowed. holds_yes (allowed_or_not k spans y s a) allowed)) staged.stages;
          small = staged.small;
          past = staged.past;
          height = staged.height;
          goal_choice = staged.goal_choice;
          free_choice = staged.free_choice;
        },
      ),
    )
