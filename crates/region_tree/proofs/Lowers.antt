-- A rectangle inside the root has a greatest lower vector: from 2 ^ w on, the highest of the states that can't be ranked are lowered, until none of them has a number above 0.
use Rattle.std.proofs.Common.{◌≡◌, ℕ, zero, suc, ◌^◌, ◌<◌, ◌≤◌, ◌⊎◌, inl, inr, ⊎_elim, true, false, cond, not, nat_lt, List, [], length, ℤ, pos, ◌-ℤ◌, ◌*ℤ◌, ◌≤ℤ◌, ◌<ℤ◌, refl, sym, ap, ◌∙◌, subst, arith}
use Rattle.std.proofs.lemmas.Bool.{cases_lt, cases_Bool, both_ways, and_parts, not-true, cond_both, cond-true, cond-false, ltb-true, ltb-false, lt-ltb, le-ltb}
use Rattle.std.proofs.lemmas.List.{get_or_past}
use Rattle.std.proofs.lemmas.List.Elements.{All-from_get_or}
use Rattle.lift_poly.proofs.Ring.{linear}
use Rattle.lift_grid.specs.Rectangle.{Spans}
use Rattle.lift_grid.specs.Tree.{RejectData}
use Rattle.lift_model.specs.Model.{is_goal, row_at}
use Rattle.corner_lift.specs.Corner.{corner_sum, whole}
use Rattle.corner_lift.specs.Case.{CaseData, IsCase, IsInside, number, engine_limit}
use Rattle.corner_lift.specs.Certificate.{unmarked, mark, ranked_below, IsRate}
use Rattle.corner_lift.specs.Stages.{IsAllowed, AreStages, IsAboveLower, IsGreatestLower}
use Rattle.lower_cert.specs.Laws.{is_stuck, CappingKeeps, StuckAreCapped, StagesAreGreatest}
use Rattle.lower_cert.specs.Premises.{Premises}
use Rattle.region_tree.proofs.Searches.{at_most_or_not, less_or_not, at_most_or_not_z, false_or_not, both_or_not, implied_or_not, all_or_one, all_or_not, IsFirst, first, descend, sum_to, sum-lt, listed, listed-length, listed-is}
use Rattle.region_tree.proofs.Staged.{AreStaged}
use Rattle.region_tree.proofs.Rows.{Place, corners, goal_past, whole_below, limit_is_enough}
use Rattle.region_tree.proofs.Uppers.{over}

-- numbers that are at or above each lower vector
record IsAboveLowers (k : CaseData) (spans : Spans) (v : ℕ → ℕ) : Type 0 where
  small : (s : ℕ) → v s ≤ 2 ^ k.w
  past : (s : ℕ) → length k.model.states ≤ s → v s ≡ 0
  goal : (s : ℕ) → is_goal k.model s ≡ true → v s ≡ 2 ^ k.w
  above : IsAboveLower k spans (over v)

stuck_parts : (k : CaseData) (rank : ℕ → ℕ) (s : ℕ) → is_stuck k rank s ≡ true → (is_goal k.model s ≡ false) × (unmarked ≤ rank s)
stuck_parts k rank s e =
    let both = and_parts (not (is_goal k.model s)) (not (nat_lt (rank s) unmarked)) e in
    (not-true (is_goal k.model s) both.0, ltb-false (rank s) unmarked (not-true (nat_lt (rank s) unmarked) both.1))

-- the parts of a rejecting certificate that its rates speak of
abbrev marked_by : List ℕ → List ℕ → RejectData
marked_by picks ranks = record { numbers = []; picks = picks; ranks = ranks; e = 0; k = 0 }

module _ (keeps : CappingKeeps) (capped : StuckAreCapped) (greatest : StagesAreGreatest) (k : CaseData) (spans : Spans) (place : Place k spans) where
  abbrev n : ℕ
  n = length k.model.states

  -- ---- where no state without rank has a number above 0

  module _ (v : ℕ → ℕ) (is : IsAboveLowers k spans v) (pick rank : ℕ → ℕ) (staged : AreStaged k spans (IsAllowed k spans (over v)) pick rank) (none : (s : ℕ) → s < n → unmarked ≤ rank s → v s ≤ 0)
      (x : List ℤ) (picks ranks : List ℕ) (size_x : length x ≡ n) (size_choices : length picks ≡ n) (size_ranks : length ranks ≡ n) (same_x : number x ≡ over v) (same_choices : mark picks ≡ pick) (same_ranks : mark ranks ≡ rank) where
    number_at : (s : ℕ) → number x s ≡ pos (v s)
    number_at s = ap (λ (y : ℕ → ℤ). y s) same_x

    choice_at : (s : ℕ) → mark picks s ≡ pick s
    choice_at s = ap (λ (f : ℕ → ℕ). f s) same_choices

    rank_at : (s : ℕ) → mark ranks s ≡ rank s
    rank_at s = ap (λ (f : ℕ → ℕ). f s) same_ranks

    stages : AreStages k spans (IsAllowed k spans (number x)) (mark picks) (mark ranks)
    stages =
        subst (λ (r : ℕ → ℕ). AreStages k spans (IsAllowed k spans (number x)) (mark picks) r) (sym same_ranks)
        (subst (λ (p : ℕ → ℕ). AreStages k spans (IsAllowed k spans (number x)) p rank) (sym same_choices)
        (subst (λ (y : ℕ → ℤ). AreStages k spans (IsAllowed k spans y) pick rank) (sym same_x) staged.stages))

    -- a ranked state is one of the states
    ranked_in : (s : ℕ) → mark ranks s < unmarked → s < n
    ranked_in s lt = ⊎_elim (λ (l : s < n). l) (λ (le : n ≤ s). absurd (let past = staged.past s le in omega (arith, lt, past, rank_at s))) (cases_lt s n)

    -- ---- the least e

    abbrev RateAt : ℕ → ℕ → Type 0
    RateAt e s = is_goal k.model s ≡ false → mark ranks s < unmarked → IsRate k spans (marked_by picks ranks) e s

    abbrev RatesAt : ℕ → Type 0
    RatesAt e = (s : ℕ) → s < n → RateAt e s

    rate_or_not : (e s : ℕ) → RateAt e s ⊎ (RateAt e s → ⊥)
    rate_or_not e s =
        let row = row_at k.model s (mark picks s) in
        implied_or_not (false_or_not (is_goal k.model s))
        (implied_or_not (less_or_not (mark ranks s) unmarked)
        (all_or_not (λ c. whole k.model k.d spans row ≤ℤ (corner_sum k.d spans row c (ranked_below (mark ranks) (mark ranks s)) *ℤ pos (2 ^ e)))
        (λ c. at_most_or_not_z (whole k.model k.d spans row) (corner_sum k.d spans row c (ranked_below (mark ranks) (mark ranks s)) *ℤ pos (2 ^ e)))
        (corners k spans s (mark picks s))))

    -- 126 is a rate of all picks
    some_rate : RatesAt 126
    some_rate s lt f ranked c corner =
        let p = stages.chosen s f ranked in
        let row = row_at k.model s (mark picks s) in
        let weight = corner_sum k.d spans row c (ranked_below (mark ranks) (mark ranks s)) in
        let leads : pos 0 <ℤ weight = p.leads c corner in
        limit_is_enough weight (whole k.model k.d spans row) engine_limit leads (whole_below k spans place s (mark picks s) p.in_range)

    least_rate : (e : ℕ) × IsFirst RatesAt e
    least_rate = first RatesAt (λ e. all_or_not (RateAt e) (rate_or_not e) n) 126 some_rate

    -- ---- the least k

    abbrev HeightAt : ℕ → Type 0
    HeightAt j = (1 ≤ j) × ((s : ℕ) → s < n → mark ranks s < unmarked → mark ranks s ≤ j)

    height_or_not : (j : ℕ) → HeightAt j ⊎ (HeightAt j → ⊥)
    height_or_not j = both_or_not (at_most_or_not 1 j) (all_or_not (λ s. mark ranks s < unmarked → mark ranks s ≤ j) (λ s. implied_or_not (less_or_not (mark ranks s) unmarked) (at_most_or_not (mark ranks s) j)) n)

    some_height : HeightAt (suc n)
    some_height = (omega arith, λ s lt ranked. (let at = rank_at s in let most = staged.height s (omega (arith, at, ranked)) in omega (arith, at, most)))

    least_height : (j : ℕ) × IsFirst HeightAt j
    least_height = first HeightAt height_or_not (suc n) some_height

    -- ---- the certificate

    abbrev certificate : RejectData
    certificate = record { numbers = x; picks = picks; ranks = ranks; e = least_rate.0; k = least_height.0 }

    unranked_zero : (s : ℕ) → unmarked ≤ mark ranks s → number x s ≡ pos 0
    unranked_zero s far =
        let at = rank_at s in
        let zero : v s ≡ 0 = ⊎_elim (λ (lt : s < n). let le = none s lt (omega (arith, at, far)) in let z : v s ≡ 0 = omega (arith, le) in z) (λ (le : n ≤ s). is.past s le) (cases_lt s n) in
        number_at s ∙ ap pos zero

    is_greatest : IsGreatestLower k spans certificate
    is_greatest =
        let few = place.case.asked.model.count.1 in
        let rate = least_rate.1 in
        let height = least_height.1 in
        greatest k spans certificate
        (record { size = size_x; range = All-from_get_or (λ m. (pos 0 ≤ℤ m) × (m ≤ℤ pos (2 ^ k.w))) x (pos 0) (λ i lt. (omega (arith, linear, number_at i), omega (arith, linear, number_at i, is.small i))) })
        (size_choices, size_ranks)
        (All-from_get_or (λ m. m ≤ unmarked) ranks unmarked (λ i lt. subst (λ m. m ≤ unmarked) (sym (rank_at i)) (staged.small i)))
        (rate.least 126 some_rate, height.holds.0, let most = height.least (suc n) some_height in omega (arith, most, few))
        (λ s g. (number_at s ∙ ap pos (is.goal s g), choice_at s ∙ staged.goal_choice s g))
        (λ s f far. (unranked_zero s far, choice_at s ∙ staged.free_choice s (subst (λ m. unmarked ≤ m) (rank_at s) far)))
        stages
        (λ s ranked. height.holds.1 s (ranked_in s ranked) ranked)
        (λ s f ranked. rate.holds s (ranked_in s ranked) f ranked)
        (λ e all. rate.least e (λ s lt f ranked. all s f ranked))
        (λ j one all. height.least j (one, λ s lt ranked. all s ranked))
        (λ y lower s. subst (λ m. number y.numbers s ≤ℤ m) (sym (number_at s)) (is.above y lower s))

  -- ---- where the highest of them have m + 1

  module _ (v : ℕ → ℕ) (is : IsAboveLowers k spans v) (pick rank : ℕ → ℕ) (staged : AreStaged k spans (IsAllowed k spans (over v)) pick rank) (m : ℕ) (highest : (s : ℕ) → s < n → unmarked ≤ rank s → v s ≤ suc m) where
    abbrev lowered : ℕ → ℕ
    lowered t = cond (is_stuck k rank t) (cond (nat_lt m (v t)) m (v t)) (v t)

    by_lowered : (t : ℕ) (P : ℕ → Type 0) → (is_stuck k rank t ≡ true → m < v t → P m) → ((is_stuck k rank t ≡ true → v t ≤ m) → P (v t)) → P (lowered t)
    by_lowered t P low kept =
        cond_both (is_stuck k rank t) (cond (nat_lt m (v t)) m (v t)) (v t) P
        (λ e. cond_both (nat_lt m (v t)) m (v t) P (λ b. low e (ltb-true m (v t) b)) (λ b. kept (λ _. ltb-false m (v t) b)))
        (λ e. kept (λ g. absurd (both_ways (is_stuck k rank t) e g)))

    no_goal : (s : ℕ) → is_stuck k rank s ≡ true → is_goal k.model s ≡ false
    no_goal s e = (stuck_parts k rank s e).0

    stuck_most : (s : ℕ) → is_stuck k rank s ≡ true → v s ≤ suc m
    stuck_most s e =
        ⊎_elim
        (λ (lt : s < n). highest s lt (stuck_parts k rank s e).1)
        (λ (le : n ≤ s). let past = is.past s le in omega (arith, past))
        (cases_lt s n)

    lowered_above : IsAboveLower k spans (over lowered)
    lowered_above =
        let few = place.case.asked.model.count.1 in
        let top = pos (suc m) in
        keeps k spans (is_stuck k rank) (over v) top (over lowered) place.case place.within no_goal (omega (arith, linear)) is.above
        (capped k spans (over v) top pick rank (suc n) place.case place.within (omega (arith, few)) staged.stages staged.height (λ s e. let most = stuck_most s e in omega (arith, linear, most)))
        (λ s. by_lowered s (λ q. (pos (v s) ≤ℤ pos q) ⊎ ((is_stuck k rank s ≡ true) × ((top -ℤ pos 1) ≤ℤ pos q))) (λ e lt. inr (e, omega (arith, linear))) (λ _. inl (omega (arith, linear))))

    is_lowered : IsAboveLowers k spans lowered
    is_lowered = record {
      small = λ s. let le = is.small s in by_lowered s (λ q. q ≤ 2 ^ k.w) (λ e lt. omega (arith, lt, le)) (λ _. le);
      past = λ s le. let past = is.past s le in by_lowered s (λ q. q ≡ 0) (λ e lt. absurd (omega (arith, lt, past))) (λ _. past);
      goal = λ s g. by_lowered s (λ q. q ≡ 2 ^ k.w) (λ e lt. absurd (both_ways (is_goal k.model s) (no_goal s e) g)) (λ _. is.goal s g);
      above = lowered_above;
    }

    less_total : (s : ℕ) → s < n → unmarked ≤ rank s → m < v s → sum_to lowered n < sum_to v n
    less_total s lt far more =
        sum-lt lowered v n s
        (λ t l. by_lowered t (λ q. q ≤ v t) (λ e less. omega (arith, less)) (λ _. omega arith))
        lt
        (by_lowered s (λ q. q < v s) (λ e less. less) (λ kept. absurd (let le = kept stuck in omega (arith, le, more))))
      where
        open_state : is_goal k.model s ≡ false
        open_state = ⊎_elim (λ (g : is_goal k.model s ≡ true). absurd (let zero = staged.stages.goal s g in omega (arith, zero, far))) (λ (f : is_goal k.model s ≡ false). f) (cases_Bool (is_goal k.model s))

        stuck : is_stuck k rank s ≡ true
        stuck = let unranked : nat_lt (rank s) unmarked ≡ false = le-ltb (rank s) unmarked far in let f = open_state in rw (f, unranked) refl

  -- ---- down to the greatest

  abbrev Above : Type 0
  Above = (v : ℕ → ℕ) × IsAboveLowers k spans v

  abbrev total_of : Above → ℕ
  total_of a = sum_to a.0 n

  abbrev Found : Type 0
  Found = (r : RejectData) × IsGreatestLower k spans r

  module _ (staged : (y : ℕ → ℤ) → (pick : ℕ → ℕ) × ((rank : ℕ → ℕ) × AreStaged k spans (IsAllowed k spans y) pick rank)) where
    abbrev LevelAt : (ℕ → ℕ) → (ℕ → ℕ) → ℕ → Type 0
    LevelAt v rank m = (s : ℕ) → s < n → unmarked ≤ rank s → v s ≤ m

    level_or_not : (v rank : ℕ → ℕ) (m : ℕ) → LevelAt v rank m ⊎ (LevelAt v rank m → ⊥)
    level_or_not v rank m = all_or_not (λ s. unmarked ≤ rank s → v s ≤ m) (λ s. implied_or_not (at_most_or_not unmarked (rank s)) (at_most_or_not (v s) m)) n

    -- a state without rank whose number is above m, or none is
    higher_or_none : (v rank : ℕ → ℕ) (m : ℕ) → LevelAt v rank m ⊎ ((s : ℕ) × ((s < n) × ((unmarked ≤ rank s) × (m < v s))))
    higher_or_none v rank m =
        all_or_one (λ s. unmarked ≤ rank s → v s ≤ m) (λ s. (unmarked ≤ rank s) × (m < v s))
        (λ s. ⊎_elim
        (λ (ranked : rank s < unmarked). inl (λ far. absurd (omega (arith, ranked, far))))
        (λ (far : unmarked ≤ rank s). ⊎_elim (λ (lt : m < v s). inr (far, lt)) (λ (le : v s ≤ m). inl (λ _. le)) (cases_lt m (v s)))
        (cases_lt (rank s) unmarked))
        n

    step_at : (a : Above) (pick rank : ℕ → ℕ) → AreStaged k spans (IsAllowed k spans (over a.0)) pick rank → (m : ℕ) → IsFirst (LevelAt a.0 rank) m → Found ⊎ ((b : Above) × (total_of b < total_of a))
    step_at a pick rank stages zero level =
        let v = a.0 in
        let x : List ℤ = listed (over v) n in
        let picks : List ℕ = listed pick n in
        let ranks : List ℕ = listed rank n in
        let size_x = listed-length (over v) n in
        let size_choices = listed-length pick n in
        let size_ranks = listed-length rank n in
        let same_x : number x ≡ over v = listed-is (over v) n (pos 0) (λ i le. ap pos (a.1.past i le)) in
        let same_choices : mark picks ≡ pick = listed-is pick n unmarked (λ i le. stages.free_choice i (subst (λ q. unmarked ≤ q) (sym (stages.past i le)) (omega arith))) in
        let same_ranks : mark ranks ≡ rank = listed-is rank n unmarked stages.past in
        inl (certificate v a.1 pick rank stages level.holds x picks ranks size_x size_choices size_ranks same_x same_choices same_ranks, is_greatest v a.1 pick rank stages level.holds x picks ranks size_x size_choices size_ranks same_x same_choices same_ranks)
    step_at a pick rank stages (suc m) level =
        ⊎_elim
        (λ (all : LevelAt a.0 rank m). absurd (let most = level.least m all in omega (arith, most)))
        (λ (one : (s : ℕ) × ((s < n) × ((unmarked ≤ rank s) × (m < a.0 s)))).
        inr ((lowered a.0 a.1 pick rank stages m level.holds, is_lowered a.0 a.1 pick rank stages m level.holds), less_total a.0 a.1 pick rank stages m level.holds one.0 one.1.0 one.1.1.0 one.1.1.1))
        (higher_or_none a.0 rank m)

    step : (a : Above) → Found ⊎ ((b : Above) × (total_of b < total_of a))
    step a =
        let all = staged (over a.0) in
        let level = first (LevelAt a.0 all.1.0) (level_or_not a.0 all.1.0) (2 ^ k.w) (λ s lt far. a.1.small s) in
        step_at a all.0 all.1.0 all.1.1 level.0 level.1

    -- 2 ^ w on all states
    abbrev start : ℕ → ℕ
    start s = cond (nat_lt s n) (2 ^ k.w) 0

    start_above : IsAboveLowers k spans start
    start_above = record {
      small = λ s. cond_both (nat_lt s n) (2 ^ k.w) 0 (λ q. q ≤ 2 ^ k.w) (λ e. omega arith) (λ e. omega arith);
      past = λ s le. cond-false (nat_lt s n) (2 ^ k.w) 0 (le-ltb s n le);
      goal = λ s g. ⊎_elim (λ (lt : s < n). cond-true (nat_lt s n) (2 ^ k.w) 0 (lt-ltb s n lt)) (λ (le : n ≤ s). absurd (both_ways (is_goal k.model s) (goal_past k place.case s le) g)) (cases_lt s n);
      above = λ y lower s. cond_both (nat_lt s n) (2 ^ k.w) 0 (λ q. number y.numbers s ≤ℤ pos q)
          (λ e. (place.laws.numbers k y.numbers s lower.numbers).1)
          (λ e. let le = ltb-false s n e in let size = lower.numbers.size in let zero : number y.numbers s ≡ pos 0 = get_or_past y.numbers s (pos 0) (omega (arith, le, size)) in omega (arith, linear, zero));
    }

    greatest_lower : Found
    greatest_lower = descend total_of step (start, start_above)

-- what stages there are
abbrev pub StagesExist : Type 0
StagesExist = (k : CaseData) (spans : Spans) → IsCase k → IsInside k.root spans → (y : ℕ → ℤ) → (pick : ℕ → ℕ) × ((rank : ℕ → ℕ) × AreStaged k spans (IsAllowed k spans y) pick rank)

pub greatest_lowers_exist : Premises → CappingKeeps → StuckAreCapped → StagesAreGreatest → StagesExist → (k : CaseData) (spans : Spans) → IsCase k → IsInside k.root spans → (r : RejectData) × IsGreatestLower k spans r
greatest_lowers_exist laws keeps capped greatest stages k spans is inside = greatest_lower keeps capped greatest k spans (record { laws = laws; case = is; within = inside }) (stages k spans is inside)
