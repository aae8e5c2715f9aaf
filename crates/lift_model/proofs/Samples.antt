-- Models of few states, worked by hand: what their schedulers reach.
use Rattle.std.proofs.Common.{◌≡◌, ◌≢◌, ℕ, zero, suc, ◌^◌, ◌<◌, ◌≤◌, ℤ, List, [], ◌∷◌, length, pos, negsuc, ◌*ℤ◌, ◌==◌, All, AllPairs, unsigned_abs, refl, arith, inr}
use Rattle.std.proofs.lemmas.List.Elements.{All-cons, All-nil}
use Rattle.std.specs.List.Sorted.{IsStrictlyIncreasing}
use Rattle.lift_poly.specs.Polynomial.{Term}
use Rattle.lift_poly.proofs.Ring.{as_diff, diffs, diff-same}
use Rattle.lift_model.specs.Process.{power}
use Rattle.lift_model.specs.Memoryless.{memoryless_reach, undecided}
use Rattle.lift_model.specs.Plan.{Fits}
use Rattle.lift_model.specs.Plan.Plan.{stop}
use Rattle.lift_model.specs.Plan.Plans.{no_plans, plan}
use Rattle.lift_model.specs.Reach.{reach}
use Rattle.lift_model.specs.Pick.{pick}
use Rattle.lift_model.specs.declared.entry.Entry.{Entry}
use Rattle.lift_model.specs.Model.{ModelData, process_at}
use Rattle.lift_model.specs.Twin.{toss_row, other_row, goal_row, sink_row, heads, tails, certain, coin, twin, fair, FairPlansReachOneHalf}
use Rattle.lift_model.specs.Valid.{IsEntry, IsRow, IsModel, coefficient_limit}

-- at 1/4 the coin reaches the goal in one step with 1 over 4
coin_reaches : reach (process_at coin ((pos 1, pos 4) ∷ [])) 1 1 0 (pick 1 0 (plan stop (plan stop no_plans))) ≡ pos 1
coin_reaches = refl

coin_total : power (pos 1 *ℤ (process_at coin ((pos 1, pos 4) ∷ [])).total) 1 ≡ pos 4
coin_total = refl

-- state 0 leads to the goal with p, and else back to itself
abbrev pub retry_row : List Entry
retry_row = record { target = 1; poly = heads } ∷ record { target = 0; poly = tails } ∷ []

-- the coin is tossed until it leads to the goal
abbrev pub retry : ModelData
retry = record coin { states = (retry_row ∷ []) ∷ (goal_row ∷ []) ∷ (sink_row ∷ []) ∷ [] }

-- at 1/4 it does so within two steps with 7 over 16, and is undecided with the other 9
retry_reaches : memoryless_reach (process_at retry ((pos 1, pos 4) ∷ [])) (λ s. 0) 2 0 ≡ pos 7
retry_reaches = refl

retry_undecided : undecided (process_at retry ((pos 1, pos 4) ∷ [])) (λ s. 0) (λ s. s == 0) 2 0 ≡ pos 9
retry_undecided = refl

-- with the twin's second choice the goal is reached within two steps with 12 over 16
twin_reaches : memoryless_reach (process_at twin ((pos 1, pos 4) ∷ [])) (λ s. 1) 2 0 ≡ pos 12
twin_reaches = refl

-- a choice that there isn't reaches nothing
nothing_reached : memoryless_reach (process_at twin ((pos 1, pos 4) ∷ [])) (λ s. 2) 2 0 ≡ pos 0
nothing_reached = refl

fair_fits : (n d : ℤ) → Fits (process_at twin ((n, d) ∷ [])) 2 1 0 fair
fair_fits n d = inr ((tt, (tt, tt)), (1, refl, ((tt, (tt, tt)), (0, refl, refl))))

-- at n / d the fair plan reaches the goal in one step with d over 2 d
fair_reaches : (n d : ℤ) → reach (process_at twin ((n, d) ∷ [])) 2 1 0 fair ≡ d
fair_reaches n d = rw (as_diff n, as_diff d) (simp diffs (diff-same _ _ _ _ (omega arith)))

fair_total : (n d : ℤ) → power (pos 2 *ℤ (process_at twin ((n, d) ∷ [])).total) 1 ≡ pos 2 *ℤ d
fair_total n d = rw (as_diff d) (simp diffs (diff-same _ _ _ _ (omega arith)))

pub fair_plans : FairPlansReachOneHalf
fair_plans n d = (fair_fits n d, (fair_reaches n d, fair_total n d))

-- ---- the second model is valid

all_one : {X : Type 0} (P : X → Type 0) (x : X) → P x → All P (x ∷ [])
all_one P x p = All-cons P x [] p (All-nil P)

all_two : {X : Type 0} (P : X → Type 0) (x y : X) → P x → P y → All P (x ∷ y ∷ [])
all_two P x y p q = All-cons P x (y ∷ []) p (all_one P y q)

all_three : {X : Type 0} (P : X → Type 0) (x y z : X) → P x → P y → P z → All P (x ∷ y ∷ z ∷ [])
all_three P x y z p q r = All-cons P x (y ∷ z ∷ []) p (all_two P y z q r)

-- the entry has one term
one_term : (target set : ℕ) (n : ℤ) → target < 3 → set < 2 → n ≢ pos 0 → unsigned_abs n < coefficient_limit → IsEntry 3 1 (record { target = target; poly = (set, n) ∷ [] })
one_term target set n lt within some small = record {
  target = lt;
  polynomial = record { ascending = λ k at. absurd (omega arith); coefficients = all_one (λ (term : Term). term.1 ≢ pos 0) (set, n) some };
  sets = all_one (λ (term : Term). term.0 < 2 ^ 1) (set, n) (omega arith);
  sizes = all_one (λ (term : Term). unsigned_abs term.1 < coefficient_limit) (set, n) small;
}

tails_entry : (target : ℕ) → target < 3 → IsEntry 3 1 (record { target = target; poly = tails })
tails_entry target lt = record {
  target = lt;
  polynomial = record { ascending = ascending; coefficients = all_two (λ (term : Term). term.1 ≢ pos 0) (0, pos 1) (1, negsuc 0) (λ e. cc) (λ e. cc) };
  sets = all_two (λ (term : Term). term.0 < 2 ^ 1) (0, pos 1) (1, negsuc 0) (omega arith) (omega arith);
  sizes = all_two (λ (term : Term). unsigned_abs term.1 < coefficient_limit) (0, pos 1) (1, negsuc 0) (omega arith) (omega arith);
}
  where
    ascending : IsStrictlyIncreasing (0 ∷ 1 ∷ [])
    ascending zero at = omega arith
    ascending (suc k) at = absurd (omega arith)

-- the row has one entry
lone : (entry : Entry) → IsEntry 3 1 entry → All (IsRow 3 1) ((entry ∷ []) ∷ [])
lone entry is = all_one (IsRow 3 1) (entry ∷ []) (record { entries = all_one (IsEntry 3 1) entry is; distinct = λ i j d below lt. absurd (omega arith) })

-- the row leads to the states 1 and 2
pair : (first second : Entry) → first.target ≡ 1 → second.target ≡ 2 → IsEntry 3 1 first → IsEntry 3 1 second → IsRow 3 1 (first ∷ second ∷ [])
pair first second one two is also = record { entries = all_two (IsEntry 3 1) first second is also; distinct = distinct }
  where
    distinct : AllPairs (λ (a b : Entry). a.target ≢ b.target) (first ∷ second ∷ [])
    distinct zero zero d below lt = absurd (omega arith)
    distinct zero (suc zero) d below lt = λ same. absurd (omega (arith, one, two, same))
    distinct zero (suc (suc j)) d below lt = absurd (omega arith)
    distinct (suc i) zero d below lt = absurd (omega arith)
    distinct (suc i) (suc zero) d below lt = absurd (omega arith)
    distinct (suc i) (suc (suc j)) d below lt = absurd (omega arith)

pub twin_is_model : IsModel twin
twin_is_model =
    let heads_to : (target : ℕ) → target < 3 → IsEntry 3 1 (record { target = target; poly = heads }) = λ target lt. one_term target 1 (pos 1) lt (omega arith) (λ e. cc) (omega arith) in
    let certain_to : (target : ℕ) → target < 3 → IsEntry 3 1 (record { target = target; poly = certain }) = λ target lt. one_term target 0 (pos 1) lt (omega arith) (λ e. cc) (omega arith) in
    let tosses : List (List Entry) = toss_row ∷ other_row ∷ [] in
    let rows : List (List Entry) → Type 0 = All (IsRow 3 1) in
    let some : List (List Entry) → Type 0 = λ choices. 1 ≤ length choices in
    record {
      count = (omega arith, omega arith);
      goals = refl;
      some_goal = (1, omega arith, refl);
      first = omega arith;
      denominator = (record { le = tt }, record { le = tt });
      parameters = (omega arith, λ i j d below lt. absurd (omega arith));
      some_choice = all_three some tosses (goal_row ∷ []) (sink_row ∷ []) (omega arith) (omega arith) (omega arith);
      one_choice = λ kind. cc;
      rows =
          all_three rows tosses (goal_row ∷ []) (sink_row ∷ [])
          (all_two (IsRow 3 1) toss_row other_row (pair _ _ refl refl (heads_to 1 (omega arith)) (tails_entry 2 (omega arith))) (pair _ _ refl refl (tails_entry 1 (omega arith)) (heads_to 2 (omega arith))))
          (lone _ (certain_to 1 (omega arith)))
          (lone _ (certain_to 2 (omega arith)));
      choices = omega arith;
      transitions = omega arith;
    }
