-- Certificates worked by hand: a run waits in state 0 with one half, and else shows heads with p, or tails. Each visit of state 0 costs 1.
use Rattle.std.proofs.Common.{◌≡◌, ◌+◌, ◌*◌, ◌<◌, ◌≤◌, ℕ, zero, suc, Bool, true, false, List, [], ◌∷◌, length, ℤ, pos, negsuc, ◌≤ℤ◌, refl, arith, inl}
use Rattle.std.proofs.lemmas.List.Elements.{All-cons, All-nil}
use Rattle.lift_poly.specs.Polynomial.{Valuation}
use Rattle.lift_grid.specs.Rectangle.{Spans}
use Rattle.lift_grid.specs.Tree.{RejectData}
use Rattle.lift_frac.specs.Gcd.{gcd}
use Rattle.lift_costs.specs.Costs.{CostData}
use Rattle.lift_model.specs.declared.kind.Kind.TheVariants.{Dtmc}
use Rattle.lift_model.specs.declared.entry.Entry.{Entry}
use Rattle.lift_model.specs.Plan.Plan.{stop, toss}
use Rattle.lift_model.specs.Plan.{Plan}
use Rattle.lift_model.specs.Plan.Parts.{no_parts, part}
use Rattle.lift_model.specs.Plan.Plans.{no_plans, plan}
use Rattle.lift_model.specs.Model.{ModelData, is_goal, choices, process_at}
use Rattle.corner_lift.specs.Case.{CaseData, number}
use Rattle.corner_lift.specs.Certificate.{MeansAtMost, MeansAtLeast, unmarked, mark}
use Rattle.lift_cert.specs.Reached.{Follows}
use Rattle.reward_cert.specs.Charges.{RewardData, common, charge, sum_of}
use Rattle.reward_cert.specs.Expected.{expected_cost, memoryless_cost}
use Rattle.reward_cert.specs.Rounded.{reward_up, reward_down}
use Rattle.reward_cert.specs.Rows.{has_number, numbered, IsCovered, IsBacked, LeadsOn}
use Rattle.reward_cert.specs.Collected.{IsCollectedUpperAll, IsPushed, IsCollectedLowerOne}
use Rattle.reward_cert.specs.Reaching.{IsReachingUpperAll, IsReachingLowerOne}
use Rattle.reward_cert.specs.Said.{FollowersPayAfter, FollowersPayOrMiss}

-- over the common denominator 2: to 0 with 1, to 1 with p, to 2 with 1 - p
abbrev waiting : List Entry
waiting = record { target = 0; poly = (0, pos 1) ∷ [] } ∷ record { target = 1; poly = (1, pos 1) ∷ [] } ∷ record { target = 2; poly = (0, pos 1) ∷ (1, negsuc 0) ∷ [] } ∷ []

abbrev stay_in : ℕ → List Entry
stay_in s = record { target = s; poly = (0, pos 2) ∷ [] } ∷ []

abbrev model_with : List Bool → ModelData
model_with goal = record {
  kind = Dtmc;
  common = pos 2;
  names = (112 ∷ []) ∷ [];
  goal = goal;
  init = 0;
  states = (waiting ∷ []) ∷ (stay_in 1 ∷ []) ∷ (stay_in 2 ∷ []) ∷ [];
}

-- p from 1/5 to 2/5
abbrev sides : Spans
sides = (pos 1, pos 2) ∷ []

-- at precision 4
abbrev case_with : List Bool → CaseData
case_with goal = record { model = model_with goal; root = sides; d = pos 5; depth = 0; w = 4 }

abbrev cost_of_one : CostData
cost_of_one = record { num = 1; den = 1 }

abbrev nothing : CostData
nothing = record { num = 0; den = 1 }

-- a cap of 4: a visit costs 4 of 16 parts
abbrev rewards : RewardData
rewards = record { costs = (cost_of_one ∷ []) ∷ (nothing ∷ []) ∷ (nothing ∷ []) ∷ []; cap = 4 }

-- ---- costs

-- 1/6 and 1/3 are 1/2 together
halves : sum_of (record { num = 1; den = 6 }) (record { num = 1; den = 3 }) ≡ record { num = 1; den = 2 }
unfolding gcd
halves = refl

-- of costs 1/6, 0 and 3/4 the common denominator is 12, and they are 2, 0 and 9 of it
twelve : common ((record { num = 1; den = 6 } ∷ nothing ∷ []) ∷ (record { num = 3; den = 4 } ∷ []) ∷ []) ≡ 12
unfolding gcd
twelve = refl

two_of_twelve : charge ((record { num = 1; den = 6 } ∷ nothing ∷ []) ∷ (record { num = 3; den = 4 } ∷ []) ∷ []) 0 0 ≡ 2
unfolding gcd
two_of_twelve = refl

nine_of_twelve : charge ((record { num = 1; den = 6 } ∷ nothing ∷ []) ∷ (record { num = 3; den = 4 } ∷ []) ∷ []) 1 0 ≡ 9
unfolding gcd
nine_of_twelve = refl

-- 1/3 of a cap of 1 is 5 or 6 of 16 parts
rounds_up : reward_up 4 (record { costs = (record { num = 1; den = 3 } ∷ []) ∷ []; cap = 1 }) 0 0 ≡ 6
rounds_up = refl

rounds_down : reward_down 4 (record { costs = (record { num = 1; den = 3 } ∷ []) ∷ []; cap = 1 }) 0 0 ≡ 5
rounds_down = refl

-- ---- what is paid, at p = 1/5, where the total is 10

abbrev fifth : Valuation
fifth = (pos 1, pos 5) ∷ []

abbrev heads : List Bool
heads = false ∷ true ∷ false ∷ []

abbrev done : List Bool
done = false ∷ true ∷ true ∷ []

abbrev one_each : ℕ → ℕ → ℕ
one_each zero a = 1
one_each (suc s) a = 0

abbrev first : ℕ → ℕ
first s = 0

-- 1 in one step, and 1 and a half in two: 150 of 100
paid_in_one : memoryless_cost (process_at (model_with heads) fifth) one_each first 1 0 ≡ pos 10
paid_in_one = refl

paid_in_two : memoryless_cost (process_at (model_with heads) fifth) one_each first 2 0 ≡ pos 150
paid_in_two = refl

-- a plan over 3 for two steps: 150 times 9 of 900
abbrev on : Plan → Plan
on p = toss (part 3 (plan p (plan p (plan p no_plans))) no_parts)

abbrev stays : Plan
stays = toss (part 3 (plan stop no_plans) no_parts)

planned : expected_cost (process_at (model_with heads) fifth) one_each 3 2 0 (toss (part 3 (plan (on stop) (plan stop (plan stays no_plans))) no_parts)) ≡ pos 1350
planned = refl

-- what each choice costs: in a state with two choices that costs 2 and 5, tossed evenly, 7 halves
tossed : expected_cost (record { goal = λ s. false; choices = λ s. ((s, pos 1) ∷ []) ∷ ((s, pos 1) ∷ []) ∷ []; total = pos 1 }) (λ s a. 2 + 3 * a) 2 1 0 (toss (part 1 (plan stop no_plans) (part 1 (plan stop no_plans) no_parts))) ≡ pos 7
tossed = refl

-- ---- from above: 8 of 16 parts, two visits of state 0

abbrev upper : RejectData
upper = record { numbers = pos 8 ∷ pos 0 ∷ pos 0 ∷ []; picks = []; ranks = 1 ∷ 0 ∷ 0 ∷ []; e = 1; k = 1 }

waiting_is_covered : IsCovered (case_with done) sides rewards upper.numbers 0 0
waiting_is_covered = record { numbers = numbers; means = means }
  where
    numbers : MeansAtLeast (case_with done) sides waiting (numbered upper.numbers) (pos 1)
    numbers zero lt = record { le = tt }
    numbers (suc zero) lt = record { le = tt }
    numbers (suc (suc c)) lt = absurd (omega (arith, lt))

    means : MeansAtMost (case_with done) sides waiting upper.numbers (pos 4)
    means zero lt = record { le = tt }
    means (suc zero) lt = record { le = tt }
    means (suc (suc c)) lt = absurd (omega (arith, lt))

abbrev Within : ℤ → Type 0
Within n = (negsuc 0 ≤ℤ n) × (n ≤ℤ pos 16)

loop_is_covered : IsCollectedUpperAll (case_with done) sides rewards upper.numbers
loop_is_covered = record {
  numbers = record {
    size = refl;
    range = All-cons Within (pos 8) (pos 0 ∷ pos 0 ∷ []) (record { le = tt }, record { le = tt }) (All-cons Within (pos 0) (pos 0 ∷ []) (record { le = tt }, record { le = tt }) (All-cons Within (pos 0) [] (record { le = tt }, record { le = tt }) (All-nil Within)));
  };
  goal = goal_at;
  rows = rows_at;
}
  where
    goal_at : (s : ℕ) → is_goal (model_with done) s ≡ true → number upper.numbers s ≡ pos 0
    goal_at zero e = cc
    goal_at (suc zero) e = refl
    goal_at (suc (suc zero)) e = refl
    goal_at (suc (suc (suc s))) e = cc

    rows_at : (s a : ℕ) → is_goal (model_with done) s ≡ false → has_number upper.numbers s ≡ true → a < length (choices (model_with done) s) → IsCovered (case_with done) sides rewards upper.numbers s a
    rows_at zero zero e h lt = waiting_is_covered
    rows_at zero (suc a) e h lt = absurd (omega (arith, lt))
    rows_at (suc zero) a e h lt = cc
    rows_at (suc (suc zero)) a e h lt = cc
    rows_at (suc (suc (suc s))) a e h lt = absurd (omega (arith, lt))

abbrev Few : ℕ → Type 0
Few rank = rank ≤ unmarked

loop_is_reached : IsReachingUpperAll (case_with done) sides rewards upper
loop_is_reached = record {
  collected = loop_is_covered;
  picks = refl;
  ranks = record {
    size = refl;
    marks = All-cons Few 1 (0 ∷ 0 ∷ []) (omega arith) (All-cons Few 0 (0 ∷ []) (omega arith) (All-cons Few 0 [] (omega arith) (All-nil Few)));
    bounds = (omega arith, omega arith, omega arith);
    goal = goal_at;
    none = none_at;
    range = range_at;
  };
  leads = leads_at;
}
  where
    goal_at : (s : ℕ) → is_goal (model_with done) s ≡ true → mark upper.ranks s ≡ 0
    goal_at zero e = cc
    goal_at (suc zero) e = refl
    goal_at (suc (suc zero)) e = refl
    goal_at (suc (suc (suc s))) e = cc

    none_at : (s : ℕ) → has_number upper.numbers s ≡ false → mark upper.ranks s ≡ unmarked
    none_at zero e = cc
    none_at (suc zero) e = cc
    none_at (suc (suc zero)) e = cc
    none_at (suc (suc (suc s))) e = refl

    range_at : (s : ℕ) → is_goal (model_with done) s ≡ false → has_number upper.numbers s ≡ true → (1 ≤ mark upper.ranks s) × (mark upper.ranks s ≤ 1)
    range_at zero e h = (omega arith, omega arith)
    range_at (suc zero) e h = cc
    range_at (suc (suc zero)) e h = cc
    range_at (suc (suc (suc s))) e h = cc

    leads_at : (s a : ℕ) → is_goal (model_with done) s ≡ false → has_number upper.numbers s ≡ true → a < length (choices (model_with done) s) → LeadsOn (case_with done) sides upper s a
    leads_at zero zero e h lt zero at = record { le = tt }
    leads_at zero zero e h lt (suc zero) at = record { le = tt }
    leads_at zero zero e h lt (suc (suc c)) at = absurd (omega (arith, at))
    leads_at zero (suc a) e h lt c at = absurd (omega (arith, lt))
    leads_at (suc zero) a e h lt c at = cc
    leads_at (suc (suc zero)) a e h lt c at = cc
    leads_at (suc (suc (suc s))) a e h lt c at = cc

-- ---- from below, what is collected before heads: 8 of 16 parts, as tails cost nothing

abbrev lower : RejectData
lower = record { numbers = pos 8 ∷ pos 0 ∷ pos 0 ∷ []; picks = 0 ∷ unmarked ∷ unmarked ∷ []; ranks = 1 ∷ unmarked ∷ unmarked ∷ []; e = 0; k = 1 }

abbrev Number : ℤ → Type 0
Number n = (pos 0 ≤ℤ n) × (n ≤ℤ pos 16)

loop_is_pushed : IsCollectedLowerOne (case_with heads) sides rewards lower
loop_is_pushed = record {
  numbers = record {
    size = refl;
    range = All-cons Number (pos 8) (pos 0 ∷ pos 0 ∷ []) (record { le = tt }, record { le = tt }) (All-cons Number (pos 0) (pos 0 ∷ []) (record { le = tt }, record { le = tt }) (All-cons Number (pos 0) [] (record { le = tt }, record { le = tt }) (All-nil Number)));
  };
  size = refl;
  ranks = record {
    size = refl;
    marks = All-cons Few 1 (unmarked ∷ unmarked ∷ []) (omega arith) (All-cons Few unmarked (unmarked ∷ []) (omega arith) (All-cons Few unmarked [] (omega arith) (All-nil Few)));
    bounds = (omega arith, omega arith, omega arith);
    goal = goal_at;
    unranked = unranked_at;
    range = range_at;
  };
  none = none_at;
  picked = picked_at;
  rows = rows_at;
}
  where
    goal_at : (s : ℕ) → is_goal (model_with heads) s ≡ true → (number lower.numbers s ≡ pos 0) × (mark lower.ranks s ≡ unmarked)
    goal_at zero e = cc
    goal_at (suc zero) e = (refl, refl)
    goal_at (suc (suc zero)) e = cc
    goal_at (suc (suc (suc s))) e = cc

    unranked_at : (s : ℕ) → unmarked ≤ mark lower.ranks s → number lower.numbers s ≡ pos 0
    unranked_at zero far = absurd (omega (arith, far))
    unranked_at (suc zero) far = refl
    unranked_at (suc (suc zero)) far = refl
    unranked_at (suc (suc (suc s))) far = refl

    range_at : (s : ℕ) → mark lower.ranks s < unmarked → (1 ≤ mark lower.ranks s) × (mark lower.ranks s ≤ 1)
    range_at zero near = (omega arith, omega arith)
    range_at (suc zero) near = absurd (omega (arith, near))
    range_at (suc (suc zero)) near = absurd (omega (arith, near))
    range_at (suc (suc (suc s))) near = absurd (omega (arith, near))

    none_at : (s : ℕ) → unmarked ≤ mark lower.ranks s → mark lower.picks s ≡ unmarked
    none_at zero far = absurd (omega (arith, far))
    none_at (suc zero) far = refl
    none_at (suc (suc zero)) far = refl
    none_at (suc (suc (suc s))) far = refl

    picked_at : (s : ℕ) → mark lower.ranks s < unmarked → mark lower.picks s < length (choices (model_with heads) s)
    picked_at zero near = omega arith
    picked_at (suc zero) near = absurd (omega (arith, near))
    picked_at (suc (suc zero)) near = absurd (omega (arith, near))
    picked_at (suc (suc (suc s))) near = absurd (omega (arith, near))

    backed : IsBacked (case_with heads) sides rewards lower.numbers 0 0
    backed zero lt = record { le = tt }
    backed (suc zero) lt = record { le = tt }
    backed (suc (suc c)) lt = absurd (omega (arith, lt))

    rows_at : (s : ℕ) → mark lower.ranks s < unmarked → IsPushed (case_with heads) sides rewards lower s (mark lower.picks s)
    rows_at zero near = record { backed = backed; on = inl (omega arith) }
    rows_at (suc zero) near = absurd (omega (arith, near))
    rows_at (suc (suc zero)) near = absurd (omega (arith, near))
    rows_at (suc (suc (suc s))) near = absurd (omega (arith, near))

-- ---- from below, the cost to reach heads: the whole cap, as tails stay for ever

abbrev missing : List ℤ
missing = pos 16 ∷ pos 0 ∷ pos 16 ∷ []

abbrev missing_picks : List ℕ
missing_picks = 0 ∷ unmarked ∷ 0 ∷ []

loop_is_missing : IsReachingLowerOne (case_with heads) sides rewards missing missing_picks
loop_is_missing = record {
  numbers = record {
    size = refl;
    range = All-cons Number (pos 16) (pos 0 ∷ pos 16 ∷ []) (record { le = tt }, record { le = tt }) (All-cons Number (pos 0) (pos 16 ∷ []) (record { le = tt }, record { le = tt }) (All-cons Number (pos 16) [] (record { le = tt }, record { le = tt }) (All-nil Number)));
  };
  size = refl;
  goal = goal_at;
  picked = picked_at;
  rows = rows_at;
}
  where
    goal_at : (s : ℕ) → is_goal (model_with heads) s ≡ true → (number missing s ≡ pos 0) × (mark missing_picks s ≡ unmarked)
    goal_at zero e = cc
    goal_at (suc zero) e = (refl, refl)
    goal_at (suc (suc zero)) e = cc
    goal_at (suc (suc (suc s))) e = cc

    picked_at : (s : ℕ) → s < 3 → is_goal (model_with heads) s ≡ false → mark missing_picks s < length (choices (model_with heads) s)
    picked_at zero lt e = omega arith
    picked_at (suc zero) lt e = cc
    picked_at (suc (suc zero)) lt e = omega arith
    picked_at (suc (suc (suc s))) lt e = absurd (omega (arith, lt))

    rows_at : (s : ℕ) → s < 3 → is_goal (model_with heads) s ≡ false → IsBacked (case_with heads) sides rewards missing s (mark missing_picks s)
    rows_at zero lt e zero at = record { le = tt }
    rows_at zero lt e (suc zero) at = record { le = tt }
    rows_at zero lt e (suc (suc c)) at = absurd (omega (arith, at))
    rows_at (suc zero) lt e c at = cc
    rows_at (suc (suc zero)) lt e zero at = record { le = tt }
    rows_at (suc (suc zero)) lt e (suc c) at = absurd (omega (arith, at))
    rows_at (suc (suc (suc s))) lt e c at = absurd (omega (arith, lt))

-- ---- what they say at p = 1/5, in numbers

follows : Follows (model_with heads) lower.picks first
follows zero lt = refl
follows (suc zero) lt = absurd (omega (arith, lt))
follows (suc (suc zero)) lt = absurd (omega (arith, lt))
follows (suc (suc (suc s))) lt = absurd (omega (arith, lt))

-- In one step at least 8 parts less 15 of 16 of them: 8 times 4 times 10, once, is at most 16 times 16 times the 10 that are paid.
lower_says : FollowersPayAfter (model_with heads) fifth 4 rewards lower 0 → pos 320 ≤ℤ pos 2560
unfolding gcd
lower_says said = said first 1 follows

follows_missing : Follows (model_with heads) missing_picks first
follows_missing zero lt = refl
follows_missing (suc zero) lt = absurd (omega (arith, lt))
follows_missing (suc (suc zero)) lt = refl
follows_missing (suc (suc (suc s))) lt = absurd (omega (arith, lt))

-- In one step 10 are paid and 1 of 10 reaches heads: 16 times 4 times 10 is at most 16 times the sum of 10 and 4 times 9.
missing_says : FollowersPayOrMiss (model_with heads) fifth 4 rewards missing_picks 0 (pos 16) → pos 640 ≤ℤ pos 736
unfolding gcd
missing_says said = said first 1 follows_missing
