-- Certificates worked by hand: a coin that shows heads with p, over every choice; and a state with two coins, of which one shows heads with p and the other with 1 - p, over one.
use Rattle.std.proofs.Common.{◌≡◌, ◌<◌, ◌≤◌, ◌^◌, ℕ, zero, suc, true, false, List, [], ◌∷◌, length, ℤ, pos, negsuc, ◌+ℤ◌, ◌*ℤ◌, ◌≤ℤ◌, refl, arith}
use Rattle.std.proofs.lemmas.List.Elements.{All-cons, All-nil}
use Rattle.lift_grid.specs.Rectangle.{Spans}
use Rattle.lift_grid.specs.Tree.{RejectData}
use Rattle.lift_model.specs.declared.kind.Kind.TheVariants.{Mdp}
use Rattle.lift_model.specs.declared.entry.Entry.{Entry}
use Rattle.lift_model.specs.Plan.{Plan, Fits}
use Rattle.lift_model.specs.Reach.{reach}
use Rattle.lift_model.specs.Model.{ModelData, is_goal, choices, row_at, process_at}
use Rattle.corner_lift.specs.Corner.{AtCorners, corner_sum, whole}
use Rattle.corner_lift.specs.Case.{CaseData, number}
use Rattle.corner_lift.specs.Certificate.{MeansAtMost, MeansAtLeast, unmarked, mark, ranked_below}
use Rattle.lift_cert.specs.Reached.{Follows}
use Rattle.lift_dual.specs.Sides.{RowHolds, IsHeldByAll, IsLowerAll, IsUpperOne}
use Rattle.lift_dual.specs.Said.{IsReachedByAllAt, IsBoundedForOneAt}

abbrev heads_row : List Entry
heads_row = record { target = 1; poly = (1, pos 1) ∷ [] } ∷ record { target = 2; poly = (0, pos 1) ∷ (1, negsuc 0) ∷ [] } ∷ []

abbrev tails_row : List Entry
tails_row = record { target = 1; poly = (0, pos 1) ∷ (1, negsuc 0) ∷ [] } ∷ record { target = 2; poly = (1, pos 1) ∷ [] } ∷ []

abbrev stay_in : ℕ → List Entry
stay_in s = record { target = s; poly = (0, pos 1) ∷ [] } ∷ []

abbrev model_with : List (List Entry) → ModelData
model_with rows = record {
  kind = Mdp;
  common = pos 1;
  names = (112 ∷ []) ∷ [];
  goal = false ∷ true ∷ false ∷ [];
  init = 0;
  states = rows ∷ (stay_in 1 ∷ []) ∷ (stay_in 2 ∷ []) ∷ [];
}

-- p from 3/5 to 9/10
abbrev sides : Spans
sides = (pos 6, pos 9) ∷ []

-- at precision 4
abbrev case_with : List (List Entry) → CaseData
case_with rows = record { model = model_with rows; root = sides; d = pos 10; depth = 0; w = 4 }

-- ---- from below, over every choice

abbrev coin : CaseData
coin = case_with (heads_row ∷ [])

-- 9, 16, 0, at rate 2 ^ -1 and height 1
abbrev lower : RejectData
lower = record { numbers = pos 9 ∷ pos 16 ∷ pos 0 ∷ []; picks = []; ranks = 1 ∷ 0 ∷ unmarked ∷ []; e = 1; k = 1 }

abbrev Within : ℤ → Type 0
Within n = (pos 0 ≤ℤ n) × (n ≤ℤ pos 16)

-- at p = 3/5 and at p = 9/10 heads weigh 6 and 9 of 10: 9 times 10 is at most 16 times either, and 10 at most 2 times either
heads_hold : RowHolds coin sides lower 0 heads_row
heads_hold = record { means = means; rates = rates }
  where
    means : MeansAtLeast coin sides heads_row (number lower.numbers) (number lower.numbers 0)
    means zero lt = record { le = tt }
    means (suc zero) lt = record { le = tt }
    means (suc (suc c)) lt = absurd (omega arith)

    rates : AtCorners sides heads_row (λ c. whole coin.model coin.d sides heads_row ≤ℤ (corner_sum coin.d sides heads_row c (ranked_below (mark lower.ranks) 1) *ℤ pos 2))
    rates zero lt = record { le = tt }
    rates (suc zero) lt = record { le = tt }
    rates (suc (suc c)) lt = absurd (omega arith)

coin_is_lower : IsLowerAll coin sides lower
coin_is_lower = record {
  numbers = record {
    size = refl;
    range = All-cons Within (pos 9) (pos 16 ∷ pos 0 ∷ []) (record { le = tt }, record { le = tt }) (All-cons Within (pos 16) (pos 0 ∷ []) (record { le = tt }, record { le = tt }) (All-cons Within (pos 0) [] (record { le = tt }, record { le = tt }) (All-nil Within)));
  };
  sizes = (refl, refl);
  marks = All-cons Few 1 (0 ∷ unmarked ∷ []) (omega arith) (All-cons Few 0 (unmarked ∷ []) (omega arith) (All-cons Few unmarked [] (omega arith) (All-nil Few)));
  bounds = (omega arith, omega arith, omega arith);
  goal = goal_at;
  unranked = unranked_at;
  held = held_at;
}
  where
    Few : ℕ → Type 0
    Few rank = rank ≤ unmarked

    goal_at : (s : ℕ) → is_goal coin.model s ≡ true → (number lower.numbers s ≡ pos (2 ^ 4)) × (mark lower.ranks s ≡ 0)
    goal_at zero e = cc
    goal_at (suc zero) e = (refl, refl)
    goal_at (suc (suc zero)) e = cc
    goal_at (suc (suc (suc s))) e = cc

    unranked_at : (s : ℕ) → is_goal coin.model s ≡ false → unmarked ≤ mark lower.ranks s → number lower.numbers s ≡ pos 0
    unranked_at zero e far = absurd (omega (arith, far))
    unranked_at (suc zero) e far = cc
    unranked_at (suc (suc zero)) e far = refl
    unranked_at (suc (suc (suc s))) e far = refl

    held_at : (s : ℕ) → is_goal coin.model s ≡ false → mark lower.ranks s < unmarked → IsHeldByAll coin sides lower s
    held_at zero e near = record { rank = (omega arith, omega arith); rows = All-cons (RowHolds coin sides lower 0) heads_row [] heads_hold (All-nil (RowHolds coin sides lower 0)) }
    held_at (suc zero) e near = cc
    held_at (suc (suc zero)) e near = absurd (omega (arith, near))
    held_at (suc (suc (suc s))) e near = absurd (omega (arith, near))

-- ---- from above, over one

abbrev twin : CaseData
twin = case_with (heads_row ∷ tails_row ∷ [])

abbrev upper : List ℤ
upper = pos 7 ∷ pos 16 ∷ pos 0 ∷ []

-- the second coin: at p = 3/5 and at p = 9/10 it shows heads with 4 and 1 of 10
abbrev picks : List ℕ
picks = 1 ∷ unmarked ∷ 0 ∷ []

twin_is_upper : IsUpperOne twin sides upper picks
twin_is_upper = record {
  numbers = record {
    size = refl;
    range = All-cons Within (pos 7) (pos 16 ∷ pos 0 ∷ []) (record { le = tt }, record { le = tt }) (All-cons Within (pos 16) (pos 0 ∷ []) (record { le = tt }, record { le = tt }) (All-cons Within (pos 0) [] (record { le = tt }, record { le = tt }) (All-nil Within)));
  };
  size = refl;
  goal = goal_at;
  pick = choice_at;
  means = means_at;
}
  where
    goal_at : (s : ℕ) → is_goal twin.model s ≡ true → (number upper s ≡ pos (2 ^ 4)) × (mark picks s ≡ unmarked)
    goal_at zero e = cc
    goal_at (suc zero) e = (refl, refl)
    goal_at (suc (suc zero)) e = cc
    goal_at (suc (suc (suc s))) e = cc

    choice_at : (s : ℕ) → s < 3 → is_goal twin.model s ≡ false → mark picks s < length (choices twin.model s)
    choice_at zero lt e = omega arith
    choice_at (suc zero) lt e = cc
    choice_at (suc (suc zero)) lt e = omega arith
    choice_at (suc (suc (suc s))) lt e = absurd (omega arith)

    means_at : (s : ℕ) → s < 3 → is_goal twin.model s ≡ false → MeansAtMost twin sides (row_at twin.model s (mark picks s)) upper (number upper s)
    means_at zero lt e zero at = record { le = tt }
    means_at zero lt e (suc zero) at = record { le = tt }
    means_at zero lt e (suc (suc c)) at = absurd (omega arith)
    means_at (suc zero) lt e c at = cc
    means_at (suc (suc zero)) lt e zero at = record { le = tt }
    means_at (suc (suc zero)) lt e (suc c) at = absurd (omega arith)
    means_at (suc (suc (suc s))) lt e c at = absurd (omega arith)

-- ---- what they say

-- At p = 3/5 each plan over 1 reaches the goal in one step, so that 9 times 2 times 5 is at most 16 times the sum of 2 times what it reaches and 1 times 5.
coin_says : IsReachedByAllAt coin.model ((pos 3, pos 5) ∷ []) 4 lower → (p : Plan) → Fits (process_at coin.model ((pos 3, pos 5) ∷ [])) 1 1 0 p → pos 90 ≤ℤ (pos 16 *ℤ (pos 2 *ℤ reach (process_at coin.model ((pos 3, pos 5) ∷ [])) 1 1 0 p +ℤ pos 5))
coin_says reached p fits = reached 1 1 p fits

-- At p = 3/5 who tosses the second coin reaches it with 2 of 5, and 16 times 2 is at most 7 times 5.
twin_says : IsBoundedForOneAt twin.model ((pos 3, pos 5) ∷ []) 4 upper picks → pos 32 ≤ℤ pos 35
twin_says bounded = bounded pick 1 follows
  where
    pick : ℕ → ℕ
    pick zero = 1
    pick (suc s) = 0

    follows : Follows twin.model picks pick
    follows zero lt = refl
    follows (suc zero) lt = absurd (omega (arith, lt))
    follows (suc (suc zero)) lt = refl
    follows (suc (suc (suc s))) lt = absurd (omega (arith, lt))
