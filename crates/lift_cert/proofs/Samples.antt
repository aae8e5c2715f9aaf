-- Certificates worked by hand: a state with two choices, of which one leads to the goal with p and the other with 1 - p.
use Rattle.std.proofs.Common.{◌≡◌, ℕ, zero, suc, ◌^◌, true, false, List, [], ◌∷◌, All, ℤ, pos, negsuc, ◌≤ℤ◌, refl, arith}
use Rattle.std.proofs.lemmas.List.Elements.{All-cons, All-nil}
use Rattle.lift_poly.specs.Polynomial.{Term}
use Rattle.lift_grid.specs.Rectangle.{Spans}
use Rattle.lift_grid.specs.Tree.{RejectData}
use Rattle.lift_model.specs.declared.kind.Kind.TheVariants.{Mdp}
use Rattle.lift_model.specs.declared.entry.Entry.{Entry}
use Rattle.lift_model.specs.Model.{ModelData, is_goal, choices}
use Rattle.corner_lift.specs.Corner.{corner_sum, whole}
use Rattle.corner_lift.specs.Case.{CaseData, number}
use Rattle.corner_lift.specs.Certificate.{MeansAtMost, unmarked}
use Rattle.lift_cert.specs.Certificate.{IsAccepting}
use Rattle.lift_cert.specs.Reached.{Follows, IsReachedAt}

-- the polynomials p, 1 - p and 1
abbrev heads : List Term
heads = (1, pos 1) ∷ []

abbrev tails : List Term
tails = (0, pos 1) ∷ (1, negsuc 0) ∷ []

abbrev certain : List Term
certain = (0, pos 1) ∷ []

abbrev toss_row : List Entry
toss_row = record { target = 1; poly = heads } ∷ record { target = 2; poly = tails } ∷ []

abbrev other_row : List Entry
other_row = record { target = 1; poly = tails } ∷ record { target = 2; poly = heads } ∷ []

abbrev goal_row : List Entry
goal_row = record { target = 1; poly = certain } ∷ []

abbrev sink_row : List Entry
sink_row = record { target = 2; poly = certain } ∷ []

abbrev twin : ModelData
twin = record {
  kind = Mdp;
  common = pos 1;
  names = (112 ∷ []) ∷ [];
  goal = false ∷ true ∷ false ∷ [];
  init = 0;
  states = (toss_row ∷ other_row ∷ []) ∷ (goal_row ∷ []) ∷ (sink_row ∷ []) ∷ [];
}

-- p from 2/5 to 3/5
abbrev sides : Spans
sides = (pos 2, pos 3) ∷ []

-- at precision 4
abbrev case : CaseData
case = record { model = twin; root = sides; d = pos 5; depth = 0; w = 4 }

abbrev numbers : List ℤ
numbers = pos 10 ∷ pos 16 ∷ pos 0 ∷ []

-- at p = 2/5 and at p = 3/5 the toss weighs 2 and 3 of 5 into the goal
toss_low : corner_sum (pos 5) sides toss_row 0 (number numbers) ≡ pos 32
toss_low = refl

toss_high : corner_sum (pos 5) sides toss_row 1 (number numbers) ≡ pos 48
toss_high = refl

toss_whole : whole twin (pos 5) sides toss_row ≡ pos 5
toss_whole = refl

abbrev Meets : ℕ → List Entry → Type 0
Meets s row = MeansAtMost case sides row numbers (number numbers s)

toss_meets : Meets 0 toss_row
toss_meets zero lt = record { le = tt }
toss_meets (suc zero) lt = record { le = tt }
toss_meets (suc (suc c)) lt = absurd (omega arith)

other_meets : Meets 0 other_row
other_meets zero lt = record { le = tt }
other_meets (suc zero) lt = record { le = tt }
other_meets (suc (suc c)) lt = absurd (omega arith)

sink_meets : Meets 2 sink_row
sink_meets zero lt = record { le = tt }
sink_meets (suc c) lt = absurd (omega arith)

goal_at : (s : ℕ) → is_goal twin s ≡ true → number numbers s ≡ pos (2 ^ 4)
goal_at zero e = cc
goal_at (suc zero) e = refl
goal_at (suc (suc zero)) e = cc
goal_at (suc (suc (suc s))) e = cc

means_at : (s : ℕ) → is_goal twin s ≡ false → All (Meets s) (choices twin s)
means_at zero e = All-cons (Meets 0) toss_row (other_row ∷ []) toss_meets (All-cons (Meets 0) other_row [] other_meets (All-nil (Meets 0)))
means_at (suc zero) e = cc
means_at (suc (suc zero)) e = All-cons (Meets 2) sink_row [] sink_meets (All-nil (Meets 2))
means_at (suc (suc (suc s))) e = All-nil (Meets (suc (suc (suc s))))

-- the numbers 10, 16, 0 accept these values for 5/8
twin_accepts : IsAccepting case sides (record { num = 5; den = 8 }) numbers
twin_accepts = record {
  upper = record {
    numbers = record {
      size = refl;
      range = All-cons within (pos 10) (pos 16 ∷ pos 0 ∷ []) (record { le = tt }, record { le = tt }) (All-cons within (pos 16) (pos 0 ∷ []) (record { le = tt }, record { le = tt }) (All-cons within (pos 0) [] (record { le = tt }, record { le = tt }) (All-nil within)));
    };
    goal = goal_at;
    means = means_at;
  };
  limit = record { le = tt };
}
  where
    within : ℤ → Type 0
    within n = (pos 0 ≤ℤ n) × (n ≤ℤ pos 16)

-- ---- what a rejecting certificate says, in numbers

-- 9, 16, 0 with the toss picked, at rate 2 ^ -1 and height 1
abbrev rejection : RejectData
rejection = record { numbers = pos 9 ∷ pos 16 ∷ pos 0 ∷ []; picks = 0 ∷ unmarked ∷ unmarked ∷ []; ranks = 1 ∷ 0 ∷ unmarked ∷ []; e = 1; k = 1 }

toss_follows : Follows twin rejection.picks (λ s. 0)
toss_follows zero lt = refl
toss_follows (suc zero) lt = absurd (omega arith)
toss_follows (suc (suc zero)) lt = absurd (omega arith)
toss_follows (suc (suc (suc s))) lt = absurd (omega arith)

-- At p = 3/5 and for one block of one step: 9 times 2 times 5 is at most 16 times the sum of 2 times 3, as 3 of 5 reach the goal, and 1 times 5.
rejection_says : IsReachedAt twin ((pos 3, pos 5) ∷ []) 4 rejection → pos 90 ≤ℤ pos 176
rejection_says reached = reached (λ s. 0) 1 toss_follows

-- and for two blocks, where nothing is left undecided: 9 times 4 times 25 is at most 16 times the sum of 4 times 15 and 1 times 25
rejection_says_more : IsReachedAt twin ((pos 3, pos 5) ∷ []) 4 rejection → pos 900 ≤ℤ pos 1360
rejection_says_more reached = reached (λ s. 0) 2 toss_follows
