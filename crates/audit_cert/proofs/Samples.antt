-- First misses worked by hand: a state with two choices, of which one leads to the goal with p and else to the sink, and the other to each with one half.
use Rattle.std.proofs.Common.{◌<◌, ℕ, zero, suc, true, false, List, [], ◌∷◌, pos, negsuc, ◌≤ℤ◌, refl, arith, Some}
use Rattle.lift_poly.proofs.Ring.{linear}
use Rattle.lift_grid.specs.Rectangle.{Spans}
use Rattle.lift_model.specs.declared.kind.Kind.TheVariants.{Mdp}
use Rattle.lift_model.specs.declared.entry.Entry.{Entry}
use Rattle.lift_model.specs.Model.{ModelData}
use Rattle.corner_lift.specs.Case.{CaseData}
use Rattle.corner_lift.specs.Certificate.{unmarked}
use Rattle.lift_cert.specs.declared.bound.Bound.{Bound}
use Rattle.lift_cert.specs.declared.miss.Miss.TheVariants.{Goal, Unranked, Row, Rate, Limit}
use Rattle.property_text.specs.declared.op.Op.TheVariants.{AtMost, AtLeast}
use Rattle.audit_cert.specs.Claim.{ClaimData, PassesCorner, PassesRow, PassesState, upper_one, lower_all, upper_step, cost}
use Rattle.audit_cert.specs.Miss.{IsFirstMiss}

-- over the common denominator 2
abbrev risky : List Entry
risky = record { target = 1; poly = (1, pos 2) ∷ [] } ∷ record { target = 2; poly = (0, pos 2) ∷ (1, negsuc 1) ∷ [] } ∷ []

abbrev even : List Entry
even = record { target = 1; poly = (0, pos 1) ∷ [] } ∷ record { target = 2; poly = (0, pos 1) ∷ [] } ∷ []

abbrev stays : ℕ → List Entry
stays s = record { target = s; poly = (0, pos 2) ∷ [] } ∷ []

abbrev gamble : ModelData
gamble = record { kind = Mdp; common = pos 2; names = (112 ∷ []) ∷ []; goal = false ∷ true ∷ false ∷ []; init = 0; states = (risky ∷ even ∷ []) ∷ (stays 1 ∷ []) ∷ (stays 2 ∷ []) ∷ [] }

-- p from 1/4 to 3/4: into the goal the risky choice weighs 2 and 6 of 8
abbrev sides : Spans
sides = (pos 1, pos 3) ∷ []

abbrev case : CaseData
case = record { model = gamble; root = sides; d = pos 4; depth = 0; w = 4 }

abbrev half : Bound
half = record { num = 1; den = 2 }

-- 11 of 16 isn't enough for the risky choice at p = 3/4, where it comes to 12: 6 * 16 is above 11 * 8
abbrev bold : ClaimData
bold = upper_one AtMost half (pos 11 ∷ pos 16 ∷ pos 0 ∷ []) (0 ∷ unmarked ∷ unmarked ∷ [])

row_misses : IsFirstMiss case sides bold (Row 0 0 1 (pos 96) (pos 88))
row_misses = (
  λ t lt. absurd (omega (arith, lt)),
  record {
    at = record {
      row = record { state = omega arith; inner = refl; ranked = refl; choice = omega arith; tested = refl; rows = λ b lt tested. absurd (omega (arith, lt)) };
      in_range = omega arith;
      corners = first;
    };
    left_is = refl;
    right_is = refl;
    above = omega (arith, linear);
    wrong = λ (h : pos 96 ≤ℤ pos 88). absurd (omega (arith, linear, h));
  },
)
  where
    first : (b : ℕ) → b < 1 → PassesCorner case sides bold 0 0 b
    first zero lt = record { met = record { le = tt }; fast = tt }
    first (suc b) lt = absurd (omega (arith, lt))

-- at the rate 1/2 the risky choice at p = 1/4 leads too little to the goal: 2 * 2 is below 8
abbrev slow : ClaimData
slow = lower_all AtLeast half (record { numbers = pos 4 ∷ pos 16 ∷ pos 0 ∷ []; picks = []; ranks = 1 ∷ 0 ∷ unmarked ∷ []; e = 1; k = 1 })

rate_misses : IsFirstMiss case sides slow (Rate 0 0 0 (pos 2) 1 (pos 8))
rate_misses = (
  λ t lt. absurd (omega (arith, lt)),
  record {
    at = record {
      row = record { state = omega arith; inner = refl; ranked = refl; choice = omega arith; tested = omega arith; rows = λ b lt tested. absurd (omega (arith, lt)) };
      in_range = omega arith;
      corners = λ b lt. absurd (omega (arith, lt));
    };
    met = record { le = tt };
    slow = record { weight_is = refl; e_is = refl; whole_is = refl; wrong = omega (arith, linear) };
  },
)

-- where a visit costs a quarter of the cap, 3 of 16 don't pay it: -1 stands for what is left
abbrev poor : ClaimData
poor = cost (record { num = 1; den = 1 } ∷ []) 4 (record { num = 1; den = 1 }) (pos 3 ∷ pos 0 ∷ pos 0 ∷ [])

price_misses : IsFirstMiss case sides poor (Row 0 0 0 (pos 0) (negsuc 7))
price_misses = (
  λ t lt. absurd (omega (arith, lt)),
  record {
    at = record {
      row = record { state = omega arith; inner = refl; ranked = refl; choice = omega arith; tested = omega arith; rows = λ b lt tested. absurd (omega (arith, lt)) };
      in_range = omega arith;
      corners = λ b lt. absurd (omega (arith, lt));
    };
    left_is = refl;
    right_is = refl;
    above = omega (arith, linear);
    wrong = λ (h : pos 0 ≤ℤ negsuc 7). absurd (omega (arith, linear, h));
  },
)

-- ---- later states

-- 8 of 16 pay a quarter of the cap; then the goal state has a number that isn't 0
abbrev rich : ClaimData
rich = cost (record { num = 1; den = 1 } ∷ []) 4 (record { num = 1; den = 1 }) (pos 8 ∷ pos 1 ∷ pos 0 ∷ [])

rich_rows : (a : ℕ) → a < 2 → PassesRow case sides rich 0 a
rich_rows zero lt zero below = record { met = record { le = tt }; fast = tt }
rich_rows zero lt (suc zero) below = record { met = record { le = tt }; fast = tt }
rich_rows zero lt (suc (suc c)) below = absurd (omega (arith, below))
rich_rows (suc zero) lt zero below = record { met = record { le = tt }; fast = tt }
rich_rows (suc zero) lt (suc c) below = absurd (omega (arith, below))
rich_rows (suc (suc a)) lt c below = absurd (omega (arith, lt))

rich_before : (t : ℕ) → t < 1 → PassesState case sides rich t
rich_before zero lt = record { goal = λ e. absurd (cc e); unranked = λ inner lacking. absurd (cc lacking); rows = λ inner ranked. rich_rows }
rich_before (suc t) lt = absurd (omega (arith, lt))

goal_misses : IsFirstMiss case sides rich (Goal 1 (pos 1))
goal_misses = (rich_before, record { state = omega arith; goal = refl; value_is = refl; wrong = λ e. absurd (cc e) })

-- at the rate 1/4 the first two states pass; then the sink has no rank and a number that isn't 0
abbrev sunk : ClaimData
sunk = lower_all AtLeast half (record { numbers = pos 4 ∷ pos 16 ∷ pos 1 ∷ []; picks = []; ranks = 1 ∷ 0 ∷ unmarked ∷ []; e = 2; k = 1 })

sunk_rows : (a : ℕ) → a < 2 → PassesRow case sides sunk 0 a
sunk_rows zero lt zero below = record { met = record { le = tt }; fast = record { le = tt } }
sunk_rows zero lt (suc zero) below = record { met = record { le = tt }; fast = record { le = tt } }
sunk_rows zero lt (suc (suc c)) below = absurd (omega (arith, below))
sunk_rows (suc zero) lt zero below = record { met = record { le = tt }; fast = record { le = tt } }
sunk_rows (suc zero) lt (suc c) below = absurd (omega (arith, below))
sunk_rows (suc (suc a)) lt c below = absurd (omega (arith, lt))

sunk_before : (t : ℕ) → t < 2 → PassesState case sides sunk t
sunk_before zero lt = record { goal = λ e. absurd (cc e); unranked = λ inner lacking. absurd (cc lacking); rows = λ inner ranked. sunk_rows }
sunk_before (suc zero) lt = record { goal = λ e. refl; unranked = λ inner lacking. absurd (cc inner); rows = λ inner. absurd (cc inner) }
sunk_before (suc (suc t)) lt = absurd (omega (arith, lt))

unranked_misses : IsFirstMiss case sides sunk (Unranked 2 (pos 1))
unranked_misses = (sunk_before, record { state = omega arith; inner = refl; unranked = refl; value_is = refl; wrong = λ e. absurd (cc e) })

-- within one step at most 12 of 16 reach the goal, which is above one half: 12 * 2 is above 16
abbrev soon : ClaimData
soon = upper_step (Some half) (pos 0 ∷ pos 16 ∷ pos 0 ∷ []) (pos 12 ∷ pos 16 ∷ pos 0 ∷ [])

soon_rows : (a : ℕ) → a < 2 → PassesRow case sides soon 0 a
soon_rows zero lt zero below = record { met = record { le = tt }; fast = tt }
soon_rows zero lt (suc zero) below = record { met = record { le = tt }; fast = tt }
soon_rows zero lt (suc (suc c)) below = absurd (omega (arith, below))
soon_rows (suc zero) lt zero below = record { met = record { le = tt }; fast = tt }
soon_rows (suc zero) lt (suc c) below = absurd (omega (arith, below))
soon_rows (suc (suc a)) lt c below = absurd (omega (arith, lt))

sink_rows : (a : ℕ) → a < 1 → PassesRow case sides soon 2 a
sink_rows zero lt zero below = record { met = record { le = tt }; fast = tt }
sink_rows zero lt (suc c) below = absurd (omega (arith, below))
sink_rows (suc a) lt c below = absurd (omega (arith, lt))

soon_before : (t : ℕ) → t < 3 → PassesState case sides soon t
soon_before zero lt = record { goal = λ e. absurd (cc e); unranked = λ inner lacking. absurd (cc lacking); rows = λ inner ranked. soon_rows }
soon_before (suc zero) lt = record { goal = λ e. refl; unranked = λ inner lacking. absurd (cc inner); rows = λ inner. absurd (cc inner) }
soon_before (suc (suc zero)) lt = record { goal = λ e. absurd (cc e); unranked = λ inner lacking. absurd (cc lacking); rows = λ inner ranked. sink_rows }
soon_before (suc (suc (suc t))) lt = absurd (omega (arith, lt))

limit_misses : IsFirstMiss case sides soon (Limit (pos 24) (pos 16))
limit_misses = (soon_before, record { left_is = refl; right_is = refl; wrong = λ (h : pos 24 ≤ℤ pos 16). absurd (omega (arith, linear, h)) })
