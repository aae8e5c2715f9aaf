-- Right trees worked out by hand: a model with one state, which is a goal state, so that its number is 2 at precision 1. And rectangles that share a valuation.
use Rattle.std.proofs.Common.{◌≡◌, ℕ, zero, suc, ◌<◌, ◌≤◌, true, false, true≢false, List, [], ◌∷◌, length, All, ℤ, pos, ◌*ℤ◌, ◌≤ℤ◌, refl, sym, arith}
use Rattle.std.proofs.lemmas.List.{get_or_past}
use Rattle.lift_poly.proofs.Ring.{linear}
use Rattle.lift_grid.specs.Tree.{RejectData}
use Rattle.lift_grid.specs.Tree.Tree.{split, accept, reject, unknown}
use Rattle.lift_model.specs.declared.kind.Kind.TheVariants.{Mdp}
use Rattle.lift_model.specs.Model.{ModelData, is_goal, choices}
use Rattle.corner_lift.specs.Case.{CaseData, at, number}
use Rattle.corner_lift.specs.Certificate.{IsUpper, IsLower, IsHeld, MeansAtMost, mark, unmarked}
use Rattle.corner_lift.specs.Stages.{IsAllowed, IsChosen, LeadsBelow}
use Rattle.lift_cert.specs.declared.bound.Bound.{Bound}
use Rattle.region_tree.specs.Nodes.{nodes}
use Rattle.region_tree.specs.Nodes.Node.{split as split-node, accept as accept-node, unknown as unknown-node}
use Rattle.region_tree.specs.Recent.{Meet}
use Rattle.region_tree.specs.Right.{IsFirst, IsRightTree}

abbrev goal_model : ModelData
goal_model = record { kind = Mdp; common = pos 1; names = []; goal = true ∷ []; init = 0; states = ((record { target = 0; poly = (0, pos 1) ∷ [] } ∷ []) ∷ []) ∷ [] }

abbrev goal_case : CaseData
goal_case = record { model = goal_model; root = []; d = pos 1; depth = 0; w = 1 }

abbrev at_most : ℕ → ℕ → Bound
at_most num den = record { num = num; den = den }

only : (P : ℤ → Type 0) (n : ℤ) → P n → All P (n ∷ [])
only P n p zero d h = p
only P n p (suc i) d h = absurd (omega arith)

upper : IsUpper goal_case [] (pos 2 ∷ [])
upper = record {
  numbers = record { size = refl; range = only (λ n. (pos 0 ≤ℤ n) × (n ≤ℤ pos 2)) (pos 2) (omega (arith, linear), omega (arith, linear)) };
  goal = goal;
  means = means;
}
  where
    goal : (s : ℕ) → is_goal goal_model s ≡ true → number (pos 2 ∷ []) s ≡ pos 2
    goal zero e = refl
    goal (suc s) e = absurd (true≢false (sym e))

    means : (s : ℕ) → is_goal goal_model s ≡ false → All (λ row. MeansAtMost goal_case [] row (pos 2 ∷ []) (number (pos 2 ∷ []) s)) (choices goal_model s)
    means zero e = absurd (true≢false e)
    means (suc s) e = λ i d lt. absurd (omega arith)

-- a number of a vector of one state is 0 past it
past : (y : List ℤ) (s : ℕ) → length y ≡ 1 → number y (suc s) ≡ pos 0
past y s size = get_or_past y (suc s) (pos 0) (omega (arith, size))

-- the one precision of the range from 1 to 1
first_at_1 : (bound : Bound) → IsFirst goal_case 1 [] bound 1
first_at_1 bound = record { between = (omega arith, omega arith); before = λ t le lt. absurd (omega (arith, le, lt)) }

accepted : IsRightTree goal_case 1 (at_most 1 1) (accept 1 (pos 2 ∷ []))
accepted = record {
  first = first_at_1 (at_most 1 1);
  accepting = record { upper = upper; limit = omega (arith, linear) };
  least = record { upper = upper; least = least };
}
  where
    least : (y : List ℤ) → IsUpper goal_case [] y → (s : ℕ) → number (pos 2 ∷ []) s ≤ℤ number y s
    least y h zero = omega (arith, linear, h.goal 0 refl)
    least y h (suc s) = omega (arith, linear, past y s h.numbers.size)

-- of the range from 1 to 2 the least precision that decides is 1
accepted_at_the_least : IsRightTree (at goal_case 2) 1 (at_most 1 1) (accept 1 (pos 2 ∷ []))
accepted_at_the_least = record {
  first = record { between = (omega arith, omega arith); before = λ t le lt. absurd (omega (arith, le, lt)) };
  accepting = accepted.accepting;
  least = accepted.least;
}

-- so a leaf at 2 isn't right
at_the_greatest : IsRightTree (at goal_case 2) 1 (at_most 1 1) (accept 2 (pos 4 ∷ [])) → ⊥
at_the_greatest h = (h.first.before 1 (omega arith) (omega arith)).accepts (pos 2 ∷ []) accepted.accepting

abbrev data_of_goal : RejectData
data_of_goal = record { numbers = pos 2 ∷ []; picks = unmarked ∷ []; ranks = 0 ∷ []; e = 0; k = 1 }

lower : IsLower goal_case [] data_of_goal
lower = record {
  numbers = upper.numbers;
  sizes = (refl, refl);
  marks = marks;
  bounds = (omega arith, omega arith, omega arith);
  goal = goal;
  unranked = unranked;
  held = held;
}
  where
    marks : All (λ rank. rank ≤ unmarked) (0 ∷ [])
    marks zero d h = omega arith
    marks (suc i) d h = absurd (omega arith)

    goal : (s : ℕ) → is_goal goal_model s ≡ true → (number (pos 2 ∷ []) s ≡ pos 2) × (mark (0 ∷ []) s ≡ 0) × (mark (unmarked ∷ []) s ≡ unmarked)
    goal zero e = (refl, refl, refl)
    goal (suc s) e = absurd (true≢false (sym e))

    unranked : (s : ℕ) → is_goal goal_model s ≡ false → unmarked ≤ mark (0 ∷ []) s → (number (pos 2 ∷ []) s ≡ pos 0) × (mark (unmarked ∷ []) s ≡ unmarked)
    unranked zero e h = absurd (true≢false e)
    unranked (suc s) e h = (refl, refl)

    held : (s : ℕ) → is_goal goal_model s ≡ false → mark (0 ∷ []) s < unmarked → IsHeld goal_case [] data_of_goal s
    held zero e h = absurd (true≢false e)
    held (suc s) e h = absurd (omega arith)

rejected : IsRightTree goal_case 1 (at_most 1 2) (reject 1 data_of_goal)
rejected = record {
  first = first_at_1 (at_most 1 2);
  none = λ x h. absurd (let n : number x 0 ≡ pos 2 = h.upper.goal 0 refl in let l : (number x 0 *ℤ pos 2) ≤ℤ pos 2 = h.limit in let four : pos 4 ≤ℤ pos 2 = rw n at l in omega (arith, linear, four));
  rejecting = record { holds = lower; limit = omega (arith, linear) };
  greatest = record { holds = lower; greatest = greatest; stages = record { goal = goal; chosen = chosen; first = first }; least_rate = λ e h. omega arith; least_height = λ j h g. h };
}
  where
    greatest : (q : RejectData) → IsLower goal_case [] q → (s : ℕ) → number q.numbers s ≤ℤ number (pos 2 ∷ []) s
    greatest q h zero = (let n = (h.goal 0 refl).0 in omega (arith, linear, n))
    greatest q h (suc s) = (let n = past q.numbers s h.numbers.size in omega (arith, linear, n))

    goal : (s : ℕ) → is_goal goal_model s ≡ true → mark (0 ∷ []) s ≡ 0
    goal zero e = refl
    goal (suc s) e = absurd (true≢false (sym e))

    chosen : (s : ℕ) → is_goal goal_model s ≡ false → mark (0 ∷ []) s < unmarked → IsChosen goal_case [] (IsAllowed goal_case [] (number (pos 2 ∷ []))) (mark (unmarked ∷ [])) (mark (0 ∷ [])) s
    chosen zero e h = absurd (true≢false e)
    chosen (suc s) e h = absurd (omega arith)

    first : (s : ℕ) → is_goal goal_model s ≡ false → (a r : ℕ) → a < length (choices goal_model s) → IsAllowed goal_case [] (number (pos 2 ∷ [])) s a → r < unmarked → LeadsBelow goal_case [] (mark (0 ∷ [])) r s a → mark (0 ∷ []) s ≤ r
    first zero e a r lt = absurd (true≢false e)
    first (suc s) e a r lt = absurd (omega arith)

-- the nodes in preorder: the lower half's before the upper half's
preorder : nodes (split 0 (accept 4 (pos 1 ∷ [])) (split 1 unknown (accept 4 (pos 2 ∷ [])))) ≡ split-node 0 ∷ accept-node 4 (pos 1 ∷ []) ∷ split-node 1 ∷ unknown-node ∷ accept-node 4 (pos 2 ∷ []) ∷ []
preorder = refl

-- ---- rectangles that share a valuation

-- two squares that have a corner in common
share_a_corner : Meet ((pos 0, pos 2) ∷ (pos 0, pos 2) ∷ []) ((pos 2, pos 4) ∷ (pos 2, pos 4) ∷ [])
share_a_corner = (omega (arith, linear), omega (arith, linear), (omega (arith, linear), omega (arith, linear), tt))

-- two that have the same span of one parameter, and none in common of the other
lie_apart : Meet ((pos 0, pos 1) ∷ (pos 0, pos 2) ∷ []) ((pos 2, pos 3) ∷ (pos 0, pos 2) ∷ []) → ⊥
lie_apart meet = omega (arith, linear, meet.1)

-- without parameters there is one valuation
share_the_empty_one : Meet [] []
share_the_empty_one = tt
