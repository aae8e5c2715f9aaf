-- A coin, and the same with a second choice between which a scheduler tosses: what tossing adds, at every probability.
use Rattle.std.specs.Prelude.{◌≡◌, ℤ, pos, negsuc, List, ◌∷◌, [], ◌*ℤ◌, true, false}
use Rattle.lift_poly.specs.Polynomial.{Term}
use Rattle.lift_model.specs.declared.kind.Kind.TheVariants.{Dtmc, Mdp}
use Rattle.lift_model.specs.declared.entry.Entry.{Entry}
use Rattle.lift_model.specs.Process.{power}
use Rattle.lift_model.specs.Plan.{Plan, Fits}
use Rattle.lift_model.specs.Plan.Plan.{stop, toss}
use Rattle.lift_model.specs.Plan.Parts.{no_parts, part}
use Rattle.lift_model.specs.Plan.Plans.{no_plans, plan}
use Rattle.lift_model.specs.Reach.{reach}
use Rattle.lift_model.specs.Model.{ModelData, process_at}

-- the polynomial p
abbrev pub heads : List Term
heads = (1, pos 1) ∷ []

-- the polynomial 1 - p
abbrev pub tails : List Term
tails = (0, pos 1) ∷ (1, negsuc 0) ∷ []

-- the polynomial 1
abbrev pub certain : List Term
certain = (0, pos 1) ∷ []

-- to the goal with p, else to the sink
abbrev pub toss_row : List Entry
toss_row = record { target = 1; poly = heads } ∷ record { target = 2; poly = tails } ∷ []

-- to the goal with 1 - p, else to the sink
abbrev pub other_row : List Entry
other_row = record { target = 1; poly = tails } ∷ record { target = 2; poly = heads } ∷ []

-- the goal keeps itself
abbrev pub goal_row : List Entry
goal_row = record { target = 1; poly = certain } ∷ []

-- so does the sink
abbrev pub sink_row : List Entry
sink_row = record { target = 2; poly = certain } ∷ []

-- a coin: from state 0 to the goal with p, else to a sink
abbrev pub coin : ModelData
coin = record {
  kind = Dtmc;
  common = pos 1;
  names = (112 ∷ []) ∷ [];
  goal = false ∷ true ∷ false ∷ [];
  init = 0;
  states = (toss_row ∷ []) ∷ (goal_row ∷ []) ∷ (sink_row ∷ []) ∷ [];
}

-- a second choice in state 0, which goes to the goal with 1 - p
abbrev pub twin : ModelData
twin = record coin { kind = Mdp; states = (toss_row ∷ other_row ∷ []) ∷ (goal_row ∷ []) ∷ (sink_row ∷ []) ∷ [] }

-- each choice with weight 1 of 2, for one step
abbrev pub fair : Plan
fair = toss (part 1 (plan stop (plan stop no_plans)) (part 1 (plan stop (plan stop no_plans)) no_parts))

-- with p = n / d the fair plan fits the initial state for one step, and reaches the goal with d over 2 d, whatever p is
abbrev pub FairPlansReachOneHalf : Type 0
FairPlansReachOneHalf = (n d : ℤ) → Fits (process_at twin ((n, d) ∷ [])) 2 1 0 fair
    × ((reach (process_at twin ((n, d) ∷ [])) 2 1 0 fair ≡ d)
    × (power (pos 2 *ℤ (process_at twin ((n, d) ∷ [])).total) 1 ≡ pos 2 *ℤ d))
