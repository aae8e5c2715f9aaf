-- Small texts with rewards, read by computation.
use Rattle.std.specs.Prelude.{◌≡◌, refl, ℕ, pos, negsuc, true, false, List, [], ◌∷◌, ◌++◌, codes, Ok, Err}
use Rattle.lift_frac.specs.Gcd.{gcd}
use Rattle.lift_model.specs.declared.kind.Kind.TheVariants.{Dtmc}
use Rattle.drn_lexer.specs.Cutting.{pieces_behind}
use Rattle.drn_lexer.specs.Lines.{lines_from}
use Rattle.drn_expr.specs.Grammar.{value}
use Rattle.drn_expr.specs.Expansion.{expansion}
use Rattle.drn_read.specs.Reading.{said, end_fault, model}
use Rattle.drn_read.specs.Costs.{Asked, cost_said, judge_costs, first_cost_fault, drn_costs}
use Rattle.drn_read.specs.declared.error.DrnCause.TheVariants.{UnknownReward, RewardSyntax, ActionReward}
use Rattle.drn_read.proofs.Samples.{joined}

-- a coin with two rewards, the line of its first state, and the lines behind it
abbrev coin : List ℕ → List (List ℕ) → List ℕ
coin first rest =
    joined
    (codes "@type: DTMC" ∷ codes "@parameters" ∷ codes "p" ∷ codes "@reward_models" ∷ codes "a steps" ∷ codes "@model" ∷ first ∷ rest
    ++ (codes "1 : p" ∷ codes "2 : 1-p" ∷ codes "state 1 [0, 4] heads" ∷ codes "1 : 1" ∷ codes "state 2" ∷ codes "2 : 1" ∷ []))

abbrev asks_for : List ℕ → Asked
asks_for reward = record { label = codes "heads"; reward = reward }

costs_of_steps : drn_costs (coin (codes "state 0 [1/2 , 6/4] init") []) (asks_for (codes "steps"))
    ≡ Ok (record { kind = Dtmc; common = pos 1; names = codes "p" ∷ []; goal = false ∷ true ∷ false ∷ []; init = 0; states = ((record { target = 1; poly = (1, pos 1) ∷ [] } ∷ record { target = 2; poly = (0, pos 1) ∷ (1, negsuc 0) ∷ [] } ∷ []) ∷ []) ∷ ((record { target = 1; poly = (0, pos 1) ∷ [] } ∷ []) ∷ []) ∷ ((record { target = 2; poly = (0, pos 1) ∷ [] } ∷ []) ∷ []) ∷ [] }, record { num = 3; den = 2 } ∷ record { num = 4; den = 1 } ∷ record { num = 0; den = 1 } ∷ [])
unfolding gcd drn_costs first_cost_fault judge_costs cost_said said end_fault model expansion value pieces_behind lines_from lib.Count.ones
costs_of_steps = refl

no_such_reward : drn_costs (coin (codes "state 0 [1/2 , 6/4] init") []) (asks_for (codes "time")) ≡ Err (record { line = 13; cause = UnknownReward })
unfolding gcd drn_costs first_cost_fault judge_costs cost_said said end_fault model expansion value pieces_behind lines_from lib.Count.ones
no_such_reward = refl

one_value_less : drn_costs (coin (codes "state 0 [1/2] \"init") []) (asks_for (codes "steps")) ≡ Err (record { line = 7; cause = RewardSyntax })
unfolding gcd drn_costs first_cost_fault judge_costs cost_said said end_fault model expansion value pieces_behind lines_from lib.Count.ones
one_value_less = refl

cost_of_action : drn_costs (coin (codes "state 0 init") (codes "action a [0, 1]" ∷ [])) (asks_for (codes "a")) ≡ Err (record { line = 8; cause = ActionReward })
unfolding gcd drn_costs first_cost_fault judge_costs cost_said said end_fault model expansion value pieces_behind lines_from lib.Count.ones
cost_of_action = refl
