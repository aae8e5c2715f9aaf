-- The parts of a quotient.
use Rattle.std.proofs.Common.{◌≡◌, ℕ, Bool, List, ℤ, map, ap, ◌∙◌}
use Rattle.lift_model.specs.declared.kind.Kind.{Kind}
use Rattle.lift_model.specs.declared.entry.Entry.{Entry}
use Rattle.lift_model.specs.Model.{ModelData, is_goal}
use Rattle.lift_lump.specs.Quotient.{Blocks, block, quotient}

-- a model with the parts of the quotient is the quotient
pub quotient_is : (m : ModelData) (p : Blocks) (kind : Kind) (common : ℤ) (names : List (List ℕ)) (goal : List Bool) (init : ℕ) (states : List (List (List Entry)))
    → kind ≡ m.kind → common ≡ m.common → names ≡ m.names → goal ≡ map (is_goal m) p.firsts → init ≡ block p m.init → states ≡ (quotient m p).states
    → ◌≡◌ {A = ModelData} (record { kind = kind; common = common; names = names; goal = goal; init = init; states = states }) (quotient m p)
quotient_is m p kind common names goal init states a b c d e f =
    ap (λ x. record { kind = x; common = common; names = names; goal = goal; init = init; states = states }) a
    ∙ ap (λ x. record { kind = m.kind; common = x; names = names; goal = goal; init = init; states = states }) b
    ∙ ap (λ x. record { kind = m.kind; common = m.common; names = x; goal = goal; init = init; states = states }) c
    ∙ ap (λ x. record { kind = m.kind; common = m.common; names = m.names; goal = x; init = init; states = states }) d
    ∙ ap (λ x. record { kind = m.kind; common = m.common; names = m.names; goal = map (is_goal m) p.firsts; init = x; states = states }) e
    ∙ ap (λ x. record { kind = m.kind; common = m.common; names = m.names; goal = map (is_goal m) p.firsts; init = block p m.init; states = x }) f
