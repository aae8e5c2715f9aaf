use Rattle.std.proofs.Common.{◌≡◌, ◌<◌, ◌++◌, [], ◌∷◌, length, refl, rules}
use Rattle.drn_read.specs.States.{StateText}
use Rattle.drn_read.proofs.Tallies.{kept_state}
use Rattle.lift_model.specs.Valid.{most_states}
use Rattle.drn_read.proofs.model_lines.ModelReader.add_state.Goals as goal

pub invariant_of-self-2 : goal.invariant_of-self-2
invariant_of-self-2 c =
    let s : StateText = record { line = c.args.line; init = c.args.labels.init; goal = c.args.labels.goal; choices = [] } in
    let is : c.push.new.self.items ≡ c.self.inside.states.items ++ s ∷ [] = search rules in
    let room : length c.self.inside.states.items < most_states = search rules in
    kept_state c.self.inside.states.items c.push.new.self.items s c.self.inside.choices c.self.inside.transitions c.self.inside.targets c.clear.new.self c.self.invariant room refl is c.clear.ensures
