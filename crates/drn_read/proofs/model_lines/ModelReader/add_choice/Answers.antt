use Rattle.std.proofs.Common.{◌≡◌, ◌<◌, false, rules}
use Rattle.drn_read.specs.Parts.{is_empty}
use Rattle.drn_read.specs.Judging.{choice_count}
use Rattle.drn_read.specs.Keeping.{on_last, with_choice}
use Rattle.drn_read.proofs.Tallies.{kept_choice}
use Rattle.lift_model.specs.Valid.{most_choices}
use Rattle.drn_read.proofs.model_lines.ModelReader.add_choice.Goals as goal

pub invariant_of-self-2 : goal.invariant_of-self-2
invariant_of-self-2 c =
    let some : is_empty c.self.inside.states.items ≡ false = search rules in
    let room : choice_count c.self.inside.states.items < most_choices = search rules in
    let is : c.push_choice.new.states.items ≡ on_last with_choice c.self.inside.states.items = search rules in
    kept_choice c.self.inside.states.items c.push_choice.new.states.items c.self.inside.choices c.self.inside.transitions c.self.inside.targets c.clear.new.self c.self.invariant some room is c.clear.ensures
