use Rattle.std.proofs.Common.{◌≡◌, ◌+◌, ◌++◌, false, not, [], ◌∷◌, None, rules, subst}
use Rattle.std.specs.Prelude.{is_some}
use Rattle.std.specs.Int.{from_bool}
use Rattle.drn_read.specs.Parts.{is_empty}
use Rattle.drn_read.specs.Judging.{open_choice, room_fault}
use Rattle.drn_read.specs.Keeping.{on_last, with_transitions}
use Rattle.drn_read.specs.ModelSteps.{IsKept}
use Rattle.drn_read.proofs.Tallies.{kept_transition}
use Rattle.drn_read.proofs.model_lines.ModelReader.add_transition.Goals as goal

pub invariant_of-self-2 : goal.invariant_of-self-2
invariant_of-self-2 c =
    let some : is_empty c.self.inside.states.items ≡ false = search rules in
    let room : room_fault c.self.inside.states.items c.args.transition.target ≡ None = search rules in
    let is : c.push_both-pushed.new.states.items ≡ on_last (with_transitions (c.args.transition ∷ [])) c.self.inside.states.items = search rules in
    let more : c.push_both-pushed.new.targets ≡ c.self.inside.targets ++ c.args.transition.target ∷ [] = search rules in
    let first : not c.has_choice-begins_choice.result ≡ not (is_some (open_choice c.self.inside.states.items)) = search rules in
    let count : from_bool (not c.has_choice-begins_choice.result) ≡ c.from.result = search rules in
    subst (λ n. IsKept c.push_both-pushed.new.states.items (c.self.inside.choices + n) (c.self.inside.transitions + 1) c.push_both-pushed.new.targets) count
    (kept_transition c.self.inside.states.items c.push_both-pushed.new.states.items c.args.transition c.self.inside.choices c.self.inside.transitions (not c.has_choice-begins_choice.result)
    c.self.inside.targets c.push_both-pushed.new.targets c.self.invariant some room is first more)
