use Rattle.std.proofs.Common.{◌≡◌, ℕ, List, length, Option, None, Some, rules, sym, ap, subst, ◌∙◌, Bor}
use Rattle.std.specs.Prelude.{codes}
use Rattle.std.specs.Option.{option_map, option_and_then}
use Rattle.drn_read.specs.Rewards.{rewards_fault}
use Rattle.drn_read.specs.RewardLines.{reached_in_action}
use Rattle.drn_read.specs.Shown.{Tells, left}
use Rattle.drn_read.specs.CostShown.{behind_word}
use Rattle.drn_read.specs.declared.error.DrnCause.{DrnCause}
use Rattle.drn_read.specs.declared.owner.Owner.TheVariants.{Action}
use Rattle.drn_read.proofs.CostLines.{action_line}
use Rattle.drn_read.proofs.reward_reader.RewardReader.test_line.Goals as goal

pub returns-in-Some-behind_word : goal.returns-in-Some-behind_word
returns-in-Some-behind_word c =
    let count = length c.args.self.now.names in
    let behind = left c.in-Some-behind_word.words in
    let no : behind_word (codes "state") (left c.args.line) ≡ None = search rules in
    let yes : behind_word (codes "action") (left c.args.line) ≡ Some behind = search rules in
    let group : option_map (λ (group : Bor (List ℕ)). group.now) c.reached_in_action.result ≡ reached_in_action c.args.header.now.kind c.args.model.now behind = search rules in
    subst (λ (fault : Option DrnCause). Tells c.test-in-Some-behind_word.result fault)
    (ap (option_and_then (rewards_fault count Action)) group ∙ sym (action_line count c.args.header.now c.args.model.now (left c.args.line) behind no yes)) c.test-in-Some-behind_word.ensures
