use Rattle.std.proofs.Common.{◌≡◌, ◌==◌, false, length, rules, ap, subst, ◌∙◌}
use Rattle.std.specs.List.{list_any}
use Rattle.drn_read.specs.Faults.{reported}
use Rattle.drn_read.specs.Judging.{Said}
use Rattle.drn_read.specs.RewardLines.{words_rewards_fault}
use Rattle.drn_read.specs.Costs.{CostSaid}
use Rattle.drn_read.specs.Shown.{Tells, rest, left}
use Rattle.drn_read.proofs.CostLines.{reported_on_line}
use Rattle.drn_read.proofs.NoGroups.{no_bracket}
use Rattle.drn_read.proofs.cost_reader.CostReader.test_line.Goals as goal

pub returns-then-not-has_bracket : goal.returns-then-not-has_bracket
returns-then-not-has_bracket c =
    let s = c.args.self.now in
    let none : list_any (λ b. b == 91) (rest c.args.line) ≡ false = search rules in
    λ source n. ap (reported source.number) (no_bracket (length s.rewards.names) s.said.header s.said.states (rest c.args.line) none)

pub returns : goal.returns
returns c =
    let whole : record { said = record { header = c.reader.inside.header; states = c.reader.inside.model }; rewards = c.self.inside.rewards } ≡ c.args.self.now =
    ap (λ (k : Said). record { said = k; rewards = c.self.inside.rewards }) c.reader.view_is ∙ c.self.view_is in
    let tells = subst (λ (s : CostSaid). Tells c.test_line.result (words_rewards_fault (length s.rewards.names) s.said.header s.said.states (left c.args.line))) whole c.test_line.ensures in
    λ source n. rw c.on_line.ensures (reported_on_line c.test_line.result c.args.line.line.number source.number _ n tells)
