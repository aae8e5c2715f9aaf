use Rattle.std.proofs.Common.{◌≡◌, true, rules, sym, ap, subst, ◌∙◌}
use Rattle.drn_read.specs.States.{is_transition}
use Rattle.drn_read.specs.Judging.{line_fault}
use Rattle.drn_read.specs.Costs.{CostSaid}
use Rattle.drn_read.specs.CostKeeping.{with_cost_line}
use Rattle.drn_read.specs.Shown.{TellsLine, rest}
use Rattle.drn_read.specs.declared.section.Phase.TheVariants as phase
use Rattle.drn_read.proofs.CostLines.{reported_as_ever, transition_calm, transition_after, ok_gives}
use Rattle.drn_read.proofs.cost_reader.CostReader.read_model_line.Goals as goal

pub returns-then-is_transition-clause-fault : goal.returns-then-is_transition-clause-fault
returns-then-is_transition-clause-fault c =
    let first : is_transition (rest c.args.line) ≡ true = search rules in
    λ source spans. reported_as_ever c.read_line.result c.args.self.now source (transition_calm c.args.self.now source c.args.line spans c.requires first)
    (subst (λ (s : CostSaid). TellsLine c.read_line.result (line_fault s.said source)) c.self.view_is (c.read_line.ensures.fault source spans))

pub returns-then-is_transition-clause-after : goal.returns-then-is_transition-clause-after
returns-then-is_transition-clause-after c =
    let first : is_transition (rest c.args.line) ≡ true = search rules in
    let before : CostSaid = record { said = c.self.inside.reader; rewards = c.self.inside.rewards } in
    let in_model : before.said.header.phase ≡ phase.Model = subst (λ (s : CostSaid). s.said.header.phase ≡ phase.Model) (sym c.self.view_is) c.requires in
    ok_gives c.read_line.result _ _ c.read_line.ensures.after
    (λ after source spans. transition_after c.args.label.now before c.read_line.new.self source c.args.line spans in_model first (after source spans) ∙ ap (λ (s : CostSaid). with_cost_line c.args.label.now s source) c.self.view_is)
