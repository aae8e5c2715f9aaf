use Rattle.std.proofs.Common.{◌≡◌, [], rules, sym, ap, ◌∙◌, Err}
use Rattle.drn_read.specs.Reading.{drn, ended}
use Rattle.drn_read.specs.Costs.{Asked, Rewards, CostSaid, cost_said, cost_ended, drn_costs}
use Rattle.drn_read.proofs.Running.{valid_at_end}
use Rattle.drn_read.proofs.CostEnds.{asks, costs_given, costs_refused}
use Rattle.drn_read.proofs.costed.read_costs.Goals as goal

pub read_cost_lines-requires-clause-start : goal.read_cost_lines-requires-clause-start
read_cost_lines-requires-clause-start c =
    let asked : Asked = record { label = c.args.label.now; reward = c.args.reward.now } in
    let start = c.new-reader.ensures c.args.label.now in
    start ∙ ap (λ (a : Asked). cost_said a []) (sym (asks asked c.new-reader.result start))

pub returns-in_err-number : goal.returns-in_err-number
returns-in_err-number c =
    let asked : Asked = record { label = c.args.label.now; reward = c.args.reward.now } in
    let same = asks asked c.new-reader.result (c.new-reader.ensures c.args.label.now) in
    let e : c.from_residual.result ≡ Err c.in_err-number.field-0.0 = search rules in
    rw e (λ ne. ap (drn_costs c.args.text.now) (sym same) ∙ c.in_err-number.ensures ne)

pub finish_with-requires : goal.finish_with-requires
finish_with-requires c =
    let read : drn c.args.text.now c.args.label.now ≡ ended c.in_ok-number.number c.reader.inside.reader =
    c.in_ok-number.ensures.1 ∙ ap (λ (s : CostSaid). ended c.in_ok-number.number s.said) (sym c.reader.view_is) in
    valid_at_end c.args.label.now c.args.text.now c.in_ok-number.number c.reader.inside.reader c.texts_are_valid.ensures read

pub returns-in_err-model : goal.returns-in_err-model
returns-in_err-model c =
    let asked : Asked = record { label = c.args.label.now; reward = c.args.reward.now } in
    let same = asks asked c.new-reader.result (c.new-reader.ensures c.args.label.now) in
    let s : CostSaid = record { said = c.reader.inside.reader; rewards = c.reader.inside.rewards } in
    let read : drn_costs c.args.text.now asked ≡ cost_ended c.in_ok-number.number s =
    ap (drn_costs c.args.text.now) (sym same) ∙ c.in_ok-number.ensures.0 ∙ ap (cost_ended c.in_ok-number.number) (sym c.reader.view_is) in
    let e : c.from_residual-in_err-model.result ≡ Err c.in_err-model.field-0.0 = search rules in
    rw e (λ ne. costs_refused asked c.args.text.now c.in_ok-number.number s c.in_err-model.field-0.0 read (c.in_err-model.ensures.fault ne))

pub returns : goal.returns
returns c =
    let asked : Asked = record { label = c.args.label.now; reward = c.args.reward.now } in
    let same = asks asked c.new-reader.result (c.new-reader.ensures c.args.label.now) in
    let s : CostSaid = record { said = c.reader.inside.reader; rewards = c.reader.inside.rewards } in
    let read : drn_costs c.args.text.now asked ≡ cost_ended c.in_ok-number.number s =
    ap (drn_costs c.args.text.now) (sym same) ∙ c.in_ok-number.ensures.0 ∙ ap (cost_ended c.in_ok-number.number) (sym c.reader.view_is) in
    let costs : c.into_costs.result ≡ c.rewards.inside.costs = search rules in
    costs_given asked c.args.text.now c.in_ok-number.number s c.in_ok-model.model c.into_costs.result read c.in_ok-model.ensures.fault c.in_ok-model.ensures.model
    (costs ∙ ap (λ (r : Rewards). r.costs) c.rewards.view_is)
