use Rattle.std.proofs.Common.{◌≡◌, ◌==◌, rules, sym, ◌∙◌, Some, None, Ok, Err, slice_get}
use Rattle.std.specs.List.{slice_split}
use Rattle.lift_bytes.specs.Trimming.{trimmed}
use Rattle.lift_frac.specs.Frac.{ratio_of}
use Rattle.lift_costs.specs.Costs.{cost, no_cost}
use Rattle.drn_read.specs.Rewards.{inside, reward_value}
use Rattle.drn_read.proofs.RewardSigns.{not_below, cost_at_piece, cost_at_value}
use Rattle.drn_read.proofs.reward_group.value_at.Goals as goal

pub returns-in-Ok-clause-value : goal.returns-in-Ok-clause-value
returns-in-Ok-clause-value c =
    let e : Some c.in-Some.piece.now ≡ slice_get (slice_split (λ b. b == 44) (inside c.args.group.now)) c.args.place = search rules in
    let f : Ok (ratio_of c.in-Ok.value) ≡ reward_value (trimmed c.in-Some.piece.now) = search rules in
    sym (cost_at_value c.args.group.now c.args.place c.in-Some.piece.now (Ok (ratio_of c.in-Ok.value)) e f)

pub returns-in-Err-clause-value : goal.returns-in-Err-clause-value
returns-in-Err-clause-value c =
    let e : Some c.in-Some.piece.now ≡ slice_get (slice_split (λ b. b == 44) (inside c.args.group.now)) c.args.place = search rules in
    let f : Err c.in-Err.field-0 ≡ reward_value (trimmed c.in-Some.piece.now) = search rules in
    let zero : cost (ratio_of c.whole.result) ≡ no_cost = search rules in
    zero ∙ sym (cost_at_value c.args.group.now c.args.place c.in-Some.piece.now (Err c.in-Err.field-0) e f)

pub returns-in-Ok-clause-sign : goal.returns-in-Ok-clause-sign
returns-in-Ok-clause-sign c =
    let e : Ok (ratio_of c.in-Ok.value) ≡ reward_value (trimmed c.in-Some.piece.now) = search rules in
    not_below (trimmed c.in-Some.piece.now) (ratio_of c.in-Ok.value) (sym e)

pub returns-in-None-clause-value : goal.returns-in-None-clause-value
returns-in-None-clause-value c =
    let e : None ≡ slice_get (slice_split (λ b. b == 44) (inside c.args.group.now)) c.args.place = search rules in
    let zero : cost (ratio_of c.whole-in-None.result) ≡ no_cost = search rules in
    zero ∙ sym (cost_at_piece c.args.group.now c.args.place None e)
