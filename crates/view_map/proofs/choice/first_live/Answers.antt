use Rattle.std.proofs.Common.{◌≡◌, ◌-◌, sym, ap, ◌∙◌, arith}
use Rattle.view_map.specs.Choice.{first_from, is_choice}
use Rattle.view_map.proofs.Choosing.{first_here, first_next, first_none}
use Rattle.view_map.proofs.choice.first_live.Goals as goal

pub returns-then-is_choice : goal.returns-then-is_choice
returns-then-is_choice c = sym (c.loop-parameter.invariant ∙ first_here (is_choice c.args.live c.args.other) c.loop-parameter.parameter 16 c.loop-parameter-test.true (sym c.is_choice.ensures ∙ c.if-is_choice.true))

pub loop-parameter-preserved : goal.loop-parameter-preserved
loop-parameter-preserved c = c.loop-parameter.invariant ∙ first_next (is_choice c.args.live c.args.other) c.loop-parameter.parameter 16 c.loop-parameter-test.true (sym c.is_choice.ensures ∙ c.if-is_choice.false)

pub returns : goal.returns
returns c =
    let test = is_choice c.args.live c.args.other in
    let end : c.loop-parameter.parameter ≡ 16 = omega arith in
    sym (c.loop-parameter.invariant ∙ ap (λ n. first_from test n (16 - n)) end ∙ first_none test 16)
