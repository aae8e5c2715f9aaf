use Rattle.std.proofs.Common.{◌≡◌, Ok, IfOk, sym, subst, ◌∙◌, rules}
use Rattle.std.specs.List.{slice_range}
use Rattle.drn_expr.specs.Values.{IsWorth}
use Rattle.drn_expr.proofs.Whole.{whole_worth}
use Rattle.drn_expr.proofs.value.read_value.Goals as goal

pub returns-clause-meaning : goal.returns-clause-meaning
returns-clause-meaning c =
    let text = slice_range c.args.text.now c.args.from c.args.line.to in
    let whole = whole_worth c.readings_follow.ensures.worth c.args.names.now c.args.text.now c.args.line c.args.from c.in_ok-whole.whole.value c.in_ok-whole.whole.to (sym c.if-is_long.false ∙ c.is_long.ensures) c.in_ok-whole.ensures.value c.in_ok-ended.ensures in
    let found : c.in_ok-whole.whole.value ≡ Ok c.in_ok-value.value = search rules in
    subst (IsWorth c.args.names.now text) (sym c.compact.ensures) (subst (λ r. IfOk r (IsWorth c.args.names.now text)) found whole)
