use Rattle.std.proofs.Common.{rules, ◌≡◌, Err}
use Rattle.cert_check.specs.Shown.{reported_line}
use Rattle.cert_check.proofs.Steps.{rest_ended, rest_fails, rest_goes_on}
use Rattle.cert_check.proofs.file.check_rest.Goals as goal

pub returns-in_err-none-clause-end : goal.returns-in_err-none-clause-end
returns-in_err-none-clause-end g c =
    let is : c.from_residual.result ≡ Err (reported_line c.in_err-none.field-0.0) = search rules in
    rest_fails c.args.leaves c.in_err-none.field-0.0 c.from_residual.result is c.in_err-none.ensures

pub returns-then-none-clause-end : goal.returns-then-none-clause-end
returns-then-none-clause-end g c = rest_ended c.args.leaves c.in_ok-none.none c.if-none.true c.in_ok-none.ensures

pub returns-else-none-clause-end : goal.returns-else-none-clause-end
returns-else-none-clause-end g c = rest_goes_on c.args.leaves c.in_ok-none.none c.if-none.false c.in_ok-none.ensures
