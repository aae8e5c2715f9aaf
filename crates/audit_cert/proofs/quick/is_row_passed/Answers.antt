use Rattle.audit_cert.proofs.Saying.{refused, in_place}
use Rattle.audit_cert.proofs.quick.is_row_passed.Goals as goal

pub returns-then-not-is_row_met : goal.returns-then-not-is_row_met
returns-then-not-is_row_met g c = refused c.is_row_met.result c.is_row_met.ensures c.if-not-is_row_met.true (λ row n lt. (row n lt).met)

pub returns : goal.returns
returns g c = in_place c.is_row_fast.result c.is_row_fast.ensures
    (λ fast n lt. record { met = c.is_row_met.ensures.0 c.if-not-is_row_met.false n lt; fast = fast n lt })
    (λ row n lt. (row n lt).fast)
