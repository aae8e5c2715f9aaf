use Rattle.std.proofs.Common.{◌≡◌, List, ℕ, ap, sym, subst, ◌∙◌, append-nil}
use Rattle.std.specs.List.{concat}
use Rattle.lift_base.specs.Outside.{Wrote}
use Rattle.cert_text.specs.Report.{at_line, at_lines}
use Rattle.plift_top.proofs.report.write_precision.Goals as goal

pub returns-in-Some : goal.returns-in-Some
returns-in-Some g c =
    let same : concat (at_lines c.args.from c.args.u) ≡ at_line c.args.u = ap (λ f. concat (at_lines f c.args.u)) c.in-Some.is ∙ append-nil (at_line c.args.u) in
    subst (λ (bytes : List ℕ). Wrote g.K.Sink.taken g.K.Sink.faults c.args.out.now c.write_at.new.out c.write_at.result bytes) (sym same) c.write_at.ensures
