use Rattle.std.proofs.Common.{ap, Ok, refl, inl, arith}
use Rattle.cert_check.specs.declared.summary.Summary.{Summary}
use Rattle.plift_top.proofs.Testing.{found, refused_check, passed_check}
use Rattle.plift_top.proofs.selftest.leaves_of.Goals as goal

pub returns-in_err-leaves : goal.returns-in_err-leaves
returns-in_err-leaves c leaves sound =
    refused_check c.in_err-leaves.field-0.0 _ refl c.from_residual.result c.from_residual.ensures.1 leaves
    (found c.args.report.items _ _ c.sound_files_pass.ensures.pass (omega (arith, c.requires, c.args.report.ok.0)) refl refl _ (rw c.new.ensures at c.in_err-leaves.ensures.reported) leaves sound)

pub returns : goal.returns
returns c leaves sound =
    inl (ap (λ (x : Summary). Ok x) (passed_check _ c.in_ok-leaves.leaves refl leaves (found c.args.report.items _ _ c.sound_files_pass.ensures.pass (omega (arith, c.requires, c.args.report.ok.0)) refl refl _ (rw c.new.ensures at c.in_ok-leaves.ensures.reported) leaves sound)))
