use Rattle.std.proofs.Common.{List, ℕ, Some, refl, ap, ◌∙◌, arith, rules}
use Rattle.plift_top.specs.Selftest.{ladder_job}
use Rattle.plift_top.proofs.Testing.{given_report, failed_report}
use Rattle.plift_top.proofs.selftest.report_of.Goals as goal

pub returns-in-Ok : goal.returns-in-Ok
returns-in-Ok c =
    let laws = c.ladders_are_cases.ensures in
    let range = c.args.ladder.now.in_range in
    given_report c.args.ladder.now.blocks range.0 range.1 laws.short laws.reads laws.case laws.region c.new-source.result c.verify_ladder.new.source c.in_ok-report.report c.verify_ladder.new.report (λ s. Some s) (λ s. 0) (λ t. Some t.bytes.items) (λ t. t.faults) c.verify_ladder.new.report.bytes.items
    (ap (λ (s : List ℕ). Some s) (c.new-source.ensures ∙ c.in_ok-text.ensures)) refl (ap (λ (s : List ℕ). Some s) c.in_ok-report.ensures.0) refl c.in_ok-report.ensures.1
    c.right_reports_are_sound.ensures c.right_trees_are_one.ensures ladder_job refl c.in-Ok.ensures c.into_bytes.result c.into_bytes.ensures c.within_limit.result c.within_limit.ensures

pub returns-in-Err-WriteFault : goal.returns-in-Err-WriteFault
returns-in-Err-WriteFault c =
    let laws = c.ladders_are_cases.ensures in
    let range = c.args.ladder.now.in_range in
    (failed_report c.args.ladder.now.blocks range.0 range.1 laws.short laws.reads laws.case laws.region c.new-source.result c.verify_ladder.new.source c.in_ok-report.report c.verify_ladder.new.report (λ s. Some s) (λ s. 0) (λ t. Some t.bytes.items) (λ t. t.faults) c.verify_ladder.new.report.bytes.items
    (ap (λ (s : List ℕ). Some s) (c.new-source.ensures ∙ c.in_ok-text.ensures)) refl (ap (λ (s : List ℕ). Some s) c.in_ok-report.ensures.0) refl c.in_ok-report.ensures.1
    c.first_fault_is_one.ensures.none refl (λ h. omega (arith, c.verify_ladder.new.report.full h, c.verify_ladder.new.report.bytes.ok.0)) ladder_job refl c.in-Err-WriteFault.field-0 c.in-Err-WriteFault.ensures).0 c.in-Err-WriteFault.field-0-is

pub returns : goal.returns
returns c =
    let laws = c.ladders_are_cases.ensures in
    let range = c.args.ladder.now.in_range in
    (failed_report c.args.ladder.now.blocks range.0 range.1 laws.short laws.reads laws.case laws.region c.new-source.result c.verify_ladder.new.source c.in_ok-report.report c.verify_ladder.new.report (λ s. Some s) (λ s. 0) (λ t. Some t.bytes.items) (λ t. t.faults) c.verify_ladder.new.report.bytes.items
    (ap (λ (s : List ℕ). Some s) (c.new-source.ensures ∙ c.in_ok-text.ensures)) refl (ap (λ (s : List ℕ). Some s) c.in_ok-report.ensures.0) refl c.in_ok-report.ensures.1
    c.first_fault_is_one.ensures.none refl (λ h. omega (arith, c.verify_ladder.new.report.full h, c.verify_ladder.new.report.bytes.ok.0)) ladder_job refl c.in-Err.refusal c.in-Err.ensures).1 (λ e. absurd (search rules))
