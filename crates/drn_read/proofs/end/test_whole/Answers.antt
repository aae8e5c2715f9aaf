use Rattle.std.proofs.Common.{◌≡◌, ◌∷◌, [], Err, sym, ap, ◌∙◌, rules, length}
use Rattle.std.specs.Prelude.{is_some}
use Rattle.drn_read.specs.Faults.{first_of, when, reported}
use Rattle.drn_read.specs.Reading.{mismatch, end_fault, common_fault}
use Rattle.drn_read.specs.declared.error.DrnCause.TheVariants.{CountMismatch}
use Rattle.drn_read.proofs.Ends.{skip, stop, refused}
use Rattle.drn_read.proofs.end.test_whole.Goals as goal

pub returns-in_err-test_model_section-clause-fault : goal.returns-in_err-test_model_section-clause-fault
unfolding end_fault
returns-in_err-test_model_section-clause-fault c =
    let e : c.from_residual.result ≡ Err c.in_err-test_model_section.field-0.0 = search rules in
    stop _ _ _ (sym c.in_err-test_model_section.ensures)
    ∙ refused c.from_residual.result c.in_err-test_model_section.field-0.0 (reported c.args.number (common_fault c.args.states.now)) e

pub returns-in_err-test_last_state-clause-fault : goal.returns-in_err-test_last_state-clause-fault
unfolding end_fault
returns-in_err-test_last_state-clause-fault c =
    let e : c.from_residual-in_err-test_last_state.result ≡ Err c.in_err-test_last_state.field-0.0 = search rules in
    skip _ _ (sym c.in_ok-test_model_section.ensures)
    ∙ stop _ _ _ (sym c.in_err-test_last_state.ensures)
    ∙ refused c.from_residual-in_err-test_last_state.result c.in_err-test_last_state.field-0.0 (reported c.args.number (common_fault c.args.states.now)) e

pub returns-in_err-test_some_state-clause-fault : goal.returns-in_err-test_some_state-clause-fault
unfolding end_fault
returns-in_err-test_some_state-clause-fault c =
    let e : c.from_residual-in_err-test_some_state.result ≡ Err c.in_err-test_some_state.field-0.0 = search rules in
    skip _ _ (sym c.in_ok-test_model_section.ensures)
    ∙ skip _ _ (sym c.in_ok-test_last_state.ensures)
    ∙ stop _ _ _ (sym c.in_err-test_some_state.ensures)
    ∙ refused c.from_residual-in_err-test_some_state.result c.in_err-test_some_state.field-0.0 (reported c.args.number (common_fault c.args.states.now)) e

pub returns-in_err-test_counts-clause-fault : goal.returns-in_err-test_counts-clause-fault
unfolding end_fault
returns-in_err-test_counts-clause-fault c =
    let e : c.from_residual-in_err-test_counts.result ≡ Err c.in_err-test_counts.field-0.0 = search rules in
    skip _ _ (sym c.in_ok-test_model_section.ensures)
    ∙ skip _ _ (sym c.in_ok-test_last_state.ensures)
    ∙ skip _ _ (sym c.in_ok-test_some_state.ensures)
    ∙ stop _ _ _ (ap (λ n. reported c.args.number (when (is_some (mismatch c.args.header.now (length c.args.states.now) n)) CountMismatch)) (sym c.requires) ∙ sym c.in_err-test_counts.ensures)
    ∙ refused c.from_residual-in_err-test_counts.result c.in_err-test_counts.field-0.0 (reported c.args.number (common_fault c.args.states.now)) e

pub returns-in_err-test_targets-clause-fault : goal.returns-in_err-test_targets-clause-fault
unfolding end_fault
returns-in_err-test_targets-clause-fault c =
    let e : c.from_residual-in_err-test_targets.result ≡ Err c.in_err-test_targets.field-0.0 = search rules in
    skip _ _ (sym c.in_ok-test_model_section.ensures)
    ∙ skip _ _ (sym c.in_ok-test_last_state.ensures)
    ∙ skip _ _ (sym c.in_ok-test_some_state.ensures)
    ∙ skip _ _ (ap (λ n. reported c.args.number (when (is_some (mismatch c.args.header.now (length c.args.states.now) n)) CountMismatch)) (sym c.requires) ∙ sym c.in_ok-test_counts.ensures)
    ∙ stop _ _ _ (sym c.in_err-test_targets.ensures.fault)
    ∙ refused c.from_residual-in_err-test_targets.result c.in_err-test_targets.field-0.0 (reported c.args.number (common_fault c.args.states.now)) e

pub returns-in_err-test_init-clause-fault : goal.returns-in_err-test_init-clause-fault
unfolding end_fault
returns-in_err-test_init-clause-fault c =
    let e : c.from_residual-in_err-test_init.result ≡ Err c.in_err-test_init.field-0.0 = search rules in
    skip _ _ (sym c.in_ok-test_model_section.ensures)
    ∙ skip _ _ (sym c.in_ok-test_last_state.ensures)
    ∙ skip _ _ (sym c.in_ok-test_some_state.ensures)
    ∙ skip _ _ (ap (λ n. reported c.args.number (when (is_some (mismatch c.args.header.now (length c.args.states.now) n)) CountMismatch)) (sym c.requires) ∙ sym c.in_ok-test_counts.ensures)
    ∙ skip _ _ (sym c.in_ok-test_targets.ensures.fault)
    ∙ stop _ _ _ (sym c.in_err-test_init.ensures)
    ∙ refused c.from_residual-in_err-test_init.result c.in_err-test_init.field-0.0 (reported c.args.number (common_fault c.args.states.now)) e

pub returns-clause-fault : goal.returns-clause-fault
unfolding end_fault
returns-clause-fault c =
    skip _ _ (sym c.in_ok-test_model_section.ensures)
    ∙ skip _ _ (sym c.in_ok-test_last_state.ensures)
    ∙ skip _ _ (sym c.in_ok-test_some_state.ensures)
    ∙ skip _ _ (ap (λ n. reported c.args.number (when (is_some (mismatch c.args.header.now (length c.args.states.now) n)) CountMismatch)) (sym c.requires) ∙ sym c.in_ok-test_counts.ensures)
    ∙ skip _ _ (sym c.in_ok-test_targets.ensures.fault)
    ∙ skip _ _ (sym c.in_ok-test_init.ensures)
    ∙ ap (λ fault. first_of (fault ∷ reported c.args.number (common_fault c.args.states.now) ∷ [])) (sym c.test_goal.ensures)
