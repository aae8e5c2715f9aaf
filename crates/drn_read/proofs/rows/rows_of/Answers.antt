use Rattle.std.proofs.Common.{◌≡◌, ◌<◌, Err, All, map, rules, ap, sym, subst, arith}
use Rattle.std.specs.List.{list_any}
use Rattle.drn_read.specs.Faults.{when}
use Rattle.drn_read.specs.Reading.{is_large, entry}
use Rattle.drn_read.specs.declared.state.Transition.{Transition}
use Rattle.drn_read.specs.declared.error.DrnCause.TheVariants.{CommonDenominator}
use Rattle.drn_read.proofs.Building.{fault_kept_over, each_row, all_built}
use Rattle.lift_model.specs.Valid.{most_states}
use Rattle.drn_read.proofs.rows.rows_of.Goals as goal

pub row_of-requires-clause-targets : goal.row_of-requires-clause-targets
row_of-requires-clause-targets c =
    let Inside : Transition → Type 0 = λ t. t.target < most_states in
    subst (All Inside) (sym c.deref.ensures.value) (each_row Inside (λ row. row.items) c.args.choices.now c.loop-choice.choice-index c.choice-item.result c.requires.targets c.loop-choice-test.true c.choice-item.is)

pub returns-in_err-row_of-clause-fault : goal.returns-in_err-row_of-clause-fault
returns-in_err-row_of-clause-fault c =
    let e : c.from_residual-in_err-row_of.result ≡ Err c.in_err-row_of.field-0.0 = search rules in
    fault_kept_over c.from_residual-in_err-row_of.result c.in_err-row_of.field-0.0 (list_any (is_large c.args.common)) (λ row. row.items) c.args.choices.now c.loop-choice.choice-index c.choice-item.result _ e c.loop-choice-test.true c.choice-item.is c.deref.ensures.value c.in_err-row_of.ensures.fault

pub returns-clause-fault : goal.returns-clause-fault
returns-clause-fault c =
    ap (λ large. when large CommonDenominator)
    (all_built (list_any (is_large c.args.common)) (map (entry c.args.common)) (λ row. row.items) c.args.choices.now c.loop-choice.choice-index c.loop-choice.rows.items c.loop-choice.invariant.0 (omega arith)).none

pub returns-clause-rows : goal.returns-clause-rows
returns-clause-rows c =
    (all_built (list_any (is_large c.args.common)) (map (entry c.args.common)) (λ row. row.items) c.args.choices.now c.loop-choice.choice-index c.loop-choice.rows.items c.loop-choice.invariant.0 (omega arith)).are
