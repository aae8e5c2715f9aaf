use Rattle.std.proofs.Common.{◌^◌, ◌++◌, length, arith, ap, ◌∙◌, count_ones, subst, All}
use Rattle.lift_model.specs.Valid.{IsEntry}
use Rattle.lift_model.specs.declared.entry.Entry.{Entry}
use Rattle.lift_model.specs.Model.{support}
use Rattle.lift_model.specs.Links.{targets_of}
use Rattle.lift_model.proofs.Laying.{laid_row}
use Rattle.lift_model.proofs.layout.push_row.Goals as goal

pub returns-clause-laid : goal.returns-clause-laid
returns-clause-laid c =
    let targets_ok = c.args.layout.now.targets.ok.0 in
    laid_row c.args.model.now c.args.layout.now _ c.args.s c.args.a _ c.requires.row c.requires.laid c.in_ok-weights.ensures
    (omega (arith, c.len.ensures, targets_ok)) (ap (length {A = Entry}) (c.entries.ensures ∙ c.row-row.ensures.value)) (c.corners_of.ensures ∙ ap (λ row. 2 ^ count_ones (support row)) c.row-row.ensures.value)
    (λ i d lt. let valid = c.row-row.ensures.valid in (subst (λ row. All (IsEntry (length c.args.model.now.states) (length c.args.model.now.names)) row) c.row-row.ensures.value valid.entries i d lt).target)
    c.in_ok-push.ensures.items (c.in_ok-push_targets.ensures ∙ ap (λ row. c.args.layout.now.targets.items ++ targets_of row) c.row-row.ensures.value)
