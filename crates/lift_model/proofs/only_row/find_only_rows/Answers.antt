use Rattle.std.proofs.Common.{[], ◌∷◌, length, length-append, ap, sym, subst, ◌∙◌, arith}
use Rattle.lift_model.specs.declared.only_row.OnlyRow.{OnlyRow}
use Rattle.lift_model.specs.OnlyRow.{IsOnlyRowIn}
use Rattle.lift_model.proofs.OnlyRows.{one_more}
use Rattle.lift_model.proofs.only_row.find_only_rows.Goals as goal

pub loop-s-preserved : goal.loop-s-preserved
loop-s-preserved c =
    let only = c.loop-s.list.items in
    let row = c.only_row_of.result in
    let here = subst (λ n. IsOnlyRowIn c.args.starts.now c.args.rows.now c.args.targets.now n row) (sym c.loop-s.invariant.0) c.only_row_of.ensures in (
      ap (length {A = OnlyRow}) c.in_ok-push.ensures.items ∙ omega (arith, c.loop-s.invariant.0, length-append only (row ∷ [])),
      rw c.in_ok-push.ensures.items (one_more c.args.starts.now c.args.rows.now c.args.targets.now only row c.loop-s.invariant.1 here),
    )
