use Rattle.std.proofs.Common.{[], ◌∙◌, refl, sym, subst}
use Rattle.lift_grid.specs.Rectangle.{spans_of}
use Rattle.corner_lift.specs.Case.{IsCase}
use Rattle.corner_lift.specs.Table.{IsTable}
use Rattle.lift_collapse.proofs.Cases.{same_case}
use Rattle.lift_collapse.proofs.collapse.fill_over.Goals as goal

pub new-case-requires : goal.new-case-requires
new-case-requires c =
    let m = c.args.model.now in
    subst IsCase (sym (same_case c.args.case.now (record { model = m; places = [] }) m c.grid.result c.root.result.now c.w.result refl c.root.ensures.value c.grid.ensures.d c.grid.ensures.depth c.w.ensures.value)) c.requires.case

pub returns : goal.returns
returns c =
    let m = c.args.model.now in
    subst (λ j. IsTable j c.args.links.now (spans_of c.args.sides.now) c.fill.new.weights) (c.new-case.ensures ∙ same_case c.args.case.now (record { model = m; places = [] }) m c.grid.result c.root.result.now c.w.result refl c.root.ensures.value c.grid.ensures.d c.grid.ensures.depth c.w.ensures.value) c.fill.ensures
