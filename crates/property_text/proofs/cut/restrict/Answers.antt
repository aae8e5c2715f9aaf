use Rattle.std.proofs.Common.{rules, FitsSigned, to_z-of_z, ap, ◌∙◌}
use mir.Syntax.{w64}
use Rattle.property_text.specs.Restricted.{is_kept, cut_from}
use Rattle.property_text.proofs.Cutting.{cut_is_model}
use Rattle.property_text.proofs.cut.restrict.Goals as goal

pub new-requires : goal.new-requires
new-requires c =
    let m = c.args.model.now in
    let fits : FitsSigned w64 c.common.result = search rules in
    let states = c.in_ok-states.ensures ∙ ap (λ poly. cut_from poly (is_kept m c.args.safe.now) 0 m.states) c.in_ok-poly.ensures in
    rw (c.kind.ensures, to_z-of_z fits, c.common.ensures.value, c.in_ok-names.ensures, c.names.ensures.value, c.in_ok-goal.ensures, c.init.ensures.value, states) (cut_is_model m c.args.safe.now c.common.ensures.model)
