use Rattle.std.proofs.Common.{◌++◌, List, ap, sym, ◌∙◌}
use Rattle.view_map.specs.Slice.{CutData}
use Rattle.view_map.specs.Choice.{cut_on}
use Rattle.view_map.proofs.Choosing.{cuts_next}
use Rattle.view_map.proofs.choice.cuts_of.Goals as goal

pub loop-parameter-preserved : goal.loop-parameter-preserved
loop-parameter-preserved c =
    c.in_ok-add_cut.ensures ∙ ap (λ (cs : List CutData). cs ++ cut_on c.args.head.now c.args.axes c.args.given.now c.loop-parameter.parameter) c.loop-parameter.invariant
    ∙ sym (cuts_next c.args.head.now c.args.axes c.args.given.now c.loop-parameter.parameter)
