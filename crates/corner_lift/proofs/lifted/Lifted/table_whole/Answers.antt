use Rattle.std.proofs.Common.{rules, to_z-of_z, SFits}
use mir.Syntax.{w128}
use Rattle.corner_lift.proofs.lifted.Lifted.table_whole.Goals as goal

pub returns : goal.returns
returns g c =
    let fits : SFits w128 c.table_whole.result = search rules in
    let whole = c.table_whole.ensures in
    rw (← c.self.view_is, to_z-of_z fits) (record { value = whole.value; positive = whole.positive; size = whole.size; room = whole.room })
