use Rattle.std.proofs.Common.{◌<◌, length, get_or, sym, ap, ◌∙◌}
use Rattle.rounded_iter.proofs.Watching.{kept_lone}
use Rattle.rounded_iter.proofs.table.Table.visit_first.Goals as goal

pub returns-then-is_lone : goal.returns-then-is_lone
returns-then-is_lone g c =
    let r = rw (← c.self.view_is) at c.requires in
    let s = get_or c.order.result.now c.args.position 0 in
    let state : s < length c.self.inside.rows.now.case.model.states = rw (c.states.ensures.value, c.model.ensures) at c.if-s-states.false in
    let at = ap (λ list. get_or list c.args.position 0) (sym c.order.ensures) in
    let lone = r.read.links.lone s state (sym (rw c.links.ensures at c.is_lone.ensures) ∙ c.if-is_lone.true) in
    rw (← c.self.view_is)
    (kept_lone _ g.run r.read c.args.lane.now c.raise_lone.new.lane c.args.work.now c.args.position s c.raise_lone.result state lone at r.inside r.keeps (rw (← c.self.view_is) at c.raise_lone.ensures))
