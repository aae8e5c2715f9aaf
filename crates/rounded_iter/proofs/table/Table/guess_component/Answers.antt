use Rattle.rounded_iter.proofs.Guessing.{guess_kept}
use Rattle.rounded_iter.proofs.table.Table.guess_component.Goals as goal

pub guess_part-requires : goal.guess_part-requires
guess_part-requires c =
    let r = rw (← c.self.view_is) at c.requires in
    rw (c.case.ensures, c.links.ensures) (record { links = r.links; numbers = r.guess.numbers })

pub returns : goal.returns
returns c =
    let r = rw (← c.self.view_is) at c.requires in
    rw (← c.self.view_is)
    (guess_kept c.self.inside.rule c.self.inside.rows.now.case c.self.inside.rows.now.links c.args.low c.args.high c.args.lane.now c.guess_part.new.lane r.guess (rw (c.case.ensures, c.links.ensures) at c.guess_part.ensures))
