use Rattle.std.proofs.Common.{subst, sym, arith, refl}
use Rattle.rounded_iter.specs.Watching.{IsRaisedState, IsVisited}
use Rattle.rounded_iter.proofs.Watching.{visited_risen, visited_kept}
use Rattle.rounded_iter.proofs.table.Table.visit.Goals as goal

pub returns-then-rose : goal.returns-then-rose
returns-then-rose g c =
    let t = c.args.self.now in
    subst (λ b. IsVisited t g.run c.args.lane.now c.raise_lone-rose.new.lane c.args.work.now c.flag_before.new.work c.args.frontier b) (sym c.if-rose.true)
    (visited_risen t g.run c.args.lane.now c.raise_lone-rose.new.lane c.args.work.now c.flag_before.new.work c.args.s c.args.position c.args.frontier c.requires
    (omega (arith, c.flag_before.auto.work)) (subst (λ b. IsRaisedState t g.run c.args.lane.now c.raise_lone-rose.new.lane c.args.s b) c.if-rose.true c.raise_lone-rose.ensures) c.flag_before.ensures)

pub returns-else-rose : goal.returns-else-rose
returns-else-rose g c =
    let t = c.args.self.now in
    subst (λ b. IsVisited t g.run c.args.lane.now c.raise_lone-rose.new.lane c.args.work.now c.args.work.now c.args.frontier b) (sym c.if-rose.false)
    (visited_kept t g.run c.args.lane.now c.raise_lone-rose.new.lane c.args.work.now c.args.work.now c.args.s c.args.position c.args.frontier c.requires
    refl (subst (λ b. IsRaisedState t g.run c.args.lane.now c.raise_lone-rose.new.lane c.args.s b) c.if-rose.false c.raise_lone-rose.ensures))
