use Rattle.std.proofs.Common.{◌+◌, ◌≤◌, refl, arith}
use Rattle.corner_lift.specs.Certificate.{mark, unmarked}
use Rattle.robust_rank.proofs.Gathering.{gathered, none_looked}
use Rattle.robust_rank.proofs.rows.Choices.try_state.Goals as goal

pub returns-in-Some-clause-gathering : goal.returns-in-Some-clause-gathering
returns-in-Some-clause-gathering g c =
    let none : unmarked ≤ mark c.args.ranks.now c.args.s = omega (arith, c.mark_of.ensures) in
    gathered c.args.self.now.rows.case.now c.args.self.now.allowed.now g.start c.args.search.rank c.args.search.found c.args.ranks.now
    c.args.queue.now c.requires.1.1 (c.args.search.rank + 1) c.args.s _ (omega arith) c.requires.1.0 none c.in-Some.ensures.some
    c.add.new.ranks c.add.new.queue c.add.ensures.ranks c.add.ensures.queue c.add.ensures.room c.add.result c.add.ensures.found
    c.add.ensures.count

pub returns-in-None-clause-looked : goal.returns-in-None-clause-looked
returns-in-None-clause-looked g c = none_looked c.args.self.now.rows.case.now c.args.self.now.allowed.now g.start c.args.search.rank
    c.args.search.found c.args.ranks.now c.args.queue.now c.requires.1.1 (c.args.search.rank + 1) c.args.s (omega arith)
    (c.in-None.ensures.none refl)
