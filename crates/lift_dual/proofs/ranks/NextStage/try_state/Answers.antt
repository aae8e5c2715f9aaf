use Rattle.std.proofs.Common.{◌+◌, arith}
use Rattle.lift_dual.proofs.Ranking.{gathered, keeps, looked, none_looked}
use Rattle.lift_dual.proofs.ranks.NextStage.try_state.Goals as goal

pub returns-then-not-is_unranked-clause-looked : goal.returns-then-not-is_unranked-clause-looked
returns-then-not-is_unranked-clause-looked g c far = absurd (omega (arith, far, c.is_unranked.ensures.no c.if-not-is_unranked.true))

pub returns-then-not-all_lead_below-clause-looked : goal.returns-then-not-all_lead_below-clause-looked
returns-then-not-all_lead_below-clause-looked g c = none_looked c.args.self.now.rows.now.case g.start c.args.self.now.rank c.args.found c.args.ranks.now c.args.queue.now c.requires.1.1 (c.args.self.now.rank + 1) c.args.s (omega arith) (c.all_lead_below.ensures.some c.if-not-all_lead_below.true)

pub returns-clause-gathering : goal.returns-clause-gathering
returns-clause-gathering g c = gathered c.args.self.now.rows.now.case g.start c.args.self.now.rank c.args.found c.args.ranks.now c.args.queue.now c.requires.1.1 (c.args.self.now.rank + 1) c.args.s (omega arith) c.requires.1.0 (c.is_unranked.ensures.yes c.if-not-is_unranked.false) (c.all_lead_below.ensures.all c.if-not-all_lead_below.false) c.add.new.ranks c.add.new.queue c.add.ensures.ranks c.add.ensures.queue c.add.ensures.room c.add.result c.add.ensures.found c.add.ensures.count

pub returns-clause-kept : goal.returns-clause-kept
returns-clause-kept g c = keeps c.args.self.now.rows.now.case g.start c.args.self.now.rank c.args.found c.args.ranks.now c.args.queue.now c.requires.1.1 (c.args.self.now.rank + 1) c.args.s (omega arith) c.requires.1.0 (c.is_unranked.ensures.yes c.if-not-is_unranked.false) (c.all_lead_below.ensures.all c.if-not-all_lead_below.false) c.add.new.ranks c.add.new.queue c.add.ensures.ranks c.add.ensures.queue c.add.ensures.room

pub returns-clause-looked : goal.returns-clause-looked
returns-clause-looked g c = looked c.args.self.now.rows.now.case g.start c.args.self.now.rank c.args.found c.args.ranks.now c.args.queue.now c.requires.1.1 (c.args.self.now.rank + 1) c.args.s (omega arith) c.requires.1.0 (c.is_unranked.ensures.yes c.if-not-is_unranked.false) (c.all_lead_below.ensures.all c.if-not-all_lead_below.false) c.add.new.ranks c.add.new.queue c.add.ensures.ranks c.add.ensures.queue c.add.ensures.room
