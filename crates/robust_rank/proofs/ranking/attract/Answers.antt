use Rattle.std.proofs.Common.{◌≡◌, length, ◌∙◌}
use Rattle.robust_rank.proofs.Completing.{stages}
use Rattle.robust_rank.proofs.ranking.attract.Goals as goal

pub returns-clause-stages : goal.returns-clause-stages
returns-clause-stages g c =
    let size : length c.rank_all.new.ranks ≡ length c.args.case.now.model.states = c.rank_all.auto.ranks ∙ c.requires.1.0 in
    stages c.args.case.now g.spans c.args.allowed.now c.rank_all.new.ranks size c.rank_all.ensures c.choose_all.new.picks c.w.ensures.case c.choose_all.ensures
