use Rattle.std.proofs.Common.{◌≡◌, true}
use Rattle.lift_model.specs.Model.{is_goal}
use Rattle.lift_dual.proofs.Ranking.{goal as goal_added}
use Rattle.lift_dual.proofs.ranks.add_goal.Goals as goal

pub returns : goal.returns
returns c =
    let is : is_goal c.args.case.now.model c.args.s ≡ true = cc in
    goal_added c.args.case.now c.args.ranks.now c.args.queue.now c.args.s c.args.found c.requires.starting is c.requires.state c.add.ensures.room c.add.new.ranks c.add.new.queue c.add.ensures.ranks c.add.ensures.queue c.add.result c.add.ensures.found c.add.ensures.count
