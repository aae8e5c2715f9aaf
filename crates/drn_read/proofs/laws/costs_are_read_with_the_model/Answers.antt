use Rattle.drn_read.proofs.CostSame.{costs_are_read_with_the_model}
use Rattle.drn_read.proofs.laws.costs_are_read_with_the_model.Goals as goal

pub returns : goal.returns
returns c = costs_are_read_with_the_model
