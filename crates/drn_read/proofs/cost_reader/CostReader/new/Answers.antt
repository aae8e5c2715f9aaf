use Rattle.drn_read.proofs.CostLines.{start_said}
use Rattle.drn_read.proofs.cost_reader.CostReader.new.Goals as goal

pub returns : goal.returns
returns c = λ label. start_said (record { label = label; reward = c.args.reward.now }) c.new.result c.new-2.result (c.new.ensures label) c.new-2.ensures
