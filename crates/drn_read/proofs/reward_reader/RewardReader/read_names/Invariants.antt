use Rattle.std.proofs.Common.{length}
use Rattle.drn_read.specs.Shown.{left}
use Rattle.drn_read.proofs.RewardNames.{RewardsSoFar}
use Rattle.drn_read.proofs.reward_reader.RewardReader.read_names.Given as goal

abbrev pub decreases-loop-word : goal.decreases-loop-word
decreases-loop-word l = length (left l.words)

abbrev pub invariant-loop-word : goal.invariant-loop-word
invariant-loop-word l = RewardsSoFar l.fn.self l.self (left l.fn.words) (left l.words)
