use Rattle.std.proofs.Common.{arith}
use Rattle.robust_rank.proofs.Gathering.{count_room}
use Rattle.robust_rank.proofs.ranking.add.Goals as goal

pub bounds-queue-found : goal.bounds-queue-found
bounds-queue-found c = omega (arith, c.requires.count, c.requires.sizes, count_room c.args.ranks.now c.args.s c.requires.state c.requires.none)

pub returns-clause-room : goal.returns-clause-room
returns-clause-room c = omega (arith, c.requires.count, c.requires.sizes, count_room c.args.ranks.now c.args.s c.requires.state c.requires.none)
