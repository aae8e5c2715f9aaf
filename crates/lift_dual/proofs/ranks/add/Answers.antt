use Rattle.std.proofs.Common.{arith}
use Rattle.lift_dual.proofs.Ranking.{count_room}
use Rattle.lift_dual.proofs.ranks.add.Goals as goal

pub bounds-queue-found : goal.bounds-queue-found
bounds-queue-found c = omega (arith, c.requires.count, c.requires.sizes, count_room c.args.ranks.now c.args.s c.requires.state c.requires.none)

pub returns-clause-room : goal.returns-clause-room
returns-clause-room c = omega (arith, c.requires.count, c.requires.sizes, count_room c.args.ranks.now c.args.s c.requires.state c.requires.none)
