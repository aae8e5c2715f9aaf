use Rattle.lift_grid.proofs.Halves.{tiled}
use Rattle.lift_grid.proofs.Tiling.{leaves_tile}
use Rattle.lift_grid.proofs.laws.trees_tile.Goals as goal

pub returns-clause-halves : goal.returns-clause-halves
returns-clause-halves c d axis ss spans below = tiled d axis ss spans below

pub returns-clause-leaves : goal.returns-clause-leaves
returns-clause-leaves c d ss depth t h = leaves_tile d t depth ss h
