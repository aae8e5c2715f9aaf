use Rattle.region_tree.proofs.Joining.{all_shown}
use Rattle.region_tree.proofs.laws.calm_walks_show_all.Goals as goal

pub returns : goal.returns
returns g c k v bound tree entry old new seen right walks calm = all_shown g.V.Visitor.taken g.V.Visitor.faults k v bound tree entry old new seen right walks calm
