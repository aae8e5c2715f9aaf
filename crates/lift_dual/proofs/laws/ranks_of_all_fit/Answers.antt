use Rattle.lift_dual.proofs.Renumbering as renumbering
use Rattle.lift_dual.proofs.laws.ranks_of_all_fit.Goals as goal

pub returns : goal.returns
returns c = record { fit = renumbering.ranks_of_all_fit; none = renumbering.none_of_all_with_any_ranks }
