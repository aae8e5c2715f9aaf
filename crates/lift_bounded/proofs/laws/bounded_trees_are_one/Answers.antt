use Rattle.lift_bounded.proofs.Single.{tree_is_one}
use Rattle.lift_bounded.proofs.laws.bounded_trees_are_one.Goals as goal

pub returns : goal.returns
returns c k bound h tree other p q =
    tree_is_one k bound h c.certificates_by_steps_are_one.ensures.least c.certificates_by_steps_are_one.ensures.greatest c.split_axes_are_one.ensures 0 k.root tree other p q
