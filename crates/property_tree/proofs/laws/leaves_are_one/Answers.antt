use Rattle.property_tree.proofs.Single as single
use Rattle.property_tree.proofs.laws.leaves_are_one.Goals as goal

pub returns : goal.returns
returns c = single.leaves_are_one c.certificates_are_one.ensures.least c.certificates_are_one.ensures.greatest c.certificates_are_of_one_kind.ensures.below c.all_and_one.ensures.below c.rest_is_greatest.ensures.stages c.sides_are_apart.ensures.apart
