use Rattle.region_tree.proofs.Unique.{upper_is_one, lower_is_one}
use Rattle.region_tree.proofs.laws.certificates_are_one.Goals as goal

pub returns-clause-least : goal.returns-clause-least
returns-clause-least c k spans x y h g = upper_is_one k spans x y h g

pub returns-clause-greatest : goal.returns-clause-greatest
returns-clause-greatest c k spans r q is inside h g = lower_is_one k is spans inside c.rows_at_corners.ensures.rise r q h g

pub returns-clause-axis : goal.returns-clause-axis
returns-clause-axis c live spans i j h g = c.split_axes_are_one.ensures live spans i j h g
