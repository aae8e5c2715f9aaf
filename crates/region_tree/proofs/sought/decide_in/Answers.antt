use Rattle.std.proofs.Common.{refl}
use Rattle.region_tree.proofs.sought.decide_in.Goals as goal

pub returns-in-None-clause-told : goal.returns-in-None-clause-told
returns-in-None-clause-told g c = (c.is_above-2.ensures.none c.if-is_above-2.false, c.in-None.ensures.none refl)
