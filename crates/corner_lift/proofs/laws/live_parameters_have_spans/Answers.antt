use Rattle.corner_lift.proofs.LiveSpans.{live_has_span}
use Rattle.corner_lift.proofs.laws.live_parameters_have_spans.Goals as goal

pub returns : goal.returns
returns c k spans i is inside live = live_has_span c.members_are_below.ensures k spans i is inside live
