use Rattle.cert_check.proofs.Holding.{reports_hold}
use Rattle.cert_check.proofs.laws.sound_reports_hold.Goals as goal

pub returns : goal.returns
returns c = reports_hold c.rectangles_are_placed.ensures.root c.rectangles_are_placed.ensures.halves c.trees_tile.ensures.leaves c.live_parameters_have_spans.ensures c.certificates_decide.ensures.accepting c.rejecting_certificates_reach.ensures.reached
