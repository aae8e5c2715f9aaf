use Rattle.cert_check.proofs.Forms.{trees_are_reports}
use Rattle.cert_check.proofs.laws.sound_trees_are_reports.Goals as goal

pub returns : goal.returns
returns c = trees_are_reports c.rectangles_are_placed.ensures.root c.rectangles_are_placed.ensures.halves c.live_parameters_have_spans.ensures
