use Rattle.plift_top.proofs.Soundness.{right_reports}
use Rattle.plift_top.proofs.laws.right_reports_are_sound.Goals as goal

pub returns : goal.returns
returns c = right_reports c.texts_are_valid.ensures c.ranks_fit.ensures.greatest c.lower_precisions_are_cases.ensures c.sound_trees_are_reports.ensures
