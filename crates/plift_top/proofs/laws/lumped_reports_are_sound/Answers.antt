use Rattle.plift_top.proofs.Soundness.{lumped_reports}
use Rattle.plift_top.proofs.laws.lumped_reports_are_sound.Goals as goal

pub returns : goal.returns
returns c = lumped_reports c.texts_are_valid.ensures c.ranks_fit.ensures.greatest c.lower_precisions_are_cases.ensures c.quotients_are_cases.ensures.terms c.sound_trees_are_reports.ensures
