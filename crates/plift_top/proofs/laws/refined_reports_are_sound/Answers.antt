use Rattle.plift_top.proofs.Refining.{refined_sound}
use Rattle.plift_top.proofs.laws.refined_reports_are_sound.Goals as goal

pub returns : goal.returns
returns c =
    refined_sound c.ranks_fit.ensures.greatest c.lower_precisions_are_cases.ensures c.sound_trees_are_reports.ensures c.rectangles_at_depths.ensures.root c.bases_are_gone_on_from.ensures.bases c.bases_are_gone_on_from.ensures.refined c.refined_trees_are_right.ensures.over_root
