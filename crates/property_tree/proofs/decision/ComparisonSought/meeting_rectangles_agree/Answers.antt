use Rattle.property_tree.proofs.Meeting.{sides_agree}
use Rattle.property_tree.proofs.decision.ComparisonSought.meeting_rectangles_agree.Goals as goal

pub returns : goal.returns
returns c = sides_agree c.certificates_are_of_one_kind.ensures.shared c.all_and_one.ensures.below c.sides_are_apart.ensures.apart c.rows_at_corners.ensures.numbers c.meeting_rectangles_share.ensures c.ranks_fit.ensures.any c.args.case.now c.w.ensures.case c.args.self.now.op c.args.self.now.bound
