use Rattle.region_tree.proofs.Meeting.{accepting_rejects_none, rejecting_accepts_none}
use Rattle.region_tree.proofs.at_most.BoundSought.meeting_rectangles_agree.Goals as goal

pub returns : goal.returns
returns c =
    let k = c.args.case.now in
    let bound = c.args.self.now in
    let one_kind = c.certificates_are_of_one_kind.ensures.shared in
    let share = c.meeting_rectangles_share.ensures in
    record {
      above = λ spans others p inside there meet decided. accepting_rejects_none one_kind share k c.w.ensures.case bound spans others inside there meet c.ranks_fit.ensures.any _ decided.accepting;
      below = λ spans others p e height inside there meet decided. rejecting_accepts_none one_kind share k c.w.ensures.case bound spans others inside there meet _ decided.rejecting;
    }
