use Rattle.region_tree.proofs.Meeting as meeting
use Rattle.region_tree.proofs.laws.meeting_rectangles_share.Goals as goal

pub returns : goal.returns
returns c = meeting.meeting_rectangles_share
