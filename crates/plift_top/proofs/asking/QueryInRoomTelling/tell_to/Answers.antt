use Rattle.plift_top.proofs.HeadedTexts.{head_failed, nodes_reported}
use Rattle.plift_top.proofs.asking.QueryInRoomTelling.tell_to.Goals as goal

pub returns-in_err-write_head : goal.returns-in_err-write_head
returns-in_err-write_head g c =
    head_failed (g.A.Asking.head c.args.self.now.asked.now) (g.A.Asking.are_nodes c.args.self.now.asked.now) g.K.Sink.taken g.K.Sink.faults _ _ _ c.from_residual.result c.from_residual.ensures.0 c.in_err-write_head.ensures

pub returns : goal.returns
returns g c =
    nodes_reported (g.A.Asking.head c.args.self.now.asked.now) (g.A.Asking.are_nodes c.args.self.now.asked.now) g.K.Sink.taken g.K.Sink.faults _ _ _ _ c.write_nodes.result c.in_ok-write_head.ensures c.write_nodes.ensures
