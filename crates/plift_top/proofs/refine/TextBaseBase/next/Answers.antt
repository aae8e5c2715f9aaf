use Rattle.cert_text.specs.Cut.{IsSplitOn, IsAcceptOf, IsRejectOf, IsOpenLeaf}
use Rattle.plift_top.proofs.Refining.{cut, given_split, given_accept, given_reject, given_unknown}
use Rattle.plift_top.proofs.refine.TextBaseBase.next.Goals as goal

pub returns-in-Split-clause-gives : goal.returns-in-Split-clause-gives
returns-in-Split-clause-gives c = λ n ns ahead.
    let h = c.args.self.now.head.now in
    let (reported, left) = cut h c.args.self.now.text.now c.cut_node.result.1.now (λ _ m. IsSplitOn m c.in-Split.axis) (rw c.in-Split.is at c.cut_node.ensures) n ns ahead in
    (given_split h n c.in-Split.axis _ reported, left)

pub returns-in-Accept-clause-gives : goal.returns-in-Accept-clause-gives
returns-in-Accept-clause-gives c = λ n ns ahead.
    let h = c.args.self.now.head.now in
    let (reported, left) = cut h c.args.self.now.text.now c.cut_node.result.1.now (λ g m. IsAcceptOf g m c.in-Accept.lines.now) (rw c.in-Accept.is at c.cut_node.ensures) n ns ahead in
    (given_accept h n c.in-Accept.lines.now reported, left)

pub returns-in-Reject-clause-gives : goal.returns-in-Reject-clause-gives
returns-in-Reject-clause-gives c = λ n ns ahead.
    let h = c.args.self.now.head.now in
    let (reported, left) = cut h c.args.self.now.text.now c.cut_node.result.1.now (λ g m. IsRejectOf g m c.in-Reject.lines.now) (rw c.in-Reject.is at c.cut_node.ensures) n ns ahead in
    (given_reject h n c.in-Reject.lines.now reported, left)

pub returns-in-Unknown-clause-gives : goal.returns-in-Unknown-clause-gives
returns-in-Unknown-clause-gives c = λ n ns ahead.
    let h = c.args.self.now.head.now in
    let (reported, left) = cut h c.args.self.now.text.now c.cut_node.result.1.now (λ _ m. IsOpenLeaf m) (rw c.in-Unknown.is at c.cut_node.ensures) n ns ahead in
    (given_unknown h n _ reported, left)
