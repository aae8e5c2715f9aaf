use Rattle.std.proofs.Common.{◌≡◌, ◌+◌, ◌≤◌, take, arith, sym}
use Rattle.std.proofs.lemmas.List.Sums.{sum_by-take-le}
use Rattle.view_map.specs.Share.{share_as, share_of, total_share, whole_volume}
use Rattle.view_map.proofs.Shares.{share_at_most, share_within}
use Rattle.view_map.proofs.map.ReportMap.share_of.Goals as goal

pub overflow_add-share : goal.overflow_add-share
overflow_add-share c =
    let ps = c.deref-part-items.result.now in
    let most : share_of c.args.kind (take c.loop-part.part-index ps) + share_as c.args.kind c.part-item.result ≤ total_share ps =
    rw (sym c.part-item.is) at (share_within c.args.kind ps c.loop-part.part-index c.part-item.result c.loop-part-test.true) in
    let all : total_share ps ≡ whole_volume = rw c.deref-part-items.ensures.value c.self.invariant in
    omega (arith, most, all, c.loop-part.invariant, c.share_as-share.ensures)

pub returns-clause-within : goal.returns-clause-within
returns-clause-within c =
    let ps = c.deref-part-items.result.now in
    let some = sum_by-take-le (share_as c.args.kind) ps c.loop-part.part-index in
    let most = share_at_most c.args.kind ps in
    let all : total_share ps ≡ whole_volume = rw c.deref-part-items.ensures.value c.self.invariant in
    omega (arith, some, most, all, c.loop-part.invariant)
