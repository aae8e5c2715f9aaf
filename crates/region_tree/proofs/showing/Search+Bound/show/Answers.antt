use Rattle.std.proofs.Common.{◌≡◌, ap, ◌∙◌}
use Rattle.region_tree.specs.Decided.{lane, reject_in}
use Rattle.region_tree.specs.Right.{IsAccepted, IsRejected}
use Rattle.region_tree.proofs.Ranges.{height_fits}
use Rattle.region_tree.proofs.Shown.{upper_shown, lower_shown}
use Rattle.region_tree.proofs.showing.Search+Bound.show.Goals as goal

pub accept-requires-clause-x : goal.accept-requires-clause-x
accept-requires-clause-x g c =
    let k = c.args.self.now.case.now in
    let x = lane c.args.lanes.now.pools.values in
    let h : IsAccepted k c.args.self.now.from c.requires.decided.0 c.args.self.now.sought c.args.found.u x = rw c.in-Above.is at c.requires.decided.1 in
    let numbers : c.lane.result.now ≡ x = c.lane.ensures ∙ ap (λ l. lane l.pools.values) c.lanes.view_is in
    rw (c.requires.states, numbers) (upper_shown k c.args.self.now.from c.requires.decided.0 c.args.self.now.sought c.args.found.u x c.requires.case h)

pub reject-requires-clause-r : goal.reject-requires-clause-r
reject-requires-clause-r g c =
    let k = c.args.self.now.case.now in
    let pools = c.args.lanes.now.pools in
    let rate = c.in-Below.field-0 in
    let r = reject_in pools rate.e rate.k in
    let h : IsRejected k c.args.self.now.from c.requires.decided.0 c.args.self.now.sought c.args.found.u r = rw c.in-Below.is at c.requires.decided.1 in
    let height = height_fits c.lower_precisions_are_cases.ensures c.ranks_fit.ensures.greatest k c.args.self.now.from c.requires.decided.0 c.args.self.now.sought c.requires.case c.requires.from.0 c.args.found.u r h in
    let numbers : c.lane-in-Below.result.now ≡ lane pools.values = c.lane-in-Below.ensures ∙ ap (λ l. lane l.pools.values) c.lanes.view_is in
    let picks : c.lane-in-Below-2.result.now ≡ lane pools.picks = c.lane-in-Below-2.ensures ∙ ap (λ l. lane l.pools.picks) c.lanes.view_is in
    let ranks : c.lane-in-Below-3.result.now ≡ lane pools.ranks = c.lane-in-Below-3.ensures ∙ ap (λ l. lane l.pools.ranks) c.lanes.view_is in
    rw (c.requires.states, numbers, picks, ranks) (lower_shown k c.args.self.now.from c.requires.decided.0 c.args.self.now.sought c.args.found.u r c.requires.case h height)
