use Rattle.std.proofs.Common.{length, ap, ◌∙◌, to_z-of_z, arith, true, false}
use Rattle.property_tree.proofs.Lanes.{lane_is, lane_kept, one_of, pools_kept, pools_then, same_pool}
use Rattle.region_tree.specs.Decided.{lane}
use Rattle.property_tree.proofs.vectors.upper_of_chain.Goals as goal

pub choose_first-requires : goal.choose_first-requires
choose_first-requires g c =
    let has = pools_kept c.args.finder.now.case.now.model c.args.pools.now c.least_upper_within.new.pools c.least_upper_within.ensures.pools c.requires.1.1.0 in
    rw c.model.ensures.value (ap length c.lane_mut.ensures.value ∙ (one_of c.least_upper_within.new.pools.picks.lanes _ has.picks).1)

pub returns-clause-pools : goal.returns-clause-pools
returns-clause-pools g c =
    let k = c.args.finder.now.case.now in
    let pools = c.least_upper_within.new.pools in
    let has = pools_kept k.model c.args.pools.now pools c.least_upper_within.ensures.pools c.requires.1.1.0 in
    pools_then c.args.pools.now pools _ c.least_upper_within.ensures.pools
    (record {
      values = same_pool pools.values;
      allowed = same_pool pools.allowed;
      ranks = same_pool pools.ranks;
      picks = lane_kept c.lanes_stand_alone.ensures.writes pools.picks _ c.lane_mut.result.now c.choose_first.new.picks has.picks c.lane_mut.ensures.value (omega (arith, c.choose_first.auto.picks));
      work = same_pool pools.work;
    })

pub returns-clause-least : goal.returns-clause-least
returns-clause-least g c =
    let k = c.args.finder.now.case.now in
    let pools = c.least_upper_within.new.pools in
    let has = pools_kept k.model c.args.pools.now pools c.least_upper_within.ensures.pools c.requires.1.1.0 in
    let found = rw (to_z-of_z c.ranges.limit) at c.least_upper_within.ensures.least in
    rw (lane_is c.lanes_stand_alone.ensures.writes pools.picks _ c.lane_mut.result.now c.choose_first.new.picks has.picks c.lane_mut.ensures.value (omega (arith, c.choose_first.auto.picks)))
    (c.chains_have_one_scheduler.ensures.least k g.spans c.args.limit (lane pools.values) c.choose_first.new.picks true c.w.ensures.case c.requires.0.table.inside c.requires.1.1.1 (rw c.if-not-least_upper_within.false at found) (λ done. rw c.model.ensures.value at c.choose_first.ensures))

pub returns-then-not-least_upper_within-clause-least : goal.returns-then-not-least_upper_within-clause-least
returns-then-not-least_upper_within-clause-least g c =
    let pools = c.least_upper_within.new.pools in
    let found = rw (to_z-of_z c.ranges.limit) at c.least_upper_within.ensures.least in
    c.chains_have_one_scheduler.ensures.least c.args.finder.now.case.now g.spans c.args.limit (lane pools.values) (lane pools.picks) false c.w.ensures.case c.requires.0.table.inside c.requires.1.1.1 (rw c.if-not-least_upper_within.true at found) (λ wrong. absurd (cc wrong))
