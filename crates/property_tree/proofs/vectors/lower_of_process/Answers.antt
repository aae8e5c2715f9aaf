use Rattle.std.proofs.Common.{length, ap, ◌∙◌, to_z-of_z, arith}
use Rattle.property_tree.proofs.Lanes.{lane_is, lane_kept, one_of, same_pool}
use Rattle.property_tree.proofs.vectors.lower_of_process.Goals as goal

pub greatest_all_above-requires : goal.greatest_all_above-requires
greatest_all_above-requires g c =
    let pools = c.args.pools.now in
    let has = c.requires.1.1.0 in
    rw (c.new-rows.ensures, to_z-of_z c.ranges.limit) (
      record {
        links = c.requires.0.links;
        table = c.requires.0.table;
        size = c.guess.ensures.size ∙ ap length c.lane_mut-values.ensures.value ∙ (one_of pools.values.lanes _ has.values).1;
        places = ap length c.lane_mut-2.ensures.value ∙ (one_of pools.work.lanes _ has.work).1;
      },
      (ap length c.lane_mut.ensures.value ∙ (one_of pools.ranks.lanes _ has.ranks).1, c.requires.1.1.1),
    )

pub returns-clause-pools : goal.returns-clause-pools
returns-clause-pools g c =
    let pools = c.args.pools.now in
    let has = c.requires.1.1.0 in
    let call = c.greatest_all_above in
    record {
      values = lane_kept c.lanes_stand_alone.ensures.writes pools.values _ c.lane_mut-values.result.now call.new.lane has.values c.lane_mut-values.ensures.value (omega (arith, call.auto.lane, c.guess.ensures.size));
      allowed = same_pool pools.allowed;
      ranks = lane_kept c.lanes_stand_alone-2.ensures.writes pools.ranks _ c.lane_mut.result.now call.new.ranks has.ranks c.lane_mut.ensures.value (omega (arith, call.auto.ranks));
      picks = same_pool pools.picks;
      work = lane_kept c.lanes_stand_alone-2.ensures.writes pools.work _ c.lane_mut-2.result.now call.new.work has.work c.lane_mut-2.ensures.value (omega (arith, call.auto.work));
    }

pub returns-clause-some : goal.returns-clause-some
returns-clause-some g c =
    let pools = c.args.pools.now in
    let has = c.requires.1.1.0 in
    let call = c.greatest_all_above in
    rw (
      lane_is c.lanes_stand_alone.ensures.writes pools.values _ c.lane_mut-values.result.now call.new.lane has.values c.lane_mut-values.ensures.value (omega (arith, call.auto.lane, c.guess.ensures.size)),
      lane_is c.lanes_stand_alone-2.ensures.writes pools.ranks _ c.lane_mut.result.now call.new.ranks has.ranks c.lane_mut.ensures.value (omega (arith, call.auto.ranks)),
    ) (rw (c.new-rows.ensures, to_z-of_z c.ranges.limit) at call.ensures.some)

pub returns-clause-none : goal.returns-clause-none
returns-clause-none g c = rw (c.new-rows.ensures, to_z-of_z c.ranges.limit) at c.greatest_all_above.ensures.none
