use Rattle.std.proofs.Common.{length, ap, ◌∙◌, to_z-of_z, arith}
use Rattle.region_tree.proofs.Shapes.{lane_is, lane_kept, one_of}
use Rattle.region_tree.proofs.finder.Finder.lower_from_values.Goals as goal

pub greatest_reject_from-requires : goal.greatest_reject_from-requires
greatest_reject_from-requires g c =
    let pools = c.args.pools.now in
    let has = c.requires.1.0 in
    rw c.new-rows.ensures (
      record {
        links = c.requires.0.links;
        table = c.requires.0.table;
        size = ap length c.lane_mut.ensures.value ∙ (one_of pools.values.lanes _ has.values).1;
      },
      (
        rw c.lane_mut.ensures.value c.requires.1.1,
        (
          record {
            allowed = ap length c.lane_mut-2.ensures.value ∙ (one_of pools.allowed.lanes _ has.allowed).1;
            ranks = ap length c.lane_mut-3.ensures.value ∙ (one_of pools.ranks.lanes _ has.ranks).1;
            picks = ap length c.lane_mut-4.ensures.value ∙ (one_of pools.picks.lanes _ has.picks).1;
          },
          ap length c.lane_mut-5.ensures.value ∙ (one_of pools.work.lanes _ has.work).1,
        ),
      ),
    )

pub returns-clause-pools : goal.returns-clause-pools
returns-clause-pools g c =
    let pools = c.args.pools.now in
    let has = c.requires.1.0 in
    let call = c.greatest_reject_from in
    record {
      values = lane_kept c.lanes_stand_alone.ensures.writes pools.values _ c.lane_mut.result.now call.new.lane has.values c.lane_mut.ensures.value (omega (arith, call.auto.lane));
      allowed = lane_kept c.lanes_stand_alone-2.ensures.writes pools.allowed _ c.lane_mut-2.result.now call.new.allowed has.allowed c.lane_mut-2.ensures.value (omega (arith, call.auto.allowed));
      ranks = lane_kept c.lanes_stand_alone-2.ensures.writes pools.ranks _ c.lane_mut-3.result.now call.new.ranks has.ranks c.lane_mut-3.ensures.value (omega (arith, call.auto.ranks));
      picks = lane_kept c.lanes_stand_alone-2.ensures.writes pools.picks _ c.lane_mut-4.result.now call.new.picks has.picks c.lane_mut-4.ensures.value (omega (arith, call.auto.picks));
      work = lane_kept c.lanes_stand_alone-2.ensures.writes pools.work _ c.lane_mut-5.result.now call.new.work has.work c.lane_mut-5.ensures.value (omega (arith, call.auto.work));
    }

pub returns-clause-some : goal.returns-clause-some
returns-clause-some g c =
    let pools = c.args.pools.now in
    let has = c.requires.1.0 in
    let call = c.greatest_reject_from in
    rw (
      lane_is c.lanes_stand_alone.ensures.writes pools.values _ c.lane_mut.result.now call.new.lane has.values c.lane_mut.ensures.value (omega (arith, call.auto.lane)),
      lane_is c.lanes_stand_alone-2.ensures.writes pools.picks _ c.lane_mut-4.result.now call.new.picks has.picks c.lane_mut-4.ensures.value (omega (arith, call.auto.picks)),
      lane_is c.lanes_stand_alone-2.ensures.writes pools.ranks _ c.lane_mut-3.result.now call.new.ranks has.ranks c.lane_mut-3.ensures.value (omega (arith, call.auto.ranks)),
    ) (rw (c.new-rows.ensures, to_z-of_z c.ranges.limit) at call.ensures.some)

pub returns-clause-none : goal.returns-clause-none
returns-clause-none g c = rw (c.new-rows.ensures, to_z-of_z c.ranges.limit) at c.greatest_reject_from.ensures.none
