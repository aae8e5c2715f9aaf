use Rattle.std.proofs.Common.{◌≤◌, refl, sym, ◌∙◌, subst, arith, IfSome, le_trans}
use Rattle.lift_grid.specs.Rectangle.{spans_of}
use Rattle.corner_lift.specs.Case.{at}
use Rattle.lift_collapse.specs.Filled.{IsFilled}
use Rattle.lift_range.specs.Range.{Between}
use Rattle.region_tree.specs.Sides.{IsDecidedFrom}
use Rattle.region_tree.proofs.Shapes.{same_pools, pools_then, pools_kept}
use Rattle.region_tree.proofs.Settling.{decided_at, held_not, held_of, none_at, some_at, sound_below, undecided_below}
use Rattle.region_tree.proofs.search.Search.settle.Goals as goal

pub loop-low-init : goal.loop-low-init
loop-low-init g c =
    let s = g.S.Sought.certificates c.args.self.now.sought in
    let k = c.args.finder.now.case.now in
    let spans = spans_of c.args.finder.now.sides.now in
    let pools = c.args.pools.now in
    let h : IsDecidedFrom s k spans pools c.in-Some.side = rw c.in-Some.is at c.requires.told in
    let value = c.w-high.ensures.value in
    record {
      from = omega arith;
      high = omega (arith, c.requires.from.1, value);
      most = omega (arith, value);
      collapse = refl;
      pools = same_pools pools;
      sound = sound_below s k spans c.precisions_agree.ensures c.meeting_rectangles_agree.ensures c.requires.asked.table.inside pools c.in-Some.side c.outlook_below-outlook.result h c.outlook_below-outlook.ensures;
      below = λ t le lt. absurd (omega (arith, le, lt));
      top = rw value (decided_at s k spans c.precisions_agree.ensures k.w pools c.in-Some.side h);
      held = rw value h;
    }

pub decide_at-held-requires-clause-u : goal.decide_at-held-requires-clause-u
decide_at-held-requires-clause-u g c =
    let k = c.args.finder.now.case.now in
    let kept = c.loop-low.invariant in
    let positive : 1 ≤ c.next-u.result = le_trans c.requires.from.0 (le_trans kept.from c.next-u.ensures.low) in
    let most : c.next-u.result ≤ k.w = omega (arith, c.next-u.ensures.high, kept.most) in
    let between : Between 1 k.w c.next-u.result = (positive, most) in
    between

pub decide_at-held-requires-clause-filled : goal.decide_at-held-requires-clause-filled
decide_at-held-requires-clause-filled g c =
    let f = c.args.finder.now in
    subst (λ found. IfSome found (IsFilled f.case.now (spans_of f.sides.now))) (sym c.loop-low.invariant.collapse) c.requires.filled

pub decide_at-held-requires-clause-pools : goal.decide_at-held-requires-clause-pools
decide_at-held-requires-clause-pools g c = pools_kept c.args.finder.now.case.now.model c.args.pools.now c.loop-low.pools c.loop-low.invariant.pools c.requires.pools

pub decide_at-held-requires-clause-outlook : goal.decide_at-held-requires-clause-outlook
decide_at-held-requires-clause-outlook g c =
    let k = c.args.finder.now.case.now in
    let kept = c.loop-low.invariant in
    let positive : 1 ≤ c.next-u.result = le_trans c.requires.from.0 (le_trans kept.from c.next-u.ensures.low) in
    let most : c.next-u.result ≤ k.w = omega (arith, c.next-u.ensures.high, kept.most) in
    kept.sound c.next-u.result (positive, most)

pub loop-low-preserved-then-is_some : goal.loop-low-preserved-then-is_some
loop-low-preserved-then-is_some g c =
    let s = g.S.Sought.certificates c.args.self.now.sought in
    let k = c.args.finder.now.case.now in
    let spans = spans_of c.args.finder.now.sides.now in
    let was = c.decide_at-held.ensures in
    let new = c.decide_at-held.new.pools in
    let kept = c.loop-low.invariant in
    record {
      from = kept.from;
      high = c.next-u.ensures.low;
      most = omega (arith, c.next-u.ensures.high, kept.most);
      collapse = was.collapse ∙ kept.collapse;
      pools = pools_then c.args.pools.now c.loop-low.pools new kept.pools was.pools;
      sound = kept.sound;
      below = kept.below;
      top = some_at s k spans c.precisions_agree.ensures c.next-u.result new c.decide_at-held.result (sym c.is_some.ensures ∙ c.if-is_some.true) was.told;
      held = held_of s (at k c.next-u.result) spans new c.decide_at-held.result was.told;
    }

pub loop-low-preserved : goal.loop-low-preserved
loop-low-preserved g c =
    let s = g.S.Sought.certificates c.args.self.now.sought in
    let k = c.args.finder.now.case.now in
    let spans = spans_of c.args.finder.now.sides.now in
    let u = c.next-u.result in
    let was = c.decide_at-held.ensures in
    let new = c.decide_at-held.new.pools in
    let kept = c.loop-low.invariant in
    let most : u ≤ k.w = omega (arith, c.next-u.ensures.high, kept.most) in
    let none = none_at s k spans u new c.decide_at-held.result (sym c.is_some.ensures ∙ c.if-is_some.false) was.told in
    record {
      from = omega (arith, kept.from, c.next-u.ensures.low);
      high = omega (arith, c.next-u.ensures.high);
      most = kept.most;
      collapse = was.collapse ∙ kept.collapse;
      pools = pools_then c.args.pools.now c.loop-low.pools new kept.pools was.pools;
      sound = kept.sound;
      below = λ t le lt. undecided_below s k spans c.precisions_agree.ensures t u (le_trans c.requires.from.0 le) (omega (arith, lt)) most none;
      top = kept.top;
      held = held_not s (at k c.loop-low.high) spans new c.decide_at-held.result (sym c.is_some.ensures ∙ c.if-is_some.false);
    }
