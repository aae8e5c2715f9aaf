use Rattle.std.proofs.Common.{suc, ◌<◌, ◌≤◌, get_or, All, subst, ◌∙◌, arith}
use Rattle.lift_model.specs.Links.{states_before}
use Rattle.corner_lift.specs.Certificate.{mark}
use Rattle.lift_dual.specs.Ranking.{IsLookedOfAll, IsCompleteOfAll, IsGatheringOfAll}
use Rattle.lift_dual.proofs.Choosing.{one_more}
use Rattle.lift_dual.proofs.Ranking.{small_stage, stage_done, gathering_begins, still_looked}
use Rattle.lift_dual.proofs.ranks.NextStage.add_all.Goals as goal

pub loop-i-init : goal.loop-i-init
loop-i-init g c =
    let begun = c.requires.1 in
    let k = c.args.self.now.rows.now.case in
    let r = c.args.self.now.rank in
    let some : c.args.from < g.start.to = omega (arith, begun.some, begun.same_end) in
    let small = small_stage k g.start.spans g.start.ranks g.start.queue r c.args.from g.start.to c.w.ensures.case some begun.complete in
    let first = gathering_begins c.stages_of_all.ensures.next k c.args.self.now.rows.now.links g.start r c.args.from c.w.ensures.links begun.complete small in
    record {
      gathering = subst (λ n. IsGatheringOfAll k g.start r n c.args.ranks.now c.args.queue.now) begun.same_end
          (subst (λ q. IsGatheringOfAll k g.start r g.start.to c.args.ranks.now q) begun.same_queue
          (subst (λ rs. IsGatheringOfAll k g.start r g.start.to rs g.start.queue) begun.same_ranks first));
      looked = λ j from lt. absurd (omega (arith, from, lt));
    }

pub loop-i-preserved : goal.loop-i-preserved
loop-i-preserved g c =
    let before = c.loop-i.invariant in
    let made = c.try_before-found.ensures in
    let inside : c.loop-i.i < g.start.to = omega (arith, c.loop-i-test.true, c.requires.1.same_end) in
    let same = c.mark_at-t.ensures ∙ before.gathering.kept c.loop-i.i inside in
    record {
      gathering = made.gathering;
      looked = λ j from lt. one_more
          (λ j. c.args.from ≤ j → All (IsLookedOfAll c.args.self.now.rows.now.case g.start c.args.self.now.rank c.try_before-found.new.ranks) (states_before c.args.self.now.rows.now.links (mark g.start.queue j)))
          c.loop-i.i
          (λ j l from n d at. still_looked c.args.self.now.rows.now.case g.start c.args.self.now.rank c.loop-i.ranks c.try_before-found.new.ranks (get_or (states_before c.args.self.now.rows.now.links (mark g.start.queue j)) n d) made.kept (before.looked j from l n d at))
          (λ from. subst (λ t. All (IsLookedOfAll c.args.self.now.rows.now.case g.start c.args.self.now.rank c.try_before-found.new.ranks) (states_before c.args.self.now.rows.now.links t)) same made.looked)
          j lt from;
    }

pub returns : goal.returns
returns g c =
    let ends = c.loop-i.invariant in
    let begun = c.requires.1 in
    let k = c.args.self.now.rows.now.case in
    let some : c.args.from < g.start.to = omega (arith, begun.some, begun.same_end) in
    let small = small_stage k g.start.spans g.start.ranks g.start.queue c.args.self.now.rank c.args.from g.start.to c.w.ensures.case some begun.complete in
    let done = stage_done c.stages_of_all.ensures.next k c.args.self.now.rows.now.links g.start c.args.self.now.rank c.args.from c.w.ensures.links begun.complete small c.loop-i.found c.loop-i.ranks c.loop-i.queue ends.gathering (λ j from lt. ends.looked j from (omega (arith, lt, c.loop-i-test.false, begun.same_end))) some in
    subst (λ n. IsCompleteOfAll k g.start.spans c.loop-i.ranks c.loop-i.queue (suc c.args.self.now.rank) n c.loop-i.found) begun.same_end done
