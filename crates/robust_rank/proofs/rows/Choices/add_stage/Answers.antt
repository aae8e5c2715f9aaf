use Rattle.std.proofs.Common.{suc, ◌<◌, ◌≤◌, get_or, All, subst, ◌∙◌, arith}
use Rattle.lift_model.specs.Links.{states_before}
use Rattle.corner_lift.specs.Certificate.{mark}
use Rattle.robust_rank.specs.Staging.{IsLooked, IsComplete}
use Rattle.robust_rank.proofs.Means.{one_more}
use Rattle.robust_rank.proofs.Gathering.{still_looked}
use Rattle.robust_rank.proofs.Completing.{small_stage, stage_done}
use Rattle.robust_rank.proofs.rows.Choices.add_stage.Goals as goal

pub loop-i-preserved : goal.loop-i-preserved
loop-i-preserved g c =
    let before = c.loop-i.invariant in
    let made = c.try_before-found.ensures in
    let inside : c.loop-i.i < g.start.to = omega (arith, c.loop-i-test.true, c.requires.1.0.1.1) in
    let same = c.mark_of-t.ensures ∙ before.gathering.kept c.loop-i.i inside in
    record {
      gathering = made.gathering;
      looked = λ j from lt. one_more
          (λ j. c.args.stage.from ≤ j → All
          (IsLooked c.args.self.now.rows.case.now c.args.self.now.allowed.now g.start c.args.stage.rank c.try_before-found.new.ranks)
          (states_before c.args.self.now.rows.links.now (mark g.start.queue j)))
          c.loop-i.i
          (λ j l from n d at. still_looked c.args.self.now.rows.case.now c.args.self.now.allowed.now g.start c.args.stage.rank
          c.loop-i.ranks c.try_before-found.new.ranks (get_or (states_before c.args.self.now.rows.links.now (mark g.start.queue j)) n d)
          made.kept (before.looked j from l n d at))
          (λ from. subst (λ t. All (IsLooked c.args.self.now.rows.case.now c.args.self.now.allowed.now g.start c.args.stage.rank
          c.try_before-found.new.ranks) (states_before c.args.self.now.rows.links.now t)) same made.looked)
          j lt from;
    }

pub returns : goal.returns
returns g c =
    let ends = c.loop-i.invariant in
    let some : c.args.stage.from < g.start.to = omega (arith, c.requires.1.1.1, c.requires.1.0.1.1) in
    let small = small_stage c.args.self.now.rows.case.now g.start.spans c.args.self.now.allowed.now g.start.ranks g.start.queue
    c.args.stage.rank c.args.stage.from g.start.to c.w.ensures.case some c.requires.1.1.0 in
    let done = stage_done c.args.self.now.rows.case.now c.args.self.now.rows.links.now c.args.self.now.allowed.now g.start c.args.stage.rank
    c.args.stage.from c.requires.0.links c.requires.1.1.0 small c.loop-i.found c.loop-i.ranks c.loop-i.queue ends.gathering
    (λ j from lt. ends.looked j from (omega (arith, lt, c.loop-i-test.false, c.requires.1.0.1.1))) some in
    record {
      complete = subst (λ n. IsComplete c.args.self.now.rows.case.now g.start.spans c.args.self.now.allowed.now c.loop-i.ranks
          c.loop-i.queue (suc c.args.stage.rank) n c.loop-i.found) c.requires.1.0.1.1 done;
    }
