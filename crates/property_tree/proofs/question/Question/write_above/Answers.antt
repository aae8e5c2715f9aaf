use Rattle.std.proofs.Common.{sym, ◌∙◌}
use Rattle.corner_lift.specs.Case.{at}
use Rattle.property_tree.proofs.Texts.{above_text, upper_text, upper_one_text}
use Rattle.property_tree.proofs.question.Question.write_above.Goals as goal

pub returns-in_err-write_verdict : goal.returns-in_err-write_verdict
returns-in_err-write_verdict g c =
    let q = c.args.self.now in
    rw (above_text (at q.case.now c.args.u) q.op c.args.pools.now) (c.writes_in_turn.ensures.stopped _ _ _ _ _ _ c.from_residual.ensures.0 (rw c.is_upper.ensures at c.in_err-write_verdict.ensures))

pub returns-then-is_upper : goal.returns-then-is_upper
returns-then-is_upper g c =
    let q = c.args.self.now in
    let kind = sym c.is_upper-2.ensures ∙ c.if-is_upper.true in
    rw (upper_text (at q.case.now c.args.u) q.op c.args.pools.now kind) (c.writes_in_turn.ensures.both _ _ _ _ _ _ (rw (c.is_upper.ensures, kind) at c.in_ok-write_verdict.ensures) (rw c.lane.ensures at c.write_numbers.ensures))

pub returns-else-is_upper : goal.returns-else-is_upper
returns-else-is_upper g c =
    let q = c.args.self.now in
    let kind = sym c.is_upper-2.ensures ∙ c.if-is_upper.false in
    rw (upper_one_text (at q.case.now c.args.u) q.op c.args.pools.now kind) (c.writes_in_turn.ensures.both _ _ _ _ _ _ (rw (c.is_upper.ensures, kind) at c.in_ok-write_verdict.ensures) (rw (c.lane-else-is_upper.ensures, c.lane-else-is_upper-2.ensures) at c.write_upper_one.ensures))
