use Rattle.std.proofs.Common.{sym, ◌∙◌}
use Rattle.corner_lift.specs.Case.{at}
use Rattle.property_tree.proofs.Texts.{below_text, lower_text_is, lower_all_text}
use Rattle.property_tree.proofs.question.Question.write_below.Goals as goal

pub returns-in_err-write_verdict : goal.returns-in_err-write_verdict
returns-in_err-write_verdict g c =
    let q = c.args.self.now in
    let rate = c.args.rate in
    rw (below_text (at q.case.now c.args.u) q.op c.args.pools.now rate.e rate.k) (c.writes_in_turn.ensures.stopped _ _ _ _ _ _ c.from_residual.ensures.0 (rw c.is_upper.ensures at c.in_err-write_verdict.ensures))

pub returns-then-is_upper : goal.returns-then-is_upper
returns-then-is_upper g c =
    let q = c.args.self.now in
    let rate = c.args.rate in
    let kind = sym c.is_upper-2.ensures ∙ c.if-is_upper.true in
    rw (lower_text_is (at q.case.now c.args.u) q.op c.args.pools.now rate.e rate.k kind) (c.writes_in_turn.ensures.both _ _ _ _ _ _ (rw (c.is_upper.ensures, kind) at c.in_ok-write_verdict.ensures) c.write_lower.ensures)

pub returns-else-is_upper : goal.returns-else-is_upper
returns-else-is_upper g c =
    let q = c.args.self.now in
    let rate = c.args.rate in
    let kind = sym c.is_upper-2.ensures ∙ c.if-is_upper.false in
    rw (lower_all_text (at q.case.now c.args.u) q.op c.args.pools.now rate.e rate.k kind) (c.writes_in_turn.ensures.both _ _ _ _ _ _ (rw (c.is_upper.ensures, kind) at c.in_ok-write_verdict.ensures) c.write_lower_all.ensures)
