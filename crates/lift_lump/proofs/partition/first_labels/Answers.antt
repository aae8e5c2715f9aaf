use Rattle.std.proofs.Common.{◌+◌, cond, sym, ap, ◌∙◌, subst, arith}
use Rattle.lift_lump.proofs.Starting.{AreLabelsOf, labels_none, labels_more, labels_all}
use Rattle.lift_lump.proofs.partition.first_labels.Goals as goal

pub loop-s-init : goal.loop-s-init
loop-s-init c = subst (AreLabelsOf c.args.model.now 0) (sym c.in_ok-labels.ensures.items) (labels_none c.args.model.now)

pub loop-s-preserved : goal.loop-s-preserved
loop-s-preserved c =
    subst (AreLabelsOf c.args.model.now (c.loop-s.s + 1)) (sym c.in_ok-push.ensures.items)
    (labels_more c.args.model.now c.loop-s.s c.loop-s.labels.items c.first_label.result (c.first_label.ensures ∙ ap (λ b. cond b 1 0) c.is_goal.ensures) c.loop-s.invariant)

pub returns : goal.returns
returns c = labels_all c.args.model.now c.loop-s.s c.loop-s.labels.items (let end = c.states-s-end.ensures.value in omega (arith, end, c.loop-s-test.false, c.loop-s.auto.s-end)) c.loop-s.invariant
