use Rattle.std.proofs.Common.{rules, ◌<◌, length, map, ap, ◌∙◌}
use Rattle.property_text.specs.Restricted.{is_kept}
use Rattle.property_text.proofs.Cutting.{one_state_more}
use Rattle.property_text.proofs.cut.states_after.Goals as goal

pub loop-s-preserved : goal.loop-s-preserved
loop-s-preserved c =
    let m = c.args.model.now in
    let lt : c.loop-s.s < length m.states = search rules in
    ap (map (λ v. v.items)) c.in_ok-push.ensures.items ∙ one_state_more c.args.poly.now (is_kept m c.args.safe.now) (λ v. v.items) c.loop-s.states.items c.in_ok-rows_after.field-0 m.states c.loop-s.s lt c.loop-s.invariant c.in_ok-rows_after.ensures
