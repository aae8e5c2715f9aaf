use Rattle.std.proofs.Common.{rules, to_z-of_z, SFits, w64, ◌∙◌, ◌++◌, ◌∷◌, [], false, pos, Some, sym, ap}
use Rattle.cert_text.specs.Left.{values_left}
use Rattle.cert_text.proofs.LineLoops.{value_kept, value_lost}
use Rattle.cert_text.proofs.values.values.Goals as goal

pub loop-rest-preserved-in_ok-push-in-Some-value : goal.loop-rest-preserved-in_ok-push-in-Some-value
loop-rest-preserved-in_ok-push-in-Some-value c =
    let narrow : SFits w64 c.in-Some-value.n = search rules in
    ap (λ xs. values_left c.args.count c.args.u xs c.loop-rest.fit c.in-Some.behind) (c.in_ok-push-in-Some-value.ensures.items ∙ ap (λ m. c.loop-rest.values.items ++ m ∷ []) (to_z-of_z narrow))
    ∙ sym (value_kept c.args.count c.args.u c.loop-rest.values.items c.loop-rest.fit c.loop-rest.rest c.in-Some.behind _ (sym c.in-Some.ensures ∙ ap (λ v. Some (v, c.in-Some.behind)) c.in-Some-value.is)) ∙ c.loop-rest.invariant

pub loop-rest-preserved : goal.loop-rest-preserved
loop-rest-preserved c =
    ap (λ xs. values_left c.args.count c.args.u xs false c.in-Some.behind) c.in_ok-push-in-None.ensures.items
    ∙ sym (value_lost c.args.count c.args.u c.loop-rest.values.items c.loop-rest.fit c.loop-rest.rest c.in-Some.behind (pos 0) (sym c.in-Some.ensures ∙ ap (λ v. Some (v, c.in-Some.behind)) c.in-None.is)) ∙ c.loop-rest.invariant
