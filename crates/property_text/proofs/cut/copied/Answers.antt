use Rattle.std.proofs.Common.{rules, ◌≡◌, ◌<◌, length, [], ◌∷◌, ◌++◌, get_or, Contains, subst, ap, sym, ◌∙◌, if◌then◌else◌}
use Rattle.std.proofs.lemmas.Option.{get_or_from_slice_get}
use Rattle.property_text.proofs.Names.{not_before, one_name_more}
use Rattle.property_text.proofs.cut.copied.Goals as goal

pub loop-i-preserved : goal.loop-i-preserved
loop-i-preserved c =
    let names = c.args.names.now in
    let name = c.get.result.now in
    let lt : c.loop-i.i < length names = search rules in
    let at : name ≡ get_or names c.loop-i.i name = sym (get_or_from_slice_get names c.loop-i.i name name c.get.ensures) in
    let new = c.in_ok-push.ensures.added.1 (λ found. not_before names c.loop-i.i name c.len-i-end.ensures.names.distinct lt at (subst (λ l. Contains l name) c.loop-i.invariant found)) in
    c.in_ok-push.ensures.after ∙ ap (λ b. if b then c.loop-i.copy ++ name ∷ [] else c.loop-i.copy) new ∙ ap (λ l. l ++ name ∷ []) c.loop-i.invariant ∙ one_name_more names c.loop-i.i name lt at
