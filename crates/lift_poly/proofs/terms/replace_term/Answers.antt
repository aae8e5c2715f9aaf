use Rattle.std.proofs.Common.{◌≢◌, ◌+◌, ◌++◌, ◌∷◌, pos, take, drop, sym, ap, ◌∙◌, add-one, rules}
use Rattle.std.proofs.lemmas.List.{set_split}
use Rattle.lift_poly.proofs.Canonical.{kept-some}
use Rattle.lift_poly.proofs.terms.replace_term.Goals as goal

pub returns-else-term-eq0 : goal.returns-else-term-eq0
returns-else-term-eq0 c =
    let ts = c.args.terms.now.items in
    let some : c.args.term.1 ≢ pos 0 = search rules in
    set_split ts c.args.place c.args.term c.requires
    ∙ ap (λ us. take c.args.place ts ++ us)
    (ap (λ n. c.args.term ∷ drop n ts) (sym (add-one c.args.place)) ∙ sym (kept-some c.args.term (drop (c.args.place + 1) ts) some))
