use Rattle.std.proofs.Common.{◌≡◌, ◌∙◌, Bool, drop, cond, sym, ap}
use Rattle.std.proofs.lemmas.List.{take_rest}
use Rattle.cert_text.specs.Migrated.{lines_of, precision_in}
use Rattle.cert_text.proofs.migrate.precision_of.Goals as goal

pub returns-then-starts_with : goal.returns-then-starts_with
returns-then-starts_with c =
    let line = c.cut_line.result.0.now in
    let rest = lines_of c.cut_line.result.1.now in
    let found : precision_in (lines_of c.loop-rest.rest.now) ≡ drop 10 line = ap precision_in c.cut_line.ensures.lines ∙ ap (λ (b : Bool). cond b (drop 10 line) (precision_in rest)) (sym c.starts_with.ensures.value ∙ c.if-starts_with.true) in
    take_rest line 10 ∙ sym found ∙ c.loop-rest.invariant
