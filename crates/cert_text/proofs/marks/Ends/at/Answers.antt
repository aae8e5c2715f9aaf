use Rattle.std.proofs.Common.{◌<◌, length, get_or, sym, ap, ◌∙◌, arith}
use Rattle.cert_text.specs.Left.{ends_of}
use Rattle.cert_text.proofs.Ends.{ends_count, end_limit}
use Rattle.cert_text.proofs.marks.Ends.at.Goals as goal

pub returns-in-Some : goal.returns-in-Some
returns-in-Some c =
    let states = c.self.inside.model.now.states in
    let all = ends_count c.self.inside.limit states in
    let seen = ap length c.self.view_is in
    let below : c.args.i < length states = omega (arith, c.if-i-count.false, c.count.ensures.value, seen, all) in
    sym (end_limit c.in-Some.limit states c.args.i below) ∙ ap (λ l. get_or (ends_of l states) c.args.i 0) (sym c.in-Some.is) ∙ ap (λ xs. get_or xs c.args.i 0) c.self.view_is
