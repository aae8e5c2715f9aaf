use Rattle.std.proofs.Common.{◌≡◌, length}
use Rattle.cert_text.proofs.Lines.{one-item, two-items}
use Rattle.cert_text.proofs.recent_terms.FewTerms.of.Goals as goal

pub returns-in-1 : goal.returns-in-1
returns-in-1 c =
    let one : length c.args.poly.now ≡ 1 = cc in
    one-item c.args.poly.now c.term.result one c.term.ensures

pub returns-in-2 : goal.returns-in-2
returns-in-2 c =
    let two : length c.args.poly.now ≡ 2 = cc in
    two-items c.args.poly.now c.term-in-2.result c.term-in-2-2.result two c.term-in-2.ensures c.term-in-2-2.ensures
