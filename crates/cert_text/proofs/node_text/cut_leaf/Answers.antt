use Rattle.std.proofs.Common.{◌+◌, true, false, arith, refl, sym}
use Rattle.cert_text.proofs.NodeTexts.{IsLeafText, few_ahead, cut_accept, cut_reject}
use Rattle.cert_text.proofs.node_text.cut_leaf.Goals as goal

pub overflow_add-ahead-else-starts_with : goal.overflow_add-ahead-else-starts_with
overflow_add-ahead-else-starts_with c =
    let few = few_ahead c.args.text.now in
    omega (arith, few, c.lines_ahead-ahead.ensures)

pub returns-then-starts_with : goal.returns-then-starts_with
returns-then-starts_with c = λ h node rest is fit e.
    let leaf : IsLeafText c.args.text.now c.lines_ahead-ahead.result c.behind_lines.result.now true = record { split = c.requires.split; unknown = c.requires.unknown; ahead_is = c.lines_ahead-ahead.ensures; behind = c.behind_lines.ensures; accepts_is = sym c.if-starts_with.ensures.value } in
    cut_accept h node rest c.args.text.now c.lines_ahead-ahead.result (c.lines_ahead-ahead.result + 1) c.behind_lines.result.now c.cut_lines.result.0.now c.cut_lines.result.1.now is fit e leaf refl c.cut_lines.ensures.lines c.cut_lines.ensures.behind

pub returns-else-starts_with : goal.returns-else-starts_with
returns-else-starts_with c = λ h node rest is fit e.
    let leaf : IsLeafText c.args.text.now c.lines_ahead-ahead.result c.behind_lines.result.now false = record { split = c.requires.split; unknown = c.requires.unknown; ahead_is = c.lines_ahead-ahead.ensures; behind = c.behind_lines.ensures; accepts_is = sym c.if-starts_with.ensures.value } in
    cut_reject h node rest c.args.text.now c.lines_ahead-ahead.result (c.lines_ahead-ahead.result + 4) c.behind_lines.result.now c.cut_lines-else-starts_with.result.0.now c.cut_lines-else-starts_with.result.1.now is fit e leaf refl c.cut_lines-else-starts_with.ensures.lines c.cut_lines-else-starts_with.ensures.behind
