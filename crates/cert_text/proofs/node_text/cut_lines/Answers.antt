use Rattle.std.proofs.Common.{◌≡◌, ◌+◌, ◌-◌, length, arith}
use Rattle.cert_text.proofs.NodeTexts.{behind_shorter, front_is}
use Rattle.cert_text.proofs.node_text.cut_lines.Goals as goal

pub slice_bounds-result-count : goal.slice_bounds-result-count
slice_bounds-result-count c = behind_shorter c.args.count c.args.text.now c.behind_lines-behind.result.now c.behind_lines-behind.ensures

pub returns-clause-lines : goal.returns-clause-lines
returns-clause-lines c =
    let short = behind_shorter c.args.count c.args.text.now c.behind_lines-behind.result.now c.behind_lines-behind.ensures in
    let len = length c.args.text.now - length c.behind_lines-behind.result.now in
    let sum : len + length c.behind_lines-behind.result.now ≡ length c.args.text.now = omega (arith, short) in
    front_is c.args.count c.args.text.now c.behind_lines-behind.result.now len c.behind_lines-behind.ensures sum
