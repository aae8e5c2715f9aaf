use Rattle.std.proofs.Common.{pos, codes, sym, ◌∙◌}
use Rattle.cert_text.proofs.FirstNumbers.{three_numbers}
use Rattle.cert_text.proofs.head_lines.short_numbers.Goals as goal

pub returns-then-is_empty : goal.returns-then-is_empty
returns-then-is_empty c = three_numbers (codes "row") c.args.words.now c.in-Ok.rest c.in_ok-state.rest c.in_ok-choice.rest c.in_ok-count.rest (pos c.in_ok-state.state) (pos c.in_ok-choice.choice) (pos c.in_ok-count.count) c.in-Ok.ensures c.in_ok-state.ensures c.in_ok-choice.ensures c.in_ok-count.ensures (sym c.is_empty.ensures ∙ c.if-is_empty.true)
