use Rattle.std.proofs.Common.{◌≡◌, ◌≤◌, ◌+◌, ◌-◌}
use Rattle.drn_lexer.specs.Spans.{IsOn}
use Rattle.drn_expr.specs.Parsing.{left}
use Rattle.drn_expr.specs.Grammar.{most_symbols}
use Rattle.drn_expr.proofs.value.is_long.Given as goal

abbrev pub invariant-loop-symbol : goal.invariant-loop-symbol
invariant-loop-symbol l = IsOn l.at l.line × (l.seen ≤ most_symbols) × (l.seen + left l.text l.line l.at ≡ left l.text l.line l.from)

abbrev pub decreases-loop-symbol : goal.decreases-loop-symbol
decreases-loop-symbol l = l.line.to - l.at
