use Rattle.std.proofs.Common.{◌≡◌, ◌++◌, drop, Ok, None}
use Rattle.line_text.specs.Reading.{◌>>=◌}
use Rattle.cert_text.specs.Lines.{goals_in}
use Rattle.cert_text.proofs.head_lines.goals_in.Given as goal

abbrev pub invariant-loop-number : goal.invariant-loop-number
invariant-loop-number l = goals_in l.states None l.numbers ≡ (goals_in l.states l.before (drop l.number-index l.numbers) >>= λ ss. Ok (l.goals.items ++ ss))
