use Rattle.cert_text.specs.Cut.{IsBehind}
use Rattle.cert_text.proofs.node_text.behind_lines.Given as goal

abbrev pub invariant-loop : goal.invariant-loop
invariant-loop l = IsBehind l.counter l.text l.rest
